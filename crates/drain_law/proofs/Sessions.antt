-- What a step gives ends its session.
use Rattle.std.proofs.Common.{◌≡◌, ℕ, ◌+◌, ◌<◌, Bool, true, false, cond, List, [], length, Option, Some, None, refl, arith}
use Rattle.std.specs.FinMap as finmap
use Rattle.bus_frame.specs.Frames.{CanFrame}
use Rattle.pgn_ids.specs.declared.address.Address.{Address}
use Rattle.tp_wire.specs.declared.wire.Wire.{Wire}
use Rattle.port_table.specs.Ports.{Ports}
use Rattle.responder.specs.Room.{prepared}
use Rattle.responder.specs.Steps.{stepped}
use Rattle.responder.specs.declared.received.Received.{Received}
use Rattle.responder.specs.declared.received.Received.TheVariants.{On, Complete, Ended}
use Rattle.bam_session.specs.States as bam
use Rattle.bam_session.specs.Receiving as bam-steps
use Rattle.session_table.specs.Sessions.{state_at}
use Rattle.session_table.specs.declared.key.Key.{Key}
use Rattle.session_table.specs.declared.incoming.Incoming.{Incoming}
use Rattle.session_table.specs.declared.incoming.Incoming.TheVariants.{Broadcast, Connection}
use Rattle.station_sessions.specs.Receiving.{Inbound, Reception, concluded, broadcast_settled, connection_settled, session_stepped, flow_at, received_by, received}

module _ (station : Address) (key : Key) (set : List ℕ) (room : Bool) (m : Inbound) where
  -- a step that tells something leaves the sessions without this one
  abbrev Drops : Reception → Type 0
  Drops r = 0 < length r.events → r.sessions ≡ finmap.remove m key

  concludes : (given refused : Option CanFrame) (message : _) → Drops (concluded station set room (finmap.remove m key) given refused message)
  concludes given refused message = by room
    where
      by : (b : Bool) → Drops (concluded station set b (finmap.remove m key) given refused message)
      by true some = refl
      by false some = refl

  settles : (r : Received) → Drops (connection_settled station key set room m r)
  settles (On s frame) some = absurd (omega (arith, some))
  settles (Complete w) some = concludes _ _ _ some
  settles (Ended frame) some = absurd (omega (arith, some))

  broadcast_settles : (s : bam.Incoming) (r : bam-steps.Received) → Drops (broadcast_settled station key set room m s r)
  broadcast_settles s (bam-steps.Awaits t) some = absurd (omega (arith, some))
  broadcast_settles s (bam-steps.Completes bytes) some = concludes _ _ _ some
  broadcast_settles s bam-steps.Drops some = absurd (omega (arith, some))

pub received_ends : (ports : Ports) (key : Key) (wire : Wire) (room : Bool) (now : ℕ) (m : Inbound) → 0 < length (received ports key wire room now m).events → (received ports key wire room now m).sessions ≡ finmap.remove m key
received_ends ports key wire room now m = by (state_at m key)
  where
    stepped_ends : (v : List ℕ × Incoming) → Drops ports.station key v.0 room m (session_stepped ports.station key v.0 room m (flow_at ports v.0) v.1 wire now)
    stepped_ends (set, Broadcast s) some = broadcast_settles ports.station key set room m s (bam-steps.stepped s wire now) some
    stepped_ends (set, Connection s) some = settles ports.station key set room m (stepped (prepared s wire room (flow_at ports set)) wire room (flow_at ports set) now) some

    by : (o : Option (List ℕ × Incoming)) → 0 < length (received_by o ports key wire room now m).events → (received_by o ports key wire room now m).sessions ≡ finmap.remove m key
    by None some = absurd (omega (arith, some))
    by (Some v) some = stepped_ends v some
