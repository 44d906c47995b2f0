-- What an incoming session does tells no outcome.
use Rattle.std.proofs.Common.{◌≡◌, ℕ, Bool, true, false, cond, List, [], Option, Some, None, refl}
use Rattle.bus_frame.specs.Frames.{CanFrame}
use Rattle.pgn_ids.specs.Pgn.{clean}
use Rattle.pgn_ids.specs.Address.{global_address}
use Rattle.pgn_ids.specs.declared.address.Address.{Address}
use Rattle.tp_wire.specs.declared.wire.Wire.{Wire}
use Rattle.responder.specs.Steps.{stepped, expired}
use Rattle.responder.specs.Room.{prepared, prepared_to_expire}
use Rattle.responder.specs.declared.flow.Flow.{Flow}
use Rattle.responder.specs.declared.received.Received.{Received}
use Rattle.responder.specs.declared.received.Received.TheVariants.{On, Complete, Ended}
use Rattle.bam_session.specs.States as bam
use Rattle.bam_session.specs.Receiving as bam-steps
use Rattle.port_table.specs.Ports.{Ports}
use Rattle.session_table.specs.declared.key.Key.{Key}
use Rattle.session_table.specs.declared.incoming.Incoming.{Incoming}
use Rattle.session_table.specs.declared.incoming.Incoming.TheVariants as incoming
use Rattle.station_sessions.specs.Receiving.{Inbound, Reception, broadcast_settled, connection_settled, session_stepped, session_fired, flow_at, received_by, fired_by}
use Rattle.record_law.proofs.outcomes.Events.{named_in, gives, named_given}

module _ (s d : Address) where
  module _ (station : Address) (key : Key) (ports : List ℕ) (m : Inbound) where
    abbrev Untold : Reception → Type 0
    Untold r = named_in s d r.events ≡ []

    whole_untold : (room : Bool) (sessions : Inbound) (given refused : Option CanFrame) (from to : Address) (pgn : ℕ) (bytes : List ℕ)
        → Untold (cond room (record { sessions = sessions; frame = given; events = gives station ports from to pgn bytes }) (record { sessions = sessions; frame = refused; events = [] }))
    whole_untold true sessions given refused from to pgn bytes = named_given s d station ports from to pgn bytes
    whole_untold false sessions given refused from to pgn bytes = refl

    untold_connection : (room : Bool) (r : Received) → Untold (connection_settled station key ports room m r)
    untold_connection room (On state frame) = refl
    untold_connection room (Complete w) = whole_untold room _ _ _ (record { 0 = w.peer.from }) (record { 0 = w.peer.to }) (clean w.peer.pgn) w.bytes
    untold_connection room (Ended frame) = refl

    untold_broadcast : (room : Bool) (b : bam.Incoming) (r : bam-steps.Received) → Untold (broadcast_settled station key ports room m b r)
    untold_broadcast room b (bam-steps.Awaits t) = refl
    untold_broadcast room b (bam-steps.Completes bytes) = whole_untold room _ None None (record { 0 = b.from }) (record { 0 = global_address }) (clean b.pgn) bytes
    untold_broadcast room b bam-steps.Drops = refl

    untold_step : (v : Incoming) (wire : Wire) (room : Bool) (flow : Flow) (now : ℕ) → Untold (session_stepped station key ports room m flow v wire now)
    untold_step (incoming.Broadcast b) wire room flow now = untold_broadcast room b (bam-steps.stepped b wire now)
    untold_step (incoming.Connection t) wire room flow now = untold_connection room (stepped (prepared t wire room flow) wire room flow now)

    untold_fire : (v : Incoming) (flow : Flow) (now : ℕ) → Untold (session_fired station key ports m flow v now)
    untold_fire (incoming.Broadcast b) flow now = refl
    untold_fire (incoming.Connection t) flow now = untold_connection true (expired (prepared_to_expire t flow) flow now)

  pub received_untold : (o : Option (List ℕ × Incoming)) (ports : Ports) (key : Key) (wire : Wire) (room : Bool) (now : ℕ) (m : Inbound) → named_in s d (received_by o ports key wire room now m).events ≡ []
  received_untold None ports key wire room now m = refl
  received_untold (Some v) ports key wire room now m = untold_step ports.station key v.0 m v.1 wire room (flow_at ports v.0) now

  pub fired_untold : (o : Option (List ℕ × Incoming)) (ports : Ports) (key : Key) (now : ℕ) (m : Inbound) → named_in s d (fired_by o ports key now m).events ≡ []
  fired_untold None ports key now m = refl
  fired_untold (Some v) ports key now m = untold_fire ports.station key v.0 m v.1 (flow_at ports v.0) now
