-- Each call leaves every session of a station with a port to give to, and with each packet before the next one there whole.
use Rattle.std.proofs.Common.{◌≡◌, ℕ, ◌==◌, Bool, true, false, cond, List, length, Option, Some, None, refl, subst}
use Rattle.std.specs.Option.{option_flatten}
use Rattle.std.specs.FinMap as finmap
use Rattle.std.specs.FinMap.{get-insert, get-remove, get-empty}
use Rattle.std.proofs.lemmas.Option.{same_Some, none-some}
use Rattle.std.proofs.lemmas.Bool.{eqb-false}
use Rattle.pgn_ids.specs.Pgn.{clean}
use Rattle.pgn_ids.specs.declared.address.Address.{Address}
use Rattle.tp_wire.specs.declared.wire.Wire.{Wire}
use Rattle.seg_cut.specs.Join.{Join}
use Rattle.bam_session.specs.States as bam
use Rattle.bam_session.specs.Receiving as bam-steps
use Rattle.responder.specs.Readers.{unfinished_of}
use Rattle.responder.specs.Steps.{stepped, expired}
use Rattle.responder.specs.Room.{prepared, prepared_to_expire}
use Rattle.responder.specs.declared.flow.Flow.{Flow}
use Rattle.responder.specs.declared.received.Received.{Received}
use Rattle.responder.specs.declared.received.Received.TheVariants.{On, Complete, Ended}
use Rattle.port_table.specs.Ports.{Ports}
use Rattle.port_table.specs.PortSet.{without_number}
use Rattle.session_table.specs.Key.{key_cmp, key_eq}
use Rattle.session_table.specs.declared.key.Key.{Key}
use Rattle.session_table.specs.declared.incoming.Incoming.{Incoming}
use Rattle.session_table.specs.declared.incoming.Incoming.TheVariants as incoming
use Rattle.session_table.specs.Incoming.{pgn_of}
use Rattle.session_table.specs.Sessions.{state_at}
use Rattle.session_table.proofs.Keys.{key_total}
use Rattle.station_sessions.specs.Receiving.{Inbound, Reception, broadcast_settled, connection_settled, session_stepped, session_fired, flow_at, received_by, received, fired_by, fired_at, aborted_at, unbound_by, unbound_at}
use Rattle.record_law.proofs.Tests.{either}
use Rattle.record_law.proofs.readers.Filled.{IsFilled, IsSeven, Goes, GoesBroadcast, connection_step, connection_expired, broadcast_step}

-- a session with the ports that it gives to
abbrev pub State : Type 0
State = List ℕ × Incoming

-- what has come of its message
abbrev pub join_of : Incoming → Join
join_of (incoming.Broadcast s) = s.join
join_of (incoming.Connection s) = (unfinished_of s).join

pub record IsKept (v : State) : Type 0 where
  pub some : length v.0 ≡ 0 → ⊥
  pub filled : IsFilled (join_of v.1)

-- each session of a station
abbrev pub AreKept : Inbound → Type 0
AreKept m = (q : Key) (v : State) → state_at m q ≡ Some v → IsKept v

pub kept_none : AreKept finmap.empty
kept_none q v e = absurd (none-some v (sym_flat q v e))
  where
    sym_flat : (q : Key) (v : State) → state_at {T = List ℕ} finmap.empty q ≡ Some v → None ≡ Some v
    sym_flat q v e = subst (λ (o : Option (Option State)). option_flatten o ≡ Some v) (get-empty {X = Option State} key_cmp q) e

kept_if : (b : Bool) (x y : Reception) → (b ≡ true → AreKept x.sessions) → (b ≡ false → AreKept y.sessions) → AreKept (cond b x y).sessions
kept_if true x y h k = h refl
kept_if false x y h k = k refl

module _ (m : Inbound) (k : Key) (each : AreKept m) where
  pub kept_put : (v : State) → IsKept v → AreKept (finmap.insert m k (Some v))
  kept_put v h q w e = by (key_eq q k) (subst (λ (o : Option (Option State)). option_flatten o ≡ Some w) (get-insert key_total m k (Some v) q) e)
    where
      by : (t : Bool) → option_flatten (cond t (Some (Some v)) (finmap.get m q)) ≡ Some w → IsKept w
      by true e = subst IsKept (same_Some v w e) h
      by false e = each q w e

  pub kept_dropped : AreKept (finmap.remove m k)
  kept_dropped q w e = by (key_eq q k) (subst (λ (o : Option (Option State)). option_flatten o ≡ Some w) (get-remove key_total m k q) e)
    where
      by : (t : Bool) → option_flatten (cond t None (finmap.get m q)) ≡ Some w → IsKept w
      by true e = absurd (none-some w e)
      by false e = each q w e

  -- Steps of one session

  module _ (station : Address) (set : List ℕ) (some : length set ≡ 0 → ⊥) (room : Bool) (size : ℕ) where
    kept_on : (s : Incoming) → IsFilled (join_of s) → AreKept (finmap.insert m k (Some (set, s)))
    kept_on s h = kept_put (set, s) (record { some = some; filled = h })

    kept_connection : (r : Received) → Goes size r → AreKept (connection_settled station k set room m r).sessions
    kept_connection (On s frame) h = kept_on (incoming.Connection s) h
    kept_connection (Complete w) h = either (λ (r : Reception). AreKept r.sessions) room _ _ kept_dropped kept_dropped
    kept_connection (Ended frame) h = kept_dropped

    kept_broadcast : (s : bam.Incoming) (r : bam-steps.Received) → GoesBroadcast size r → AreKept (broadcast_settled station k set room m s r).sessions
    kept_broadcast s (bam-steps.Awaits t) h = kept_on (incoming.Broadcast t) h
    kept_broadcast s (bam-steps.Completes bytes) h = either (λ (r : Reception). AreKept r.sessions) room _ _ kept_dropped kept_dropped
    kept_broadcast s bam-steps.Drops h = kept_dropped

  kept_progress : (station : Address) (v : State) → IsKept v → (wire : Wire) (room : Bool) (flow : Flow) (now : ℕ) → IsSeven wire → AreKept (session_stepped station k v.0 room m flow v.1 wire now).sessions
  kept_progress station v h wire room flow now seven = by v.1 h.filled
    where
      by : (s : Incoming) → IsFilled (join_of s) → AreKept (session_stepped station k v.0 room m flow s wire now).sessions
      by (incoming.Broadcast s) f = kept_broadcast station v.0 h.some room s.join.size s (bam-steps.stepped s wire now) (broadcast_step s wire now seven f)
      by (incoming.Connection s) f = kept_connection station v.0 h.some room (unfinished_of s).join.size (stepped (prepared s wire room flow) wire room flow now) (connection_step s wire room flow now seven f)

  pub kept_received : (ports : Ports) (wire : Wire) (room : Bool) (now : ℕ) → IsSeven wire → AreKept (received ports k wire room now m).sessions
  kept_received ports wire room now seven = by (state_at m k) refl
    where
      by : (o : Option State) → state_at m k ≡ o → AreKept (received_by o ports k wire room now m).sessions
      by None e = each
      by (Some v) e = kept_progress ports.station v (each k v e) wire room (flow_at ports v.0) now seven

  kept_expired : (station : Address) (v : State) → IsKept v → (flow : Flow) (now : ℕ) → AreKept (session_fired station k v.0 m flow v.1 now).sessions
  kept_expired station v h flow now = by v.1 h.filled
    where
      by : (s : Incoming) → IsFilled (join_of s) → AreKept (session_fired station k v.0 m flow s now).sessions
      by (incoming.Broadcast s) f = kept_dropped
      by (incoming.Connection s) f = kept_connection station v.0 h.some true (unfinished_of s).join.size (expired (prepared_to_expire s flow) flow now) (connection_expired s flow now f)

  pub kept_fired : (ports : Ports) (now : ℕ) → AreKept (fired_at ports k now m).sessions
  kept_fired ports now = by (state_at m k) refl
    where
      by : (o : Option State) → state_at m k ≡ o → AreKept (fired_by o ports k now m).sessions
      by None e = each
      by (Some v) e = kept_expired ports.station v (each k v e) (flow_at ports v.0) now

  pub kept_aborted : (pgn : ℕ) → AreKept (aborted_at k pgn m)
  kept_aborted pgn = by (state_at m k)
    where
      by : (o : Option State) → AreKept (elim o [ None ↦ m | Some v ↦ cond (clean (pgn_of v.1) == clean pgn) (finmap.remove m k) m ])
      by None = each
      by (Some v) = either AreKept (clean (pgn_of v.1) == clean pgn) (finmap.remove m k) m kept_dropped each

  -- a port is taken out of its set
  pub kept_unbound : (number : ℕ) → AreKept (unbound_at k number m).sessions
  kept_unbound number = by (state_at m k) refl
    where
      by : (o : Option State) → state_at m k ≡ o → AreKept (unbound_by o k number m).sessions
      by None e = each
      by (Some v) e = kept_if (length (without_number v.0 number) == 0) _ _ (λ _. kept_dropped)
          (λ t. kept_put (without_number v.0 number, v.1) (record { some = eqb-false (length (without_number v.0 number)) 0 t; filled = (each k v e).filled }))
