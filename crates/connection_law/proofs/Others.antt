-- What a step of the session of one key makes of the others: nothing.
use Rattle.std.proofs.Common.{◌≡◌, ◌⊎◌, inl, inr, ℕ, ◌<◌, ◌==◌, Bool, true, false, cond, List, length, Option, Some, None, refl, ap, ◌∙◌, arith}
use Rattle.std.specs.FinMap as finmap
use Rattle.std.proofs.lemmas.Bool.{eqb-false}
use Rattle.pgn_ids.specs.Pgn.{clean}
use Rattle.pgn_ids.specs.declared.address.Address.{Address}
use Rattle.tp_wire.specs.declared.wire.Wire.{Wire}
use Rattle.responder.specs.Steps.{stepped, expired}
use Rattle.responder.specs.Room.{prepared, prepared_to_expire}
use Rattle.responder.specs.declared.flow.Flow.{Flow}
use Rattle.responder.specs.declared.received.Received.{Received}
use Rattle.responder.specs.declared.received.Received.TheVariants.{On, Complete, Ended}
use Rattle.bam_session.specs.States as bam
use Rattle.bam_session.specs.Receiving as bam-steps
use Rattle.port_table.specs.Ports.{Ports}
use Rattle.port_table.specs.PortSet.{without_number}
use Rattle.session_table.specs.declared.key.Key.{Key}
use Rattle.session_table.specs.declared.incoming.Incoming.{Incoming}
use Rattle.session_table.specs.declared.incoming.Incoming.TheVariants as incoming
use Rattle.session_table.specs.Incoming.{pgn_of}
use Rattle.session_table.specs.Sessions.{state_at}
use Rattle.station_sessions.specs.Steps.{closing_frame}
use Rattle.station_sessions.specs.Receiving.{Inbound, Reception, broadcast_settled, connection_settled, session_stepped, session_fired, goes_on_at, ended_at, flow_at, received_by, received, fired_by, fired_at, aborted_at, unbound_by, unbound_at}
use Rattle.record_law.proofs.Maps.{key_cases, state_put, state_dropped, state_put_else, state_dropped_else}
use Rattle.record_law.proofs.Tests.{on_test, either}
use Rattle.connection_law.proofs.Marks.{HasOthers, Lessens, has_without}
use Rattle.connection_law.proofs.Roles.{Recedes}

pub positive : (n : ℕ) → (n ≡ 0 → ⊥) → 0 < n
positive n q = omega arith

module _ (key q : Key) (n : q ≡ key → ⊥) (m : Inbound) where
  abbrev Same : Reception → Type 0
  Same r = state_at r.sessions q ≡ state_at m q

  module _ (set : List ℕ) (station : Address) (room : Bool) where
    dropped_if : (b : Bool) (x y : Reception) → x.sessions ≡ finmap.remove m key → y.sessions ≡ finmap.remove m key → Same (cond b x y)
    dropped_if true x y e f = ap (λ z. state_at z q) e ∙ state_dropped_else m key q n
    dropped_if false x y e f = ap (λ z. state_at z q) f ∙ state_dropped_else m key q n

    connection_same : (r : Received) → Same (connection_settled station key set room m r)
    connection_same (On s frame) = state_put_else m key (set, incoming.Connection s) q n
    connection_same (Complete w) = dropped_if room _ _ refl refl
    connection_same (Ended frame) = state_dropped_else m key q n

    broadcast_same : (s : bam.Incoming) (r : bam-steps.Received) → Same (broadcast_settled station key set room m s r)
    broadcast_same s (bam-steps.Awaits t) = state_put_else m key (set, incoming.Broadcast t) q n
    broadcast_same s (bam-steps.Completes bytes) = dropped_if room _ _ refl refl
    broadcast_same s bam-steps.Drops = state_dropped_else m key q n

    step_same : (i : Incoming) (wire : Wire) (flow : Flow) (now : ℕ) → Same (session_stepped station key set room m flow i wire now)
    step_same (incoming.Broadcast s) wire flow now = broadcast_same s (bam-steps.stepped s wire now)
    step_same (incoming.Connection s) wire flow now = connection_same (stepped (prepared s wire room flow) wire room flow now)

  fire_same : (set : List ℕ) (station : Address) (i : Incoming) (flow : Flow) (now : ℕ) → Same (session_fired station key set m flow i now)
  fire_same set station (incoming.Broadcast s) flow now = state_dropped_else m key q n
  fire_same set station (incoming.Connection s) flow now = connection_same set station true (expired (prepared_to_expire s flow) flow now)

  pub received_same : (ports : Ports) (wire : Wire) (room : Bool) (now : ℕ) → Same (received ports key wire room now m)
  received_same ports wire room now = by (state_at m key)
    where
      by : (o : Option (List ℕ × Incoming)) → Same (received_by o ports key wire room now m)
      by None = refl
      by (Some v) = step_same v.0 ports.station room v.1 wire (flow_at ports v.0) now

  pub fired_same : (ports : Ports) (now : ℕ) → Same (fired_at ports key now m)
  fired_same ports now = by (state_at m key)
    where
      by : (o : Option (List ℕ × Incoming)) → Same (fired_by o ports key now m)
      by None = refl
      by (Some v) = fire_same v.0 ports.station v.1 (flow_at ports v.0) now

module _ (m : Inbound) (key q : Key) where
  -- an abort ends the session, or doesn't
  pub aborted_recedes : (pgn : ℕ) → Recedes (state_at (aborted_at key pgn m) q) (state_at m q)
  aborted_recedes pgn = by (state_at m key)
    where
      gone : (q ≡ key) ⊎ (q ≡ key → ⊥) → Recedes (state_at (finmap.remove m key) q) (state_at m q)
      gone (inl e) = inl (ap (λ x. state_at (finmap.remove m key) x) e ∙ state_dropped m key)
      gone (inr n) = inr (state_dropped_else m key q n)

      by : (o : Option (List ℕ × Incoming)) → Recedes (state_at (elim o [ None ↦ m | Some v ↦ cond (clean (pgn_of v.1) == clean pgn) (finmap.remove m key) m ]) q) (state_at m q)
      by None = inr refl
      by (Some v) = either (λ (x : Inbound). Recedes (state_at x q) (state_at m q)) (clean (pgn_of v.1) == clean pgn) (finmap.remove m key) m (gone (key_cases q key)) (inr refl)

  some_left : (ns : List ℕ) → (length ns == 0) ≡ false → 0 < length ns
  some_left ns e = positive (length ns) (eqb-false (length ns) 0 e)

  -- a port leaves its set, which ends the session where it was the last
  pub unbound_lessens : (number : ℕ) → Lessens number (state_at (unbound_at key number m).sessions q) (state_at m q)
  unbound_lessens number = by (state_at m key) refl
    where
      gone : (q ≡ key) ⊎ (q ≡ key → ⊥) → Lessens number (state_at (finmap.remove m key) q) (state_at m q)
      gone (inl e) = inl (ap (λ x. state_at (finmap.remove m key) x) e ∙ state_dropped m key)
      gone (inr n) = inr (inl (state_dropped_else m key q n))

      fewer : (v : List ℕ × Incoming) (set : List ℕ) → state_at m key ≡ Some v → 0 < length set → HasOthers number set v.0 → (q ≡ key) ⊎ (q ≡ key → ⊥) → Lessens number (state_at (finmap.insert m key (Some (set, v.1))) q) (state_at m q)
      fewer v set e some others (inl k) = inr (inr (v, set, ap (state_at m) k ∙ e, ap (λ x. state_at (finmap.insert m key (Some (set, v.1))) x) k ∙ state_put m key (set, v.1), some, others))
      fewer v set e some others (inr n) = inr (inl (state_put_else m key (set, v.1) q n))

      by : (o : Option (List ℕ × Incoming)) → state_at m key ≡ o → Lessens number (state_at (unbound_by o key number m).sessions q) (state_at m q)
      by None e = inr (inl refl)
      by (Some v) e = on_test (λ b. (length (without_number v.0 number) == 0) ≡ b → Lessens number (state_at (cond {A = Reception} b (ended_at key m (closing_frame v.1)) (goes_on_at key (without_number v.0 number) m v.1 None)).sessions q) (state_at m q)) (length (without_number v.0 number) == 0)
          (λ _ _. gone (key_cases q key)) (λ _ f. fewer v (without_number v.0 number) e (some_left (without_number v.0 number) f) (has_without number v.0) (key_cases q key)) refl
