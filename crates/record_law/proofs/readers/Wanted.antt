-- A step of a session gives its message exactly where it is said to complete it.
use Rattle.std.proofs.Common.{◌≡◌, ℕ, ◌<◌, ◌≤◌, ◌==◌, Bool, true, false, cond, not, ◌&&◌, List, [], ◌∷◌, refl, sym, ap, ◌∙◌, arith, ⊎_elim}
use Rattle.std.specs.Prelude.{map, nat_lt}
use Rattle.std.proofs.lemmas.Bool.{cases_lt, lt-ltb, le-ltb, eq-eqb, ne_eqb}
use Rattle.pgn_ids.specs.declared.address.Address.{Address}
use Rattle.tp_wire.specs.declared.wire.Kind.{Kind}
use Rattle.tp_wire.specs.declared.wire.Kind.TheVariants as kind
use Rattle.tp_wire.specs.declared.wire.CmFrame.TheVariants.{EtpDpo}
use Rattle.tp_wire.specs.declared.wire.Wire.{Wire}
use Rattle.tp_wire.specs.declared.wire.Wire.TheVariants.{Cm, Packet}
use Rattle.seg_cut.specs.Join.{joined, wants_last}
use Rattle.responder.specs.Unfinished.{Unfinished}
use Rattle.responder.specs.Readers.{unfinished_of}
use Rattle.responder.specs.Steps as steps
use Rattle.responder.specs.Room as room
use Rattle.responder.specs.declared.flow.Flow.{Flow}
use Rattle.responder.specs.declared.in_state.InState.{InState}
use Rattle.responder.specs.declared.in_state.InState.TheVariants.{AwaitPacket, Holding}
use Rattle.responder.specs.declared.received.Received.{Received}
use Rattle.bam_session.specs.States as bam
use Rattle.bam_session.specs.Receiving as bam-steps
use Rattle.tp_wire.specs.Kinds.{is_same_kind}
use Rattle.session_table.specs.declared.incoming.Incoming.{Incoming}
use Rattle.session_table.specs.declared.incoming.Incoming.TheVariants.{Broadcast, Connection}
use Rattle.session_table.specs.declared.key.Key.{Key}
use Rattle.message_events.specs.declared.event.Event.TheVariants as event
use Rattle.pgn_ids.specs.Pgn.{clean}
use Rattle.pgn_ids.specs.Address.{global_address}
use Rattle.station_sessions.specs.Steps.{completes}
use Rattle.station_sessions.specs.Receiving.{Inbound, broadcast_settled, connection_settled, session_stepped}
use Rattle.segment_law.specs.Readers.{ports_given}
use Rattle.responder.proofs.Rows.{by_rows}
use Rattle.record_law.proofs.Tests.{either}

never : (b : Bool) → (b && false) ≡ false
never true = refl
never false = refl

always : (b : Bool) → (b && true) ≡ b
always true = refl
always false = refl

-- what a message gives at the ports of a set
pub given_ports : (station from to : Address) (pgn : ℕ) (bytes set : List ℕ) → ports_given (map (λ number. event.Given (record { station = station; number = number }) from to pgn bytes) set) ≡ set
given_ports station from to pgn bytes [] = refl
given_ports station from to pgn bytes (n ∷ set) = ap (λ (ns : List ℕ). n ∷ ns) (given_ports station from to pgn bytes set)

module _ {R : Type 0} (f : R → List ℕ) (set : List ℕ) where
  abbrev where_it : Bool → List ℕ
  where_it b = cond b set []

  -- rows by the number of a packet: below the next one, above it, and the next one itself
  module _ (k next : ℕ) (w : Bool) (x y z : R) (fx : f x ≡ []) (fy : f y ≡ []) (fz : f z ≡ where_it w) where
    other : (k == next) ≡ false → where_it (w && k == next) ≡ []
    other e = ap (λ (b : Bool). where_it (w && b)) e ∙ ap where_it (never w)

    by_number : f (cond (nat_lt k next) x (cond (nat_lt next k) y z)) ≡ where_it (w && k == next)
    by_number =
        ⊎_elim
        (λ (lt : k < next).
        ap (λ (b : Bool). f (cond b x (cond (nat_lt next k) y z))) (lt-ltb k next lt) ∙ fx ∙ sym (other (ne_eqb k next (λ same. absurd (omega (arith, same, lt))))))
        (λ (le : next ≤ k).
        ap (λ (b : Bool). f (cond b x (cond (nat_lt next k) y z))) (le-ltb k next le)
        ∙ ⊎_elim
        (λ (lt : next < k).
        ap (λ (c : Bool). f (cond c y z)) (lt-ltb next k lt) ∙ fy ∙ sym (other (ne_eqb k next (λ same. absurd (omega (arith, same, lt))))))
        (λ (ge : k ≤ next).
        ap (λ (c : Bool). f (cond c y z)) (le-ltb next k ge) ∙ fz ∙ sym (ap (λ (c : Bool). where_it (w && c)) (eq-eqb k next (omega (arith, le, ge))) ∙ ap where_it (always w)))
        (cases_lt next k))
        (cases_lt k next)

  last_row : (w : Bool) (c d : R) → f c ≡ [] → f d ≡ set → f (cond (not w) c d) ≡ where_it w
  last_row true c d fc fd = fd
  last_row false c d fc fd = fc

module _ (station : Address) (key : Key) (set : List ℕ) (m : Inbound) where
  abbrev broadcast_tells : bam.Incoming → bam-steps.Received → List ℕ
  broadcast_tells s r = ports_given (broadcast_settled station key set true m s r).events

  abbrev connection_tells : Received → List ℕ
  connection_tells r = ports_given (connection_settled station key set true m r).events

  broadcast_ports : (s : bam.Incoming) (k : Kind) (sequence : ℕ) (bytes : List ℕ) (now : ℕ) → broadcast_tells s (bam-steps.stepped s (Packet k sequence bytes) now) ≡ cond (bam-steps.completes s (Packet k sequence bytes)) set []
  broadcast_ports s kind.Tp sequence bytes now =
      by_number (broadcast_tells s) set sequence s.join.next (wants_last s.join) (bam-steps.Awaits s) bam-steps.Drops (cond (not (wants_last s.join)) (bam-steps.Awaits (bam.accepted s bytes now)) (bam-steps.Completes (joined s.join bytes).bytes)) refl refl
      (last_row (broadcast_tells s) set (wants_last s.join) (bam-steps.Awaits (bam.accepted s bytes now)) (bam-steps.Completes (joined s.join bytes).bytes) refl
      (given_ports station (record { 0 = s.from }) (record { 0 = global_address }) (clean s.pgn) (joined s.join bytes).bytes set))
  broadcast_ports s kind.Etp sequence bytes now = refl

  given_where : (s : InState) (wire : Wire) (flow : Flow) (now : ℕ) → connection_tells (steps.stepped s wire true flow now) ≡ cond (steps.completes s wire) set []
  given_where s wire flow now =
      let q : Unfinished = unfinished_of s in
      by_rows (λ r. connection_tells r ≡ cond (steps.completes s wire) set []) flow now s wire true (record {
        same = λ fails. none fails;
        aborts = λ fails reason. none fails;
        announces = λ granted until packets offset pgn timer _ fails. none fails;
        announces_held = λ packets offset pgn timer _ fails. none fails;
        accepts = λ bytes granted until timer _ fails. none fails;
        asks_next = λ bytes _ fails. none fails;
        ends = λ bytes _ _ holds. given_ports station (record { 0 = q.peer.from }) (record { 0 = q.peer.to }) (clean q.peer.pgn) (joined q.join bytes).bytes set ∙ ap (λ (c : Bool). cond c set []) (sym holds);
      })
    where
      none : steps.completes s wire ≡ false → [] ≡ cond (steps.completes s wire) set []
      none fails = ap (λ (c : Bool). cond c set []) (sym fails)

  connection_ports : (s : InState) (wire : Wire) (flow : Flow) (now : ℕ) → connection_tells (steps.stepped (room.prepared s wire true flow) wire true flow now) ≡ cond (steps.completes s wire) set []
  connection_ports (AwaitPacket t) wire flow now =
      either (λ x. connection_tells (steps.stepped (AwaitPacket x) wire true flow now) ≡ cond (steps.completes (AwaitPacket t) wire) set []) (is_same_kind t.message.kind kind.Etp && room.grants_next t wire true flow) _ _
      (given_where (AwaitPacket (record t { message = room.with_room_for t.message (room.needed t wire true flow) })) wire flow now) (given_where (AwaitPacket t) wire flow now)
  connection_ports (Holding t) wire flow now = given_where (Holding t) wire flow now

  pub packet_ports : (s : Incoming) (k : Kind) (sequence : ℕ) (bytes : List ℕ) (flow : Flow) (now : ℕ) → ports_given (session_stepped station key set true m flow s (Packet k sequence bytes) now).events ≡ cond (completes s (Packet k sequence bytes)) set []
  packet_ports (Broadcast s) k sequence bytes flow now = broadcast_ports s k sequence bytes now
  packet_ports (Connection s) k sequence bytes flow now = connection_ports s (Packet k sequence bytes) flow now

  -- a DPO completes nothing
  pub dpo_ports : (s : Incoming) (packets offset pgn : ℕ) (flow : Flow) (now : ℕ) → ports_given (session_stepped station key set true m flow s (Cm (EtpDpo packets offset pgn)) now).events ≡ []
  dpo_ports (Broadcast s) packets offset pgn flow now = refl
  dpo_ports (Connection s) packets offset pgn flow now = connection_ports s (Cm (EtpDpo packets offset pgn)) flow now ∙ ap (λ (c : Bool). cond c set []) (not_dpo s)
    where
      not_dpo : (s : InState) → steps.completes s (Cm (EtpDpo packets offset pgn)) ≡ false
      not_dpo (AwaitPacket t) = refl
      not_dpo (Holding t) = refl
