-- Reading and the table agree, and what is written is read.
use Rattle.std.proofs.Common.{◌≡◌, ℕ, ◌<◌, ◌==◌, Bool, true, false, ◌&&◌, ◌||◌, Option, Some, None, inl, inr, refl, sym, ◌∙◌, ap, subst, arith}
use Rattle.std.specs.Prelude.{is_none, IfSome}
use Rattle.std.proofs.lemmas.Bool.Decides.{nat_tests}
use Rattle.bus_frame.specs.Frames.{CanFrame}
use Rattle.pgn_ids.specs.Address.{is_one}
use Rattle.pgn_ids.specs.Pgn.{is_pgn, is_pdu1}
use Rattle.pgn_ids.specs.Identifier.{id_of, meaning_of}
use Rattle.pgn_ids.specs.declared.address.Address.{Address}
use Rattle.pgn_ids.specs.declared.identifier.IdMeaning.{IdMeaning}
use Rattle.tp_wire.specs.Groups.{cm_group, dt_group}
use Rattle.tp_wire.specs.Rows.{octets_of, group_of, cm_kind, priority_of, one_or_all, goes_to, comes_from, IsRow, written, Writes, Reads}
use Rattle.tp_wire.specs.Reading.{body_of, reading, is_transport, is_malformed}
use Rattle.tp_wire.specs.declared.wire.Kind.{Kind}
use Rattle.tp_wire.specs.declared.wire.Kind.TheVariants.{Tp, Etp}
use Rattle.tp_wire.specs.declared.wire.CmFrame.TheVariants.{Rts, Cts, EndOfMsgAck, Bam, Abort, EtpRts, EtpCts, EtpDpo, EtpEoma, EtpAbort}
use Rattle.tp_wire.specs.declared.wire.Wire.{Wire}
use Rattle.tp_wire.specs.declared.wire.Wire.TheVariants.{Cm, Packet, Request, Ack}
use Rattle.tp_wire.proofs.Numbers.{AllBytes, chosen, bind_some, both_true}
use Rattle.tp_wire.proofs.RowsRead.{shown_is_read, shows_written}
use Rattle.tp_wire.proofs.RowsShown.{Body, body_shows}

same_three : {A B C : Type 0} (a x : A) (b y : B) (c z : C) → ◌≡◌ {A = Option (A × B × C)} (Some (a, b, c)) (Some (x, y, z)) → (a ≡ x) × (b ≡ y) × (c ≡ z)
same_three {A} {B} {C} a x b y c z h =
    let p : ◌≡◌ {A = A × B × C} (a, b, c) (x, y, z) = cc in
    (ap (λ (t : A × B × C). t.0) p, ap (λ (t : A × B × C). t.1) p, ap (λ (t : A × B × C). t.2) p)

-- ---- what is read is in the table
pub reading_reads : (f : CanFrame) → AllBytes f.bytes → (w : Wire) (from to : Address) → reading f ≡ Some (w, from, to) → Reads f w from.0 to.0
unfolding reading
reading_reads f bytes w from to x =
    let m = meaning_of f.id in
    let o = bind_some (body_of m.pgn f.bytes) _ _ x in
    elim (chosen (goes_to o.0 m.to.0 && comes_from o.0 m.from.0) _ _ _ o.2) [
      | inl y ↦
          let same = same_three _ _ _ _ _ _ y.1 in
          let both = both_true (goes_to o.0 m.to.0) (comes_from o.0 m.from.0) y.0 in
          let body : Body m.pgn f.bytes w = subst (λ v. Body m.pgn f.bytes v) same.0 (body_shows m.pgn f.bytes bytes o.0 o.1) in
          let goes : goes_to w to.0 ≡ true = subst (λ (a : Address). goes_to w a.0 ≡ true) same.2 (subst (λ v. goes_to v m.to.0 ≡ true) same.0 both.0) in
          let comes : comes_from w from.0 ≡ true = subst (λ (a : Address). comes_from w a.0 ≡ true) same.1 (subst (λ v. comes_from v m.from.0 ≡ true) same.0 both.1) in
          record { in_table = record { numbers = body.numbers; widths = body.widths; source = comes; destination = goes }; group = body.is_group; source = ap (λ (a : Address). a.0) same.1; destination = ap (λ (a : Address). a.0) same.2; bytes = body.shows }
      | inr y ↦ absurd (let no : None ≡ Some (w, from, to) = y.1 in cc)
    ]

pub reading_in_table : (f : CanFrame) → AllBytes f.bytes → IfSome (reading f) (λ r. IsRow r.0 r.1.0 r.2.0)
reading_in_table f bytes = by_reading (reading f) refl
  where
    by_reading : (o : Option (Wire × Address × Address)) → reading f ≡ o → IfSome o (λ r. IsRow r.0 r.1.0 r.2.0)
    by_reading None e = tt
    by_reading (Some x) e = (reading_reads f bytes x.0 x.1 x.2 e).in_table

-- ---- what is in the table is read
pub reads_reading : (f : CanFrame) (w : Wire) (from to : Address) → Reads f w from.0 to.0 → reading f ≡ Some (w, from, to)
unfolding reading
reads_reading f w from to h =
    let body : body_of (meaning_of f.id).pgn f.bytes ≡ Some w = rw h.group (shown_is_read w f.bytes h.in_table.numbers h.in_table.widths h.bytes) in
    let goes : goes_to w (meaning_of f.id).to.0 ≡ true = rw h.destination h.in_table.destination in
    let comes : comes_from w (meaning_of f.id).from.0 ≡ true = rw h.source h.in_table.source in
    let from_is : (meaning_of f.id).from ≡ from = ap (λ (n : ℕ). record { 0 = n }) h.source in
    let to_is : (meaning_of f.id).to ≡ to = ap (λ (n : ℕ). record { 0 = n }) h.destination in
    rw (body, goes, comes, from_is, to_is) refl

pub one_meaning : (f : CanFrame) (w v : Wire) (from to source destination : Address) → Reads f w from.0 to.0 → Reads f v source.0 destination.0 → (w ≡ v) × (from ≡ source) × (to ≡ destination)
one_meaning f w v from to source destination h k = same_three _ _ _ _ _ _ (sym (reads_reading f w from to h) ∙ reads_reading f v source destination k)

-- ---- what is written
record HasId (priority group : ℕ) : Type 0 where
  priority_fits : priority < 8
  is_group : is_pgn group ≡ true
  to_one : is_pdu1 group ≡ true

cm_has_id : (kind : Kind) → HasId 7 (cm_group kind)
cm_has_id Tp = record { priority_fits = omega arith; is_group = refl; to_one = refl }
cm_has_id Etp = record { priority_fits = omega arith; is_group = refl; to_one = refl }

dt_has_id : (kind : Kind) → HasId 7 (dt_group kind)
dt_has_id Tp = record { priority_fits = omega arith; is_group = refl; to_one = refl }
dt_has_id Etp = record { priority_fits = omega arith; is_group = refl; to_one = refl }

has_id : (w : Wire) → HasId (priority_of w) (group_of w)
has_id (Cm frame) = cm_has_id (cm_kind frame)
has_id (Packet kind sequence bytes) = dt_has_id kind
has_id (Request pgn) = record { priority_fits = omega arith; is_group = refl; to_one = refl }
has_id (Ack control address pgn) = record { priority_fits = omega arith; is_group = refl; to_one = refl }

one_fits : (a : ℕ) → is_one a ≡ true → a < 256
one_fits a h = grind (arith, nat_tests)

one_or_all_fits : (a : ℕ) → one_or_all a ≡ true → a < 256
one_or_all_fits a h = by_one (is_one a) (a == 255) refl refl h
  where
    by_one : (b c : Bool) → is_one a ≡ b → (a == 255) ≡ c → (b || c) ≡ true → a < 256
    by_one true c p q r = one_fits a p
    by_one false true p q r = grind (arith, nat_tests)
    by_one false false p q r = cc

destination_fits : (w : Wire) (to : ℕ) → goes_to w to ≡ true → to < 256
destination_fits (Cm (Bam size packets pgn)) to h = grind (arith, nat_tests)
destination_fits (Cm (Rts size packets most pgn)) to h = one_fits to h
destination_fits (Cm (Cts granted next pgn)) to h = one_fits to h
destination_fits (Cm (EndOfMsgAck size packets pgn)) to h = one_fits to h
destination_fits (Cm (Abort reason pgn)) to h = one_fits to h
destination_fits (Cm (EtpRts size pgn)) to h = one_fits to h
destination_fits (Cm (EtpCts granted next pgn)) to h = one_fits to h
destination_fits (Cm (EtpDpo packets offset pgn)) to h = one_fits to h
destination_fits (Cm (EtpEoma size pgn)) to h = one_fits to h
destination_fits (Cm (EtpAbort reason pgn)) to h = one_fits to h
destination_fits (Packet Tp sequence bytes) to h = one_or_all_fits to h
destination_fits (Packet Etp sequence bytes) to h = one_fits to h
destination_fits (Request pgn) to h = one_or_all_fits to h
destination_fits (Ack control address pgn) to h = one_or_all_fits to h

source_fits : (w : Wire) (from : ℕ) → comes_from w from ≡ true → from < 256
source_fits (Cm frame) from h = one_fits from h
source_fits (Packet kind sequence bytes) from h = one_fits from h
source_fits (Request pgn) from h = grind (arith, nat_tests)
source_fits (Ack control address pgn) from h = one_fits from h

-- identifiers are read back
abbrev pub IdsAreReadBack : Type 0
IdsAreReadBack = (priority pgn to from : ℕ) → priority < 8 → is_pgn pgn ≡ true → to < 256 → from < 256 → (is_pdu1 pgn ≡ false → to ≡ 255)
    → meaning_of (id_of priority pgn to from) ≡ record { priority = priority; pgn = pgn; to = record { 0 = to }; from = record { 0 = from } }

pub written_reads : IdsAreReadBack → (w : Wire) (from to : ℕ) (f : CanFrame) → Writes w from to f → Reads f w from to
unfolding written
written_reads back w from to f h =
    let i = has_id w in
    let m = back (priority_of w) (group_of w) to from i.priority_fits i.is_group (destination_fits w to h.in_table.destination) (source_fits w from h.in_table.source) (λ no. let bad : true ≡ false = sym i.to_one ∙ no in cc) in
    let same : meaning_of f.id ≡ meaning_of (id_of (priority_of w) (group_of w) to from) = ap (λ (g : CanFrame). meaning_of g.id) h.frame in
    let all = same ∙ m in
    record { in_table = h.in_table; group = ap (λ (r : IdMeaning). r.pgn) all; source = ap (λ (r : IdMeaning). r.from.0) all; destination = ap (λ (r : IdMeaning). r.to.0) all; bytes = rw h.frame (shows_written (octets_of w)) }

pub written_is_read : IdsAreReadBack → (w : Wire) (from to : Address) → IsRow w from.0 to.0 → reading (written w from.0 to.0) ≡ Some (w, from, to)
written_is_read back w from to h = reads_reading (written w from.0 to.0) w from to (written_reads back w from.0 to.0 (written w from.0 to.0) (record { in_table = h; frame = refl }))

-- ---- malformed frames
body_is_transport : (group : ℕ) (w : Wire) → group ≡ group_of w
    → (group == 0xEC00 || group == 0xEB00 || group == 0xC800 || group == 0xC700 || group == 0xEA00 || group == 0xE800) ≡ true
body_is_transport group (Cm frame) e = by_kind (cm_kind frame) e
  where
    by_kind : (kind : Kind) → group ≡ cm_group kind → (group == 0xEC00 || group == 0xEB00 || group == 0xC800 || group == 0xC700 || group == 0xEA00 || group == 0xE800) ≡ true
    by_kind Tp e = rw e refl
    by_kind Etp e = rw e refl
body_is_transport group (Packet Tp sequence bytes) e = rw e refl
body_is_transport group (Packet Etp sequence bytes) e = rw e refl
body_is_transport group (Request pgn) e = rw e refl
body_is_transport group (Ack control address pgn) e = rw e refl

pub reads_transport : (f : CanFrame) (w : Wire) (from to : ℕ) → Reads f w from to → is_transport f ≡ true
unfolding is_transport
reads_transport f w from to h = body_is_transport (meaning_of f.id).pgn w h.group

abbrev pub HasNoMeaning : CanFrame → Type 0
HasNoMeaning f = (w : Wire) (from to : Address) → ¬ (Reads f w from.0 to.0)

pub malformed_says : (f : CanFrame) → is_malformed f ≡ true → (is_transport f ≡ true) × HasNoMeaning f
malformed_says f h =
    let both = both_true (is_transport f) (is_none (reading f)) h in
    (both.0, λ w from to r. let bad : false ≡ true = subst (λ (o : Option (Wire × Address × Address)). is_none o ≡ true) (reads_reading f w from to r) both.1 in cc)

pub malformed_holds : (f : CanFrame) → AllBytes f.bytes → is_transport f ≡ true → HasNoMeaning f → is_malformed f ≡ true
malformed_holds f bytes t none = by_reading (reading f) refl
  where
    by_reading : (o : Option (Wire × Address × Address)) → reading f ≡ o → is_malformed f ≡ true
    by_reading None e = rw (t, e) refl
    by_reading (Some x) e = absurd (none x.0 x.1 x.2 (reading_reads f bytes x.0 x.1 x.2 e))
