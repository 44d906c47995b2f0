-- What a frame carries of a station's messages to all.
use Rattle.std.proofs.Common.{◌≡◌, ℕ, ◌<◌, ◌^◌, ◌/◌, ◌%◌, ◌==◌, Bool, true, false, cond, ◌&&◌, List, [], ◌∷◌, filter_map, length, Option, Some, None, refl, sym, ap, ◌∙◌, subst, arith, eq-eqb, ne_eqb, true≢false}
use Rattle.std.proofs.lemmas.Bool.{and_parts, and_right, and_left}
use Rattle.std.proofs.lemmas.Option.{same_Some, none-some}
use Rattle.std.specs.Prelude.{option_and_then}
use Rattle.bus_frame.specs.Frames.{CanFrame}
use Rattle.pgn_ids.specs.Address.{is_one}
use Rattle.pgn_ids.specs.Pgn.{is_pdu1}
use Rattle.pgn_ids.specs.Identifier.{id_of, meaning_of}
use Rattle.pgn_ids.specs.declared.address.Address.{Address}
use Rattle.pgn_ids.specs.declared.identifier.IdMeaning.{IdMeaning}
use Rattle.tp_wire.specs.Groups.{cm_group}
use Rattle.tp_wire.specs.Reading.{reading, between, body_of, ack_of, field_of}
use Rattle.tp_wire.specs.Rows.{written, priority_of, group_of, cm_kind, goes_to, comes_from}
use Rattle.tp_wire.specs.declared.wire.Kind.{Kind}
use Rattle.tp_wire.specs.declared.wire.Kind.TheVariants.{Tp, Etp}
use Rattle.tp_wire.specs.declared.wire.CmFrame.TheVariants.{Rts, Cts, EndOfMsgAck, Bam, Abort, EtpRts, EtpCts, EtpDpo, EtpEoma, EtpAbort}
use Rattle.tp_wire.specs.declared.wire.Wire.{Wire}
use Rattle.tp_wire.specs.declared.wire.Wire.TheVariants.{Cm, Packet, Request, Ack}
use Rattle.record_law.proofs.Lists.{Each}
use Rattle.record_law.proofs.Readings.{GivesBack, ReadsBack}
use Rattle.record_law.proofs.Tests.{on_test, either}

abbrev pub all : Address
all = record { 0 = 255 }

abbrev pub is_to_all : Address → (from to : Address) → Bool
is_to_all s from to = from.0 == s.0 && to.0 == 255

-- of the messages of s to all there are BAMs and packets
abbrev pub of_lane : Address → Wire → (from to : Address) → Option Wire
of_lane s (Cm (Bam size packets pgn)) from to = cond (is_to_all s from to) (Some (Cm (Bam size packets pgn))) None
of_lane s (Packet Tp k bytes) from to = cond (is_to_all s from to) (Some (Packet Tp k bytes)) None
of_lane s _ from to = None

abbrev pub Meaning : Type 0
Meaning = Wire × Address × Address

abbrev pub of_meaning : Address → Option Meaning → Option Wire
of_meaning s None = None
of_meaning s (Some m) = of_lane s m.0 m.1 m.2

abbrev pub carried : Address → CanFrame → Option Wire
carried s f = of_meaning s (reading f)

-- what a reading tells of its frame
pub record IsRead (f : CanFrame) (m : Meaning) : Type 0 where
  pub source : m.1 ≡ (meaning_of f.id).from
  pub goal : m.2 ≡ (meaning_of f.id).to
  pub goes : goes_to m.0 m.2.0 ≡ true
  pub comes : comes_from m.0 m.1.0 ≡ true

between_tells : (from to : Address) (o : Option Wire) (m : Meaning) → between from to o ≡ Some m → (m.1 ≡ from) × (m.2 ≡ to) × (goes_to m.0 m.2.0 ≡ true) × (comes_from m.0 m.1.0 ≡ true)
between_tells from to None m e = absurd (none-some m e)
between_tells from to (Some w) m e = on_test (λ b. (goes_to w to.0 && comes_from w from.0) ≡ b → cond {A = Option Meaning} b (Some (w, from, to)) None ≡ Some m → (m.1 ≡ from) × (m.2 ≡ to) × (goes_to m.0 m.2.0 ≡ true) × (comes_from m.0 m.1.0 ≡ true)) (goes_to w to.0 && comes_from w from.0)
    (λ t p q.
    let is : (w, from, to) ≡ m = same_Some (w, from, to) m q in
    let both : (goes_to w to.0 ≡ true) × (comes_from w from.0 ≡ true) = and_parts (goes_to w to.0) (comes_from w from.0) p in
    (sym (ap (λ (x : Meaning). x.1) is), sym (ap (λ (x : Meaning). x.2) is), subst (λ (x : Meaning). goes_to x.0 x.2.0 ≡ true) is both.0, subst (λ (x : Meaning). comes_from x.0 x.1.0 ≡ true) is both.1))
    (λ t p q. absurd (none-some m q)) refl e

pub reading_tells : (f : CanFrame) (m : Meaning) → reading f ≡ Some m → IsRead f m
unfolding reading
reading_tells f m e =
    let t = between_tells (meaning_of f.id).from (meaning_of f.id).to (body_of (meaning_of f.id).pgn f.bytes) m e in
    record { source = t.0; goal = t.1; goes = t.2; comes = t.3 }

-- nothing of s is carried from or to elsewhere
of_lane_else : (s : Address) (w : Wire) (from to : Address) → is_to_all s from to ≡ false → of_lane s w from to ≡ None
of_lane_else s (Cm (Bam size packets pgn)) from to n = ap (λ b. cond b (Some (Cm (Bam size packets pgn))) None) n
of_lane_else s (Cm (Rts size packets most pgn)) from to n = refl
of_lane_else s (Cm (Cts granted next pgn)) from to n = refl
of_lane_else s (Cm (EndOfMsgAck size packets pgn)) from to n = refl
of_lane_else s (Cm (Abort reason pgn)) from to n = refl
of_lane_else s (Cm (EtpRts size pgn)) from to n = refl
of_lane_else s (Cm (EtpCts granted next pgn)) from to n = refl
of_lane_else s (Cm (EtpDpo packets offset pgn)) from to n = refl
of_lane_else s (Cm (EtpEoma size pgn)) from to n = refl
of_lane_else s (Cm (EtpAbort reason pgn)) from to n = refl
of_lane_else s (Packet Tp k bytes) from to n = ap (λ b. cond b (Some (Packet Tp k bytes)) None) n
of_lane_else s (Packet Etp k bytes) from to n = refl
of_lane_else s (Request pgn) from to n = refl
of_lane_else s (Ack control address pgn) from to n = refl

carried_else : (s : Address) (f : CanFrame) → is_to_all s (meaning_of f.id).from (meaning_of f.id).to ≡ false → carried s f ≡ None
carried_else s f n = by (reading f) refl
  where
    by : (o : Option Meaning) → reading f ≡ o → of_meaning s o ≡ None
    by None e = refl
    by (Some m) e =
        let r : IsRead f m = reading_tells f m e in
        of_lane_else s m.0 m.1 m.2 ((λ i. is_to_all s (r.source i) (r.goal i)) ∙ n)

pub carried_foreign : (s : Address) (f : CanFrame) → ((meaning_of f.id).from.0 ≡ s.0 → ⊥) → carried s f ≡ None
carried_foreign s f n = carried_else s f (and_left ((meaning_of f.id).from.0 == s.0) ((meaning_of f.id).to.0 == 255) (ne_eqb (meaning_of f.id).from.0 s.0 n))

carried_elsewhere : (s : Address) (f : CanFrame) → ((meaning_of f.id).to.0 ≡ 255 → ⊥) → carried s f ≡ None
carried_elsewhere s f n = carried_else s f (and_right ((meaning_of f.id).from.0 == s.0) ((meaning_of f.id).to.0 == 255) (ne_eqb (meaning_of f.id).to.0 255 n))

-- a frame of station a that carries nothing to all
pub record IsQuiet (a : Address) (f : CanFrame) : Type 0 where
  pub from : (meaning_of f.id).from.0 ≡ a.0
  pub none : (s : Address) → carried s f ≡ None

-- a frame that a station wrote, from one number to another
abbrev pub IsSaid : (from to : ℕ) → CanFrame → Type 0
IsSaid from to f = (w : Wire) × (f ≡ written w from to)

pub none_carried : (s a : Address) (fs : List CanFrame) → Each (IsQuiet a) fs → filter_map (carried s) fs ≡ []
none_carried s a [] h = refl
none_carried s a (f ∷ fs) h = rw (h.0.none s) (none_carried s a fs h.1)

pub own_quiet : (a : Address) (fs : List CanFrame) → Each (IsQuiet a) fs → Each (λ f. (meaning_of f.id).from.0 ≡ a.0) fs
own_quiet a [] h = tt
own_quiet a (f ∷ fs) h = (h.0.from, own_quiet a fs h.1)

module _ (gives : GivesBack) where
  pdu1 : (n : ℕ) → is_pdu1 n ≡ true → (to : ℕ) → is_pdu1 n ≡ false → to ≡ 255
  pdu1 n is to isnt = absurd (true≢false (sym is ∙ isnt))

  meaning_cm : (k : Kind) (from to : ℕ) → from < 256 → to < 256 → meaning_of (id_of 7 (cm_group k) to from) ≡ record { priority = 7; pgn = cm_group k; to = record { 0 = to }; from = record { 0 = from } }
  meaning_cm Tp from to h k = gives 7 0xEC00 to from (omega arith) refl k h (pdu1 0xEC00 refl to)
  meaning_cm Etp from to h k = gives 7 0xC800 to from (omega arith) refl k h (pdu1 0xC800 refl to)

  pub meaning_written : (w : Wire) (from to : ℕ) → from < 256 → to < 256 → meaning_of (written w from to).id ≡ record { priority = priority_of w; pgn = group_of w; to = record { 0 = to }; from = record { 0 = from } }
  unfolding written
  meaning_written (Cm frame) from to h k = meaning_cm (cm_kind frame) from to h k
  meaning_written (Packet Tp s b) from to h k = gives 7 0xEB00 to from (omega arith) refl k h (pdu1 0xEB00 refl to)
  meaning_written (Packet Etp s b) from to h k = gives 7 0xC700 to from (omega arith) refl k h (pdu1 0xC700 refl to)
  meaning_written (Request pgn) from to h k = gives 6 0xEA00 to from (omega arith) refl k h (pdu1 0xEA00 refl to)
  meaning_written (Ack control address pgn) from to h k = gives 6 0xE800 to from (omega arith) refl k h (pdu1 0xE800 refl to)

  pub said_from : (a : Address) (to : ℕ) (f : CanFrame) → a.0 < 256 → to < 256 → IsSaid a.0 to f → (meaning_of f.id).from.0 ≡ a.0
  said_from a to f h k e = ap (λ (g : CanFrame). (meaning_of g.id).from.0) e.1 ∙ ap (λ (m : IdMeaning). m.from.0) (meaning_written e.0 a.0 to h k)

  -- to one node: nothing to all
  pub quiet_said : (a : Address) (to : ℕ) (f : CanFrame) → a.0 < 256 → to < 255 → IsSaid a.0 to f → IsQuiet a f
  quiet_said a to f h k e = record {
    from = said_from a to f h (omega arith) e;
    none = λ s. carried_elsewhere s f (λ z.
        let t : (meaning_of f.id).to.0 ≡ to = ap (λ (g : CanFrame). (meaning_of g.id).to.0) e.1 ∙ ap (λ (m : IdMeaning). m.to.0) (meaning_written e.0 a.0 to h (omega arith)) in omega (arith, t, z));
  }

  pub quiet_each : (a : Address) (to : ℕ) (fs : List CanFrame) → a.0 < 256 → to < 255 → Each (IsSaid a.0 to) fs → Each (IsQuiet a) fs
  quiet_each a to [] h k e = tt
  quiet_each a to (f ∷ fs) h k e = (quiet_said a to f h k e.0, quiet_each a to fs h k e.1)

  pub own_each : (a : Address) (to : ℕ) (fs : List CanFrame) → a.0 < 256 → to < 256 → Each (IsSaid a.0 to) fs → Each (λ f. (meaning_of f.id).from.0 ≡ a.0) fs
  own_each a to [] h k e = tt
  own_each a to (f ∷ fs) h k e = (said_from a to f h k e.0, own_each a to fs h k e.1)

  -- an Acknowledgement, though it goes to all
  pub quiet_ack : (a : Address) (control : ℕ) (address : Address) (pgn : ℕ) → a.0 < 256 → IsQuiet a (written (Ack control address pgn) a.0 255)
  unfolding body_of ack_of written reading
  quiet_ack a control address pgn h = record {
    from = said_from a 255 (written (Ack control address pgn) a.0 255) h (omega arith) (Ack control address pgn, refl);
    none = none;
  }
    where
      f : CanFrame
      f = written (Ack control address pgn) a.0 255

      told : (s from to : Address) (o : Option ℕ) → of_meaning s (between from to (option_and_then (λ n. Some (Ack control address n)) o)) ≡ None
      told s from to None = refl
      told s from to (Some n) = either (λ o. of_meaning s o ≡ None) (goes_to (Ack control address n) to.0 && comes_from (Ack control address n) from.0) (Some (Ack control address n, from, to)) None refl refl

      body : (s from to : Address) → of_meaning s (between from to (body_of 0xE800 f.bytes)) ≡ None
      body s from to = told s from to (field_of (pgn % 2 ^ 8) (pgn / 2 ^ 8 % 2 ^ 8) (pgn / 2 ^ 16))

      none : (s : Address) → carried s f ≡ None
      none s = ap (λ (m : IdMeaning). of_meaning s (between m.from m.to (body_of m.pgn f.bytes))) (meaning_written (Ack control address pgn) a.0 255 h (omega arith)) ∙ body s a all

module _ (s : Address) (own : is_one s.0 ≡ true) (reads : ReadsBack) where
  pub carried_bam : (size packets pgn : ℕ) → pgn < 2 ^ 18 → carried s (written (Cm (Bam size packets pgn)) s.0 255) ≡ Some (Cm (Bam size packets pgn))
  carried_bam size packets pgn fits =
      ap (of_meaning s) (reads (Cm (Bam size packets pgn)) s all (record { numbers = tt; widths = fits; source = own; destination = refl }))
      ∙ ap (λ b. cond (b && true) (Some (Cm (Bam size packets pgn))) None) (eq-eqb s.0 s.0 refl)

  pub carried_packet : (k : ℕ) (bytes : List ℕ) → 0 < k → length bytes ≡ 7 → carried s (written (Packet Tp k bytes) s.0 255) ≡ Some (Packet Tp k bytes)
  carried_packet k bytes some seven =
      ap (of_meaning s) (reads (Packet Tp k bytes) s all (record { numbers = some; widths = seven; source = own; destination = refl }))
      ∙ ap (λ b. cond (b && true) (Some (Packet Tp k bytes)) None) (eq-eqb s.0 s.0 refl)
