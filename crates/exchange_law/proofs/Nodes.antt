-- A frame from one station to another is read by its destination alone: every other station lets it pass.
use Rattle.std.proofs.Common.{◌≡◌, ℕ, ◌<◌, ◌==◌, Bool, true, false, cond, not, ◌&&◌, ◌||◌, Option, Some, refl, sym, ap, ◌∙◌, arith}
use Rattle.std.proofs.lemmas.Bool.{eqb-true, eqb-false, eq-eqb, ne_eqb, ltb-true, true≢false}
use Rattle.bus_frame.specs.Frames.{CanFrame}
use Rattle.pgn_ids.specs.Address.{is_one}
use Rattle.pgn_ids.specs.Pgn.{is_pgn, is_pdu1}
use Rattle.pgn_ids.specs.Identifier.{id_of, meaning_of}
use Rattle.pgn_ids.specs.declared.address.Address.{Address}
use Rattle.pgn_ids.specs.declared.identifier.IdMeaning.{IdMeaning}
use Rattle.tp_wire.specs.Reading.{reading}
use Rattle.tp_wire.specs.Rows.{IsRow, written, group_of, priority_of}
use Rattle.tp_wire.specs.declared.wire.Wire.{Wire}
use Rattle.station_core.specs.Station.{Station, StationStep, quietly}
use Rattle.station_core.specs.Taking.{meaning_taken, taken, wire_taken}
use Rattle.record_law.proofs.Readings.{GivesBack, ReadsBack}

-- a frame from one station to another, with its meaning
pub record IsBetween (a b : Address) (wire : Wire) (f : CanFrame) : Type 0 where
  pub from_is : (meaning_of f.id).from ≡ a
  pub to_is : (meaning_of f.id).to ≡ b
  pub means : reading f ≡ Some (wire, a, b)

pub node_below : (a : Address) → is_one a.0 ≡ true → a.0 < 256
node_below a own = let h : a.0 < 254 = ltb-true a.0 254 own in omega arith

-- what is written for a row is such a frame
pub between : GivesBack → ReadsBack → (a b : Address) → is_one a.0 ≡ true → is_one b.0 ≡ true → (w : Wire) → IsRow w a.0 b.0 → is_pgn (group_of w) ≡ true → is_pdu1 (group_of w) ≡ true → priority_of w < 8
    → IsBetween a b w (written w a.0 b.0)
unfolding written
between gives reads a b own_a own_b w row pgn format low =
    let h : meaning_of (id_of (priority_of w) (group_of w) b.0 a.0) ≡ record { priority = priority_of w; pgn = group_of w; to = b; from = a } =
    gives (priority_of w) (group_of w) b.0 a.0 low pgn (node_below b own_b) (node_below a own_a) (λ e. absurd (true≢false (sym format ∙ e))) in
    record {
      from_is = ap (λ (x : IdMeaning). x.from) h;
      to_is = ap (λ (x : IdMeaning). x.to) h;
      means = reads w a b row;
    }

pub flipped : (n k : ℕ) (b : Bool) → (n == k) ≡ b → (k == n) ≡ b
flipped n k true e = eq-eqb k n (sym (eqb-true n k e))
flipped n k false e = ne_eqb k n (λ q. eqb-false n k e (sym q))

module _ (a b : Address) (wire : Wire) (f : CanFrame) (h : IsBetween a b wire f) (st : Station) (now : ℕ) where
  -- by the addresses alone
  abbrev by_tests : (own here to_all : Bool) → StationStep
  by_tests own here to_all = cond {A = StationStep} (not own && (here || to_all)) (wire_taken st wire a b true now) (quietly st)

  taken_is : taken st f true now ≡ by_tests (a.0 == st.address.0) (b.0 == st.address.0) (b.0 == 255)
  taken_is =
      ap (λ (x : Address). cond {A = StationStep} (not (x.0 == st.address.0) && ((meaning_of f.id).to.0 == st.address.0 || (meaning_of f.id).to.0 == 255)) (meaning_taken st (reading f) true now) (quietly st)) h.from_is
      ∙ ap (λ (x : Address). cond {A = StationStep} (not (a.0 == st.address.0) && (x.0 == st.address.0 || x.0 == 255)) (meaning_taken st (reading f) true now) (quietly st)) h.to_is
      ∙ ap (λ (o : Option (Wire × Address × Address)). cond {A = StationStep} (not (a.0 == st.address.0) && (b.0 == st.address.0 || b.0 == 255)) (meaning_taken st o true now) (quietly st)) h.means

  -- the station that put it
  pub taken_own : (st.address.0 == a.0) ≡ true → taken st f true now ≡ quietly st
  taken_own same = taken_is ∙ ap (λ (t : Bool). by_tests t (b.0 == st.address.0) (b.0 == 255)) (flipped st.address.0 a.0 true same)

  -- its destination
  pub taken_there : (st.address.0 == a.0) ≡ false → (st.address.0 == b.0) ≡ true → taken st f true now ≡ wire_taken st wire a b true now
  taken_there other same = taken_is ∙ (λ i. by_tests (flipped st.address.0 a.0 false other i) (flipped st.address.0 b.0 true same i) (b.0 == 255))

  -- every other one
  pub taken_else : is_one b.0 ≡ true → (st.address.0 == b.0) ≡ false → taken st f true now ≡ quietly st
  taken_else own other =
      let one : b.0 < 254 = ltb-true b.0 254 own in
      let node : (b.0 == 255) ≡ false = ne_eqb b.0 255 (λ e. absurd (omega (arith, e, one))) in
      taken_is ∙ (λ i. by_tests (a.0 == st.address.0) (flipped st.address.0 b.0 false other i) (node i)) ∙ passes (not (a.0 == st.address.0))
    where
      passes : (t : Bool) → cond {A = StationStep} (t && false) (wire_taken st wire a b true now) (quietly st) ≡ quietly st
      passes true = refl
      passes false = refl
