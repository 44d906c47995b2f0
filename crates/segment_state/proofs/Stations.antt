-- Calls of the station with an address, and where it stands.
use Rattle.std.proofs.Common.{◌≡◌, ℕ, zero, suc, ◌≤◌, ◌==◌, Bool, true, false, nat_lt, List, [], ◌∷◌, length, set, get_or, Some, None, Err, refl, sym, ap, ◌∙◌, subst, arith, length-set}
use Rattle.std.specs.Prelude.{slice_get}
use Rattle.std.specs.List.{position_or_len}
use Rattle.std.proofs.lemmas.List.Folds.{position_or_len-set}
use Rattle.std.proofs.lemmas.Bool.{ltb-true, ltb-false}
use Rattle.std.proofs.lemmas.Option.{slice_get_read}
use Rattle.pgn_ids.specs.declared.address.Address.{Address}
use Rattle.station_core.specs.Station.{Station}
use Rattle.segment_law.specs.Segment.{Segment, place_of}
use Rattle.segment_law.specs.Calls.{Answer, at_station, at_place, at_address}
use Rattle.segment_law.specs.declared.refusal.Refusal.TheVariants.{NoSuchStation}
use Rattle.segment_law.proofs.Reaching.{places_kept as stays_in_place}
use Rattle.segment_state.specs.declared.places.Places.{Places}
use Rattle.segment_state.specs.Places.{place_among, ArePlaces}

-- a call of an address is one of the station that stands at its place
pub at_is : (seg : Segment) (a : Address) (i : ℕ) (st : Station) (call : ℕ → Station → Answer) → place_of seg a ≡ Some i → slice_get seg.stations i ≡ Some st → at_address seg a call ≡ call i st
at_is seg a i st call here there = ap (λ o. at_place seg o call) here ∙ ap (λ o. at_station o (call i)) there

pub at_none : (seg : Segment) (a : Address) (call : ℕ → Station → Answer) → place_of seg a ≡ None → at_address seg a call ≡ Err NoSuchStation
at_none seg a call none = ap (λ o. at_place seg o call) none

-- a station that keeps its address keeps all places
pub places_kept : (places : Places) (stations : List Station) (i : ℕ) (st old : Station) → ArePlaces places stations → old ≡ get_or stations i old → st.address ≡ old.address → ArePlaces places (set stations i st)
places_kept places stations i st old h is same = record { all = h.all; found = λ a within. h.found a within ∙ sym (kept a) }
  where
    kept : (a : Address) → place_among (set stations i st) a ≡ place_among stations a
    kept a =
        let here : position_or_len (λ (s : Station). s.address.0 == a.0) (set stations i st) ≡ position_or_len (λ (s : Station). s.address.0 == a.0) stations =
        position_or_len-set (λ (s : Station). s.address.0 == a.0) stations i st old (ap (λ (b : Address). b.0 == a.0) (same ∙ ap (λ (s : Station). s.address) is)) in
        rw (here, length-set) refl

-- where no station stands, none changes
set_past : (stations : List Station) (i : ℕ) (st : Station) → length stations ≤ i → set stations i st ≡ stations
set_past [] i st le = refl
set_past (x ∷ xs) zero st le = absurd (omega (arith, le))
set_past (x ∷ xs) (suc i) st le = ap (λ (rest : List Station). x ∷ rest) (set_past xs i st (omega (arith, le)))

-- each stands where its address leads
abbrev pub StandInPlace : List Station → Type 0
StandInPlace stations = (i : ℕ) (st : Station) → slice_get stations i ≡ Some st → place_among stations st.address ≡ Some i

-- a station that keeps its address leaves each of them there
pub in_place_kept : (stations : List Station) (i : ℕ) (st old : Station) → StandInPlace stations → old ≡ get_or stations i old → st.address ≡ old.address → StandInPlace (set stations i st)
in_place_kept stations i st old h is same j s e = by (nat_lt i (length stations)) refl
  where
    by : (b : Bool) → nat_lt i (length stations) ≡ b → place_among (set stations i st) s.address ≡ Some j
    by true lt = stays_in_place stations i old st (slice_get_read stations (length stations) i old refl (ltb-true i (length stations) lt) is) same h j s e
    by false past_it =
        let past : set stations i st ≡ stations = set_past stations i st (ltb-false i (length stations) past_it) in
        subst (λ (xs : List Station). place_among xs s.address ≡ Some j) (sym past) (h j s (subst (λ (xs : List Station). slice_get xs j ≡ Some s) past e))

pub ruleset call_laws = (at_is, at_none)
