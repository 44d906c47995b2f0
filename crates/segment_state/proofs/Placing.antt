-- Where stations stand that are added one by one.
use Rattle.std.proofs.Common.{◌≡◌, ◌≢◌, ℕ, zero, suc, ◌+◌, ◌<◌, ◌≤◌, ◌==◌, Bool, true, false, cond, not, List, [], ◌∷◌, ◌++◌, length, set, get_or, replicate, map, take, Fits, w8, Option, Some, None, refl, sym, ap, ◌∙◌, arith, rules, length-set, length-take-le, take_all}
use Rattle.std.specs.Vec.{vec_len}
use Rattle.std.specs.declared.vec.Vec.{Vec}
use Rattle.std.specs.List.{position_or_len}
use Rattle.std.proofs.lemmas.Grind.{common_steps}
use Rattle.std.proofs.lemmas.List.{length-replicate, length-map, take_more, map-append, get_or-set_same}
use Rattle.pgn_ids.specs.declared.address.Address.{Address}
use Rattle.station_core.specs.Station.{Station, new_station}
use Rattle.std.proofs.lemmas.Bool.{eqb-true, eqb-false}
use Rattle.segment_state.specs.declared.places.Places.{Places}
use Rattle.segment_state.specs.declared.places.TheConstants.{NOWHERE}
use Rattle.segment_state.specs.Places.{no_places, place_in, noted, noted_by, with_place, place_among, ArePlaces}

abbrev has : Address → Station → Bool
has a st = st.address.0 == a.0

same_item : (n i x : ℕ) → get_or (replicate n x) i x ≡ x
same_item zero i x = refl
same_item (suc n) zero x = refl
same_item (suc n) (suc i) x = same_item n i x

none_in : (n : ℕ) (a : Address) → place_in (record { by_address = replicate n NOWHERE }) a ≡ None
none_in n a = ap (λ v. cond (v == NOWHERE) None (Some v)) (same_item n a.0 NOWHERE)

-- no station
pub none_placed : ArePlaces no_places []
none_placed = record { all = length-replicate 256 NOWHERE; found = λ a within. none_in 256 a }

first_within : (p : Station → Bool) (xs : List Station) → position_or_len p xs ≤ length xs
first_within p [] = omega arith
first_within p (x ∷ xs) = by (p x) (first_within p xs)
  where
    by : (t : Bool) → position_or_len p xs ≤ length xs → cond (not t) (1 + position_or_len p xs) 0 ≤ suc (length xs)
    by true le = omega arith
    by false le = omega arith

-- a station more: the others are found as before, and it is found where none was
more_found : (stations : List Station) (st : Station) (a : Address) (i : ℕ) → place_among stations a ≡ Some i → place_among (stations ++ st ∷ []) a ≡ Some i
more_found stations st a i found = grind (arith, common_steps)

more_other : (stations : List Station) (st : Station) (a : Address) → place_among stations a ≡ None → has a st ≡ false → place_among (stations ++ st ∷ []) a ≡ None
more_other stations st a none other = grind (arith, common_steps)

more_this : (stations : List Station) (st : Station) (a : Address) → place_among stations a ≡ None → has a st ≡ true → place_among (stations ++ st ∷ []) a ≡ Some (length stations)
more_this stations st a none this =
    let le : position_or_len (has a) stations ≤ length stations = first_within (has a) stations in
    grind (arith, common_steps)

others_found : (stations : List Station) (st : Station) (a : Address) → (place_among stations a ≡ None → has a st ≡ false) → place_among (stations ++ st ∷ []) a ≡ place_among stations a
others_found stations st a apart = by (place_among stations a) refl
  where
    by : (o : Option ℕ) → place_among stations a ≡ o → place_among (stations ++ st ∷ []) a ≡ place_among stations a
    by None e = more_other stations st a e (apart e) ∙ sym e
    by (Some i) e = more_found stations st a i e ∙ sym e

place_at : (v : ℕ) → v < NOWHERE → cond (v == NOWHERE) None (Some v) ≡ Some v
place_at v below = grind arith

module _ (places : Places) (stations : List Station) (st : Station) (h : ArePlaces places stations) (below : st.address.0 < 256) where
  same_place : (a : Address) → st.address.0 ≡ a.0 → place_in places a ≡ place_in places st.address
  same_place a same = ap (λ n. place_in places (record { 0 = n })) (sym same)

  -- where it is the first with its address
  pub placed_first : length stations < NOWHERE → place_in places st.address ≡ None → ArePlaces (with_place places st.address (length stations)) (stations ++ st ∷ [])
  placed_first few none = record { all = length-set places.by_address st.address.0 (length stations) ∙ h.all; found = λ a within. by a within (st.address.0 == a.0) refl }
    where
      by : (a : Address) → a.0 < 256 → (b : Bool) → (st.address.0 == a.0) ≡ b → place_in (with_place places st.address (length stations)) a ≡ place_among (stations ++ st ∷ []) a
      by a within true e =
          let same : st.address.0 ≡ a.0 = eqb-true st.address.0 a.0 e in
          let there : st.address.0 < length places.by_address = omega (arith, h.all) in
          let kept : get_or (set places.by_address st.address.0 (length stations)) a.0 NOWHERE ≡ length stations =
          ap (λ n. get_or (set places.by_address st.address.0 (length stations)) n NOWHERE) (sym same) ∙ get_or-set_same places.by_address st.address.0 (length stations) NOWHERE there in
          ap (λ v. cond (v == NOWHERE) None (Some v)) kept ∙ place_at (length stations) few
          ∙ sym (more_this stations st a (sym (h.found a within) ∙ same_place a same ∙ none) e)
      by a within false e =
          let apart : st.address.0 ≢ a.0 = eqb-false st.address.0 a.0 e in
          let kept : get_or (set places.by_address st.address.0 (length stations)) a.0 NOWHERE ≡ get_or places.by_address a.0 NOWHERE = grind (arith, common_steps) in
          ap (λ v. cond (v == NOWHERE) None (Some v)) kept ∙ h.found a within ∙ sym (others_found stations st a (λ _. e))

  -- where another one is
  pub placed_again : (i : ℕ) → place_in places st.address ≡ Some i → ArePlaces places (stations ++ st ∷ [])
  placed_again i there = record { all = h.all; found = λ a within. h.found a within ∙ sym (others_found stations st a (λ none. by a within none (st.address.0 == a.0) refl)) }
    where
      by : (a : Address) → a.0 < 256 → place_among stations a ≡ None → (b : Bool) → (st.address.0 == a.0) ≡ b → b ≡ false
      by a within none true e = absurd (search (rules, sym (same_place a (eqb-true st.address.0 a.0 e) ∙ there) ∙ h.found a within ∙ none))
      by a within none false e = refl

-- one station more
pub placed_on : (places : Places) (stations : List Station) (a : Address) → ArePlaces places stations → a.0 < 256 → length stations < NOWHERE → ArePlaces (noted places a (length stations)) (stations ++ new_station a ∷ [])
placed_on places stations a h below few = by (place_in places a) refl
  where
    by : (o : Option ℕ) → place_in places a ≡ o → ArePlaces (noted_by o places a (length stations)) (stations ++ new_station a ∷ [])
    by None e = placed_first places stations (new_station a) h below few e
    by (Some i) e = placed_again places stations (new_station a) h below i e

-- the stations of the first addresses, and one more
pub added : (xs : List Address) (stations : List Station) (i : ℕ) (a : Address) → stations ≡ map new_station (take i xs) → i < length xs → a ≡ get_or xs i a → stations ++ new_station a ∷ [] ≡ map new_station (take (i + 1) xs)
added xs stations i a is within at =
    ap (λ l. l ++ new_station a ∷ []) is
    ∙ ap (λ (b : Address). map new_station (take i xs) ++ new_station b ∷ []) at
    ∙ sym (ap (map new_station) (take_more xs i a within) ∙ map-append new_station (take i xs) (get_or xs i a ∷ []))

pub how_many : (xs : List Address) (stations : List Station) (i : ℕ) → stations ≡ map new_station (take i xs) → i ≤ length xs → length stations ≡ i
how_many xs stations i is le = ap length is ∙ length-map (take i xs) new_station ∙ length-take-le i xs le

-- The numbers of such a loop

pub vec_long : {X Z : Type 0} (v : Vec X Z) → length v.items ≡ vec_len v
vec_long v = omega (arith, v.ok.0)

pub room_left : (items len place n capacity : ℕ) → items ≡ len → items ≡ place → place < n → n ≤ capacity → len < capacity
room_left items len place n capacity is many lt le = omega arith

pub at_end : (place end n : ℕ) → end ≤ place → place ≤ end → end ≡ n → place ≡ n
at_end place end n le ge is = omega arith

-- a place has one byte, and is none that stands for no place
pub few_before : (place n : ℕ) → place < n → n ≤ 32 → place < NOWHERE
few_before place n lt le = omega arith

pub before_is : (place n : ℕ) → place < n → place ≤ n
before_is place n lt = omega arith

pub byte : (n : ℕ) → n < NOWHERE → Fits w8 n
byte n lt = omega arith

-- all of them stand at the end
pub stands_whole : (place : ℕ) (xs : List Address) (stations : List Station) (all : List Address) → stations ≡ map new_station (take place xs) → place ≡ length xs → xs ≡ all → stations ≡ map new_station all
stands_whole place xs stations all is whole same = is ∙ ap (map new_station) (take_all place xs (omega arith) ∙ same)
