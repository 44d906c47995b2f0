-- The sets of lanes beside the places: what isn't in one has no frame to queue, or no running timer.
use Rattle.std.proofs.Common.{◌≡◌, ◌≢◌, ℕ, ◌<◌, Bool, true, false, List, length, Option, Some, None, ◌==◌, ◌||◌, nat_lt, arith, true≢false, subst, refl, sym, ap, ◌∙◌, get_or-set_same, get_or-set_other}
use Rattle.std.proofs.Math.ListN.{set}
use Rattle.std.proofs.lemmas.List.{get_or_past}
use Rattle.std.proofs.lemmas.Option.{none-some}
use Rattle.std.proofs.lemmas.Bool.{eqb-true, eqb-false, ltb-true, ltb-false}
use Rattle.std.specs.FinMap as map
use Rattle.pgn_ids.specs.Address.{is_one, global_address, null_address}
use Rattle.address_set.specs.Sets.{AddressSet, has}
use Rattle.lane_core.specs.Lane.{Lane}
use Rattle.station_lanes.specs.Lanes.{Lanes}
use Rattle.station_lanes.specs.LaneSlots.{slot_at, lanes_below}
use Rattle.station_lanes.proofs.SlotLaws.{get_lanes}

-- the set has just the lanes that pass
abbrev pub Marks : List (Option Lane) → AddressSet → (Lane → Bool) → Type 0
Marks slots set test = (to : ℕ) (lane : Lane) → slot_at slots to ≡ Some lane → has set to ≡ test lane

abbrev pub passes : (Lane → Bool) → Option Lane → Bool
passes test o = elim o [ None ↦ false | Some lane ↦ test lane ]

pub unmarked : (slots : List (Option Lane)) (lanes : Lanes) (set : AddressSet) (test : Lane → Bool) → lanes_below slots (length slots) ≡ lanes → Marks slots set test → (to : ℕ) → has set to ≡ false → passes test (map.get lanes to) ≡ false
unmarked slots lanes set test view marks to out = ap (passes test) (sym (ap (λ m. map.get m to) view) ∙ get_lanes slots to) ∙ by (slot_at slots to) refl
  where
    by : (o : Option Lane) → slot_at slots to ≡ o → passes test o ≡ false
    by None e = refl
    by (Some lane) e = sym (marks to lane e) ∙ out

-- where a lane stands, or that of another
abbrev pub place_of : Lane → Option Lane → ℕ
place_of other None = other.to
place_of other (Some lane) = lane.to

-- only a place below its number of places holds one
inside : (slots : List (Option Lane)) (q : ℕ) (lane : Lane) → slot_at slots q ≡ Some lane → q < length slots
inside slots q lane is = by (nat_lt q (length slots)) refl
  where
    by : (b : Bool) → nat_lt q (length slots) ≡ b → q < length slots
    by true e = ltb-true q (length slots) e
    by false e = absurd (none-some lane (sym (get_or_past slots q None (ltb-false q (length slots) e)) ∙ is))

-- a lane is put at a node, or at all
pub nodes_put : (slots : List (Option Lane)) (to : ℕ) (lane : Lane) → (is_one to || to == global_address) ≡ true → ((q : ℕ) (other : Lane) → slot_at slots q ≡ Some other → (is_one q || q == global_address) ≡ true) → (q : ℕ) (other : Lane) → slot_at (set slots to (Some lane)) q ≡ Some other → (is_one q || q == global_address) ≡ true
nodes_put slots to lane here old q other is = by (q == to) refl
  where
    by : (b : Bool) → (q == to) ≡ b → (is_one q || q == global_address) ≡ true
    by true e = subst (λ x. (is_one x || x == global_address) ≡ true) (sym (eqb-true q to e)) here
    by false e = old q other (sym (get_or-set_other slots to q (Some lane) None (eqb-false q to e)) ∙ is)

-- so there is none to the null address
pub none_to_null : (slots : List (Option Lane)) (lanes : Lanes) → lanes_below slots (length slots) ≡ lanes → ((q : ℕ) (other : Lane) → slot_at slots q ≡ Some other → (is_one q || q == global_address) ≡ true) → map.get lanes null_address ≡ None
none_to_null slots lanes view nodes = sym (ap (λ m. map.get m null_address) view) ∙ get_lanes slots null_address ∙ by (slot_at slots null_address) refl
  where
    by : (o : Option Lane) → slot_at slots null_address ≡ o → o ≡ None
    by None e = refl
    by (Some lane) e = absurd (true≢false (sym (nodes null_address lane e)))

-- a lane is put, and marked
pub marked_put : (slots : List (Option Lane)) (before after : AddressSet) (test : Lane → Bool) (to : ℕ) (lane : Lane) → length slots ≡ 256 → to < 256 → Marks slots before test → has after to ≡ test lane → ((q : ℕ) → q < 256 → q ≢ to → has after q ≡ has before q) → Marks (set slots to (Some lane)) after test
marked_put slots before after test to lane places here marks this others q other is = by (q == to) refl
  where
    by : (b : Bool) → (q == to) ≡ b → has after q ≡ test other
    by true e =
        let same : q ≡ to = eqb-true q to e in
        let put : slot_at (set slots to (Some lane)) to ≡ Some lane = get_or-set_same slots to (Some lane) None (omega (arith, places, here)) in
        ap (has after) same ∙ this ∙ ap (passes test) (sym put ∙ ap (slot_at (set slots to (Some lane))) (sym same) ∙ is)
    by false e =
        let apart : q ≢ to = eqb-false q to e in
        let old : slot_at slots q ≡ Some other = sym (get_or-set_other slots to q (Some lane) None apart) ∙ is in
        others q (omega (arith, places, inside slots q other old)) apart ∙ marks q other old
