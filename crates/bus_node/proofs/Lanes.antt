-- The lowest destination that a frame may be queued to.
use Rattle.std.proofs.Common.{◌≡◌, ℕ, zero, suc, ◌<◌, Bool, true, false, not, ◌&&◌, Option, Some, None, refl, sym, ap, ◌∙◌, subst, arith}
use Rattle.std.specs.Option.{option_map}
use Rattle.std.proofs.lemmas.Option.{same_Some}
use Rattle.pgn_ids.specs.declared.address.Address.{Address}
use Rattle.station_lanes.specs.LaneReaders.{least_below, found_or}
use Rattle.station_lanes.proofs.Counting.{none_below, least_is}
use Rattle.segment_law.specs.Readers.{pumps_to, next_pump}
use Rattle.node_parts.specs.Rests.{is_at_rest}
use Rattle.bus_node.specs.Node.{Node}
use Rattle.bus_node.specs.Time.{may_pump, next_lane}

abbrev address_of : ℕ → Address
address_of to = record { 0 = to }

-- among fewer, there is none where there was none
fewer_none : (test other : ℕ → Bool) (n : ℕ) → least_below test n ≡ None → least_below (λ i. test i && other i) n ≡ None
unfolding least_below
fewer_none test other zero none = refl
fewer_none test other (suc n) none = by (least_below test n) refl none (λ h. fewer_none test other n h)
  where
    here : (b : Bool) → test n ≡ b → found_or None b n ≡ None → found_or None (test n && other n) n ≡ None
    here true is e = absurd cc
    here false is e = ap (λ b. found_or None (b && other n) n) is

    by : (o : Option ℕ) → least_below test n ≡ o → found_or o (test n) n ≡ None → (least_below test n ≡ None → least_below (λ i. test i && other i) n ≡ None) → found_or (least_below (λ i. test i && other i) n) (test n && other n) n ≡ None
    by (Some k) is e lower = absurd cc
    by None is e lower = ap (λ o. found_or o (test n && other n) n) (lower is) ∙ here (test n) refl e

-- the lowest is the lowest of fewer too, where it is one of them
fewer_least : (test other : ℕ → Bool) (n k : ℕ) → least_below test n ≡ Some k → other k ≡ true → least_below (λ i. test i && other i) n ≡ Some k
unfolding least_below
fewer_least test other zero k e is_in = absurd cc
fewer_least test other (suc n) k e is_in = by (least_below test n) refl e (λ h. fewer_least test other n k h is_in)
  where
    here : (b : Bool) → test n ≡ b → found_or None b n ≡ Some k → found_or None (test n && other n) n ≡ Some k
    here false is e = absurd cc
    here true is e =
        let same : n ≡ k = same_Some n k e in
        let both : test n && other n ≡ true = ap (λ b. b && other n) is ∙ (ap other same ∙ is_in) in
        ap (λ b. found_or None b n) both ∙ ap Some same

    by : (o : Option ℕ) → least_below test n ≡ o → found_or o (test n) n ≡ Some k → (least_below test n ≡ Some k → least_below (λ i. test i && other i) n ≡ Some k) → found_or (least_below (λ i. test i && other i) n) (test n && other n) n ≡ Some k
    by (Some j) is e lower = ap (λ o. found_or o (test n && other n) n) (lower (is ∙ e))
    by None is e lower = ap (λ o. found_or o (test n && other n) n) (fewer_none test other n is) ∙ here (test n) refl e

-- where nothing may be queued to a lower one
pub is_lowest : (n : Node) (to : ℕ) → least_below (may_pump n) to ≡ None → true ≡ may_pump n to → to < 256 → Some (address_of to) ≡ next_lane n
is_lowest n to none passes below = sym (ap (option_map address_of) (least_is (may_pump n) to 256 none (sym passes) below))

pub is_none : (n : Node) (to : ℕ) → least_below (may_pump n) to ≡ None → false ≡ may_pump n to → to ≡ 255 → None ≡ next_lane n
is_none n to none fails last =
    let all : least_below (may_pump n) 256 ≡ None = subst (λ i. least_below (may_pump n) i ≡ None) (omega (arith, last)) (none_below (may_pump n) to none (sym fails)) in
    sym (ap (option_map address_of) all)

pub next_none : (n : Node) → next_pump n.station.segment n.station.address ≡ None → None ≡ next_lane n
next_none n e = by (least_below (pumps_to n.station.segment n.station.address) 256) refl e
  where
    by : (o : Option ℕ) → least_below (pumps_to n.station.segment n.station.address) 256 ≡ o → option_map address_of o ≡ None → None ≡ next_lane n
    by (Some k) is e = absurd cc
    by None is e = sym (ap (option_map address_of) (fewer_none (pumps_to n.station.segment n.station.address) (λ to. not (is_at_rest n.rests n.station.segment.now to)) 256 is))

pub next_awake : (n : Node) (to : Address) → next_pump n.station.segment n.station.address ≡ Some to → is_at_rest n.rests n.station.segment.now to.0 ≡ false → Some to ≡ next_lane n
next_awake n to e awake = by (least_below (pumps_to n.station.segment n.station.address) 256) refl e
  where
    by : (o : Option ℕ) → least_below (pumps_to n.station.segment n.station.address) 256 ≡ o → option_map address_of o ≡ Some to → Some to ≡ next_lane n
    by None is e = absurd cc
    by (Some k) is e =
        let same : k ≡ to.0 = ap (λ (a : Address). a.0) (same_Some (address_of k) to e) in
        let wakes : not (is_at_rest n.rests n.station.segment.now k) ≡ true = ap (λ i. not (is_at_rest n.rests n.station.segment.now i)) same ∙ ap not awake in
        sym (ap (option_map address_of) (fewer_least (pumps_to n.station.segment n.station.address) (λ to. not (is_at_rest n.rests n.station.segment.now to)) 256 k is wakes) ∙ e)
