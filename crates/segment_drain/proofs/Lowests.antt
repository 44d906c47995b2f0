-- The lowest address that can do something, the most frames that wait, and the next tick.
use Rattle.std.proofs.Common.{◌≡◌, ℕ, ◌+◌, ◌-◌, ◌^◌, max, ◌<◌, ◌≤◌, Bool, true, Some, None, refl, sym, ap, ◌∙◌, arith, add-one}
use Rattle.std.specs.Option.{option_map}
use Rattle.tick_timers.specs.Due.{IsNextFrom}
use Rattle.station_lanes.specs.LaneReaders.{least_below}
use Rattle.station_lanes.proofs.Counting.{same_up_to, none_below, least_is, none_from}
use Rattle.segment_law.specs.Segment.{Segment, waiting_at}
use Rattle.segment_state.specs.Next.{any_work}
use Rattle.segment_drain.specs.Chosen.{can, node, lowest, most_waiting, next_tick}
use Rattle.segment_drain.specs.declared.kind.Kind.{Kind}

pub most_from : (seg : Segment) → most_waiting seg 0 ≡ 0
unfolding most_waiting
most_from seg = refl

pub most_next : (seg : Segment) (n : ℕ) → most_waiting seg (n + 1) ≡ max (most_waiting seg n) (waiting_at seg (node n))
unfolding most_waiting
most_next seg n = rw add-one refl

pub ruleset most_laws = (most_from, most_next)

-- the first address that can do it
pub lowest_is : (seg : Segment) (kind : Kind) (n : ℕ) → least_below (λ k. can seg kind (node k)) n ≡ None → can seg kind (node n) ≡ true → n < 254 → Some (node n) ≡ lowest seg kind
lowest_is seg kind n none passes below = sym (ap (option_map node) (least_is (λ k. can seg kind (node k)) n 254 none passes below))

pub ruleset lowest_laws = (none_below, none_from, lowest_is)

-- the reader names the next tick
pub next_never : (seg : Segment) → IsNextFrom (any_work seg) seg.now None → None ≡ next_tick seg
next_never seg never = sym (ap (option_map (λ k. seg.now + k)) (same_up_to (λ k. any_work seg (seg.now + k)) 0 (2 ^ 64 - seg.now) (omega arith) (λ k from below. never (seg.now + k) (omega arith) (omega (arith, below))) ∙ none_from (λ k. any_work seg (seg.now + k))))

pub next_first : (seg : Segment) (t : ℕ) → t < 2 ^ 64 → IsNextFrom (any_work seg) seg.now (Some t) → Some t ≡ next_tick seg
next_first seg t last first =
    let later : seg.now ≤ t = first.from_now in
    let same : seg.now + (t - seg.now) ≡ t = omega (arith, later) in
    let none : least_below test (t - seg.now) ≡ None = same_up_to test 0 (t - seg.now) (omega arith) (λ k from below. first.not_before (seg.now + k) (omega arith) (omega (arith, below, later))) ∙ none_from test in
    let passes : test (t - seg.now) ≡ true = ap (any_work seg) same ∙ first.is_then in
    sym (ap (option_map (λ k. seg.now + k)) (least_is test (t - seg.now) (2 ^ 64 - seg.now) none passes (omega (arith, last, later))) ∙ ap (λ (n : ℕ). Some n) same)
  where
    test : ℕ → Bool
    test k = any_work seg (seg.now + k)

pub ruleset next_laws = (next_never, next_first)
