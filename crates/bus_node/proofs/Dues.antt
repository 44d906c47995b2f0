-- The least tick at which a timer is due, and that at which a segment has something to do.
use Rattle.std.proofs.Common.{◌≡◌, ℕ, ◌+◌, ◌<◌, ◌≤◌, ◌^◌, Bool, true, false, ◌&&◌, nat_le, Some, None, refl, ◌∙◌, ap, arith}
use Rattle.std.proofs.lemmas.Bool.Decides.{nat_tests}
use Rattle.tick_timers.specs.Due.{IsDueFrom, IsNextFrom}
use Rattle.station_lanes.specs.LaneReaders.{least_below}
use Rattle.station_lanes.proofs.Counting.{same_up_to, least_is, none_from}
use Rattle.segment_law.specs.Segment.{Segment}
use Rattle.segment_state.specs.Due.{any_due}
use Rattle.segment_state.specs.Next.{any_work}
use Rattle.bus_node.specs.Due.{works_at, next_work}
use Rattle.bus_node.specs.Time.{due_below}

early : (tick n : ℕ) → n < tick → nat_le tick n ≡ false
early tick n h = grind (arith, nat_tests, h)

come : (tick : ℕ) → nat_le tick tick ≡ true
come tick = grind (arith, nat_tests)

-- nothing is due below the tick
none_before : (test : ℕ → Bool) (tick n : ℕ) → IsDueFrom test (Some tick) → n ≤ tick → n ≤ 2 ^ 64 → least_below test n ≡ None
none_before test tick n due before within =
    same_up_to test 0 n (omega arith) (λ i from below. due i (omega (arith, below, within)) ∙ early tick i (omega (arith, below, before))) ∙ none_from test

pub due_is_below : (seg : Segment) (tick last : ℕ) → IsDueFrom (any_due seg) (Some tick) → tick ≤ last → last < 2 ^ 64 → due_below (last + 1) seg ≡ Some tick
due_is_below seg tick last due within fits =
    least_is (any_due seg) tick (last + 1) (none_before (any_due seg) tick tick due (omega arith) (omega (arith, within, fits))) (due tick (omega (arith, within, fits)) ∙ come tick) (omega (arith, within))

pub due_is_above : (seg : Segment) (tick last : ℕ) → IsDueFrom (any_due seg) (Some tick) → last < tick → last < 2 ^ 64 → due_below (last + 1) seg ≡ None
due_is_above seg tick last due above fits = none_before (any_due seg) tick (last + 1) due (omega (arith, above)) (omega (arith, fits))

pub none_is_due : (seg : Segment) (last : ℕ) → IsDueFrom (any_due seg) None → last < 2 ^ 64 → due_below (last + 1) seg ≡ None
none_is_due seg last due fits = same_up_to (any_due seg) 0 (last + 1) (omega arith) (λ i from below. due i (omega (arith, below, fits))) ∙ none_from (any_due seg)

-- a tick before that of the clock doesn't count
idle_at : (now tick : ℕ) (works : Bool) → (now ≤ tick → works ≡ false) → (nat_le now tick && works) ≡ false
idle_at now tick works idle = by (nat_le now tick) refl
  where
    by : (come : Bool) → nat_le now tick ≡ come → (come && works) ≡ false
    by false is = refl
    by true is = idle (grind (arith, nat_tests, is))

pub next_is : (seg : Segment) (tick : ℕ) → IsNextFrom (any_work seg) seg.now (Some tick) → tick < 2 ^ 64 → next_work seg ≡ Some tick
next_is seg tick first fits =
    let before : least_below (works_at seg) tick ≡ None =
    same_up_to (works_at seg) 0 tick (omega arith) (λ i from below. idle_at seg.now i (any_work seg i) (λ come_to. first.not_before i come_to below)) ∙ none_from (works_at seg) in
    let now_come : nat_le seg.now tick ≡ true = (let h = first.from_now in grind (arith, nat_tests, h)) in
    least_is (works_at seg) tick (2 ^ 64) before (ap (λ b. b && any_work seg tick) now_come ∙ first.is_then) fits

pub next_is_none : (seg : Segment) → IsNextFrom (any_work seg) seg.now None → next_work seg ≡ None
next_is_none seg none =
    same_up_to (works_at seg) 0 (2 ^ 64) (omega arith) (λ i from below. idle_at seg.now i (any_work seg i) (λ come_to. none i come_to below)) ∙ none_from (works_at seg)
