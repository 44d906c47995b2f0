-- The frames of the bus past the cursor of a station, place by place.
use Rattle.std.proofs.Common.{◌≡◌, ℕ, ◌+◌, ◌-◌, ◌<◌, ◌≤◌, length, refl, ap, ◌∙◌, sym, arith}
use Rattle.std.specs.Prelude.{slice_get}
use Rattle.std.proofs.lemmas.Bool.{le-leb}
use Rattle.bus_frame.specs.Frames.{CanFrame}
use Rattle.bus_order.specs.Bus.{Bus, cursor_at, bus_len, frame_at, waiting}
use Rattle.bus_order.specs.Kept.{IsSound}
use Rattle.bus_order.proofs.Steps.{read_within, read_held}
use Rattle.work_law.specs.Work.{sum_below, sum_over, ahead_of}
use Rattle.work_law.proofs.Sums.{below_same}
use Rattle.segment_work.specs.Terms.{at}
use Rattle.segment_work.proofs.Sums.{over_rest}

-- a frame that is kept, by its place
frame_is : (bus : Bus) (place j : ℕ) → bus.first ≤ place → place - bus.first ≡ j → frame_at bus place ≡ slice_get bus.kept j
frame_is bus place j held e = rw (le-leb bus.first place held) (ap (slice_get bus.kept) e)

pub ahead_is : (f : CanFrame → ℕ) (bus : Bus) (i : ℕ) → IsSound bus → i < length bus.cursors
    → sum_over f (ahead_of bus i) ≡ sum_below (λ k. at f (frame_at bus ((cursor_at bus i).place + k + 1))) (waiting bus i)
ahead_is f bus i sound within =
    let last : (cursor_at bus i).place ≤ bus_len bus = read_within bus i (cursor_at bus i) sound within refl in
    let held : bus.first ≤ (cursor_at bus i).place + 1 = read_held bus i (cursor_at bus i) sound within refl in
    let some : 0 < bus.first = sound.from_one in
    let count : length bus.kept - ((cursor_at bus i).place + 1 - bus.first) ≡ waiting bus i = omega (arith, last, held, some) in
    over_rest f ((cursor_at bus i).place + 1 - bus.first) bus.kept
    ∙ below_same (λ k. at f (slice_get bus.kept ((cursor_at bus i).place + 1 - bus.first + k))) (λ k. at f (frame_at bus ((cursor_at bus i).place + k + 1)))
    (length bus.kept - ((cursor_at bus i).place + 1 - bus.first))
    (λ k below. ap (at f) (sym (frame_is bus ((cursor_at bus i).place + k + 1) ((cursor_at bus i).place + 1 - bus.first + k) (omega (arith, held)) (omega (arith, held)))))
    ∙ ap (sum_below (λ k. at f (frame_at bus ((cursor_at bus i).place + k + 1)))) count
