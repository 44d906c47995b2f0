use Rattle.std.proofs.Common.{◌≡◌, ℕ, ◌<◌, ◌≤◌, length, get_or}
use Rattle.segment_rings.specs.Views.{SeatView, CutSeat}
use Rattle.live_ends.proofs.cutting.cut_seats.Given as goal

abbrev pub invariant-loop-k : goal.invariant-loop-k
invariant-loop-k l = (length l.seats.items ≡ length l.initial.seats.items) × ((k : ℕ) (x : SeatView) → k < l.k → CutSeat (get_or l.initial.seats.items k x) (get_or l.seats.items k x)) × ((k : ℕ) (x : SeatView) → l.k ≤ k → get_or l.seats.items k x ≡ get_or l.initial.seats.items k x)
