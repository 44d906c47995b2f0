use Rattle.std.proofs.Common.{◌≡◌, ℕ, ◌<◌, ◌≤◌, length, get_or}
use Rattle.segment_rings.specs.Views.{DoorView, CutDoor}
use Rattle.live_ends.proofs.cutting.cut_doors.Given as goal

abbrev pub invariant-loop-k : goal.invariant-loop-k
invariant-loop-k l = (length l.doors.items ≡ length l.initial.doors.items) × ((k : ℕ) (x : DoorView) → k < l.k → CutDoor (get_or l.initial.doors.items k x) (get_or l.doors.items k x)) × ((k : ℕ) (x : DoorView) → l.k ≤ k → get_or l.doors.items k x ≡ get_or l.initial.doors.items k x)
