-- Every station sees the bus in order.
use Rattle.std.specs.Prelude.{◌≡◌, ℕ, ◌-◌, ◌<◌, ◌≤◌, List, length, drop, Option, Some, slice_get}
use Rattle.bus_frame.specs.Frames.{CanFrame}
use Rattle.bus_order.specs.Bus.{Bus, bus_len, cursor_at, next_frame, frame_again}

-- the newest place is the number of all frames put, and those kept are the last of them, from the first kept place on
pub record HoldsLastOf (history : List CanFrame) (bus : Bus) : Type 0 where
  pub len : bus_len bus ≡ length history
  pub kept : bus.kept ≡ drop (bus.first - 1) history

-- what a station saw is the bus in order: at each place that its cursor moved over it took the frame put there, or
-- passed over it. The next frame that it takes is the one put at the place behind these, and the frame that it repeats
-- is the one that it took last
pub record SeesInOrder (history : List CanFrame) (bus : Bus) (i : ℕ) (seen : List (Option CanFrame)) : Type 0 where
  pub place : (cursor_at bus i).place ≡ length seen
  pub within : length seen ≤ length history
  pub taken : (k : ℕ) (frame : CanFrame) → slice_get seen k ≡ Some (Some frame) → slice_get history k ≡ Some frame
  pub next : next_frame bus i ≡ slice_get history (length seen)
  pub again : (frame : CanFrame) → frame_again bus i ≡ Some frame → (0 < length seen) × (slice_get seen (length seen - 1) ≡ Some (Some frame))
