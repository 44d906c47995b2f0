-- What is kept for the stations.
use Rattle.std.specs.Prelude.{ℕ, ◌^◌, ◌<◌, ◌≤◌, max, All, IsTrue, IsSome, length}
use Rattle.bus_order.specs.Bus.{Bus, Cursor, kept_limit, bus_len, cursor_at, lowest, frame_at, frame_again}

-- every station can still take each frame from its cursor on, and repeat the one that it took last
pub record HoldsAhead (bus : Bus) : Type 0 where
  pub takes : (i place : ℕ) → i < length bus.cursors → (cursor_at bus i).place < place → place ≤ bus_len bus → IsSome (frame_at bus place)
  pub repeats : (i : ℕ) → i < length bus.cursors → IsTrue (cursor_at bus i).repeatable → IsSome (frame_again bus i)

-- a cursor is at one of the frames put, or before the first; if it may repeat one, there is a frame
pub record IsCursorWithin (len : ℕ) (c : Cursor) : Type 0 where
  pub within : c.place ≤ len
  pub repeats : IsTrue c.repeatable → 0 < c.place

-- what holds of every log: places begin with 1 and have 64 bits, at most 4,096 frames are kept, and among them are the
-- frame at the lowest cursor and all after it
pub record IsSound (bus : Bus) : Type 0 where
  pub from_one : 0 < bus.first
  pub room : length bus.kept ≤ kept_limit
  pub fits : bus_len bus < 2 ^ 64
  pub held : bus.first ≤ max 1 (lowest bus.cursors)
  pub cursors : All (IsCursorWithin (bus_len bus)) bus.cursors
