-- The bus: the frames in the order in which they were put, as far as they are kept, and how far each station is.
use Rattle.std.specs.Prelude.{ℕ, ◌+◌, ◌-◌, ◌^◌, min, max, Bool, true, false, ◌||◌, not, nat_le, nat_lt, if◌then◌else◌, List, [], ◌∷◌, ◌++◌, length, drop, replicate, fold, Option, None, slice_get, slice_set, slice_index_or}
use Rattle.bus_frame.specs.Frames.{CanFrame}

-- the place, from 1, of the frame that a station took or passed over last, at first 0; and whether a frame was taken
-- since frames were passed over last
pub record Cursor : Type 0 where
  pub place : ℕ
  pub repeatable : Bool

-- the place of the first kept frame (if none is kept, of the next one put), the kept frames, and each station's
-- cursor
pub record Bus : Type 0 where
  pub first : ℕ
  pub kept : List CanFrame
  pub cursors : List Cursor

-- how many frames are kept at most
abbrev pub kept_limit : ℕ
kept_limit = 4096

-- a cursor before all frames
abbrev pub start : Cursor
start = record { place = 0; repeatable = false }

-- no frame was put, and all cursors are before the first
abbrev pub new_bus : ℕ → Bus
new_bus stations = record { first = 1; kept = []; cursors = replicate stations start }

-- how many frames were put
abbrev pub bus_len : Bus → ℕ
bus_len bus = bus.first + length bus.kept - 1

-- the cursor of a station
abbrev pub cursor_at : Bus → ℕ → Cursor
cursor_at bus i = slice_index_or bus.cursors i start

-- the frame at a place, if it is kept
abbrev pub frame_at : Bus → ℕ → Option CanFrame
frame_at bus place = if nat_le bus.first place then slice_get bus.kept (place - bus.first) else None

-- the frame behind the cursor
abbrev pub next_frame : Bus → ℕ → Option CanFrame
next_frame bus i = frame_at bus ((cursor_at bus i).place + 1)

-- the frame at the cursor, if one was taken since frames were last passed over
abbrev pub frame_again : Bus → ℕ → Option CanFrame
frame_again bus i = if (cursor_at bus i).repeatable then frame_at bus (cursor_at bus i).place else None

-- how many frames a station has neither taken nor passed over
abbrev pub waiting : Bus → ℕ → ℕ
waiting bus i = bus_len bus - (cursor_at bus i).place

-- no room for one more frame, or no place of 64 bits
abbrev pub is_full : Bus → Bool
is_full bus = nat_le kept_limit (length bus.kept) || not (nat_lt (bus_len bus + 1) (2 ^ 64))

-- a frame is put behind the newest
abbrev pub put : Bus → CanFrame → Bus
put bus frame = record bus { kept = bus.kept ++ frame ∷ [] }

-- a station takes the frame behind its cursor
abbrev pub taken : Bus → ℕ → Bus
taken bus i = record bus { cursors = slice_set bus.cursors i (record { place = (cursor_at bus i).place + 1; repeatable = true }) }

-- a station passes over the n frames behind its cursor
abbrev pub passed : Bus → ℕ → ℕ → Bus
passed bus i n = record bus { cursors = slice_set bus.cursors i (record { place = (cursor_at bus i).place + n; repeatable = false }) }

-- the place of the cursor furthest behind; 0 if there is none
abbrev pub lowest : List Cursor → ℕ
lowest [] = 0
lowest (c ∷ cs) = fold (λ least other. min least other.place) c.place cs

-- the frames from the lowest cursor on are kept; all are kept if that cursor is at 0
abbrev pub released : Bus → Bus
released bus =
    let from = max 1 (lowest bus.cursors) in
    record bus { first = from; kept = drop (from - bus.first) bus.kept }
