-- The transmit queue of a station: a list of frames, first in, first out.
use Rattle.std.specs.Prelude.{ℕ, ◌-◌, List, [], ◌∷◌, ◌++◌, length, drop, Option, slice_get}
use Rattle.bus_frame.specs.Frames.{CanFrame}

-- how many frames it holds at most
abbrev pub queue_limit : ℕ
queue_limit = 64

-- how many more frames it has room for
abbrev pub free_places : List CanFrame → ℕ
free_places queue = queue_limit - length queue

-- the frame that leaves next: the first one queued
abbrev pub front : List CanFrame → Option CanFrame
front queue = slice_get queue 0

-- the frames behind that one
abbrev pub behind : List CanFrame → List CanFrame
behind queue = drop 1 queue

-- a frame is queued behind all others
abbrev pub queued : List CanFrame → CanFrame → List CanFrame
queued queue frame = queue ++ frame ∷ []
