-- When a call may ask for memory.
use Rattle.std.specs.Prelude.{◌≡◌, ℕ, ◌<◌, ⊤, Bool, true, length, Option, Some, None}
use Rattle.bus_frame.specs.Frames.{CanFrame}
use Rattle.bus_order.specs.Bus.{next_frame}
use Rattle.station_core.specs.Station.{Station}
use Rattle.station_core.specs.Memory as station
use Rattle.segment_law.specs.Segment.{Segment, place_of, station_of}
use Rattle.segment_law.specs.declared.call.Call.{Call}
use Rattle.segment_law.specs.declared.call.Call.TheVariants.{Transmit, Take, Inject}

-- two frames or more are kept: from the first on there is room for two
abbrev pub KeepsTwo : Segment → Type 0
KeepsTwo seg = 1 < length seg.bus.kept

-- the next frame of the bus at a place
abbrev pub next_at : Segment → Option ℕ → Option CanFrame
next_at seg None = None
next_at seg (Some i) = next_frame seg.bus i

-- a frame for which memory may be missing: one that opens a session, completes a message or grants a window of ETP
abbrev pub TakeMayLackMemory : Option Station → Option CanFrame → (room : Bool) → Type 0
TakeMayLackMemory (Some st) (Some frame) room = station.MayLackMemory st frame room
TakeMayLackMemory _ _ room = ⊥

-- a Take asks for none without room, and with room only for such a frame; a frame that is put on the bus asks for some only if two or
-- more are kept; nothing is said of the other calls
abbrev pub MayAskMemory : Segment → Call → Type 0
MayAskMemory seg (Transmit a) = KeepsTwo seg
MayAskMemory seg (Take a room) = (room ≡ true) × TakeMayLackMemory (station_of seg a) (next_at seg (place_of seg a)) room
MayAskMemory seg (Inject f) = KeepsTwo seg
MayAskMemory seg call = ⊤
