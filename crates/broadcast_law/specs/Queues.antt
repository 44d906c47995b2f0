-- Whose frames wait in transmit queues.
use Rattle.std.specs.Prelude.{◌≡◌, ℕ, All, Some, slice_get}
use Rattle.pgn_ids.specs.Identifier.{meaning_of}
use Rattle.station_core.specs.Station.{Station}
use Rattle.segment_law.specs.Segment.{Segment}

-- each frame in the queue of a station has that station's source address
abbrev pub QueueTheirOwn : Segment → Type 0
QueueTheirOwn seg = (i : ℕ) (st : Station) → slice_get seg.stations i ≡ Some st → All (λ frame. (meaning_of frame.id).from ≡ st.address) st.queue
