-- Ticks before which a station has nothing to do by itself.
use Rattle.std.specs.Prelude.{◌≡◌, ℕ, ◌<◌, Bool, false, if◌then◌else◌, nat_lt, List, slice_index_or, slice_set}
use Rattle.bus_frame.specs.Frames.{CanFrame}
use Rattle.pgn_ids.specs.declared.address.Address.{Address}
use Rattle.tx_queue.specs.Queue.{free_places}
use Rattle.station_core.specs.Refusals.{pump_places}
use Rattle.segment_law.specs.Segment.{Segment, station_at}
use Rattle.segment_law.specs.declared.call.Call.{Call}
use Rattle.segment_law.specs.declared.call.Call.TheVariants.{Open, Close, Send, Pump, Transmit, Take, TakeAgain, Overrun, Tick, Fire, Cancel, Inject, Pause, Resume}
use Rattle.segment_state.specs.Next.{at_tick, is_active}

-- one tick for each address
abbrev pub AreCalm : List ℕ → Segment → Type 0
AreCalm ticks seg = (a : Address) (tick : ℕ) → tick < slice_index_or ticks a.0 0 → is_active (at_tick seg tick) a ≡ false

-- nothing is known of a station
abbrev pub forgotten : Address → List ℕ → List ℕ
forgotten a ticks = slice_set ticks a.0 0

-- a queue has fewer places than a pump wants
abbrev pub lacks_places : List CanFrame → Bool
lacks_places queue = nat_lt (free_places queue) pump_places

-- a call may change the station that it names. A frame that leaves its queue may give a pump its places, and makes no other difference
abbrev pub known_after : Segment → Call → List ℕ → List ℕ
known_after seg (Open a pgn max_len) ticks = forgotten a ticks
known_after seg (Close port) ticks = forgotten port.station ticks
known_after seg (Send from to pgn bytes) ticks = forgotten from ticks
known_after seg (Pump a to) ticks = forgotten a ticks
known_after seg (Transmit a) ticks = if lacks_places (station_at seg a).queue then forgotten a ticks else ticks
known_after seg (Take a room) ticks = forgotten a ticks
known_after seg (TakeAgain a room) ticks = forgotten a ticks
known_after seg (Overrun a n) ticks = forgotten a ticks
known_after seg (Tick n) ticks = ticks
known_after seg (Fire a) ticks = forgotten a ticks
known_after seg (Cancel from to number) ticks = forgotten from ticks
known_after seg (Inject frame) ticks = ticks
known_after seg (Pause port) ticks = forgotten port.station ticks
known_after seg (Resume port) ticks = forgotten port.station ticks
