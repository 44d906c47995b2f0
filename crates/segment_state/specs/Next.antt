-- What a segment has to do by itself: without a frame from elsewhere, and without a call of its program.
use Rattle.std.specs.Prelude.{ℕ, Bool, true, ◌||◌, is_some, is_ok}
use Rattle.std.specs.List.{list_any}
use Rattle.pgn_ids.specs.declared.address.Address.{Address}
use Rattle.segment_law.specs.Segment.{Segment}
use Rattle.segment_law.specs.Calls.{called}
use Rattle.segment_law.specs.Readers.{next_pump, is_due}
use Rattle.segment_law.specs.declared.call.Call.{Call}
use Rattle.segment_law.specs.declared.call.Call.TheVariants.{Transmit, Take, Fire}

-- the segment, with its clock at a tick
abbrev pub at_tick : Segment → (tick : ℕ) → Segment
at_tick seg tick = record seg { now = tick }

-- a timer of a station is due, or one of its lanes has a frame to queue
abbrev pub is_active : Segment → Address → Bool
is_active seg a = is_due seg a || is_some (next_pump seg a)

-- a call would not be refused
abbrev pub passes : Segment → Call → Bool
passes seg call = is_ok (called seg call)

-- a station's Transmit, its Take, its Pump to some destination or its Fire would not be refused
abbrev pub has_work : Segment → Address → Bool
has_work seg a = (passes seg (Transmit a) || passes seg (Take a true)) || (is_some (next_pump seg a) || passes seg (Fire a))

-- at a tick, some station has work
abbrev pub any_work : Segment → (tick : ℕ) → Bool
any_work seg tick = list_any (λ station. has_work (at_tick seg tick) station.address) seg.stations
