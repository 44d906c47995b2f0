-- When nothing is left to be done.
use Rattle.std.specs.Prelude.{◌≡◌, ◌⊎◌, ℕ, ◌+◌, ◌^◌, ◌≤◌, Bool, true, ◌&&◌, List, is_none}
use Rattle.bus_order.specs.Bus.{bus_len}
use Rattle.message_events.specs.declared.event.Event.{Event}
use Rattle.segment_law.specs.Segment.{Segment}
use Rattle.segment_law.specs.Calls.{applied}
use Rattle.segment_law.specs.Drift.{at_tick}
use Rattle.segment_law.specs.Readers.{is_idle}
use Rattle.segment_law.specs.Record.{Record}
use Rattle.segment_law.specs.declared.call.Call.{Call}
use Rattle.segment_law.specs.declared.reply.Reply.TheVariants.{Done}
use Rattle.segment_drain.specs.Chosen.{next_tick}
use Rattle.work_law.specs.Rest.{is_turn, HasRested, AllEnded}

-- all queues are empty, no frame waits for a station, no lane has anything to queue, and nothing can be done at any later tick
abbrev pub rests : Segment → Bool
rests seg = is_idle seg && is_none (next_tick seg)

-- a call could be done only past the clock's last tick
pub record IsLate (seg : Segment) : Type 0 where
  pub tick : ℕ
  pub past : 2 ^ 64 ≤ tick
  pub call : Call
  pub turn : is_turn call ≡ true
  pub events : List Event
  pub done : (applied (at_tick seg tick) call).1 ≡ Done events

-- a segment at a record is at rest, and each message that was sent has its outcome; but a timer may be due past the clock's last tick,
-- or all places of the bus may be used
abbrev pub IsAtRest : Record → Segment → Type 0
IsAtRest steps seg = (HasRested seg × AllEnded steps) ⊎ IsLate seg ⊎ (2 ^ 64 ≤ bus_len seg.bus + 1)
