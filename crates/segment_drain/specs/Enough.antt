-- How many turns are enough, and when a drain with so many ends at rest.
use Rattle.std.specs.Prelude.{ℕ, ◌+◌, ◌*◌, ◌^◌, ◌<◌, ◌≤◌}
use Rattle.tick_timers.specs.declared.durations.TheConstants.{T3}
use Rattle.bus_order.specs.Bus.{bus_len}
use Rattle.segment_law.specs.Segment.{Segment}
use Rattle.work_law.specs.Work.{work}
use Rattle.work_law.specs.Course.{each_turn}
use Rattle.segment_drain.specs.Calm.{AreCalm}

-- no timer is longer than that of a sender for a CTS
abbrev pub longest_time : ℕ
longest_time = T3

-- how many calls may be left
abbrev pub calls_left : Segment → ℕ
calls_left seg = work (each_turn seg) seg

-- each of them works something off but a Tick, which another call follows
abbrev pub enough_turns : Segment → ℕ
enough_turns seg = 2 * calls_left seg + 2

-- no sender is asked to wait, the bus has a place for each frame that may come, and there are enough turns
pub record HasEnough (seg : Segment) (turns : ℕ) : Type 0 where
  pub calm : AreCalm seg
  pub places : bus_len seg.bus + calls_left seg + 1 < 2 ^ 64
  pub turns_left : enough_turns seg ≤ turns
