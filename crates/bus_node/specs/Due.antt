-- When something is next due.
use Rattle.std.specs.Prelude.{ℕ, ◌-◌, ◌^◌, min, max, Bool, ◌&&◌, nat_le, nat_lt, if◌then◌else◌, Option, Some, None}
use Rattle.station_lanes.specs.LaneReaders.{least_below}
use Rattle.segment_law.specs.Segment.{Segment}
use Rattle.segment_state.specs.Next.{any_work}
use Rattle.node_parts.specs.Sums.{plus}
use Rattle.node_parts.specs.Rests.{wakes}
use Rattle.bus_node.specs.Node.{Node}
use Rattle.bus_node.specs.Time.{due_below, is_pacing}

-- the last tick
abbrev pub last : ℕ
last = 2 ^ 64 - 1

-- a tick isn't before that of the clock, and the segment has something to do then
abbrev pub works_at : Segment → (tick : ℕ) → Bool
works_at seg tick = nat_le seg.now tick && any_work seg tick

-- the first such tick
abbrev pub next_work : Segment → Option ℕ
next_work seg = least_below (works_at seg) (2 ^ 64)

-- while a broadcast waits for its time, the first tick at which the segment has something to do. If that has passed, all that there is to do
-- rests, and it is the next tick. Without such a broadcast, the last tick
abbrev pub paced_until : Node → ℕ
paced_until n = if is_pacing n then elim (next_work n.station.segment) [ None ↦ last | Some tick ↦ max tick (plus n.station.segment.now 1) ] else last

-- the earlier of a tick, if there is one, and another, of which the last tick means none
abbrev pub first_of : Option ℕ → ℕ → Option ℕ
first_of None wake = if nat_lt wake last then Some wake else None
first_of (Some tick) wake = Some (min tick wake)

-- the tick at which the next timer is due, a destination no longer rests, or a broadcast continues
abbrev pub next_due : Node → Option ℕ
next_due n = first_of (due_below (2 ^ 64) n.station.segment) (min (wakes n.station.segment.now last n.rests) (paced_until n))
