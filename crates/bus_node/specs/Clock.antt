-- How the times that lines say and the ticks of the clock belong together.
use Rattle.std.specs.Prelude.{ℕ, ◌-◌, ◌*◌, ◌/◌, ◌^◌, min, Bool, nat_lt, if◌then◌else◌, Some, None, unwrap_or, codes}
use Rattle.log_fields.specs.declared.time.TheConstants.{LATE}
use Rattle.script_text.specs.Parts.{line}
use Rattle.node_parts.specs.Sums.{plus}
use Rattle.bus_node.specs.Node.{Node, told}
use Rattle.bus_node.specs.declared.clock.TheConstants.{JUMP}

-- the time of the clock's tick: a thousand microseconds each from the tick on at which the time began to count
abbrev pub time_of : Node → ℕ
time_of n = plus (unwrap_or n.start 0) (min ((n.station.segment.now - n.since) * 1000) (2 ^ 64 - 1))

-- the tick of a time
abbrev pub tick_at : Node → ℕ → ℕ
tick_at n time = plus n.since ((time - unwrap_or n.start time) / 1000)

-- this is the time of the clock's tick from now on
abbrev pub counted_from : Node → ℕ → Node
counted_from n time = record n { since = n.station.segment.now; start = Some time }

-- a time is more than a second before that of the clock. One that is less before it is late
abbrev pub went_back : Node → ℕ → Bool
went_back n time = nat_lt LATE (time_of n - time)

-- a time is more than ten minutes ahead of the clock's. By then all that is under way has ended but for holds, so the time is from a clock that
-- was set, or a bus that rested
abbrev pub has_jumped : Node → ℕ → Bool
has_jumped n time = nat_lt JUMP (time - time_of n)

-- the first time that is seen is that of tick 0; if one went back, this is printed, and the time counts from it on
abbrev pub started : Node → ℕ → Node
started n time = elim n.start [
  | None ↦ counted_from n time
  | Some start ↦ if went_back n time then told (counted_from n time) (line (codes "time went back")) else n
]
