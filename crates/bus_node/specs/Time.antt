-- How the clock advances, and what is done meanwhile without a command.
use Rattle.std.specs.Prelude.{◌≡◌, ℕ, zero, suc, ◌+◌, ◌-◌, Bool, true, false, ◌&&◌, not, nat_lt, if◌then◌else◌, Option, Some, None}
use Rattle.std.specs.Option.{option_map}
use Rattle.bus_frame.specs.Frames.{CanFrame}
use Rattle.pgn_ids.specs.declared.address.Address.{Address}
use Rattle.station_lanes.specs.LaneReaders.{least_below}
use Rattle.segment_law.specs.Segment.{Segment}
use Rattle.segment_law.specs.Calls.{called as called_on}
use Rattle.segment_law.specs.Readers.{front_at, pumps_to}
use Rattle.segment_law.specs.declared.call.Call.TheVariants.{Pump, Tick, Fire}
use Rattle.segment_law.specs.declared.refusal.Refusal.{Refusal}
use Rattle.segment_law.specs.declared.refusal.Refusal.TheVariants.{NotYet}
use Rattle.segment_state.specs.Answers.{refusal_of}
use Rattle.segment_state.specs.Due.{any_due}
use Rattle.node_parts.specs.Rests.{is_at_rest, wakes}
use Rattle.node_parts.specs.Stop.{next_stop}
use Rattle.node_parts.specs.declared.stop.Stop.{Stop}
use Rattle.node_parts.specs.declared.stop.Stop.TheVariants.{Timer, Last, Here}
use Rattle.bus_node.specs.Node.{Node, called}
use Rattle.bus_node.specs.Clock.{tick_at, started, has_jumped}
use Rattle.bus_node.specs.Putting.{putting}

-- the tick at which the next timer is due, if it is below the end
abbrev pub due_below : ℕ → Segment → Option ℕ
due_below end seg = least_below (any_due seg) end

abbrev pub is_not_yet : Option Refusal → Bool
is_not_yet (Some NotYet) = true
is_not_yet _ = false

-- the next frame of a broadcast waits for its time
abbrev pub is_pacing : Node → Bool
is_pacing n = is_not_yet (refusal_of (called_on n.station.segment (Pump n.station.address record { 0 = 255 })))

-- the tick up to which the clock advances at once: while a broadcast waits, the next one, else the first at which a destination no longer
-- rests
abbrev pub horizon : ℕ → Node → ℕ
horizon target n = if is_pacing n && nat_lt n.station.segment.now target then n.station.segment.now + 1 else wakes n.station.segment.now target n.rests

-- a frame can be queued to a destination, and it doesn't rest
abbrev pub may_pump : Node → (to : ℕ) → Bool
may_pump n to = pumps_to n.station.segment n.station.address to && not (is_at_rest n.rests n.station.segment.now to)

-- the lowest such destination
abbrev pub next_lane : Node → Option Address
next_lane n = option_map (λ to. record { 0 = to }) (least_below (may_pump n) 256)

-- the clock advances to a tick
abbrev pub at_tick : ℕ → Node → Node
at_tick tick n = called n (Tick (tick - n.station.segment.now))

-- the first timer that is due fires
abbrev pub fired : Node → Node
fired n = called n (Fire n.station.address)

-- the clock advances to a timer, which fires, or to the end; none if it is there
abbrev pub stopped : ℕ → Node → Stop → Option Node
stopped end n (Timer tick) = Some (fired (at_tick tick n))
stopped end n Last = Some (at_tick end n)
stopped end n Here = None

abbrev pub waited : ℕ → Node → Option Node
waited end n = stopped end n (next_stop n.station.segment.now (due_below (end + 1) n.station.segment) end)

-- the next frames to a destination are queued; if there are none, time passes
abbrev pub pumped : ℕ → Node → Option Address → Option Node
pumped target n (Some to) = Some (called n (Pump n.station.address to))
pumped target n None = waited (horizon target n) n

-- a frame that waits is put before anything else
abbrev pub fronted : ℕ → Node → Option CanFrame → Option Node
fronted target n (Some frame) = Some (putting n frame)
fronted target n None = pumped target n (next_lane n)

-- the next thing to do up to a tick; none if there is nothing
unfoldable pub step : ℕ → Node → Option Node
step target n = fronted target n (front_at n.station.segment n.station.address)

-- so many steps are made at most
unfoldable pub go_on : ℕ → ℕ → Node → Node
go_on zero target n = n
go_on (suc more) target n = elim (step target n) [ None ↦ n | Some m ↦ go_on more target m ]

-- how many steps the time of a line makes at most, and as many what is done of it
abbrev pub most_steps : ℕ
most_steps = 1000000

-- all that is to be done at the tick is done
unfoldable pub settled : Node → Node
settled n = go_on most_steps n.station.segment.now n

-- after a jump the clock is at the tick of the time at once, so that each timer that was due on the way fires once, there
abbrev pub leapt : Node → ℕ → Node
leapt n time = if has_jumped n time then at_tick (tick_at n time) n else n

-- then it advances to that tick, and each timer fires at its own
abbrev pub come_to_time : Node → ℕ → Node
come_to_time n time = go_on most_steps (tick_at n time) (leapt n time)

-- if the line says a time, the clock advances to it
unfoldable pub at_time : Node → Option ℕ → Node
at_time n None = n
at_time n (Some time) = come_to_time (started n time) time

-- How the code makes a step

abbrev pub Stepped : Bool → (before after : Node) → Option Node → Type 0
Stepped true before after step = step ≡ Some after
Stepped false before after step = (step ≡ None) × (after ≡ before)
