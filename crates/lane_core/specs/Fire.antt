-- When the timer of a lane is due, and what it does when it fires.
use Rattle.std.specs.Prelude.{ℕ, ◌+◌, Bool, true, false, nat_lt, if◌then◌else◌, None}
use Rattle.tick_timers.specs.Timers.{is_due}
use Rattle.tp_wire.specs.declared.outcome.Outcome.TheVariants.{Unreachable}
use Rattle.originator.specs.Endings.{expired}
use Rattle.originator.specs.Readers.{has_timer, is_state_due, link_of}
use Rattle.lane_core.specs.declared.place.UnderWay.TheVariants.{Broadcast, Connection, Nothing}
use Rattle.lane_core.specs.Step.{LaneStep}
use Rattle.lane_core.specs.declared.probe.Standing.TheVariants.{Probing}
use Rattle.lane_core.specs.declared.probe.Standing.{Standing}
use Rattle.lane_core.specs.declared.place.UnderWay.{UnderWay}
use Rattle.lane_core.specs.Lane.{Lane}
use Rattle.lane_core.specs.Endings.{connection_over, over, still}
use Rattle.lane_core.specs.Probe.{most_requests, probes}

-- the timer of the connection under way, else that of the Request
abbrev pub is_probe_due : Standing → (now : ℕ) → Bool
is_probe_due (Probing count timer) now = is_due timer now
is_probe_due _ now = false

abbrev pub due_by : UnderWay → Standing → (now : ℕ) → Bool
due_by (Connection s) standing now = is_state_due s now
due_by Nothing standing now = is_probe_due standing now
due_by (Broadcast s) standing now = false

abbrev pub is_lane_due : Lane → (now : ℕ) → Bool
is_lane_due lane now = due_by lane.under_way lane.standing now

-- a timer runs: that of the connection under way, else that of the Request
abbrev pub is_probing : Standing → Bool
is_probing (Probing count timer) = true
is_probing _ = false

abbrev pub timed_by : UnderWay → Standing → Bool
timed_by (Connection s) standing = has_timer s
timed_by Nothing standing = is_probing standing
timed_by (Broadcast s) standing = false

abbrev pub is_timed : Lane → Bool
is_timed lane = timed_by lane.under_way lane.standing

-- the Request was not answered: it is repeated, and after the third the lane gives up, with the front message
abbrev pub probe_fired : Standing → Lane → (now : ℕ) → Lane × LaneStep
probe_fired (Probing count timer) lane now = if nat_lt count most_requests then probes lane (count + 1) now else over lane Unreachable None
probe_fired _ lane now = still lane

abbrev pub fired_by : UnderWay → Lane → (now : ℕ) → Lane × LaneStep
fired_by (Connection s) lane now = connection_over lane (expired (link_of s))
fired_by Nothing lane now = probe_fired lane.standing lane now
fired_by (Broadcast s) lane now = still lane

abbrev pub fired : Lane → (now : ℕ) → Lane × LaneStep
fired lane now = fired_by lane.under_way lane now
