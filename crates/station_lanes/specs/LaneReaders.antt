-- The readers of the lanes, their timers, and the lanes after an overrun.
use Rattle.std.specs.Prelude.{◌≡◌, ℕ, zero, suc, Bool, true, false, if◌then◌else◌, ◌+◌, ◌^◌, ◌<◌, ◌≤◌, nat_lt, length, List, [], ◌++◌, Option, Some, None, is_none}
use Rattle.std.specs.FinMap as map
use Rattle.pgn_ids.specs.declared.address.Address.{Address}
use Rattle.lane_core.specs.Fire.{is_lane_due, is_timed}
use Rattle.lane_core.specs.Pump.{missing, pump_refusal, is_ready}
use Rattle.lane_core.specs.Overrun.{overrun}
use Rattle.lane_core.specs.Cancel.{numbered, queues_abort}
use Rattle.lane_core.specs.Sight.{sight_of, nothing_seen}
use Rattle.lane_core.specs.declared.sight.LaneSight.{LaneSight}
use Rattle.lane_core.specs.declared.place.UnderWay.{UnderWay}
use Rattle.lane_core.specs.declared.place.UnderWay.TheVariants.{Connection}
use Rattle.lane_core.specs.declared.refused.PumpRefused.{PumpRefused}
use Rattle.lane_core.specs.declared.refused.PumpRefused.TheVariants.{NothingToSend}
use Rattle.message_events.specs.declared.event.Event.{Event}
use Rattle.station_lanes.specs.Lanes.{Lanes}
use Rattle.station_lanes.specs.LaneCalls.{stepped_lanes, step_at, outcome_of}

-- why nothing is queued to a destination
abbrev pub refusal_at : Lanes → (to now : ℕ) → Option PumpRefused
refusal_at lanes to now = elim (map.get lanes to) [ None ↦ Some NothingToSend | Some lane ↦ pump_refusal lane now ]

-- a message to a destination has this number and no outcome
abbrev pub is_pending_at : Lanes → (to number : ℕ) → Bool
is_pending_at lanes to number = elim (map.get lanes to) [ None ↦ false | Some lane ↦ numbered lane.pending number ]

-- what is under way is a connection
abbrev pub is_connection : UnderWay → Bool
is_connection (Connection s) = true
is_connection _ = false

-- a connection to a destination is under way
abbrev pub has_connection_to : Lanes → (to : ℕ) → Bool
has_connection_to lanes to = elim (map.get lanes to) [ None ↦ false | Some lane ↦ is_connection lane.under_way ]

-- no connection is under way to any address
abbrev pub HasNoConnection : Lanes → Type 0
HasNoConnection lanes = (to : ℕ) → to < 2 ^ 8 → has_connection_to lanes to ≡ false

-- cancelling it queues an abort
abbrev pub queues_abort_at : Lanes → (to number : ℕ) → Bool
queues_abort_at lanes to number = elim (map.get lanes to) [ None ↦ false | Some lane ↦ queues_abort lane number ]

-- the timer of the lane to a destination is due
abbrev pub is_due_at : Lanes → (now to : ℕ) → Bool
is_due_at lanes now to = elim (map.get lanes to) [ None ↦ false | Some lane ↦ is_lane_due lane now ]

-- the lane to a destination has a frame to queue, now or once a gap has passed
abbrev pub is_ready_at : Lanes → (to : ℕ) → Bool
is_ready_at lanes to = elim (map.get lanes to) [ None ↦ false | Some lane ↦ is_ready lane ]

-- a timer of the lane to a destination runs
abbrev pub is_timed_at : Lanes → (to : ℕ) → Bool
is_timed_at lanes to = elim (map.get lanes to) [ None ↦ false | Some lane ↦ is_timed lane ]

-- no number from one up to another passes
abbrev pub NonePasses : (ℕ → Bool) → (from to : ℕ) → Type 0
NonePasses test from to = (n : ℕ) → from ≤ n → n < to → test n ≡ false

-- the one that was found, or else this one if it passes
abbrev pub found_or : Option ℕ → (passes : Bool) → ℕ → Option ℕ
found_or (Some k) passes n = Some k
found_or None passes n = if passes then Some n else None

-- the least number below n that passes
unfoldable pub least_below : (ℕ → Bool) → ℕ → Option ℕ
least_below test zero = None
least_below test (suc n) = found_or (least_below test n) (test n) n

-- how many numbers below n pass
unfoldable pub count_below : (ℕ → Bool) → ℕ → ℕ
count_below test zero = 0
count_below test (suc n) = count_below test n + (if test n then 1 else 0)

-- a message to a destination has no outcome
abbrev pub is_waiting_at : Lanes → (to : ℕ) → Bool
is_waiting_at lanes to = elim (map.get lanes to) [ None ↦ false | Some lane ↦ nat_lt 0 (length lane.pending) ]

-- what is seen of the lane to a destination
abbrev pub sight_at : Lanes → (to : ℕ) → LaneSight
sight_at lanes to = elim (map.get lanes to) [ None ↦ nothing_seen | Some lane ↦ sight_of lane ]

-- a pump to a destination queues a frame
abbrev pub is_pumping : Lanes → (now to : ℕ) → Bool
is_pumping lanes now to = is_none (refusal_at lanes to now)

-- the lowest destination that is pumped
abbrev pub pumping_lane : Lanes → (now : ℕ) → Option ℕ
pumping_lane lanes now = least_below (is_pumping lanes now) 256

-- how many ticks are missing until the next frame of a broadcast
abbrev pub missing_at : Lanes → (to now : ℕ) → ℕ
missing_at lanes to now = elim (map.get lanes to) [ None ↦ 0 | Some lane ↦ missing lane now ]

-- the lowest destination whose lane is due
abbrev pub due_lane : Lanes → (now : ℕ) → Option ℕ
due_lane lanes now = least_below (is_due_at lanes now) 256

-- the lanes after an overrun of those to the destinations below n
unfoldable pub overrun_lanes : Lanes → ℕ → Lanes
overrun_lanes lanes zero = lanes
overrun_lanes lanes (suc to) = stepped_lanes (overrun_lanes lanes to) to overrun

-- the outcomes of an overrun, by rising destination
unfoldable pub overrun_events : Address → Lanes → ℕ → List Event
overrun_events from lanes zero = []
overrun_events from lanes (suc to) = overrun_events from lanes to ++ outcome_of from (record { 0 = to }) (step_at (overrun_lanes lanes to) to overrun).ended
