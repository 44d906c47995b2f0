-- A lane with no frame to queue isn't pumped, and one without a running timer isn't due.
use Rattle.std.proofs.Common.{◌≡◌, ℕ, ◌≤◌, Bool, false, Option, Some, None, refl, true≢false}
use Rattle.std.specs.Prelude.{is_none}
use Rattle.std.specs.FinMap as map
use Rattle.originator.specs.Readers.{has_timer, is_state_due}
use Rattle.originator.specs.declared.states.OutState.{OutState}
use Rattle.originator.specs.declared.states.OutState.TheVariants.{AwaitCts, Sending, AwaitEnd}
use Rattle.lane_core.specs.declared.place.UnderWay.{UnderWay}
use Rattle.lane_core.specs.declared.place.UnderWay.TheVariants.{Nothing, Broadcast, Connection}
use Rattle.lane_core.specs.declared.probe.Standing.{Standing}
use Rattle.lane_core.specs.declared.probe.Standing.TheVariants.{Settled, InDoubt, Probing}
use Rattle.lane_core.specs.Lane.{Lane}
use Rattle.lane_core.specs.Pump.{refusal_by, ready_by, pump_refusal, is_ready}
use Rattle.lane_core.specs.Fire.{due_by, timed_by, is_lane_due, is_timed}
use Rattle.lane_core.specs.declared.refused.PumpRefused.{PumpRefused}
use Rattle.lane_core.specs.declared.refused.PumpRefused.TheVariants.{NothingToSend}
use Rattle.station_lanes.specs.Lanes.{Lanes}
use Rattle.station_lanes.specs.LaneReaders.{is_pumping, is_due_at, is_ready_at, is_timed_at, NonePasses, least_below}
use Rattle.station_lanes.proofs.Counting.{same_up_to}

unready : (u : UnderWay) (lane : Lane) (now : ℕ) → ready_by u lane ≡ false → is_none (refusal_by u lane now) ≡ false
unready Nothing lane now e = e
unready (Broadcast s) lane now e = absurd (true≢false e)
unready (Connection (Sending s)) lane now e = absurd (true≢false e)
unready (Connection (AwaitCts s)) lane now e = refl
unready (Connection (AwaitEnd s)) lane now e = refl

untimed_state : (s : OutState) (now : ℕ) → has_timer s ≡ false → is_state_due s now ≡ false
untimed_state (AwaitCts s) now e = absurd (true≢false e)
untimed_state (Sending s) now e = refl
untimed_state (AwaitEnd s) now e = absurd (true≢false e)

untimed : (u : UnderWay) (t : Standing) (now : ℕ) → timed_by u t ≡ false → due_by u t now ≡ false
untimed (Connection s) t now e = untimed_state s now e
untimed Nothing Settled now e = refl
untimed Nothing InDoubt now e = refl
untimed Nothing (Probing count timer) now e = absurd (true≢false e)
untimed (Broadcast s) t now e = refl

pub unready_rests : (lanes : Lanes) (now to : ℕ) → is_ready_at lanes to ≡ false → is_pumping lanes now to ≡ false
unready_rests lanes now to = by (map.get lanes to)
  where
    by : (o : Option Lane) → elim o as (λ _. Bool) [ None ↦ false | Some lane ↦ is_ready lane ] ≡ false → is_none (elim o as (λ _. Option PumpRefused) [ None ↦ Some NothingToSend | Some lane ↦ pump_refusal lane now ]) ≡ false
    by None e = refl
    by (Some lane) e = unready lane.under_way lane now e

pub untimed_rests : (lanes : Lanes) (now to : ℕ) → is_timed_at lanes to ≡ false → is_due_at lanes now to ≡ false
untimed_rests lanes now to = by (map.get lanes to)
  where
    by : (o : Option Lane) → elim o as (λ _. Bool) [ None ↦ false | Some lane ↦ is_timed lane ] ≡ false → elim o as (λ _. Bool) [ None ↦ false | Some lane ↦ is_lane_due lane now ] ≡ false
    by None e = refl
    by (Some lane) e = untimed lane.under_way lane.standing now e

-- where no lane from one destination up to another has a frame to queue, none of them is pumped
pub none_pumped : (lanes : Lanes) (now from to : ℕ) → from ≤ to → NonePasses (is_ready_at lanes) from to → least_below (is_pumping lanes now) to ≡ least_below (is_pumping lanes now) from
none_pumped lanes now from to le rest = same_up_to (is_pumping lanes now) from to le (λ n at below. unready_rests lanes now n (rest n at below))

-- where none of them has a running timer, none is due
pub none_due : (lanes : Lanes) (now from to : ℕ) → from ≤ to → NonePasses (is_timed_at lanes) from to → least_below (is_due_at lanes now) to ≡ least_below (is_due_at lanes now) from
none_due lanes now from to le rest = same_up_to (is_due_at lanes now) from to le (λ n at below. untimed_rests lanes now n (rest n at below))
