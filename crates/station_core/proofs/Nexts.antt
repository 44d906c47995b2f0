-- From which tick on a station pumps or fires, where its queue has places for the frames, and where it has none.
use Rattle.std.proofs.Common.{◌≡◌, ℕ, Bool, true, false, cond, ◌||◌, nat_lt, not, length, Option, Some, None, refl, sym, ap, ◌∙◌}
use Rattle.std.specs.Prelude.{is_some, is_none}
use Rattle.tick_timers.specs.Due.{has_come, earlier_of, IsDueFrom}
use Rattle.tick_timers.proofs.Dues.{due_from_either}
use Rattle.tx_queue.specs.Queue.{free_places}
use Rattle.station_lanes.specs.LaneReaders.{pumping_lane}
use Rattle.station_core.specs.declared.refused.Refused.{Refused}
use Rattle.station_core.specs.declared.refused.Refused.TheVariants.{NothingDue, TxFull}
use Rattle.station_core.specs.Station.{Station}
use Rattle.station_core.specs.Timers.{is_due}
use Rattle.station_core.specs.Refusals.{is_queue_full}
use Rattle.station_core.specs.Next.{can_pump, can_fire, has_work}

pub never_pumps : (st : Station) → nat_lt (free_places st.queue) 8 ≡ true → IsDueFrom (can_pump st) None
never_pumps st few now within = ap (λ b. is_some (cond b None (pumping_lane st.lanes now))) few

pub pumps_from : (st : Station) (tick : Option ℕ) → nat_lt (free_places st.queue) 8 ≡ false → IsDueFrom (λ now. is_some (pumping_lane st.lanes now)) tick → IsDueFrom (can_pump st) tick
pumps_from st tick room is now within = ap (λ b. is_some (cond b None (pumping_lane st.lanes now))) room ∙ is now within

-- whether a timer fires that is due or not, with a full queue or not
abbrev fires_by : (due full : Bool) → Bool
fires_by due full = is_none (cond {A = Option Refused} (not due) (Some NothingDue) (cond full (Some TxFull) None))

full_fires : (due : Bool) → fires_by due true ≡ false
full_fires true = refl
full_fires false = refl

free_fires : (due : Bool) → fires_by due false ≡ due
free_fires true = refl
free_fires false = refl

pub never_fires : (st : Station) → is_queue_full st ≡ true → IsDueFrom (can_fire st) None
never_fires st full now within = ap (fires_by (is_due st now)) full ∙ full_fires (is_due st now)

pub fires_from : (st : Station) (tick : Option ℕ) → is_queue_full st ≡ false → IsDueFrom (is_due st) tick → IsDueFrom (can_fire st) tick
fires_from st tick room is now within = ap (fires_by (is_due st now)) room ∙ free_fires (is_due st now) ∙ is now within

-- so many frames stand in its queue
pub work_from : (st : Station) (queued : ℕ) (every pump fire timed tick : Option ℕ) → queued ≡ length st.queue
    → IsDueFrom (λ _. nat_lt 0 queued) every → IsDueFrom (can_pump st) pump → IsDueFrom (can_fire st) fire → timed ≡ earlier_of pump fire → tick ≡ earlier_of every timed → IsDueFrom (has_work st) tick
work_from st queued every pump fire timed tick is always pumps fires timed_is tick_is now within =
    ap (λ n. nat_lt 0 n || (can_pump st now || can_fire st now)) (sym is)
    ∙ due_from_either (λ _. nat_lt 0 queued) (λ n. can_pump st n || can_fire st n) every (earlier_of pump fire) always (due_from_either (can_pump st) (can_fire st) pump fire pumps fires) now within
    ∙ ap (λ o. has_come o now) (ap (earlier_of every) (sym timed_is) ∙ sym tick_is)

pub ruleset work_laws = (never_pumps, pumps_from, never_fires, fires_from)
