-- From which tick on a station of a segment has something to do by itself, and one station more.
use Rattle.std.proofs.Common.{◌≡◌, ℕ, ◌+◌, ◌<◌, Bool, true, false, cond, not, ◌||◌, length, Option, Some, None, Ok, Err, take, refl, sym, ap, ◌∙◌, get_or}
use Rattle.std.specs.Prelude.{slice_get, is_some, is_none, is_ok}
use Rattle.std.specs.List.{list_any}
use Rattle.std.specs.Option.{option_map}
use Rattle.std.specs.FinMap as map
use Rattle.std.proofs.lemmas.List.Folds.{list_any_more}
use Rattle.bus_frame.specs.Frames.{CanFrame}
use Rattle.bus_order.specs.Bus as bus
use Rattle.pgn_ids.specs.Address.{null_address}
use Rattle.pgn_ids.specs.declared.address.Address.{Address}
use Rattle.tick_timers.specs.Due.{IsDueFrom, earlier_of}
use Rattle.tick_timers.proofs.Dues.{due_from_either}
use Rattle.tx_queue.specs.Queue.{front}
use Rattle.station_core.specs.Station.{Station}
use Rattle.station_core.specs.Timers.{is_due}
use Rattle.station_core.specs.Refusals.{is_queue_full}
use Rattle.station_core.specs.Sending as station
use Rattle.station_core.specs.Next.{can_pump, can_fire}
use Rattle.station_core.specs.declared.refused.Refused.{Refused as Cause}
use Rattle.station_core.specs.declared.refused.Refused.TheVariants as cause
use Rattle.segment_law.specs.Segment.{Segment, place_of, station_of}
use Rattle.segment_law.specs.Calls.{Answer, called, transmits_by, transmits, takes_by, takes, fires}
use Rattle.segment_law.specs.Readers.{next_pump, is_due_of}
use Rattle.segment_law.specs.declared.call.Call.TheVariants.{Transmit, Take, Fire}
use Rattle.segment_law.specs.declared.refusal.Refusal.{Refusal}
use Rattle.segment_law.specs.declared.refusal.Refusal.TheVariants as refusal
use Rattle.segment_law.specs.declared.reply.Reply.{Reply}
use Rattle.segment_state.specs.Answers.{refusal_of}
use Rattle.segment_state.specs.Next.{at_tick, is_active, passes, has_work}
use Rattle.segment_state.proofs.Calling.{of_none}
use Rattle.segment_state.proofs.Stations.{at_is, at_none}
use Rattle.segment_state.proofs.Pumping.{next_pump_is, next_pump_none, next_pump_as}

-- what isn't refused passes, whatever it leaves
alike : (stops : Bool) (why : Refusal) (x y : Segment × Reply) → is_ok (cond {A = Answer} stops (Err why) (Ok x)) ≡ is_none (refusal_of (cond stops (Err why) (Ok y)))
alike true why x y = refl
alike false why x y = refl

abbrev wrap : ℕ → Address
wrap to = record { 0 = to }

some_wrapped : (o : Option ℕ) → is_some (option_map wrap o) ≡ is_some o
some_wrapped None = refl
some_wrapped (Some to) = refl

unwrapped : (o : Option ℕ) → option_map (λ to. to.0) (option_map wrap o) ≡ o
unwrapped None = refl
unwrapped (Some to) = refl

-- where no station has the address
pub idle_nowhere : (seg : Segment) (a : Address) → place_of seg a ≡ None → IsDueFrom (λ tick. has_work (at_tick seg tick) a) None
unfolding called
idle_nowhere seg a none tick within =
    let ticked : Segment = at_tick seg tick in
    (λ k. (is_ok (at_none ticked a (transmits ticked) none k) || is_ok (at_none ticked a (takes ticked true) none k)) || (is_some (next_pump_none ticked a none k) || is_ok (at_none ticked a (fires ticked) none k)))

pub calm_nowhere : (seg : Segment) (a : Address) → place_of seg a ≡ None → IsDueFrom (λ tick. is_active (at_tick seg tick) a) None
calm_nowhere seg a none tick within =
    let ticked : Segment = at_tick seg tick in
    (λ k. is_due_of ticked (of_none ticked a none k) || is_some (next_pump_none ticked a none k))

-- whether a timer is due or a lane has a frame to queue depends on the station and the tick alone

abbrev due_of : (tick : ℕ) → Option Station → Bool
due_of tick None = false
due_of tick (Some st) = is_due st tick

due_by : (seg : Segment) (o : Option Station) → is_due_of seg o ≡ due_of seg.now o
due_by seg None = refl
due_by seg (Some st) = refl

pub active_as : (seg next : Segment) (tick : ℕ) (a : Address) → station_of next a ≡ station_of seg a → is_active (at_tick next tick) a ≡ is_active (at_tick seg tick) a
active_as seg next tick a same =
    let due : is_due_of (at_tick next tick) (station_of next a) ≡ is_due_of (at_tick seg tick) (station_of seg a) = due_by (at_tick next tick) (station_of next a) ∙ ap (due_of tick) same ∙ sym (due_by (at_tick seg tick) (station_of seg a)) in
    let pump : next_pump (at_tick next tick) a ≡ next_pump (at_tick seg tick) a = next_pump_as (at_tick seg tick) (at_tick next tick) a refl same in
    (λ k. due k || is_some (pump k))

module _ (seg : Segment) (a : Address) (i : ℕ) (st : Station) (here : place_of seg a ≡ Some i) (there : slice_get seg.stations i ≡ Some st) where
  -- a Transmit passes at every tick or at none
  transmitting : (tick : ℕ) → passes (at_tick seg tick) (Transmit a) ≡ is_none (refusal_of (called seg (Transmit a)))
  unfolding called
  transmitting tick =
      ap is_ok (at_is (at_tick seg tick) a i st (transmits (at_tick seg tick)) here there) ∙ by (front st.queue)
      ∙ sym (ap (λ (x : Answer). is_none (refusal_of x)) (at_is seg a i st (transmits seg) here there))
    where
      by : (o : Option CanFrame) → is_ok (transmits_by (at_tick seg tick) i st o) ≡ is_none (refusal_of (transmits_by seg i st o))
      by None = refl
      by (Some frame) = alike (bus.is_full seg.bus) refusal.BusFull _ _

  -- and so does a Take
  taking : (tick : ℕ) → passes (at_tick seg tick) (Take a true) ≡ is_none (refusal_of (called seg (Take a true)))
  unfolding called
  taking tick =
      ap is_ok (at_is (at_tick seg tick) a i st (takes (at_tick seg tick) true) here there) ∙ by (bus.next_frame seg.bus i)
      ∙ sym (ap (λ (x : Answer). is_none (refusal_of x)) (at_is seg a i st (takes seg true) here there))
    where
      by : (o : Option CanFrame) → is_ok (takes_by (at_tick seg tick) true i st o) ≡ is_none (refusal_of (takes_by seg true i st o))
      by None = refl
      by (Some frame) = alike (is_queue_full st) refusal.TxFull _ _

  -- a Fire passes where the station's timer fires
  firing : (tick : ℕ) → passes (at_tick seg tick) (Fire a) ≡ can_fire st tick
  unfolding called
  firing tick = ap is_ok (at_is (at_tick seg tick) a i st (fires (at_tick seg tick)) here there) ∙ by (is_due st tick) (is_queue_full st) _
    where
      by : (due full : Bool) (x : Segment × Reply) → is_ok (cond {A = Answer} (not due) (Err refusal.NothingDue) (cond full (Err refusal.TxFull) (Ok x))) ≡ is_none (cond {A = Option Cause} (not due) (Some cause.NothingDue) (cond full (Some cause.TxFull) None))
      by true true x = refl
      by true false x = refl
      by false full x = refl

  -- a Pump passes to some destination where the station's does
  pumping : (tick : ℕ) → map.get st.lanes null_address ≡ None → is_some (next_pump (at_tick seg tick) a) ≡ can_pump st tick
  pumping tick null =
      let found : Option Address = option_map wrap (station.next_pump st tick) in
      ap is_some (sym (next_pump_is (at_tick seg tick) a i st here there found null (unwrapped (station.next_pump st tick)))) ∙ some_wrapped (station.next_pump st tick)

  -- from the earlier of these ticks on a timer is due or a lane has a frame to queue
  pub active_is_from : (due pump : Option ℕ) → map.get st.lanes null_address ≡ None → IsDueFrom (is_due st) due → IsDueFrom (can_pump st) pump → IsDueFrom (λ tick. is_active (at_tick seg tick) a) (earlier_of due pump)
  active_is_from due pump null dues pumps tick within =
      let found : station_of seg a ≡ Some st = ap (λ (o : Option ℕ). elim o as (λ (_ : Option ℕ). Option Station) [ None ↦ None | Some k ↦ slice_get seg.stations k ]) here ∙ there in
      (λ k. is_due_of (at_tick seg tick) (found k) || pumping tick null k) ∙ due_from_either (is_due st) (can_pump st) due pump dues pumps tick within

  -- from the earlier of these ticks on it has something to do
  pub work_is_from : (moves : Bool) (every pump fire : Option ℕ) → map.get st.lanes null_address ≡ None
      → moves ≡ (is_none (refusal_of (called seg (Transmit a))) || is_none (refusal_of (called seg (Take a true))))
      → IsDueFrom (λ _. moves) every → IsDueFrom (can_pump st) pump → IsDueFrom (can_fire st) fire
      → IsDueFrom (λ tick. has_work (at_tick seg tick) a) (earlier_of every (earlier_of pump fire))
  work_is_from moves every pump fire null is always pumps fires tick within =
      (λ k. (transmitting tick k || taking tick k) || (pumping tick null k || firing tick k))
      ∙ ap (λ (b : Bool). b || (can_pump st tick || can_fire st tick)) (sym is)
      ∙ due_from_either (λ _. moves) (λ n. can_pump st n || can_fire st n) every (earlier_of pump fire) always (due_from_either (can_pump st) (can_fire st) pump fire pumps fires) tick within

-- at a tick, one of the first stations has something to do
abbrev pub any_of : Segment → (count : ℕ) → (tick : ℕ) → Bool
any_of seg count tick = list_any (λ (st : Station). has_work (at_tick seg tick) st.address) (take count seg.stations)

pub work_next : (seg : Segment) (i : ℕ) (st : Station) (tick more : Option ℕ) → i < length seg.stations → IsDueFrom (any_of seg i) tick → IsDueFrom (λ n. has_work (at_tick seg n) (get_or seg.stations i st).address) more → IsDueFrom (any_of seg (i + 1)) (earlier_of tick more)
work_next seg i st tick more here is is_more now within =
    list_any_more (λ (s : Station). has_work (at_tick seg now) s.address) seg.stations i st here
    ∙ due_from_either (any_of seg i) (λ n. has_work (at_tick seg n) (get_or seg.stations i st).address) tick more is is_more now within

pub work_at_first : (seg : Segment) → IsDueFrom (any_of seg 0) None
work_at_first seg now within = refl

pub ruleset work_laws = (idle_nowhere, work_next, work_at_first)
