-- A drain that ends at rest leaves nothing that could be done later, as long as the clock isn't at its end.
use Rattle.std.proofs.Common.{◌≡◌, ◌≢◌, inl, inr, ℕ, ◌+◌, ◌-◌, ◌^◌, ◌<◌, ◌==◌, nat_lt, Bool, true, false, cond, not, ◌||◌, List, ◌++◌, Option, Some, None, Err, refl, sym, ap, ◌∙◌, subst, arith, true≢false, le-leb}
use Rattle.std.specs.Prelude.{is_some, is_ok, slice_get}
use Rattle.std.specs.Bool.{OnTrue}
use Rattle.std.specs.Option.{option_flatten}
use Rattle.std.proofs.lemmas.Option.{none-some}
use Rattle.std.specs.FinMap as finmap
use Rattle.bus_frame.specs.Frames.{CanFrame}
use Rattle.pgn_ids.specs.Address.{null_address}
use Rattle.pgn_ids.specs.declared.address.Address.{Address}
use Rattle.tick_timers.specs.Timers.{Timer, is_due as is_timer_due}
use Rattle.tx_queue.specs.Queue.{free_places, front}
use Rattle.bus_order.specs.Bus.{bus_len, is_full, next_frame}
use Rattle.originator.specs.declared.states.OutState.TheVariants.{AwaitCts, Sending, AwaitEnd}
use Rattle.lane_core.specs.Lane.{Lane}
use Rattle.lane_core.specs.Pump.{pump_refusal, refusal_by}
use Rattle.lane_core.specs.Fire.{is_lane_due, due_by, is_probe_due}
use Rattle.lane_core.specs.declared.place.UnderWay.{UnderWay}
use Rattle.lane_core.specs.declared.place.UnderWay.TheVariants.{Nothing, Broadcast, Connection}
use Rattle.lane_core.specs.declared.probe.Standing.{Standing}
use Rattle.lane_core.specs.declared.probe.Standing.TheVariants.{Settled, InDoubt, Probing}
use Rattle.lane_core.specs.declared.refused.PumpRefused.{PumpRefused}
use Rattle.lane_core.specs.declared.refused.PumpRefused.TheVariants as pump
use Rattle.session_table.specs.DueOrder.{first_due}
use Rattle.session_table.specs.Incoming.{timer_of}
use Rattle.session_table.specs.Sessions.{state_at}
use Rattle.session_table.specs.declared.key.Key.{Key}
use Rattle.session_table.specs.declared.incoming.Incoming.{Incoming}
use Rattle.station_lanes.specs.LaneReaders.{least_below, refusal_at, is_due_at, due_lane}
use Rattle.station_sessions.specs.Receiving.{Inbound}
use Rattle.station_core.specs.Station.{Station}
use Rattle.station_core.specs.Sending.{pumped}
use Rattle.station_core.specs.Timers.{is_due, fired}
use Rattle.segment_law.specs.Segment.{Segment, place_of}
use Rattle.segment_law.specs.Calls.{Answer, stepped, no_place, transmits, transmits_by, takes, takes_by, fires, pumps, pumps_by, pump_places, at_station, at_place, called}
use Rattle.segment_law.specs.Drift.{at_tick}
use Rattle.segment_law.specs.Readers.{is_idle}
use Rattle.segment_law.specs.Record.{Record, StandsAt}
use Rattle.segment_law.specs.declared.call.Call.{Call}
use Rattle.segment_law.specs.declared.call.Call.TheVariants as ask
use Rattle.segment_law.specs.declared.refusal.Refusal.{Refusal}
use Rattle.segment_law.specs.declared.refusal.Refusal.TheVariants as refusal
use Rattle.segment_state.specs.Next.{any_work}
use Rattle.work_law.specs.Rest.{is_turn, HasRested, AllEnded, Rests, Ends}
use Rattle.work_law.specs.Storm.{WorkFalls, OverrunsFall}
use Rattle.work_law.proofs.Choosing.{found_below}
use Rattle.work_law.proofs.Resting.{none_found, some_due}
use Rattle.work_law.proofs.StationCalls.{least_found, due_there}
use Rattle.segment_drain.specs.Chosen.{next_tick}
use Rattle.segment_drain.specs.Drains.{drained, IsDrained}
use Rattle.segment_drain.specs.Enough.{HasEnough}
use Rattle.segment_drain.specs.Rested.{IsLate, IsAtRest}
use Rattle.segment_drain.specs.declared.drained.Drained as ran
use Rattle.segment_drain.specs.declared.end.DrainEnd.{DrainEnd}
use Rattle.segment_drain.specs.declared.end.DrainEnd.TheVariants as end
use Rattle.segment_drain.proofs.Enough.{rest_end, rest_within}
use Rattle.segment_drain.specs.Calm.{AreCalm, AreUnpaused}
use Rattle.segment_drain.proofs.Calm.{rested_calm}
use Rattle.segment_drain.proofs.Rests.{idle_rests, done_ok, works_ok, rest_parts, none_of}
use Rattle.segment_drain.proofs.Timely.{IsTimely, IsTimelyUnder, IsTimelyStanding, IsTimelyLane, IsTimelyStation, AreTimely, AreSoon, always_timely}
use Rattle.segment_drain.proofs.Wholes.{drain_stands, drain_rests, drained_rests}

get_of : (m : Inbound) (key : Key) (v : List ℕ × Incoming) → state_at m key ≡ Some v → finmap.get m key ≡ Some (Some v)
get_of m key v e = by (finmap.get m key) e
  where
    by : (o : Option (Option (List ℕ × Incoming))) → option_flatten o ≡ Some v → o ≡ Some (Some v)
    by None q = absurd (none-some v q)
    by (Some None) q = absurd (none-some v q)
    by (Some (Some w)) q = ap (λ (x : Option (List ℕ × Incoming)). Some x) q

-- What can be done at some tick can be done soon

module _ (now tick : ℕ) where
  abbrev later : ℕ
  later = now + 1250

  timer_later : (t : Timer) → IsTimely now t → is_timer_due t later ≡ true
  timer_later t h = le-leb (t.started + t.ticks) later (omega (arith, h))

  sessions_later : (m : Inbound) → AreSoon now m → is_some (first_due m tick) ≡ true → is_some (first_due m later) ≡ true
  sessions_later m h some = by (first_due m tick) refl some
    where
      by : (o : Option Key) → first_due m tick ≡ o → is_some o ≡ true → is_some (first_due m later) ≡ true
      by None e q = absurd (true≢false (sym q))
      by (Some key) e q = let f = due_there m tick key e in some_due m later key f.0 (get_of m key f.0 f.1) (timer_later (timer_of f.0.1) (h key f.0 f.1))

  lane_later : (lane : Lane) → IsTimelyLane now lane → is_lane_due lane tick ≡ true → is_lane_due lane later ≡ true
  lane_later lane h due = by lane.under_way h.under_way due
    where
      standing : (s : Standing) → IsTimelyStanding now s → is_probe_due s tick ≡ true → is_probe_due s later ≡ true
      standing Settled k q = absurd (true≢false (sym q))
      standing InDoubt k q = absurd (true≢false (sym q))
      standing (Probing count timer) k q = timer_later timer k

      by : (u : UnderWay) → IsTimelyUnder now u → due_by u lane.standing tick ≡ true → due_by u lane.standing later ≡ true
      by Nothing k q = standing lane.standing h.standing q
      by (Broadcast s) k q = absurd (true≢false (sym q))
      by (Connection (AwaitCts s)) k q = timer_later s.timer k
      by (Connection (Sending s)) k q = absurd (true≢false (sym q))
      by (Connection (AwaitEnd s)) k q = timer_later s.timer k

  pump_later : (lane : Lane) → IsTimelyLane now lane → pump_refusal lane tick ≡ None → pump_refusal lane later ≡ None
  pump_later lane h none = by lane.under_way h.under_way none
    where
      by : (u : UnderWay) → IsTimelyUnder now u → refusal_by u lane tick ≡ None → refusal_by u lane later ≡ None
      by Nothing k q = q
      by (Broadcast s) k q = ap (λ b. cond {A = Option PumpRefused} b None (Some pump.NotYet)) (timer_later s.gap k)
      by (Connection (AwaitCts s)) k q = q
      by (Connection (Sending s)) k q = q
      by (Connection (AwaitEnd s)) k q = q

  module _ (st : Station) (h : IsTimelyStation now st) where
    due_at_later : (to : ℕ) → is_due_at st.lanes tick to ≡ true → is_due_at st.lanes later to ≡ true
    due_at_later to = by (finmap.get st.lanes to) refl
      where
        by : (o : Option Lane) → finmap.get st.lanes to ≡ o → (elim o as (λ (_ : Option Lane). Bool) [ None ↦ false | Some lane ↦ is_lane_due lane tick ]) ≡ true → (elim o as (λ (_ : Option Lane). Bool) [ None ↦ false | Some lane ↦ is_lane_due lane later ]) ≡ true
        by None e q = absurd (true≢false (sym q))
        by (Some lane) e q = lane_later lane (h.lanes to lane e) q

    refusal_later : (to : ℕ) → refusal_at st.lanes to tick ≡ None → refusal_at st.lanes to later ≡ None
    refusal_later to = by (finmap.get st.lanes to) refl
      where
        by : (o : Option Lane) → finmap.get st.lanes to ≡ o → (elim o as (λ (_ : Option Lane). Option PumpRefused) [ None ↦ Some pump.NothingToSend | Some lane ↦ pump_refusal lane tick ]) ≡ None → (elim o as (λ (_ : Option Lane). Option PumpRefused) [ None ↦ Some pump.NothingToSend | Some lane ↦ pump_refusal lane later ]) ≡ None
        by None e q = q
        by (Some lane) e q = pump_later lane (h.lanes to lane e) q

    station_later : is_due st tick ≡ true → is_due st later ≡ true
    station_later due = by (is_some (first_due st.sessions tick)) refl (due_lane st.lanes tick) refl due
      where
        both : (x y : Bool) → x ≡ true → (x || y) ≡ true
        both x y e = ap (λ b. b || y) e

        right : (x y : Bool) → y ≡ true → (x || y) ≡ true
        right true y e = refl
        right false y e = e

        by : (b : Bool) → is_some (first_due st.sessions tick) ≡ b → (o : Option ℕ) → due_lane st.lanes tick ≡ o → (b || is_some o) ≡ true → is_due st later ≡ true
        by true e o f q = both (is_some (first_due st.sessions later)) (is_some (due_lane st.lanes later)) (sessions_later st.sessions h.sessions e)
        by false e None f q = absurd (true≢false (sym q))
        by false e (Some to) f q =
            let l = least_found (is_due_at st.lanes tick) 256 to f in
            right (is_some (first_due st.sessions later)) (is_some (due_lane st.lanes later)) (found_below (is_due_at st.lanes later) 256 to l.1 (due_at_later to l.0))

module _ (seg : Segment) (h : AreTimely seg) (tick : ℕ) where
  abbrev soon : Segment
  soon = at_tick seg (seg.now + 1250)

  abbrev then : Segment
  then = at_tick seg tick

  at_soon : (o : Option ℕ) (old new : ℕ → Station → Answer) → ((i : ℕ) (st : Station) → slice_get seg.stations i ≡ Some st → is_ok (old i st) ≡ true → is_ok (new i st) ≡ true) → is_ok (at_place then o old) ≡ true → is_ok (at_place soon o new) ≡ true
  at_soon None old new k q = absurd (true≢false (sym q))
  at_soon (Some i) old new k q = by (slice_get seg.stations i) refl q
    where
      by : (o : Option Station) → slice_get seg.stations i ≡ o → is_ok (at_station o (old i)) ≡ true → is_ok (at_station o (new i)) ≡ true
      by None e q = absurd (true≢false (sym q))
      by (Some st) e q = k i st e q

  ok_unless : (b : Bool) (cause : Refusal) (x y : Answer) → (is_ok x ≡ true → is_ok y ≡ true) → is_ok (cond b (Err cause) x) ≡ true → is_ok (cond b (Err cause) y) ≡ true
  ok_unless true cause x y k q = q
  ok_unless false cause x y k q = k q

  fire_soon : (i : ℕ) (st : Station) → slice_get seg.stations i ≡ Some st → is_ok (fires then i st) ≡ true → is_ok (fires soon i st) ≡ true
  fire_soon i st at = by (is_due st tick) refl
    where
      by : (b : Bool) → is_due st tick ≡ b → is_ok (cond {A = Answer} (not b) (Err refusal.NothingDue) (cond (no_place st) (Err refusal.TxFull) (stepped then i (fired st tick)))) ≡ true → is_ok (fires soon i st) ≡ true
      by false e q = absurd (true≢false (sym q))
      by true e q = subst (λ b. is_ok (cond {A = Answer} (not b) (Err refusal.NothingDue) (cond (no_place st) (Err refusal.TxFull) (stepped soon i (fired st (seg.now + 1250))))) ≡ true) (sym (station_later seg.now tick st (h i st at) e))
          (ok_unless (no_place st) refusal.TxFull (stepped then i (fired st tick)) (stepped soon i (fired st (seg.now + 1250))) (λ _. refl) q)

  pump_soon : (to : Address) (i : ℕ) (st : Station) → slice_get seg.stations i ≡ Some st → is_ok (pumps then to i st) ≡ true → is_ok (pumps soon to i st) ≡ true
  pump_soon to i st at = ok_unless (to.0 == null_address) refusal.NoSuchStation _ _ (by (refusal_at st.lanes to.0 tick) refl)
    where
      by : (o : Option PumpRefused) → refusal_at st.lanes to.0 tick ≡ o → is_ok (pumps_by then to i st o) ≡ true → is_ok (pumps_by soon to i st (refusal_at st.lanes to.0 (seg.now + 1250))) ≡ true
      by (Some pump.NothingToSend) e q = absurd (true≢false (sym q))
      by (Some pump.NotYet) e q = absurd (true≢false (sym q))
      by None e q = subst (λ o. is_ok (pumps_by soon to i st o) ≡ true) (sym (refusal_later seg.now tick st (h i st at) to.0 e))
          (ok_unless (nat_lt (free_places st.queue) pump_places) refusal.TxFull (stepped then i (pumped st to tick)) (stepped soon i (pumped st to (seg.now + 1250))) (λ _. refl) q)

  take_soon : (room : Bool) (i : ℕ) (st : Station) → is_ok (takes then room i st) ≡ true → is_ok (takes soon room i st) ≡ true
  take_soon room i st = by (next_frame seg.bus i)
    where
      by : (o : Option CanFrame) → is_ok (takes_by then room i st o) ≡ true → is_ok (takes_by soon room i st o) ≡ true
      by None q = q
      by (Some f) q = ok_unless (no_place st) refusal.TxFull _ _ (λ _. refl) q

  put_soon : (i : ℕ) (st : Station) → is_ok (transmits then i st) ≡ true → is_ok (transmits soon i st) ≡ true
  put_soon i st = by (front st.queue)
    where
      by : (o : Option CanFrame) → is_ok (transmits_by then i st o) ≡ true → is_ok (transmits_by soon i st o) ≡ true
      by None q = q
      by (Some f) q = ok_unless (is_full seg.bus) refusal.BusFull _ _ (λ _. refl) q

  soon_ok : (call : Call) → is_turn call ≡ true → is_ok (called then call) ≡ true → is_ok (called soon call) ≡ true
  unfolding called
  soon_ok (ask.Transmit a) t q = at_soon (place_of seg a) (transmits then) (transmits soon) (λ i st at. put_soon i st) q
  soon_ok (ask.Take a room) t q = at_soon (place_of seg a) (takes then room) (takes soon room) (λ i st at. take_soon room i st) q
  soon_ok (ask.Pump a to) t q = at_soon (place_of seg a) (pumps then to) (pumps soon to) (λ i st at. pump_soon to i st at) q
  soon_ok (ask.Fire a) t q = at_soon (place_of seg a) (fires then) (fires soon) (λ i st at. fire_soon i st at) q
  soon_ok (ask.Open a pgn max_len) t q = absurd (true≢false (sym t))
  soon_ok (ask.Close port) t q = absurd (true≢false (sym t))
  soon_ok (ask.Send from to pgn bytes) t q = absurd (true≢false (sym t))
  soon_ok (ask.TakeAgain a room) t q = absurd (true≢false (sym t))
  soon_ok (ask.Overrun a n) t q = absurd (true≢false (sym t))
  soon_ok (ask.Tick n) t q = absurd (true≢false (sym t))
  soon_ok (ask.Cancel from to number) t q = absurd (true≢false (sym t))
  soon_ok (ask.Inject f) t q = absurd (true≢false (sym t))
  soon_ok (ask.Pause port) t q = absurd (true≢false (sym t))
  soon_ok (ask.Resume port) t q = absurd (true≢false (sym t))

-- so nothing is late, unless the clock is at its end
never_late : (seg : Segment) → AreTimely seg → next_tick seg ≡ None → seg.now + 1250 < 2 ^ 64 → IsLate seg → ⊥
never_late seg h none l late =
    let ok : is_ok (called (at_tick seg (seg.now + 1250)) late.call) ≡ true = soon_ok seg h late.tick late.call late.turn (done_ok (at_tick seg late.tick) late.call late.events late.done) in
    let works : any_work seg (seg.now + 1250) ≡ true = works_ok seg (seg.now + 1250) late.call late.turn ok in
    true≢false (sym works ∙ none_found (λ k. any_work seg (seg.now + k)) (2 ^ 64 - seg.now) 1250 (none_of (λ k. seg.now + k) (least_below (λ k. any_work seg (seg.now + k)) (2 ^ 64 - seg.now)) none) (omega (arith, l)))

-- where nothing is left
pub idle_all : (rests_law : Rests) (ends_law : Ends) (seg : Segment) (b : Bool) (tick : Option ℕ) → is_idle seg ≡ true → tick ≡ next_tick seg → is_some tick ≡ not b → (addresses : List Address) (steps : Record) → StandsAt addresses steps seg → seg.now + 1250 < 2 ^ 64 → bus_len seg.bus + 1 < 2 ^ 64 → OnTrue b (HasRested seg × AllEnded steps)
idle_all rests_law ends_law seg false tick idle is e addresses steps h last places = tt
idle_all rests_law ends_law seg true tick idle is e addresses steps h last places = by (idle_rests rests_law ends_law seg true tick idle is e addresses steps h)
  where
    none : (o : Option ℕ) → is_some o ≡ false → o ≡ None
    none None q = refl
    none (Some t) q = absurd (true≢false q)

    by : IsAtRest steps seg → HasRested seg × AllEnded steps
    by (inl q) = q
    by (inr (inl late)) = absurd (never_late seg (always_timely addresses steps seg h) (sym is ∙ none tick e) last late)
    by (inr (inr full)) = absurd (omega (arith, full, places))

-- and no port is paused
pub idle_calm : (rests_law : Rests) (ends_law : Ends) (seg : Segment) (b : Bool) (tick : Option ℕ) → is_idle seg ≡ true → tick ≡ next_tick seg → is_some tick ≡ not b → (addresses : List Address) (steps : Record) → StandsAt addresses steps seg → seg.now + 1250 < 2 ^ 64 → bus_len seg.bus + 1 < 2 ^ 64 → AreUnpaused seg → OnTrue b (AreCalm seg)
idle_calm rests_law ends_law seg false tick idle is e addresses steps h last places unpaused = tt
idle_calm rests_law ends_law seg true tick idle is e addresses steps h last places unpaused = rested_calm seg (idle_all rests_law ends_law seg true tick idle is e addresses steps h last places).0 unpaused

module _ (falls : WorkFalls) (overruns_fall : OverrunsFall) (rests_law : Rests) (ends_law : Ends) (addresses : List Address) (steps : Record) (start : Segment) (h : StandsAt addresses steps start) where
  -- what the code returns
  pub healed_end : (turns : ℕ) (done : ran.Drained) (seg : Segment) → (done.end ≢ end.OutOfMemory → IsDrained (drained start turns) seg done) → HasEnough start turns → done.end ≢ end.OutOfMemory → seg.now + 1250 < 2 ^ 64 → HasRested seg × AllEnded (steps ++ (drained start turns).calls)
  healed_end turns done seg is enough some last = by (drain_rests rests_law ends_law addresses steps start seg turns done h shown rest)
    where
      shown : IsDrained (drained start turns) seg done
      shown = is some

      rest : done.end ≡ end.Rest
      rest = rest_end falls overruns_fall addresses steps start h turns done seg is enough some

      ended : (drained start turns).ended ≡ Some end.Rest
      ended = shown.end ∙ ap (λ (w : DrainEnd). Some w) rest

      same : (drained start turns).segment ≡ seg
      same = sym shown.shown.segment

      soon : AreTimely seg
      soon = subst AreTimely same (always_timely addresses (steps ++ (drained start turns).calls) (drained start turns).segment (drain_stands addresses steps start h turns))

      none : next_tick seg ≡ None
      none = subst (λ (s : Segment). next_tick s ≡ None) same (rest_parts (drained start turns).segment (drained_rests start turns ended)).tick

      within : bus_len seg.bus + 1 < 2 ^ 64
      within = let w = rest_within falls overruns_fall addresses steps start h turns ended in let p = enough.places in subst (λ (s : Segment). bus_len s.bus + 1 < 2 ^ 64) same (omega (arith, w, p))

      by : IsAtRest (steps ++ (drained start turns).calls) seg → HasRested seg × AllEnded (steps ++ (drained start turns).calls)
      by (inl q) = q
      by (inr (inl late)) = absurd (never_late seg soon none last late)
      by (inr (inr full)) = absurd (let w = within in omega (arith, full, w))
