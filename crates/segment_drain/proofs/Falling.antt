-- Each call of a drain is done. It works something off, or lets the clock go on to where something can be done, or ends the drain as held.
use Rattle.std.proofs.Common.{◌≡◌, ◌⊎◌, inl, inr, ℕ, zero, suc, ◌+◌, ◌-◌, ◌^◌, max, ◌<◌, ◌≤◌, ◌==◌, nat_lt, Bool, true, false, cond, not, ◌||◌, List, [], ◌∷◌, ◌++◌, length, Option, Some, None, Ok, Err, refl, sym, ap, ◌∙◌, subst, arith, eqb-true, ltb-true, ltb-false, true≢false, get_or, length-set}
use Rattle.std.specs.Prelude.{is_some, is_none, is_ok, slice_get, unwrap_or}
use Rattle.std.specs.Option.{option_map}
use Rattle.std.proofs.lemmas.Bool.{cases_lt, lt-ltb, eq-eqb}
use Rattle.std.proofs.lemmas.List.{length-append}
use Rattle.std.proofs.lemmas.List.Folds.{list_any_none}
use Rattle.std.proofs.lemmas.Option.{same_Some, none-some, slice_get_cases, slice_get_within}
use Rattle.bus_frame.specs.Frames.{CanFrame}
use Rattle.tx_queue.specs.Queue.{free_places, front, behind}
use Rattle.bus_order.specs.Bus as bus
use Rattle.bus_order.specs.Kept.{IsSound}
use Rattle.bus_order.proofs.Steps.{sound_moved, released_len, read_within}
use Rattle.pgn_ids.specs.Address.{null_address}
use Rattle.pgn_ids.specs.declared.address.Address.{Address}
use Rattle.tp_wire.specs.Rows.{written}
use Rattle.tp_wire.specs.declared.wire.Kind.{Kind}
use Rattle.tp_wire.specs.declared.wire.Kind.TheVariants.{Tp, Etp}
use Rattle.responder.specs.Unfinished.{Unfinished}
use Rattle.responder.specs.Window.{cts_frame}
use Rattle.responder.specs.Asking.{asked}
use Rattle.responder.specs.States.{Holding as HoldState}
use Rattle.responder.specs.declared.flow.Flow.{Flow}
use Rattle.responder.specs.declared.flow.Flow.TheVariants.{Open, Held}
use Rattle.responder.specs.declared.in_state.InState.TheVariants as receiver
use Rattle.session_table.specs.DueOrder.{first_due}
use Rattle.session_table.specs.Sessions.{state_at}
use Rattle.session_table.specs.declared.key.Key.{Key}
use Rattle.session_table.specs.declared.incoming.Incoming.{Incoming}
use Rattle.session_table.specs.declared.incoming.Incoming.TheVariants as incoming
use Rattle.lane_core.specs.declared.refused.PumpRefused.{PumpRefused}
use Rattle.lane_core.specs.declared.refused.PumpRefused.TheVariants as pump
use Rattle.station_lanes.specs.LaneReaders.{least_below, refusal_at, due_lane}
use Rattle.station_sessions.specs.Receiving.{flow_at, session_fired, fired_by, fired_at}
use Rattle.message_events.specs.declared.event.Event.{Event}
use Rattle.station_core.specs.Station.{Station, StationStep, new_station, by_session}
use Rattle.station_core.specs.Sending.{pumped}
use Rattle.station_core.specs.Taking.{taken}
use Rattle.station_core.specs.Overruns.{overrun}
use Rattle.station_core.specs.Timers.{is_due, lane_fired, fired}
use Rattle.segment_law.specs.Segment.{Segment, place_of, station_at, waiting_at}
use Rattle.segment_law.specs.Calls.{Answer, is_call, stepped, no_place, pump_places, takes_by, takes, transmits_by, transmits, overruns, fires, pumps_by, pumps, at_station, at_place, called, replied, applied}
use Rattle.segment_law.specs.Reached.{IsReached}
use Rattle.segment_law.specs.Readers.{pumps_to, next_pump, front_at}
use Rattle.segment_law.specs.Record.{Record}
use Rattle.segment_law.specs.Drift.{DriftsTo}
use Rattle.segment_law.specs.declared.call.Call.{Call}
use Rattle.segment_law.specs.declared.call.Call.TheVariants as ask
use Rattle.segment_law.specs.declared.refusal.Refusal.{Refusal}
use Rattle.segment_law.specs.declared.refusal.Refusal.TheVariants as refusal
use Rattle.segment_law.specs.declared.reply.Reply.{Reply}
use Rattle.segment_law.specs.declared.reply.Reply.TheVariants.{Done}
use Rattle.segment_law.proofs.Buses.{frame_within}
use Rattle.segment_law.proofs.Drifting.{drifts_reached}
use Rattle.segment_law.proofs.Reaching.{reached_call, slice_get_same}
use Rattle.record_law.proofs.Segments.{found_there, has_address}
use Rattle.record_law.proofs.Tests.{on_test, equal_or_not}
use Rattle.segment_state.specs.Answers.{refusal_of}
use Rattle.segment_state.specs.Next.{has_work, any_work}
use Rattle.work_law.specs.Work.{Terms, plain, terms_of, work}
use Rattle.work_law.specs.Storm.{timer_asks, fire_asks, fire_asks_at, allowance, spent, Falls, WorkFalls, OverrunsFall}
use Rattle.work_law.proofs.Choosing.{found_below}
use Rattle.work_law.proofs.Ending.{paid, plain_is}
use Rattle.work_law.proofs.Resting.{rear, waits_there}
use Rattle.work_law.proofs.StationCalls.{least_found}
use Rattle.segment_drain.specs.Calm.{AreCalm}
use Rattle.segment_drain.specs.Chosen.{node, can, lowest, most_waiting, furthest, next_tick, is_hold, is_for_bus, or_else, pump_of, makes_room, waits_until, unblocked, untaken, next_of}
use Rattle.segment_drain.specs.Drains.{end_by, is_drain_call}
use Rattle.segment_drain.specs.declared.choosing.Next.{Next}
use Rattle.segment_drain.specs.declared.choosing.Next.TheVariants.{Make, End}
use Rattle.segment_drain.specs.declared.end.DrainEnd.{DrainEnd}
use Rattle.segment_drain.specs.declared.end.DrainEnd.TheVariants as end
use Rattle.segment_drain.specs.declared.kind.Kind.{Kind as Does}
use Rattle.segment_drain.specs.declared.kind.Kind.TheVariants as kind
use Rattle.segment_drain.proofs.Calm.{fired_keeps}
use Rattle.segment_drain.proofs.Rests.{none_can, puts_or_blocked}
use Rattle.segment_drain.proofs.Wholes.{lowest_small, pump_fits}

-- What is found

lowest_can : (seg : Segment) (kind : Does) (a : Address) → lowest seg kind ≡ Some a → can seg kind a ≡ true
lowest_can seg kind a e = by (least_below test 254) refl e
  where
    test : ℕ → Bool
    test n = can seg kind (node n)

    by : (o : Option ℕ) → least_below test 254 ≡ o → option_map node o ≡ Some a → can seg kind a ≡ true
    by None q is = absurd (none-some a is)
    by (Some k) q is = subst (λ (x : Address). can seg kind x ≡ true) (same_Some (node k) a is) (least_found test 254 k q).0

passes_ok : (x : Answer) → is_none (refusal_of x) ≡ true → is_ok x ≡ true
passes_ok (Ok s) e = refl
passes_ok (Err cause) e = absurd (true≢false (sym e))

fails_too : (x : Answer) → is_none (refusal_of x) ≡ false → is_ok x ≡ false
fails_too (Ok s) e = absurd (true≢false e)
fails_too (Err cause) e = refl

-- What a call of a drain leaves if it isn't refused: as many stations, at most one frame more, and events

taken_len : (b : bus.Bus) (i : ℕ) (f : CanFrame) → IsSound b → i < length b.cursors → bus.next_frame b i ≡ Some f → bus.bus_len (bus.released (bus.taken b i)) ≡ bus.bus_len b
taken_len b i f sound here next =
    let within : (bus.cursor_at b i).place + 1 ≤ bus.bus_len b = frame_within b ((bus.cursor_at b i).place + 1) f next in
    released_len (bus.taken b i) (sound_moved b i (record { place = (bus.cursor_at b i).place + 1; repeatable = true }) sound here (omega arith) within (λ _. omega arith))

passed_len : (b : bus.Bus) (i n : ℕ) → IsSound b → i < length b.cursors → nat_lt (bus.waiting b i) n ≡ false → bus.bus_len (bus.released (bus.passed b i n)) ≡ bus.bus_len b
passed_len b i n sound here few =
    let le : n ≤ bus.waiting b i = ltb-false (bus.waiting b i) n few in
    let at : (bus.cursor_at b i).place ≤ bus.bus_len b = read_within b i (bus.cursor_at b i) sound here refl in
    released_len (bus.passed b i n) (sound_moved b i (record { place = (bus.cursor_at b i).place + n; repeatable = false }) sound here (omega arith) (omega (arith, le, at)) (λ e. absurd (true≢false (sym e))))

module _ (seg : Segment) (r : IsReached seg) where
  record Left (next : Segment × Reply) : Type 0 where
    events : List Event
    done : next.1 ≡ Done events
    stations : length next.0.stations ≡ length seg.stations
    len : bus.bus_len next.0.bus ≤ bus.bus_len seg.bus + 1

  abbrev Leaves : Answer → Type 0
  Leaves (Err cause) = Unit {0}
  Leaves (Ok step) = Left step

  or_leaves : (b : Bool) (cause : Refusal) (x : Answer) → (b ≡ false → Leaves x) → Leaves (cond b (Err cause) x)
  or_leaves true cause x h = tt
  or_leaves false cause x h = h refl

  step_leaves : (before : Segment) → length before.stations ≡ length seg.stations → bus.bus_len before.bus ≡ bus.bus_len seg.bus → (i : ℕ) (step : StationStep) → Leaves (stepped before i step)
  step_leaves before same len i step = record { events = step.events; done = refl; stations = length-set before.stations i step.station ∙ same; len = omega (arith, len) }

  at_leaves : (a : Address) (does : ℕ → Station → Answer) → ((i : ℕ) (st : Station) → i < length seg.bus.cursors → Leaves (does i st)) → Leaves (at_place seg (place_of seg a) does)
  at_leaves a does h = by (place_of seg a)
    where
      there : (i : ℕ) (o : Option Station) → slice_get seg.stations i ≡ o → Leaves (at_station o (does i))
      there i None e = tt
      there i (Some st) e = h i st (let l : i < length seg.stations = slice_get_within seg.stations i st e in omega (arith, l, r.bus.cursors))

      by : (o : Option ℕ) → Leaves (at_place seg o does)
      by None = tt
      by (Some i) = there i (slice_get seg.stations i) refl

  take_leaves : (i : ℕ) (st : Station) (room : Bool) → i < length seg.bus.cursors → (o : Option CanFrame) → bus.next_frame seg.bus i ≡ o → Leaves (takes_by seg room i st o)
  take_leaves i st room l None e = tt
  take_leaves i st room l (Some f) e = or_leaves (no_place st) _ _ (λ _. step_leaves _ refl (taken_len seg.bus i f r.bus.sound l e) i (taken st f room seg.now))

  put_leaves : (i : ℕ) (st : Station) (o : Option CanFrame) → Leaves (transmits_by seg i st o)
  put_leaves i st None = tt
  put_leaves i st (Some f) = or_leaves (bus.is_full seg.bus) _ _ (λ _. record {
    events = [];
    done = refl;
    stations = length-set seg.stations i (record st { queue = behind st.queue });
    len = (let e : length (seg.bus.kept ++ f ∷ []) ≡ length seg.bus.kept + 1 = length-append seg.bus.kept (f ∷ []) in omega (arith, e));
  })

  pump_leaves : (i : ℕ) (st : Station) (to : Address) (o : Option PumpRefused) → Leaves (pumps_by seg to i st o)
  pump_leaves i st to (Some pump.NothingToSend) = tt
  pump_leaves i st to (Some pump.NotYet) = tt
  pump_leaves i st to None = or_leaves (nat_lt (free_places st.queue) pump_places) _ _ (λ _. step_leaves seg refl refl i (pumped st to seg.now))

  call_leaves : (call : Call) → is_drain_call call ≡ true → Leaves (called seg call)
  unfolding called
  call_leaves (ask.Take a room) is = at_leaves a (takes seg room) (λ i st l. take_leaves i st room l (bus.next_frame seg.bus i) refl)
  call_leaves (ask.Transmit a) is = at_leaves a (transmits seg) (λ i st l. put_leaves i st (front st.queue))
  call_leaves (ask.Overrun a n) is = at_leaves a (overruns seg n) (λ i st l. or_leaves (nat_lt (bus.waiting seg.bus i) n) _ _ (λ few. step_leaves _ refl (passed_len seg.bus i n r.bus.sound l few) i (overrun st)))
  call_leaves (ask.Pump a to) is = at_leaves a (pumps seg to) (λ i st l. or_leaves (to.0 == null_address) _ _ (λ _. pump_leaves i st to (refusal_at st.lanes to.0 seg.now)))
  call_leaves (ask.Fire a) is = at_leaves a (fires seg) (λ i st l. or_leaves (not (is_due st seg.now)) _ _ (λ _. or_leaves (no_place st) _ _ (λ _. step_leaves seg refl refl i (fired st seg.now))))
  call_leaves (ask.Tick n) is = or_leaves (not (nat_lt (seg.now + n) (2 ^ 64))) _ _ (λ _. record { events = []; done = refl; stations = refl; len = omega arith })
  call_leaves (ask.Open a pgn max_len) is = absurd (true≢false (sym is))
  call_leaves (ask.Close port) is = absurd (true≢false (sym is))
  call_leaves (ask.Send from to pgn bytes) is = absurd (true≢false (sym is))
  call_leaves (ask.TakeAgain a room) is = absurd (true≢false (sym is))
  call_leaves (ask.Cancel from to number) is = absurd (true≢false (sym is))
  call_leaves (ask.Inject f) is = absurd (true≢false (sym is))
  call_leaves (ask.Pause port) is = absurd (true≢false (sym is))
  call_leaves (ask.Resume port) is = absurd (true≢false (sym is))

-- a call that was done
pub record IsMade (seg : Segment) (call : Call) : Type 0 where
  pub events : List Event
  pub done : (applied seg call).1 ≡ Done events
  pub stations : length (applied seg call).0.stations ≡ length seg.stations
  pub len : bus.bus_len (applied seg call).0.bus ≤ bus.bus_len seg.bus + 1

pub made : (seg : Segment) → IsReached seg → (call : Call) → is_drain_call call ≡ true → is_ok (called seg call) ≡ true → IsMade seg call
made seg r call is ok = let p : Left seg r (applied seg call) = by (called seg call) (call_leaves seg r call is) ok in record { events = p.events; done = p.done; stations = p.stations; len = p.len }
  where
    by : (x : Answer) → Leaves seg r x → is_ok x ≡ true → Left seg r (replied seg x)
    by (Ok step) k q = k
    by (Err cause) k q = absurd (true≢false (sym q))

-- A timer that only asks to wait again

asks_none : (kind : Kind) (m : Unfinished) → is_hold (Some (cts_frame kind m.peer 0 m.join.next)) ≡ true
unfolding written
asks_none Tp m = refl
asks_none Etp m = refl

holds_again : (st : Station) (now : ℕ) (key : Key) (v : List ℕ × Incoming) (s : HoldState) → first_due st.sessions now ≡ Some key → state_at st.sessions key ≡ Some v → v.1 ≡ incoming.Connection (receiver.Holding s) → flow_at st.ports v.0 ≡ Held → (fired st now).station ≡ record st { queue = st.queue ++ asked s.message Held ∷ []; sessions = (session_fired st.ports.station key v.0 st.sessions Held (incoming.Connection (receiver.Holding s)) now).sessions }
holds_again st now key v s due at is flow =
    ap (λ (o : Option Key). (elim o as (λ (_ : Option Key). StationStep) [ None ↦ lane_fired st now (due_lane st.lanes now) | Some k ↦ by_session st (fired_at st.ports k now st.sessions) ]).station) due
    ∙ ap (λ (o : Option (List ℕ × Incoming)). (by_session st (fired_by o st.ports key now st.sessions)).station) at
    ∙ (λ i. (by_session st (session_fired st.ports.station key v.0 st.sessions (flow i) (is i) now)).station)

-- The front of the queue after a timer fired

module _ (seg : Segment) (r : IsReached seg) (a : Address) (ok : is_ok (called seg (ask.Fire a)) ≡ true) (i : ℕ) (st : Station) (place : place_of seg a ≡ Some i) (at : slice_get seg.stations i ≡ Some st) where
  fire_says : called seg (ask.Fire a) ≡ fires seg i st
  unfolding called
  fire_says = ap (λ (o : Option ℕ). at_place seg o (fires seg)) place ∙ ap (λ (o : Option Station). at_station o (fires seg i)) at

  abbrev after : Segment
  after = (applied seg (ask.Fire a)).0

  fire_leaves : after ≡ (replied seg (stepped seg i (fired st seg.now))).0
  fire_leaves = ap (λ (x : Answer). (replied seg x).0) fire_says ∙ by (not (is_due st seg.now)) (no_place st) (ap is_ok (sym fire_says) ∙ ok)
    where
      by : (b n : Bool) → is_ok (cond {A = Answer} b (Err refusal.NothingDue) (cond {A = Answer} n (Err refusal.TxFull) (stepped seg i (fired st seg.now)))) ≡ true → (replied seg (cond {A = Answer} b (Err refusal.NothingDue) (cond {A = Answer} n (Err refusal.TxFull) (stepped seg i (fired st seg.now))))).0 ≡ (replied seg (stepped seg i (fired st seg.now))).0
      by true n q = absurd (true≢false (sym q))
      by false true q = absurd (true≢false (sym q))
      by false false q = refl

  pub front_is : (new : Station) → (fired st seg.now).station ≡ new → new.address ≡ st.address → front_at after a ≡ front new.queue
  front_is new is same =
      let reached : IsReached after = reached_call seg r (ask.Fire a) refl in
      let there : slice_get after.stations i ≡ Some new = ap (λ (s : Segment). slice_get s.stations i) fire_leaves ∙ slice_get_same seg.stations i st (fired st seg.now).station at (ap (λ (z : Station). z.address) is ∙ same) ∙ ap (λ (z : Station). Some z) is in
      let home : new.address ≡ a = same ∙ ap node (has_address seg a i st place at) in
      let found : place_of after a ≡ Some i = ap (place_of after) (sym home) ∙ reached.places i new there in
      ap (λ (o : Option ℕ). front (unwrap_or (elim o as (λ (_ : Option ℕ). Option Station) [ None ↦ None | Some j ↦ slice_get after.stations j ]) (new_station a)).queue) found
      ∙ ap (λ (o : Option Station). front (unwrap_or o (new_station a)).queue) there

-- nothing is to be put
abbrev pub AllPut : Segment → Type 0
AllPut seg = (i : ℕ) (st : Station) → slice_get seg.stations i ≡ Some st → st.queue ≡ []

fire_at : (seg : Segment) (a : Address) (o : Option ℕ) → place_of seg a ≡ o → called seg (ask.Fire a) ≡ at_place seg o (fires seg)
unfolding called
fire_at seg a o e = ap (λ (p : Option ℕ). at_place seg p (fires seg)) e

-- without a session on hold it asks nobody to wait
pub calm_fire : (seg : Segment) → IsReached seg → AreCalm seg → AllPut seg → (a : Address) → is_ok (called seg (ask.Fire a)) ≡ true → is_hold (front_at (applied seg (ask.Fire a)).0 a) ≡ false
calm_fire seg r calm put a ok = by (place_of seg a) refl
  where
    nowhere : (x : Answer) → called seg (ask.Fire a) ≡ x → is_ok x ≡ false → is_hold (front_at (applied seg (ask.Fire a)).0 a) ≡ false
    nowhere x e q = absurd (true≢false (sym ok ∙ ap is_ok e ∙ q))

    stations : (i : ℕ) → place_of seg a ≡ Some i → (o : Option Station) → slice_get seg.stations i ≡ o → is_hold (front_at (applied seg (ask.Fire a)).0 a) ≡ false
    stations i place None e = nowhere (Err refusal.NoSuchStation) (fire_at seg a (Some i) place ∙ ap (λ (o : Option Station). at_station o (fires seg i)) e) refl
    stations i place (Some st) e =
        let k = fired_keeps st (calm i st e) seg.now in
        ap is_hold (front_is seg r a ok i st place e (fired st seg.now).station refl k.0.address) ∙ k.1 (put i st e)

    by : (o : Option ℕ) → place_of seg a ≡ o → is_hold (front_at (applied seg (ask.Fire a)).0 a) ≡ false
    by None e = nowhere (Err refusal.NoSuchStation) (fire_at seg a None e) refl
    by (Some i) e = stations i e (slice_get seg.stations i) refl

-- Room on a full bus

most_least : (seg : Segment) (n k : ℕ) → k < n → waiting_at seg (node k) ≤ most_waiting seg n
unfolding most_waiting
most_least seg zero k l = absurd (omega (arith, l))
most_least seg (suc n) k l = by (equal_or_not k n) (most_least seg n k)
  where
    by : (k ≡ n) ⊎ (k ≡ n → ⊥) → (k < n → waiting_at seg (node k) ≤ most_waiting seg n) → waiting_at seg (node k) ≤ max (most_waiting seg n) (waiting_at seg (node n))
    by (inl q) rest = let e : waiting_at seg (node k) ≡ waiting_at seg (node n) = ap (λ m. waiting_at seg (node m)) q in omega (arith, e)
    by (inr q) rest = let e = rest (omega (arith, q, l)) in omega (arith, e)

most_reached : (seg : Segment) (n : ℕ) → 0 < most_waiting seg n → (k : ℕ) × (k < n) × (waiting_at seg (node k) ≡ most_waiting seg n)
unfolding most_waiting
most_reached seg zero l = absurd (omega (arith, l))
most_reached seg (suc n) l = by (cases_lt (most_waiting seg n) (waiting_at seg (node n))) (most_reached seg n)
  where
    by : (most_waiting seg n < waiting_at seg (node n)) ⊎ (waiting_at seg (node n) ≤ most_waiting seg n) → (0 < most_waiting seg n → (k : ℕ) × (k < n) × (waiting_at seg (node k) ≡ most_waiting seg n)) → (k : ℕ) × (k < suc n) × (waiting_at seg (node k) ≡ max (most_waiting seg n) (waiting_at seg (node n)))
    by (inl q) rest = (n, omega arith, omega (arith, q))
    by (inr q) rest = let r = rest (omega (arith, q, l)) in (r.0, omega (arith, r.1), omega (arith, r.2, q))

-- something waits for the station furthest behind, if something waits for some station
furthest_waits : (seg : Segment) (k : ℕ) → k < 254 → 0 < waiting_at seg (node k) → 0 < waiting_at seg (furthest seg)
furthest_waits seg k l some =
    let least : waiting_at seg (node k) ≤ most_waiting seg 254 = most_least seg 254 k l in
    let r = most_reached seg 254 (omega (arith, least, some)) in
    by (least_below test 254) refl (found_below test 254 r.0 r.1 (eq-eqb (waiting_at seg (node r.0)) (most_waiting seg 254) r.2)) (omega (arith, least, some))
  where
    test : ℕ → Bool
    test n = waiting_at seg (node n) == most_waiting seg 254

    by : (o : Option ℕ) → least_below test 254 ≡ o → is_some o ≡ true → 0 < most_waiting seg 254 → 0 < waiting_at seg (unwrap_or (option_map node o) (node 0))
    by None e q m = absurd (true≢false (sym q))
    by (Some j) e q m = let is : waiting_at seg (node j) ≡ most_waiting seg 254 = eqb-true (waiting_at seg (node j)) (most_waiting seg 254) (least_found test 254 j e).0 in omega (arith, is, m)

-- what waits for a station can be missed
overrun_ok : (seg : Segment) (a : Address) → 0 < waiting_at seg a → is_ok (called seg (ask.Overrun a (waiting_at seg a))) ≡ true
unfolding called
overrun_ok seg a some = by (place_of seg a) refl (waiting_at seg a) refl some
  where
    few : (w n : ℕ) → n ≡ w → (x : Segment × Reply) (cause : Refusal) → is_ok (cond {A = Answer} (nat_lt w n) (Err cause) (Ok x)) ≡ true
    few w n e x cause = on_test (λ b. nat_lt w n ≡ b → is_ok (cond {A = Answer} b (Err cause) (Ok x)) ≡ true) (nat_lt w n) (λ _ q. let l : w < n = ltb-true w n q in absurd (omega (arith, l, e))) (λ _ q. refl) refl

    on : (i n : ℕ) → n ≡ bus.waiting seg.bus i → (st : Station) (o : Option Station) → o ≡ Some st → is_ok (at_station o (overruns seg n i)) ≡ true
    on i n q st o e = subst (λ (z : Option Station). is_ok (at_station z (overruns seg n i)) ≡ true) (sym e) (few (bus.waiting seg.bus i) n q _ _)

    by : (o : Option ℕ) → place_of seg a ≡ o → (n : ℕ) → n ≡ (elim o as (λ (_ : Option ℕ). ℕ) [ None ↦ 0 | Some i ↦ bus.waiting seg.bus i ]) → 0 < n → is_ok (at_place seg o (overruns seg n)) ≡ true
    by None e n q l = absurd (omega (arith, q, l))
    by (Some i) e n q l = on i n q (get_or seg.stations i (station_at seg a)) (slice_get seg.stations i) (found_there (λ (z : Station). z.address.0 == a.0) seg.stations i (station_at seg a) e)

-- a bus that keeps a station from putting is full
full_of : (seg : Segment) (a : Address) → is_for_bus (refusal_of (called seg (ask.Transmit a))) ≡ true → bus.is_full seg.bus ≡ true
unfolding called
full_of seg a h = by (place_of seg a) h
  where
    full : (b : Bool) (x : Segment × Reply) → is_for_bus (refusal_of (cond {A = Answer} b (Err refusal.BusFull) (Ok x))) ≡ true → b ≡ true
    full true x q = refl
    full false x q = absurd (true≢false (sym q))

    framed : (i : ℕ) (st : Station) (o : Option CanFrame) → is_for_bus (refusal_of (transmits_by seg i st o)) ≡ true → bus.is_full seg.bus ≡ true
    framed i st None q = absurd (true≢false (sym q))
    framed i st (Some f) q = full (bus.is_full seg.bus) _ q

    on : (i : ℕ) (o : Option Station) → is_for_bus (refusal_of (at_station o (transmits seg i))) ≡ true → bus.is_full seg.bus ≡ true
    on i None q = absurd (true≢false (sym q))
    on i (Some st) q = framed i st (front st.queue) q

    by : (o : Option ℕ) → is_for_bus (refusal_of (at_place seg o (transmits seg))) ≡ true → bus.is_full seg.bus ≡ true
    by None q = absurd (true≢false (sym q))
    by (Some i) q = on i (slice_get seg.stations i) q

-- each station has the address of a node
node_small : (seg : Segment) → IsReached seg → (i : ℕ) (d : Station) → i < length seg.stations → (get_or seg.stations i d).address.0 < 254
node_small seg r i d l = ltb-true (get_or seg.stations i d).address.0 254 (r.stations i d l).own

-- with a full bus and places left, something waits for the station furthest behind
full_waits : (seg : Segment) → IsReached seg → bus.bus_len seg.bus + 1 < 2 ^ 64 → bus.is_full seg.bus ≡ true → 0 < waiting_at seg (furthest seg)
full_waits seg r places full = by ((slice_get_cases seg.stations behind).1)
  where
    behind : ℕ
    behind = (rear seg r places full).place

    there : (st : Station) → slice_get seg.stations behind ≡ Some st → st.address.0 < 254 → 0 < waiting_at seg (furthest seg)
    there st at small =
        let w : 0 < bus.waiting seg.bus behind = waits_there seg r places full in
        let is : waiting_at seg st.address ≡ bus.waiting seg.bus behind = ap (λ (o : Option ℕ). elim o as (λ (_ : Option ℕ). ℕ) [ None ↦ 0 | Some i ↦ bus.waiting seg.bus i ]) (r.places behind st at) in
        furthest_waits seg st.address.0 small (omega (arith, w, is))

    by : (((x : Station) × (behind < length seg.stations) × (slice_get seg.stations behind ≡ Some x) × (get_or seg.stations behind x ≡ x)) ⊎ ((length seg.stations ≤ behind) × (slice_get seg.stations behind ≡ None))) → 0 < waiting_at seg (furthest seg)
    by (inl q) = there q.0 q.2 (subst (λ (z : Station). z.address.0 < 254) q.3 (node_small seg r behind q.0 q.1))
    by (inr q) = let l = (rear seg r places full).inside in absurd (omega (arith, q.0, l, r.bus.cursors))

-- One turn

-- a call of a drain works something off; or lets the clock go on from where nothing can be done to where something can; or ends it
pub data Advances (hold : ℕ) (seg : Segment) (call : Call) : Type 0 where
  WorksOff : work (paid hold) (applied seg call).0 + 1 ≤ work (paid hold) seg → Advances hold seg call
  GoesOn : work (paid hold) (applied seg call).0 ≤ work (paid hold) seg → bus.bus_len (applied seg call).0.bus ≡ bus.bus_len seg.bus → any_work seg seg.now ≡ false → any_work (applied seg call).0 (applied seg call).0.now ≡ true → Advances hold seg call
  IsHeld : end_by (applied seg call).0 call (applied seg call).1 ≡ Some end.Held → Advances hold seg call

-- a timer fires only if nothing is to be put
abbrev pub is_fire : Call → Bool
is_fire (ask.Fire a) = true
is_fire call = false

pub record Turns (hold : ℕ) (seg : Segment) (call : Call) : Type 0 where
  pub made : IsMade seg call
  pub advances : Advances hold seg call
  pub fires : is_fire call ≡ true → AllPut seg

-- what is next is such a call, or the end: at rest, or since the last place of the bus is used
abbrev pub Goes : ℕ → Segment → Next → Type 0
Goes hold seg (Make call) = Turns hold seg call
Goes hold seg (End end.Rest) = Unit {0}
Goes hold seg (End (end.Refused cause)) = 2 ^ 64 ≤ bus.bus_len seg.bus + 1
Goes hold seg (End why) = ⊥

module _ (falls : WorkFalls) (overruns_fall : OverrunsFall) (hold : ℕ) (addresses : List Address) (steps : Record) (seg : Segment) (d : DriftsTo addresses steps seg) (ready : 2 + length seg.stations ≤ hold) where
  r : IsReached seg
  r = drifts_reached addresses steps seg d

  lowered : (call : Call) → is_call call ≡ true → (m : IsMade seg call) → spent (paid hold) call (Done m.events) ≡ 1 → allowance (paid hold) seg call (Done m.events) ≡ 0 → work (paid hold) (applied seg call).0 + 1 ≤ work (paid hold) seg
  lowered call is m s a =
      let f : Falls (paid hold) seg call = falls (paid hold) addresses steps seg call d is in
      let t : spent (paid hold) call (applied seg call).1 ≡ 1 = ap (spent (paid hold) call) m.done ∙ s in
      let b : allowance (paid hold) seg call (applied seg call).1 ≡ 0 = ap (allowance (paid hold) seg call) m.done ∙ a in
      omega (arith, f, t, b)

  takes_turn : (a : Address) → lowest seg kind.Take ≡ Some a → Turns hold seg (ask.Take a true)
  takes_turn a e =
      let m : IsMade seg (ask.Take a true) = made seg r (ask.Take a true) refl (passes_ok (called seg (ask.Take a true)) (lowest_can seg kind.Take a e)) in
      record { made = m; advances = WorksOff (lowered (ask.Take a true) refl m refl refl); fires = λ q. absurd (true≢false (sym q)) }

  puts_turn : (a : Address) → lowest seg kind.Transmit ≡ Some a → Turns hold seg (ask.Transmit a)
  puts_turn a e =
      let m : IsMade seg (ask.Transmit a) = made seg r (ask.Transmit a) refl (passes_ok (called seg (ask.Transmit a)) (lowest_can seg kind.Transmit a e)) in
      record { made = m; advances = WorksOff (lowered (ask.Transmit a) refl m refl refl); fires = λ q. absurd (true≢false (sym q)) }

  pump_ok : (a : Address) → is_some (next_pump seg a) ≡ true → is_ok (called seg (pump_of seg a)) ≡ true
  pump_ok a h = by (least_below (pumps_to seg a) 256) refl h
    where
      by : (o : Option ℕ) → least_below (pumps_to seg a) 256 ≡ o → is_some (option_map node o) ≡ true → is_ok (called seg (ask.Pump a (unwrap_or (option_map node o) a))) ≡ true
      by None e q = absurd (true≢false (sym q))
      by (Some k) e q = (least_found (pumps_to seg a) 256 k e).0

  pumps_turn : (a : Address) → lowest seg kind.Pump ≡ Some a → Turns hold seg (pump_of seg a)
  pumps_turn a e =
      let fits = pump_fits seg a (lowest_small seg kind.Pump a e) in
      let m : IsMade seg (pump_of seg a) = made seg r (pump_of seg a) fits.1 (pump_ok a (lowest_can seg kind.Pump a e)) in
      record { made = m; advances = WorksOff (lowered (pump_of seg a) fits.0 m refl refl); fires = λ q. absurd (true≢false (sym q)) }

  room_goes : (b : Bool) → nat_lt (bus.bus_len seg.bus + 1) (2 ^ 64) ≡ b → bus.is_full seg.bus ≡ true → Goes hold seg (cond b (Make (ask.Overrun (furthest seg) (waiting_at seg (furthest seg)))) (End (end.Refused refusal.BusFull)))
  room_goes false e full = ltb-false (bus.bus_len seg.bus + 1) (2 ^ 64) e
  room_goes true e full =
      let some : 0 < waiting_at seg (furthest seg) = full_waits seg r (ltb-true (bus.bus_len seg.bus + 1) (2 ^ 64) e) full in
      let m : IsMade seg (ask.Overrun (furthest seg) (waiting_at seg (furthest seg))) = made seg r (ask.Overrun (furthest seg) (waiting_at seg (furthest seg))) refl (overrun_ok seg (furthest seg) some) in
      record { made = m; advances = WorksOff (overruns_fall (paid hold) addresses steps seg (furthest seg) (waiting_at seg (furthest seg)) m.events d some m.done); fires = λ q. absurd (true≢false (sym q)) }

  -- Timers

  abbrev c : Terms
  c = terms_of (paid hold) seg

  all_put : lowest seg kind.Transmit ≡ None → lowest seg kind.Blocked ≡ None → AllPut seg
  unfolding called
  all_put none blocked i st at = by st.queue refl
    where
      says : called seg (ask.Transmit st.address) ≡ transmits_by seg i st (front st.queue)
      says = ap (λ (o : Option ℕ). at_place seg o (transmits seg)) (r.places i st at) ∙ ap (λ (o : Option Station). at_station o (transmits seg i)) at

      small : st.address.0 < 254
      small = by-case ((slice_get_cases seg.stations i).1)
        where
          by-case : (((x : Station) × (i < length seg.stations) × (slice_get seg.stations i ≡ Some x) × (get_or seg.stations i x ≡ x)) ⊎ ((length seg.stations ≤ i) × (slice_get seg.stations i ≡ None))) → st.address.0 < 254
          by-case (inl q) = subst (λ (z : Station). z.address.0 < 254) (q.3 ∙ same_Some q.0 st (sym q.2 ∙ at)) (node_small seg r i q.0 q.1)
          by-case (inr q) = absurd (none-some st (sym q.1 ∙ at))

      by : (q : List CanFrame) → st.queue ≡ q → q ≡ []
      by [] e = refl
      by (f ∷ fs) e =
          let here : called seg (ask.Transmit st.address) ≡ transmits_by seg i st (Some f) = says ∙ ap (λ q. transmits_by seg i st (front q)) e in
          absurd (puts_or_blocked (bus.is_full seg.bus) _
          (ap (λ (x : Answer). is_none (refusal_of x)) (sym here) ∙ none_can seg kind.Transmit st.address.0 none small)
          (ap (λ (x : Answer). is_for_bus (refusal_of x)) (sym here) ∙ none_can seg kind.Blocked st.address.0 blocked small))

  -- the timer that fires asks for nothing, or its frame only asks to wait again
  module _ (a : Address) (ok : is_ok (called seg (ask.Fire a)) ≡ true) (put : AllPut seg) where
    module _ (i : ℕ) (st : Station) (place : place_of seg a ≡ Some i) (at : slice_get seg.stations i ≡ Some st) where
      abbrev next : Segment
      next = (applied seg (ask.Fire a)).0

      holds : (key : Key) (v : List ℕ × Incoming) (s : HoldState) → first_due st.sessions seg.now ≡ Some key → state_at st.sessions key ≡ Some v → v.1 ≡ incoming.Connection (receiver.Holding s) → flow_at st.ports v.0 ≡ Held → is_hold (front_at next a) ≡ true
      holds key v s due there is flow =
          ap is_hold (front_is seg r a ok i st place at _ (holds_again st seg.now key v s due there is flow) refl ∙ ap (λ q. front (q ++ asked s.message Held ∷ [])) (put i st at))
          ∙ asks_none s.message.kind s.message

      abbrev asks_of : Option (List ℕ × Incoming) → ℕ
      asks_of o = elim o as (λ (_ : Option (List ℕ × Incoming)). ℕ) [ None ↦ 0 | Some v ↦ timer_asks c (flow_at st.ports v.0) v.1 ]

      open_asks : 1 + plain c - hold ≡ 0
      open_asks = let e = plain_is hold seg in omega (arith, e, ready)

      timer : (key : Key) (v : List ℕ × Incoming) → first_due st.sessions seg.now ≡ Some key → state_at st.sessions key ≡ Some v → (s : Incoming) → v.1 ≡ s → (flow : Flow) → flow_at st.ports v.0 ≡ flow → (timer_asks c flow s ≡ 0) ⊎ (is_hold (front_at next a) ≡ true)
      timer key v due there (incoming.Broadcast s) q flow f = inl refl
      timer key v due there (incoming.Connection (receiver.AwaitPacket s)) q flow f = inl refl
      timer key v due there (incoming.Connection (receiver.Holding s)) q Open f = inl open_asks
      timer key v due there (incoming.Connection (receiver.Holding s)) q Held f = inr (holds key v s due there q f)

      states : (key : Key) → first_due st.sessions seg.now ≡ Some key → (o : Option (List ℕ × Incoming)) → state_at st.sessions key ≡ o → (asks_of o ≡ 0) ⊎ (is_hold (front_at next a) ≡ true)
      states key due None e = inl refl
      states key due (Some v) e = timer key v due e v.1 refl (flow_at st.ports v.0) refl

      keys : (o : Option Key) → first_due st.sessions seg.now ≡ o → ((elim o as (λ (_ : Option Key). ℕ) [ None ↦ 0 | Some key ↦ asks_of (state_at st.sessions key) ]) ≡ 0) ⊎ (is_hold (front_at next a) ≡ true)
      keys None e = inl refl
      keys (Some key) e = states key e (state_at st.sessions key) refl

    asks_or_holds : (fire_asks_at c seg a ≡ 0) ⊎ (is_hold (front_at (applied seg (ask.Fire a)).0 a) ≡ true)
    asks_or_holds = by (place_of seg a) refl
      where
        stations : (i : ℕ) → place_of seg a ≡ Some i → (o : Option Station) → slice_get seg.stations i ≡ o → ((elim o as (λ (_ : Option Station). ℕ) [ None ↦ 0 | Some st ↦ fire_asks c st seg.now ]) ≡ 0) ⊎ (is_hold (front_at (applied seg (ask.Fire a)).0 a) ≡ true)
        stations i place None e = inl refl
        stations i place (Some st) e = keys i st place e (first_due st.sessions seg.now) refl

        by : (o : Option ℕ) → place_of seg a ≡ o → ((elim (elim o as (λ (_ : Option ℕ). Option Station) [ None ↦ None | Some i ↦ slice_get seg.stations i ]) as (λ (_ : Option Station). ℕ) [ None ↦ 0 | Some st ↦ fire_asks c st seg.now ]) ≡ 0) ⊎ (is_hold (front_at (applied seg (ask.Fire a)).0 a) ≡ true)
        by None e = inl refl
        by (Some i) e = stations i e (slice_get seg.stations i) refl

  fires_turn : (a : Address) → lowest seg kind.Fire ≡ Some a → AllPut seg → Turns hold seg (ask.Fire a)
  fires_turn a e put = record { made = m; advances = by (asks_or_holds a ok put); fires = λ q. put }
    where
      ok : is_ok (called seg (ask.Fire a)) ≡ true
      ok = passes_ok (called seg (ask.Fire a)) (lowest_can seg kind.Fire a e)

      m : IsMade seg (ask.Fire a)
      m = made seg r (ask.Fire a) refl ok

      by : (fire_asks_at c seg a ≡ 0) ⊎ (is_hold (front_at (applied seg (ask.Fire a)).0 a) ≡ true) → Advances hold seg (ask.Fire a)
      by (inl z) = WorksOff (lowered (ask.Fire a) refl m refl z)
      by (inr h) = IsHeld (ap (end_by (applied seg (ask.Fire a)).0 (ask.Fire a)) m.done ∙ ap (λ b. cond {A = Option DrainEnd} b (Some end.Held) None) h)

  -- Time

  idle_now : lowest seg kind.Take ≡ None → lowest seg kind.Transmit ≡ None → lowest seg kind.Pump ≡ None → lowest seg kind.Fire ≡ None → any_work seg seg.now ≡ false
  idle_now t p m f = list_any_none (λ (st : Station). has_work seg st.address) seg.stations (λ i dflt l. none (get_or seg.stations i dflt).address (node_small seg r i dflt l))
    where
      none : (a : Address) → a.0 < 254 → has_work seg a ≡ false
      none a l =
          let puts : is_ok (called seg (ask.Transmit a)) ≡ false = fails_too (called seg (ask.Transmit a)) (none_can seg kind.Transmit a.0 p l) in
          let gets : is_ok (called seg (ask.Take a true)) ≡ false = fails_too (called seg (ask.Take a true)) (none_can seg kind.Take a.0 t l) in
          let pumped_it : is_some (next_pump seg a) ≡ false = none_can seg kind.Pump a.0 m l in
          let fired_it : is_ok (called seg (ask.Fire a)) ≡ false = fails_too (called seg (ask.Fire a)) (none_can seg kind.Fire a.0 f l) in
          (λ i. (puts i || gets i) || (pumped_it i || fired_it i))

  tick_goes : any_work seg seg.now ≡ false → (o : Option ℕ) → next_tick seg ≡ o → Goes hold seg (waits_until seg.now o)
  unfolding called
  tick_goes idle None e = tt
  tick_goes idle (Some t) e = by (least_below test (2 ^ 64 - seg.now)) refl e
    where
      test : ℕ → Bool
      test k = any_work seg (seg.now + k)

      goes : (n : ℕ) → nat_lt (seg.now + n) (2 ^ 64) ≡ true → any_work seg (seg.now + n) ≡ true → Turns hold seg (ask.Tick n)
      goes n fits then =
          let is : applied seg (ask.Tick n) ≡ (record seg { now = seg.now + n }, Done []) = ap (λ (b : Bool). replied seg (cond {A = Answer} (not b) (Err refusal.ClockEnd) (Ok (record seg { now = seg.now + n }, Done [])))) fits in
          let f : Falls (paid hold) seg (ask.Tick n) = falls (paid hold) addresses steps seg (ask.Tick n) d refl in
          let m : IsMade seg (ask.Tick n) = record { events = []; done = ap (λ (x : Segment × Reply). x.1) is; stations = ap (λ (x : Segment × Reply). length x.0.stations) is; len = (let e : bus.bus_len (applied seg (ask.Tick n)).0.bus ≡ bus.bus_len seg.bus = ap (λ (x : Segment × Reply). bus.bus_len x.0.bus) is in omega (arith, e)) } in
          let s : spent (paid hold) (ask.Tick n) (applied seg (ask.Tick n)).1 ≡ 0 = ap (spent (paid hold) (ask.Tick n)) m.done in
          let b : allowance (paid hold) seg (ask.Tick n) (applied seg (ask.Tick n)).1 ≡ 0 = ap (allowance (paid hold) seg (ask.Tick n)) m.done in
          record { made = m; advances = GoesOn (omega (arith, f, s, b)) (ap (λ (x : Segment × Reply). bus.bus_len x.0.bus) is) idle (ap (λ (x : Segment × Reply). any_work x.0 x.0.now) is ∙ then); fires = λ q. absurd (true≢false (sym q)) }

      by : (o : Option ℕ) → least_below test (2 ^ 64 - seg.now) ≡ o → option_map (λ k. seg.now + k) o ≡ Some t → Turns hold seg (ask.Tick (t - seg.now))
      by None q is = absurd (none-some t is)
      by (Some k) q is =
          let f = least_found test (2 ^ 64 - seg.now) k q in
          let same : seg.now + k ≡ t = same_Some (seg.now + k) t is in
          let n : k ≡ t - seg.now = omega (arith, same) in
          subst (λ x. Turns hold seg (ask.Tick x)) n (goes k (lt-ltb (seg.now + k) (2 ^ 64) (omega (arith, f.1))) f.0)

  -- Whatever is next

  or_goes : (o : Option Address) (call : Address → Call) (other : Next) → ((a : Address) → o ≡ Some a → Turns hold seg (call a)) → (o ≡ None → Goes hold seg other) → Goes hold seg (or_else o call other)
  or_goes (Some a) call other h k = h a refl
  or_goes None call other h k = k refl

  pub next_goes : Goes hold seg (next_of seg)
  unfolding next_of
  next_goes =
      or_goes (lowest seg kind.Take) (λ a. ask.Take a true) (untaken seg) takes_turn (λ t.
      or_goes (lowest seg kind.Transmit) ask.Transmit (cond (is_some (lowest seg kind.Blocked)) (makes_room seg) (unblocked seg)) puts_turn (λ p.
      blocked t p (lowest seg kind.Blocked) refl))
    where
      free : lowest seg kind.Take ≡ None → lowest seg kind.Transmit ≡ None → lowest seg kind.Blocked ≡ None → Goes hold seg (unblocked seg)
      free t p none =
          or_goes (lowest seg kind.Pump) (pump_of seg) (or_else (lowest seg kind.Fire) ask.Fire (waits_until seg.now (next_tick seg))) pumps_turn (λ m.
          or_goes (lowest seg kind.Fire) ask.Fire (waits_until seg.now (next_tick seg)) (λ a e. fires_turn a e (all_put p none)) (λ f.
          tick_goes (idle_now t p m f) (next_tick seg) refl))

      blocked : lowest seg kind.Take ≡ None → lowest seg kind.Transmit ≡ None → (o : Option Address) → lowest seg kind.Blocked ≡ o → Goes hold seg (cond (is_some o) (makes_room seg) (unblocked seg))
      blocked t p None e = free t p e
      blocked t p (Some a) e = room_goes (nat_lt (bus.bus_len seg.bus + 1) (2 ^ 64)) refl (full_of seg a (lowest_can seg kind.Blocked a e))
