-- What is known of a station stays so through each call of another one.
use Rattle.std.proofs.Common.{◌≡◌, ◌≢◌, ℕ, zero, suc, ◌+◌, ◌<◌, ◌≤◌, ◌^◌, ◌==◌, Bool, true, false, cond, List, [], ◌∷◌, length, set, get_or, replicate, ◌-◌, inl, inr, Option, Some, None, Result, Ok, Err, refl, sym, ap, ◌∙◌, subst, arith, eqb-true, get_or-set_other, length-set}
use Rattle.std.specs.Prelude.{◌⊎◌, unwrap_or, slice_get, position, IfOk, IfSome, IfNone, OnErr}
use Rattle.std.specs.declared.alloc.AllocError.{AllocError}
use Rattle.std.proofs.lemmas.Bool.{eqb-false, lt-leb}
use Rattle.std.proofs.lemmas.Option.{slice_get_within, slice_get-get_or}
use Rattle.bus_frame.specs.Frames.{CanFrame}
use Rattle.pgn_ids.specs.declared.address.Address.{Address}
use Rattle.tick_timers.specs.Due.{IsDueFrom, has_come}
use Rattle.tx_queue.specs.Queue.{behind}
use Rattle.bus_order.specs.Bus as bus
use Rattle.port_table.specs.Ports.{with_port, with_paused}
use Rattle.message_events.specs.declared.event.Event.{Event}
use Rattle.station_core.specs.Station.{Station, StationStep, new_station}
use Rattle.station_core.specs.Sending.{sent, pumped, cancelled}
use Rattle.station_core.specs.Taking.{is_malformed_for, taken}
use Rattle.station_core.specs.Timers.{fired}
use Rattle.station_core.specs.Closing.{closed}
use Rattle.station_core.specs.Overruns.{overrun}
use Rattle.segment_law.specs.Segment.{Segment, place_of, station_at, station_of, with_station, counted, counted_look, counted_repeat}
use Rattle.segment_law.specs.Calls.{with_frame, applied}
use Rattle.segment_law.specs.declared.counts.Counts.{Counts}
use Rattle.segment_law.specs.declared.call.Call.{Call}
use Rattle.segment_law.specs.declared.call.Call.TheVariants.{Open, Close, Send, Pump, Transmit, Take, TakeAgain, Overrun, Tick, Fire, Cancel, Inject, Pause, Resume}
use Rattle.segment_law.specs.declared.reply.Reply.{Reply}
use Rattle.segment_law.specs.declared.reply.Reply.TheVariants.{Refused, Done}
use Rattle.segment_law.proofs.Reaching.{position_kept, slice_get_same}
use Rattle.record_law.proofs.EachCall.{OfStation, Accepted, each_applied}
use Rattle.record_law.proofs.Segments.{found_passes, found_there}
use Rattle.segment_state.specs.Answers.{made_as, reply_with}
use Rattle.segment_state.specs.Next.{at_tick, is_active}
use Rattle.segment_state.specs.Passing.{IsPassing}
use Rattle.segment_state.specs.declared.made.Tried.{Tried}
use Rattle.segment_state.specs.declared.made.Tried.TheVariants as tried
use Rattle.segment_state.specs.declared.passing.Passing.{Passing}
use Rattle.segment_state.specs.declared.passing.Passing.TheVariants.{Passed, Rests, Busy}
use Rattle.segment_state.proofs.Addresses.{closed_keeps, taken_keeps, fired_keeps}
use Rattle.segment_state.proofs.Nexts.{active_as}
use Rattle.watched_segment.specs.Calm.{AreCalm, forgotten, lacks_places, known_after}
use Rattle.watched_segment.proofs.Sent.{still_room, active_still}

-- the station that was found at a place
abbrev at_found : List Station → Option ℕ → Option Station
at_found xs o = elim o as (λ (_ : Option ℕ). Option Station) [ None ↦ None | Some i ↦ slice_get xs i ]

abbrev found_in : Address → List Station → Option Station
found_in a xs = at_found xs (position (λ (st : Station). st.address.0 == a.0) xs)

-- Ticks

zeroed : (ticks : List ℕ) (a : ℕ) → get_or (set ticks a 0) a 0 ≡ 0
zeroed [] a = refl
zeroed (x ∷ xs) zero = refl
zeroed (x ∷ xs) (suc a) = zeroed xs a

-- the tick of another address, or none
known_before : (ticks : List ℕ) (a b tick : ℕ) → tick < get_or (set ticks a 0) b 0 → (b ≢ a) × (tick < get_or ticks b 0)
known_before ticks a b tick l = by (b == a) refl
  where
    by : (t : Bool) → (b == a) ≡ t → (b ≢ a) × (tick < get_or ticks b 0)
    by true same =
        let e : b ≡ a = eqb-true b a same in
        let none : get_or (set ticks a 0) b 0 ≡ 0 = ap (λ (n : ℕ). get_or (set ticks a 0) n 0) e ∙ zeroed ticks a in
        absurd (omega (arith, l, none))
    by false other =
        let apart : b ≢ a = eqb-false b a other in
        (apart, subst (λ (n : ℕ). tick < n) (get_or-set_other ticks a b 0 0 apart) l)

none_known : (n b : ℕ) → get_or (replicate n zero) b zero ≡ zero
none_known zero b = refl
none_known (suc n) zero = refl
none_known (suc n) (suc b) = none_known n b

-- of a new segment nothing is known
pub none_calm : (n : ℕ) (seg : Segment) → AreCalm (replicate n 0) seg
none_calm n seg a tick l = let none = none_known n a.0 in absurd (omega (arith, l, none))

pub less_known : (ticks : List ℕ) (seg : Segment) (a : Address) → AreCalm ticks seg → AreCalm (forgotten a ticks) seg
less_known ticks seg a calm b tick l = calm b tick (known_before ticks a.0 b.0 tick l).1

-- a tick is noted
noted_at : (ticks : List ℕ) (a b x tick : ℕ) → tick < get_or (set ticks a x) b 0 → ((b ≡ a) × (tick < x)) ⊎ (tick < get_or ticks b 0)
noted_at ticks a b x tick l = by (b == a) refl
  where
    most : (xs : List ℕ) (k : ℕ) → tick < get_or (set xs k x) k 0 → tick < x
    most [] k h = let none : tick < 0 = h in absurd (omega (arith, none))
    most (y ∷ ys) zero h = h
    most (y ∷ ys) (suc k) h = most ys k h

    by : (t : Bool) → (b == a) ≡ t → ((b ≡ a) × (tick < x)) ⊎ (tick < get_or ticks b 0)
    by true same = let e : b ≡ a = eqb-true b a same in inl (e, most ticks a (subst (λ (n : ℕ). tick < get_or (set ticks a x) n 0) e l))
    by false other = inr (subst (λ (n : ℕ). tick < n) (get_or-set_other ticks a b x 0 (eqb-false b a other)) l)

pub more_known : (ticks : List ℕ) (seg : Segment) (a : Address) (x : ℕ) → ((tick : ℕ) → tick < x → is_active (at_tick seg tick) a ≡ false) → AreCalm ticks seg → AreCalm (set ticks a.0 x) seg
more_known ticks seg a x first calm b tick l = elim (noted_at ticks a.0 b.0 x tick l) [
  | inl h ↦ ap (λ (n : ℕ). is_active (at_tick seg tick) (record { 0 = n })) h.0 ∙ first tick h.1
  | inr h ↦ calm b tick h
]

-- before the tick from which on it is active it isn't
pub calm_before : (seg : Segment) (a : Address) (x : ℕ) → x < 2 ^ 64 → IsDueFrom (λ tick. is_active (at_tick seg tick) a) (Some x) → (tick : ℕ) → tick < x → is_active (at_tick seg tick) a ≡ false
calm_before seg a x below due tick l = due tick (omega (arith, l, below)) ∙ lt-leb x tick l

pub calm_always : (seg : Segment) (a : Address) → IsDueFrom (λ tick. is_active (at_tick seg tick) a) None → (tick : ℕ) → tick < 2 ^ 64 - 1 → is_active (at_tick seg tick) a ≡ false
calm_always seg a due tick l = due tick (omega (arith, l))

pub active_now : (seg : Segment) (a : Address) (now : ℕ) (tick : Option ℕ) → now ≡ seg.now → now < 2 ^ 64 → IsDueFrom (λ n. is_active (at_tick seg n) a) tick → is_active seg a ≡ has_come tick now
active_now seg a now tick is below due = ap (λ (n : ℕ). is_active (at_tick seg n) a) (sym is) ∙ due now below

pub past_all : (ticks : List ℕ) (k x : ℕ) → length ticks ≤ k → set ticks k x ≡ ticks
past_all [] k x l = refl
past_all (y ∷ ys) zero x l = absurd (omega (arith, l))
past_all (y ∷ ys) (suc k) x l = ap (λ (zs : List ℕ). y ∷ zs) (past_all ys k x (omega (arith, l)))

-- Each call

module _ (ticks : List ℕ) (seg : Segment) (calm : AreCalm ticks seg) where
  abbrev Keeps : Call → Segment × Reply → Type 0
  Keeps call step = AreCalm (known_after seg call ticks) step.0

  same_stations : (next : Segment) → next.stations ≡ seg.stations → AreCalm ticks next
  same_stations next same a tick l =
      active_as seg next tick a (ap (found_in a) same) ∙ calm a tick l

  module _ (j : ℕ) (st : Station) (at : slice_get seg.stations j ≡ Some st) where
    module _ (new : Station) (a b : Address) (place : place_of seg a ≡ Some j) (address : new.address ≡ st.address) (apart : b.0 ≢ a.0) where
      abbrev xs : List Station
      xs = seg.stations

      there : (k : ℕ) → place_of seg b ≡ Some k → slice_get (set xs j new) k ≡ slice_get xs k
      there k q =
          let its : slice_get xs k ≡ Some (get_or xs k st) = found_there (λ (s : Station). s.address.0 == b.0) xs k st q in
          let within : k < length xs = slice_get_within xs k (get_or xs k st) its in
          let other : k ≢ j = (λ same.
          let mine : (st.address.0 == a.0) ≡ true = found_passes (λ (s : Station). s.address.0 == a.0) xs j st place at in
          let found : slice_get xs k ≡ Some st = ap (slice_get xs) same ∙ at in
          let too : (st.address.0 == b.0) ≡ true = found_passes (λ (s : Station). s.address.0 == b.0) xs k st q found in
          apart (sym (eqb-true st.address.0 b.0 too) ∙ eqb-true st.address.0 a.0 mine)) in
          let long : length (set xs j new) ≡ length xs = length-set xs j new in
          let inside : k < length (set xs j new) = omega (arith, long, within) in
          slice_get-get_or (set xs j new) k st inside ∙ ap (λ (s : Station). Some s) (get_or-set_other xs j k new st other) ∙ sym its

      stays : station_of (record seg { stations = set xs j new }) b ≡ station_of seg b
      stays =
          ap (at_found (set xs j new)) (position_kept xs j st new at address b) ∙ by (place_of seg b) refl
        where
          by : (o : Option ℕ) → place_of seg b ≡ o → at_found (set xs j new) o ≡ at_found xs o
          by None q = refl
          by (Some k) q = there k q

    kept : (next : Segment) (new : Station) (a : Address) → place_of seg a ≡ Some j → new.address ≡ st.address → next.stations ≡ set seg.stations j new → AreCalm (forgotten a ticks) next
    kept next new a place address stations b tick l =
        let k = known_before ticks a.0 b.0 tick l in
        active_as seg next tick b (ap (found_in b) stations ∙ stays new a b place address k.0) ∙ calm b tick k.1

    changed : (new : Station) (a : Address) → place_of seg a ≡ Some j → new.address ≡ st.address → AreCalm (forgotten a ticks) (with_station seg j new)
    changed new a place address = kept (with_station seg j new) new a place address refl

    after_step : (b : bus.Bus) (counts : Counts) (step : StationStep) (a : Address) → place_of seg a ≡ Some j → step.station.address ≡ st.address → AreCalm (forgotten a ticks) (record (with_station (record seg { bus = b; counts = counts }) j step.station) { counts = counted counts step.events })
    after_step b counts step a place address = kept (record (with_station (record seg { bus = b; counts = counts }) j step.station) { counts = counted counts step.events }) step.station a place address refl

    transmitted : (a : Address) (f : CanFrame) → place_of seg a ≡ Some j → (lacks : Bool) → lacks_places (station_at seg a).queue ≡ lacks → AreCalm (cond lacks (forgotten a ticks) ticks) (with_frame (with_station seg j (record st { queue = behind st.queue })) f)
    transmitted a f q lacks e = by lacks e
      where
        new : Station
        new = record st { queue = behind st.queue }

        next : Segment
        next = with_frame (with_station seg j new) f

        own : station_at seg a ≡ st
        own = ap (λ (o : Option Station). unwrap_or o (new_station a)) (ap (at_found seg.stations) q ∙ at)

        here_then : place_of next a ≡ Some j
        here_then = position_kept seg.stations j st new at refl a ∙ q

        same : (tick : ℕ) → lacks_places (station_at seg a).queue ≡ false → is_active (at_tick next tick) a ≡ is_active (at_tick seg tick) a
        same tick room =
            let free : lacks_places st.queue ≡ false = ap (λ (s : Station). lacks_places s.queue) (sym own) ∙ room in
            active_still seg next tick j st (behind st.queue) free (still_room st.queue free) a q at here_then (slice_get_same seg.stations j st new at refl)

        at_each : lacks_places (station_at seg a).queue ≡ false → (b : Address) (tick : ℕ) (t : Bool) → (b.0 == a.0) ≡ t → is_active (at_tick next tick) b ≡ is_active (at_tick seg tick) b
        at_each room b tick true is =
            let e : b.0 ≡ a.0 = eqb-true b.0 a.0 is in
            ap (λ (n : ℕ). is_active (at_tick next tick) (record { 0 = n })) e ∙ same tick room ∙ ap (λ (n : ℕ). is_active (at_tick seg tick) (record { 0 = n })) (sym e)
        at_each room b tick false is = active_as seg next tick b (stays new a b q refl (eqb-false b.0 a.0 is))

        by : (t : Bool) → lacks_places (station_at seg a).queue ≡ t → AreCalm (cond t (forgotten a ticks) ticks) next
        by true is = kept next new a q refl refl
        by false room = λ b tick l. at_each room b tick (b.0 == a.0) refl ∙ calm b tick l

    of_station : OfStation seg Keeps j st
    of_station = record {
      opens = λ a pgn max_len q. changed (record st { ports = with_port st.ports pgn max_len }) a q refl;
      closes = λ port q is. changed (closed st port.number) port.station q (closed_keeps st port.number);
      sends = λ from to pgn bytes q other long short. changed (sent st to pgn bytes) from q refl;
      pumps = λ a to q. after_step seg.bus seg.counts (pumped st to seg.now) a q refl;
      transmits = λ a f q e free. transmitted a f q (lacks_places (station_at seg a).queue) refl;
      takes = λ a room f q e free. after_step (bus.released (bus.taken seg.bus j)) (counted_look seg.counts (is_malformed_for st f)) (taken st f room seg.now) a q (taken_keeps st f room seg.now);
      repeats = λ a room f q e free. after_step seg.bus (counted_look (counted_repeat seg.counts) (is_malformed_for st f)) (taken st f room seg.now) a q (taken_keeps st f room seg.now);
      overruns = λ a n q few. after_step (bus.released (bus.passed seg.bus j n)) seg.counts (overrun st) a q refl;
      fires = λ a q. after_step seg.bus seg.counts (fired st seg.now) a q (fired_keeps st seg.now);
      cancels = λ from to number q pending. after_step seg.bus seg.counts (cancelled st to number) from q refl;
      pauses = λ port q. changed (record st { ports = with_paused st.ports port.number true }) port.station q refl;
      resumes = λ port q. changed (record st { ports = with_paused st.ports port.number false }) port.station q refl;
    }

  accepted : Accepted seg Keeps
  accepted = record {
    station = of_station;
    ticks = λ n. same_stations (record seg { now = seg.now + n }) refl;
    injects = λ f foreign free. same_stations (with_frame seg f) refl;
  }

  unless_sent : (a : Address) (lacks : Bool) → AreCalm (cond lacks (forgotten a ticks) ticks) seg
  unless_sent a true = less_known ticks seg a calm
  unless_sent a false = calm

  pub unless_made : (call : Call) → AreCalm (known_after seg call ticks) seg
  unless_made (Open a pgn max_len) = less_known ticks seg a calm
  unless_made (Close port) = less_known ticks seg port.station calm
  unless_made (Send from to pgn bytes) = less_known ticks seg from calm
  unless_made (Pump a to) = less_known ticks seg a calm
  unless_made (Transmit a) = unless_sent a (lacks_places (station_at seg a).queue)
  unless_made (Take a room) = less_known ticks seg a calm
  unless_made (TakeAgain a room) = less_known ticks seg a calm
  unless_made (Overrun a n) = less_known ticks seg a calm
  unless_made (Tick n) = calm
  unless_made (Fire a) = less_known ticks seg a calm
  unless_made (Cancel from to number) = less_known ticks seg from calm
  unless_made (Inject f) = calm
  unless_made (Pause port) = less_known ticks seg port.station calm
  unless_made (Resume port) = less_known ticks seg port.station calm

  pub calm_after : (call : Call) → AreCalm (known_after seg call ticks) (applied seg call).0
  calm_after call = each_applied seg Keeps accepted (λ other cause. unless_made other) call

  calm_as : (call : Call) (next : Segment) (reply : Reply) → applied seg call ≡ (next, reply) → AreCalm (known_after seg call ticks) next
  calm_as call next reply is = subst (λ (x : Segment × Reply). AreCalm (known_after seg call ticks) x.0) is (calm_after call)

  pub calm_answered : {T : Type 0} (reply : T → Reply) (call : Call) (next : Segment) (r : Result T AllocError) → IfOk r (λ x. applied seg call ≡ (next, reply x)) → OnErr r (next ≡ seg) → AreCalm (known_after seg call ticks) next
  calm_answered reply call next (Ok x) ok err = calm_as call next (reply x) ok
  calm_answered reply call next (Err e) ok err = subst (AreCalm (known_after seg call ticks)) (sym err) (unless_made call)

  pub calm_tried : (a : Address) (told : List Event) (next : Segment) (r : Result Tried AllocError) → IfOk r (λ t. IfSome (made_as t) (λ made. applied seg (Take a true) ≡ (next, reply_with made told))) → IfOk r (λ t. IfNone (made_as t) (next ≡ seg)) → OnErr r (next ≡ seg) → AreCalm (forgotten a ticks) next
  calm_tried a told next (Ok tried.Done) ok whole err = calm_as (Take a true) next (Done told) ok
  calm_tried a told next (Ok tried.Whole) ok whole err = subst (AreCalm (forgotten a ticks)) (sym whole) (less_known ticks seg a calm)
  calm_tried a told next (Ok (tried.Refused cause)) ok whole err = calm_as (Take a true) next (Refused cause) ok
  calm_tried a told next (Err e) ok whole err = subst (AreCalm (forgotten a ticks)) (sym err) (less_known ticks seg a calm)

  -- a frame is taken that is none of a station's business
  only_bus : (next : Segment) → next ≡ record seg { bus = next.bus } → AreCalm ticks next
  only_bus next only = same_stations next (ap (λ (s : Segment). s.stations) only)

  pub calm_passed : (a : Address) (next : Segment) (p : Passing) → IsPassing seg a next p → AreCalm ticks next
  calm_passed a next Passed h = only_bus next h.only
  calm_passed a next Rests h = subst (AreCalm ticks) (sym h.1) calm
  calm_passed a next Busy h = subst (AreCalm ticks) (sym h) calm
