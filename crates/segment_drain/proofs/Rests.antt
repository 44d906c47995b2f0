-- If nothing can be done up to the clock's last tick, a segment rests.
use Rattle.std.proofs.Common.{◌≡◌, ◌⊎◌, inl, inr, ⊎_elim, ℕ, ◌+◌, ◌-◌, ◌^◌, ◌<◌, ◌≤◌, ◌==◌, Bool, true, false, cond, not, ◌&&◌, ◌||◌, List, [], ◌∷◌, length, Option, Some, None, Ok, Err, refl, sym, ap, ◌∙◌, subst, arith, eqb-true, ltb-true, true≢false}
use Rattle.std.specs.Prelude.{All, is_some, is_none, is_ok, slice_get}
use Rattle.std.specs.List.{list_all, list_any}
use Rattle.std.specs.Option.{option_map}
use Rattle.std.specs.Bool.{OnTrue}
use Rattle.std.proofs.lemmas.Bool.{or_left, or_right, cases_lt}
use Rattle.std.proofs.lemmas.List.Folds.{list_any_at}
use Rattle.std.proofs.lemmas.List.Sums.{AllPass-from_list_all}
use Rattle.std.proofs.lemmas.Option.{slice_get_within, get_or_from_slice_get}
use Rattle.bus_frame.specs.Frames.{CanFrame}
use Rattle.tx_queue.specs.Queue.{free_places, front}
use Rattle.bus_order.specs.Bus as bus
use Rattle.pgn_ids.specs.declared.address.Address.{Address}
use Rattle.station_lanes.specs.LaneReaders.{least_below}
use Rattle.message_events.specs.declared.event.Event.{Event}
use Rattle.station_core.specs.Station.{Station}
use Rattle.segment_law.specs.Segment.{Segment, place_of}
use Rattle.segment_law.specs.Calls.{Answer, no_place, looks, takes_by, takes, transmits_by, transmits, fires, pumps, at_station, at_place, called, replied, applied}
use Rattle.segment_law.specs.Drift.{at_tick}
use Rattle.segment_law.specs.Readers.{pumps_to, next_pump, rests, is_idle}
use Rattle.segment_law.specs.Reached.{IsReached, IsFitStation}
use Rattle.segment_law.specs.Record.{Record, StandsAt}
use Rattle.segment_law.specs.declared.call.Call.{Call}
use Rattle.segment_law.specs.declared.call.Call.TheVariants.{Open, Close, Send, Pump, Transmit, Take, TakeAgain, Overrun, Tick, Fire, Cancel, Inject, Pause, Resume}
use Rattle.segment_law.specs.declared.refusal.Refusal.TheVariants as refusal
use Rattle.segment_law.specs.declared.reply.Reply.{Reply}
use Rattle.segment_law.specs.declared.reply.Reply.TheVariants.{Done}
use Rattle.segment_law.proofs.Records.{stands_reached}
use Rattle.segment_law.proofs.Drifting.{stands_drifts}
use Rattle.segment_state.specs.Answers.{refusal_of}
use Rattle.segment_state.specs.Next.{has_work, any_work}
use Rattle.record_law.proofs.Segments.{found_passes}
use Rattle.work_law.specs.Rest.{is_turn, HasStopped, IsJammed, Rests, Ends, HasRested}
use Rattle.work_law.proofs.Choosing.{found_below}
use Rattle.work_law.proofs.Resting.{none_found}
use Rattle.work_law.proofs.Course.{CanGo, takes_or_jams, goes_or_stops}
use Rattle.segment_drain.specs.Chosen.{node, is_for_bus, can, lowest, next_tick, or_else, pump_of, makes_room, waits_until, unblocked, untaken, next_of}
use Rattle.segment_drain.specs.Rested.{IsLate, IsAtRest}
use Rattle.segment_drain.specs.declared.choosing.Next.{Next}
use Rattle.segment_drain.specs.declared.choosing.Next.TheVariants.{Make, End}
use Rattle.segment_drain.specs.declared.end.DrainEnd.{DrainEnd}
use Rattle.segment_drain.specs.declared.end.DrainEnd.TheVariants as end
use Rattle.segment_drain.specs.declared.kind.Kind.{Kind}
use Rattle.segment_drain.specs.declared.kind.Kind.TheVariants as kind

-- Lists

pub any_at : {A : Type 0} (test : A → Bool) (xs : List A) (i : ℕ) (x : A) → slice_get xs i ≡ Some x → test x ≡ true → list_any test xs ≡ true
any_at test xs i x at e = list_any_at test xs i x (slice_get_within xs i x at) (subst (λ y. test y ≡ true) (sym (get_or_from_slice_get xs i x x at)) e)

each_at : {A : Type 0} (P : A → Type 0) (xs : List A) (i : ℕ) (x : A) → All P xs → slice_get xs i ≡ Some x → P x
each_at P xs i x all at = subst P (get_or_from_slice_get xs i x x at) (all i x (slice_get_within xs i x at))

all_at : {A : Type 0} (test : A → Bool) (xs : List A) (i : ℕ) (x : A) → list_all test xs ≡ true → slice_get xs i ≡ Some x → test x ≡ true
all_at test xs i x h at = each_at (λ y. test y ≡ true) xs i x (AllPass-from_list_all test xs h) at

pub none_of : {A B : Type 0} (f : A → B) (o : Option A) → option_map f o ≡ None → is_some o ≡ false
none_of f None e = refl
none_of f (Some x) e = absurd (true≢false (ap is_some e))

-- A call that can be done at some tick

is_done : Reply → Bool
is_done (Done events) = true
is_done reply = false

pub done_ok : (seg : Segment) (call : Call) (events : List Event) → (applied seg call).1 ≡ Done events → is_ok (called seg call) ≡ true
unfolding is_done
done_ok seg call events e = by (called seg call) e
  where
    by : (x : Answer) → (replied seg x).1 ≡ Done events → is_ok x ≡ true
    by (Ok s) q = refl
    by (Err cause) q = absurd (true≢false (ap is_done (sym q)))

record IsThere (seg : Segment) (a : Address) : Type 0 where
  place : ℕ
  station : Station
  at : slice_get seg.stations place ≡ Some station
  same : station.address ≡ a

there : (seg : Segment) (a : Address) (does : ℕ → Station → Answer) → is_ok (at_place seg (place_of seg a) does) ≡ true → IsThere seg a
there seg a does ok = by (place_of seg a) refl ok
  where
    on : (i : ℕ) → place_of seg a ≡ Some i → (o : Option Station) → slice_get seg.stations i ≡ o → is_ok (at_station o (does i)) ≡ true → IsThere seg a
    on i e None at q = absurd (true≢false (sym q))
    on i e (Some st) at q = record { place = i; station = st; at = at; same = ap node (eqb-true st.address.0 a.0 (found_passes (λ (s : Station). s.address.0 == a.0) seg.stations i st e at)) }

    by : (o : Option ℕ) → place_of seg a ≡ o → is_ok (at_place seg o does) ≡ true → IsThere seg a
    by None e q = absurd (true≢false (sym q))
    by (Some i) e q = on i e (slice_get seg.stations i) refl q

-- a Take that can be done without room can be done with it
take_room : (seg : Segment) (a : Address) (room : Bool) → is_ok (called seg (Take a room)) ≡ true → is_ok (called seg (Take a true)) ≡ true
unfolding called
take_room seg a room ok = by (place_of seg a) ok
  where
    frame : (i : ℕ) (st : Station) (o : Option CanFrame) → is_ok (takes_by seg room i st o) ≡ true → is_ok (takes_by seg true i st o) ≡ true
    frame i st None q = q
    frame i st (Some f) q = by (no_place st) q
      where
        by : (b : Bool) → is_ok (cond b (Err refusal.TxFull) (looks (record seg { bus = bus.released (bus.taken seg.bus i) }) room i st f)) ≡ true → is_ok (cond b (Err refusal.TxFull) (looks (record seg { bus = bus.released (bus.taken seg.bus i) }) true i st f)) ≡ true
        by true q = q
        by false q = refl

    on : (i : ℕ) (o : Option Station) → is_ok (at_station o (takes seg room i)) ≡ true → is_ok (at_station o (takes seg true i)) ≡ true
    on i None q = q
    on i (Some st) q = frame i st (bus.next_frame seg.bus i) q

    by : (o : Option ℕ) → is_ok (at_place seg o (takes seg room)) ≡ true → is_ok (at_place seg o (takes seg true)) ≡ true
    by None q = q
    by (Some i) q = on i (slice_get seg.stations i) q

pumps_somewhere : (seg : Segment) (a to : Address) → to.0 < 256 → is_ok (called seg (Pump a to)) ≡ true → is_some (next_pump seg a) ≡ true
pumps_somewhere seg a to small ok = by (least_below (pumps_to seg a) 256) (found_below (pumps_to seg a) 256 to.0 small ok)
  where
    by : (o : Option ℕ) → is_some o ≡ true → is_some (option_map node o) ≡ true
    by None q = q
    by (Some k) q = refl

-- then some station has work at that tick
module _ (seg : Segment) (tick : ℕ) where
  abbrev now : Segment
  now = at_tick seg tick

  has : (a : Address) → has_work now a ≡ true → IsThere now a → any_work seg tick ≡ true
  has a h t = any_at (λ (st : Station). has_work now st.address) seg.stations t.place t.station t.at (subst (λ (x : Address). has_work now x ≡ true) (sym t.same) h)

  abbrev puts : Address → Bool
  puts a = is_ok (called now (Transmit a))

  abbrev gets : Address → Bool
  gets a = is_ok (called now (Take a true))

  abbrev pumps_it : Address → Bool
  pumps_it a = is_some (next_pump now a)

  abbrev fires_it : Address → Bool
  fires_it a = is_ok (called now (Fire a))

  pub works_ok : (call : Call) → is_turn call ≡ true → is_ok (called now call) ≡ true → any_work seg tick ≡ true
  unfolding called
  works_ok (Transmit a) t ok = has a (or_left (puts a || gets a) (pumps_it a || fires_it a) (or_left (puts a) (gets a) ok)) (there now a (transmits now) ok)
  works_ok (Take a room) t ok = has a (or_left (puts a || gets a) (pumps_it a || fires_it a) (or_right (puts a) (gets a) (take_room now a room ok))) (there now a (takes now room) ok)
  works_ok (Pump a to) t ok = has a (or_right (puts a || gets a) (pumps_it a || fires_it a) (or_left (pumps_it a) (fires_it a) (pumps_somewhere now a to (ltb-true to.0 256 t) ok))) (there now a (pumps now to) ok)
  works_ok (Fire a) t ok = has a (or_right (puts a || gets a) (pumps_it a || fires_it a) (or_right (pumps_it a) (fires_it a) ok)) (there now a (fires now) ok)
  works_ok (Open a pgn max_len) t ok = absurd (true≢false (sym t))
  works_ok (Close port) t ok = absurd (true≢false (sym t))
  works_ok (Send from to pgn bytes) t ok = absurd (true≢false (sym t))
  works_ok (TakeAgain a room) t ok = absurd (true≢false (sym t))
  works_ok (Overrun a n) t ok = absurd (true≢false (sym t))
  works_ok (Tick n) t ok = absurd (true≢false (sym t))
  works_ok (Cancel from to number) t ok = absurd (true≢false (sym t))
  works_ok (Inject f) t ok = absurd (true≢false (sym t))
  works_ok (Pause port) t ok = absurd (true≢false (sym t))
  works_ok (Resume port) t ok = absurd (true≢false (sym t))

  works : (call : Call) (events : List Event) → is_turn call ≡ true → (applied now call).1 ≡ Done events → any_work seg tick ≡ true
  works call events t e = works_ok call t (done_ok now call events e)

-- without a next tick, what can be done is late
only_late : (seg : Segment) → next_tick seg ≡ None → CanGo seg → IsLate seg
only_late seg none g = ⊎_elim
    (λ (l : g.tick < 2 ^ 64). absurd (true≢false (sym (works seg g.tick g.call g.events g.turn g.done) ∙ never l)))
    (λ (l : 2 ^ 64 ≤ g.tick). record { tick = g.tick; past = l; call = g.call; turn = g.turn; events = g.events; done = g.done })
    (cases_lt g.tick (2 ^ 64))
  where
    test : ℕ → Bool
    test k = any_work seg (seg.now + k)

    never : g.tick < 2 ^ 64 → any_work seg g.tick ≡ false
    never l =
        let later : seg.now ≤ g.tick = g.later in
        let same : seg.now + (g.tick - seg.now) ≡ g.tick = omega (arith, later) in
        ap (any_work seg) (sym same) ∙ none_found test (2 ^ 64 - seg.now) (g.tick - seg.now) (none_of (λ k. seg.now + k) (least_below test (2 ^ 64 - seg.now)) none) (omega (arith, l, later))

module _ (rests_law : Rests) (ends_law : Ends) where
  pub comes_to_rest : (addresses : List Address) (steps : Record) (seg : Segment) → StandsAt addresses steps seg → next_tick seg ≡ None → (IsReached seg → IsJammed seg → ⊥) → IsAtRest steps seg
  comes_to_rest addresses steps seg h none no_jam = ⊎_elim
      (λ (l : bus.bus_len seg.bus + 1 < 2 ^ 64). within l (bus.is_full seg.bus) refl)
      (λ (l : 2 ^ 64 ≤ bus.bus_len seg.bus + 1). inr (inr l))
      (cases_lt (bus.bus_len seg.bus + 1) (2 ^ 64))
    where
      r : IsReached seg
      r = stands_reached addresses steps seg h

      rested : HasRested seg ⊎ IsJammed seg → IsAtRest steps seg
      rested (inl q) = inl (q, ends_law addresses steps seg (stands_drifts addresses steps seg h) q)
      rested (inr j) = absurd (no_jam r j)

      or_jams : CanGo seg ⊎ IsJammed seg → IsAtRest steps seg
      or_jams (inl g) = inr (inl (only_late seg none g))
      or_jams (inr j) = absurd (no_jam r j)

      or_stops : bus.bus_len seg.bus + 1 < 2 ^ 64 → CanGo seg ⊎ HasStopped seg → IsAtRest steps seg
      or_stops l (inl g) = inr (inl (only_late seg none g))
      or_stops l (inr s) = rested (rests_law addresses steps seg (stands_drifts addresses steps seg h) l s)

      within : bus.bus_len seg.bus + 1 < 2 ^ 64 → (b : Bool) → bus.is_full seg.bus ≡ b → IsAtRest steps seg
      within l true e = or_jams (takes_or_jams seg r l e)
      within l false e = or_stops l (goes_or_stops seg r e)

-- No jam

left_true : (a b : Bool) → (a && b) ≡ true → a ≡ true
left_true true b e = refl
left_true false b e = e

right_true : (a b : Bool) → (a && b) ≡ true → b ≡ true
right_true true b e = e
right_true false b e = absurd (true≢false (sym e))

-- where all queues are empty
idle_flows : (seg : Segment) → is_idle seg ≡ true → IsReached seg → IsJammed seg → ⊥
idle_flows seg idle r j =
    let one : rests seg j.station ≡ true = all_at (rests seg) seg.stations j.place j.station idle j.stands in
    let empty : length j.station.queue ≡ 0 = eqb-true (length j.station.queue) 0 (left_true _ _ (left_true _ _ one)) in
    let full : free_places j.station.queue ≡ 0 = j.queue in
    omega (arith, empty, full)

pub idle_rests : (rests_law : Rests) (ends_law : Ends) (seg : Segment) (b : Bool) (tick : Option ℕ) → is_idle seg ≡ true → tick ≡ next_tick seg → is_some tick ≡ not b → (addresses : List Address) (steps : Record) → StandsAt addresses steps seg → OnTrue b (IsAtRest steps seg)
idle_rests rests_law ends_law seg false tick idle is e addresses steps h = tt
idle_rests rests_law ends_law seg true tick idle is e addresses steps h = comes_to_rest rests_law ends_law addresses steps seg h (sym is ∙ none tick e) (idle_flows seg idle)
  where
    none : (o : Option ℕ) → is_some o ≡ false → o ≡ None
    none None q = refl
    none (Some t) q = absurd (true≢false q)

-- Where no station transmits, and none is kept from it by the bus

is_make : Next → Bool
is_make (Make call) = true
is_make (End why) = false

makes_or_ends : (call : Call) (why : DrainEnd) → Make call ≡ End why → ⊥
unfolding is_make
makes_or_ends call why e = true≢false (ap is_make e)

or_ends : (o : Option Address) (call : Address → Call) (other : Next) (why : DrainEnd) → or_else o call other ≡ End why → (o ≡ None) × (other ≡ End why)
or_ends None call other why e = (refl, e)
or_ends (Some a) call other why e = absurd (makes_or_ends (call a) why e)

pub none_can : (seg : Segment) (kind : Kind) (n : ℕ) → lowest seg kind ≡ None → n < 254 → can seg kind (node n) ≡ false
none_can seg kind n e l = none_found (λ k. can seg kind (node k)) 254 n (none_of node (least_below (λ k. can seg kind (node k)) 254) e) l

pub puts_or_blocked : (b : Bool) (y : Segment × Reply) → is_none (refusal_of (cond b (Err refusal.BusFull) (Ok y))) ≡ false → is_for_bus (refusal_of (cond b (Err refusal.BusFull) (Ok y))) ≡ false → ⊥
puts_or_blocked true y e q = true≢false q
puts_or_blocked false y e q = true≢false e

unblocked_flows : (seg : Segment) → lowest seg kind.Transmit ≡ None → lowest seg kind.Blocked ≡ None → IsReached seg → IsJammed seg → ⊥
unfolding called
unblocked_flows seg none blocked r j = by st.queue refl
  where
    st : Station
    st = j.station

    says : called seg (Transmit st.address) ≡ transmits_by seg j.place st (front st.queue)
    says = ap (λ (o : Option ℕ). at_place seg o (transmits seg)) (r.places j.place st j.stands) ∙ ap (λ (o : Option Station). at_station o (transmits seg j.place)) j.stands

    below : st.address.0 < 254
    below = ltb-true st.address.0 254 (each_at IsFitStation seg.stations j.place st r.stations j.stands).own

    by : (q : List CanFrame) → st.queue ≡ q → ⊥
    by [] e = let full : free_places st.queue ≡ 0 = j.queue in let empty : length st.queue ≡ 0 = ap length e in omega (arith, full, empty)
    by (f ∷ fs) e =
        let here : called seg (Transmit st.address) ≡ transmits_by seg j.place st (Some f) = says ∙ ap (λ q. transmits_by seg j.place st (front q)) e in
        puts_or_blocked (bus.is_full seg.bus) _
        (ap (λ (x : Answer). is_none (refusal_of x)) (sym here) ∙ none_can seg kind.Transmit st.address.0 none below)
        (ap (λ (x : Answer). is_for_bus (refusal_of x)) (sym here) ∙ none_can seg kind.Blocked st.address.0 blocked below)

-- what holds where a drain ends as at rest
pub record RestParts (seg : Segment) : Type 0 where
  pub none : lowest seg kind.Transmit ≡ None
  pub blocked : lowest seg kind.Blocked ≡ None
  pub tick : next_tick seg ≡ None

is_refused : Next → Bool
is_refused (End (end.Refused cause)) = true
is_refused other = false

pub rest_parts : (seg : Segment) → next_of seg ≡ End end.Rest → RestParts seg
unfolding next_of is_refused
rest_parts seg e =
    let untaken_is : untaken seg ≡ End end.Rest = (or_ends (lowest seg kind.Take) (λ a. Take a true) (untaken seg) end.Rest e).1 in
    let parts = or_ends (lowest seg kind.Transmit) Transmit (cond (is_some (lowest seg kind.Blocked)) (makes_room seg) (unblocked seg)) end.Rest untaken_is in
    let free = by_blocked (lowest seg kind.Blocked) parts.1 in
    let pumped = or_ends (lowest seg kind.Pump) (pump_of seg) (or_else (lowest seg kind.Fire) Fire (waits_until seg.now (next_tick seg))) end.Rest free.1 in
    let fired = or_ends (lowest seg kind.Fire) Fire (waits_until seg.now (next_tick seg)) end.Rest pumped.1 in
    record { none = parts.0; blocked = free.0; tick = by_tick (next_tick seg) fired.1 }
  where
    room : (b : Bool) (call : Call) → cond b (Make call) (End (end.Refused refusal.BusFull)) ≡ End end.Rest → ⊥
    room true call q = makes_or_ends call end.Rest q
    room false call q = true≢false (ap is_refused q)

    by_blocked : (o : Option Address) → cond (is_some o) (makes_room seg) (unblocked seg) ≡ End end.Rest → (o ≡ None) × (unblocked seg ≡ End end.Rest)
    by_blocked None q = (refl, q)
    by_blocked (Some a) q = absurd (room _ _ q)

    by_tick : (o : Option ℕ) → waits_until seg.now o ≡ End end.Rest → o ≡ None
    by_tick None q = refl
    by_tick (Some t) q = absurd (makes_or_ends (Tick (t - seg.now)) end.Rest q)

pub end_rests : (rests_law : Rests) (ends_law : Ends) (addresses : List Address) (steps : Record) (seg : Segment) → StandsAt addresses steps seg → next_of seg ≡ End end.Rest → IsAtRest steps seg
end_rests rests_law ends_law addresses steps seg h e = let p = rest_parts seg e in comes_to_rest rests_law ends_law addresses steps seg h p.tick (unblocked_flows seg p.none p.blocked)
