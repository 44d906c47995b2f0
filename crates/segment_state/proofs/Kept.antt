-- The segment that is kept, after a call of one station.
use Rattle.std.proofs.Common.{◌≡◌, ℕ, ◌<◌, ◌≤◌, Bool, true, false, cond, nat_lt, List, [], length, set, get_or, Option, Some, None, Result, Ok, Err, IsOk, refl, sym, ap, ◌∙◌, subst, arith, length-set}
use Rattle.std.specs.Prelude.{slice_get, OnSome, IfSome, IfNone}
use Rattle.std.specs.Vec.{with_item}
use Rattle.std.proofs.lemmas.List.{set-get_or}
use Rattle.std.proofs.lemmas.Option.{slice_get_read, same_Some}
use Rattle.bus_frame.specs.Frames.{CanFrame}
use Rattle.bus_order.specs.Bus as bus
use Rattle.tx_queue.specs.Queue.{free_places}
use Rattle.std.proofs.lemmas.Bool.{eqb-true, le-ltb}
use Rattle.segment_law.specs.declared.counts.Counts.{Counts}
use Rattle.pgn_ids.specs.declared.address.Address.{Address}
use Rattle.message_events.specs.declared.event.Event.{Event}
use Rattle.station_core.specs.Station.{Station, StationStep}
use Rattle.station_core.specs.Taking.{is_malformed_for, taken}
use Rattle.station_core.specs.Overruns.{overrun}
use Rattle.station_core.specs.Refusals.{taking_refusal}
use Rattle.station_core.specs.declared.refused.Refused.{Refused as Cause}
use Rattle.station_core.specs.declared.refused.Refused.TheVariants as cause
use Rattle.station_core.specs.Taking as taking
use Rattle.segment_law.specs.Readers.{frame_for, wanted_with, wanted}
use Rattle.segment_state.specs.Answers.{IsAnswerBy}
use Rattle.segment_state.specs.declared.stop.Stop.{Stop}
use Rattle.segment_state.specs.declared.stop.Stop.TheVariants.{OutOfMemory}
use Rattle.segment_law.specs.Segment.{Segment, place_of, station_of, with_station, counted, counted_look, counted_repeat}
use Rattle.segment_law.specs.Calls.{Answer, at_address, stepped, no_place, takes, repeats, overruns}
use Rattle.segment_law.specs.declared.reply.Reply.{Reply}
use Rattle.segment_law.specs.declared.reply.Reply.TheVariants.{Done}
use Rattle.segment_law.specs.declared.refusal.Refusal.TheVariants.{NothingToTake}
use Rattle.segment_state.specs.StateFields.{state_value, IsStateInside}
use Rattle.segment_state.specs.declared.state.SegmentState.TheInside.{Inside}
use Rattle.segment_state.proofs.Stations.{at_is, places_kept, in_place_kept}
use Rattle.segment_state.proofs.Refusals.{takes_are, repeats_are, goes_on}

-- a station that keeps its address leaves all as it is to be
pub inside_kept : (s : Inside) (i : ℕ) (st old : Station) → IsStateInside s → old ≡ get_or s.stations.items i old → st.address ≡ old.address → IsStateInside (record s { stations = with_item s.stations i st })
inside_kept s i st old h is same =
    let long : length (set s.stations.items i st) ≡ length s.stations.items = length-set s.stations.items i st in
    record {
      few = omega (arith, long, h.few);
      cursors = h.cursors ∙ sym long;
      places = places_kept s.places s.stations.items i st old h.places is same;
      in_place = in_place_kept s.stations.items i st old h.in_place is same;
    }

-- and so does a bus with as many cursors
pub inside_moved : (s : Inside) (i : ℕ) (st old : Station) (b : bus.Bus) → IsStateInside s → old ≡ get_or s.stations.items i old → st.address ≡ old.address → length b.cursors ≡ length s.bus.cursors → IsStateInside (record s { stations = with_item s.stations i st; bus = b })
inside_moved s i st old b h is same cursors =
    let long : length (set s.stations.items i st) ≡ length s.stations.items = length-set s.stations.items i st in
    record {
      few = omega (arith, long, h.few);
      cursors = cursors ∙ h.cursors ∙ sym long;
      places = places_kept s.places s.stations.items i st old h.places is same;
      in_place = in_place_kept s.stations.items i st old h.in_place is same;
    }

-- a call of the station that stands there
pub at_here : (s : Inside) (seg : Segment) (a : Address) (i : ℕ) (old : Station) (call : ℕ → Station → Answer) → state_value s ≡ seg → Some i ≡ place_of seg a → i < length seg.stations → old ≡ get_or s.stations.items i old → at_address seg a call ≡ call i old
at_here s seg a i old call view here within is =
    at_is seg a i old call (sym here) (slice_get_read seg.stations (length seg.stations) i old refl within (is ∙ ap (λ (x : Segment). get_or x.stations i old) view))

-- where the station's call isn't refused, neither is that of its address
pub passes_here : (s : Inside) (seg : Segment) (a : Address) (i : ℕ) (old : Station) (call : ℕ → Station → Answer) → state_value s ≡ seg → Some i ≡ place_of seg a → i < length seg.stations → old ≡ get_or s.stations.items i old → IsOk (call i old) → IsOk (at_address seg a call)
passes_here s seg a i old call view here within is passes = subst (λ (x : Answer). IsOk x) (sym (at_here s seg a i old call view here within is)) passes

-- a call that found no memory, though it isn't refused
pub no_memory : {T : Type 0} → (reply : T → Reply) (answer : Answer) (before after : Segment) (r : Result T Stop) → r ≡ Err OutOfMemory → IsOk answer × (after ≡ before) → IsAnswerBy reply answer before after r
no_memory {T} reply answer before after r e h = subst (λ (x : Result T Stop). IsAnswerBy reply answer before after x) (sym e) h

abbrev pub said : Segment → Reply → Answer
said seg reply = Ok (seg, reply)

-- a step of it, with a reply
pub stepped_view : (s : Inside) (seg : Segment) (i : ℕ) (st new : Station) (reply told : Reply) → state_value s ≡ seg → new ≡ st → told ≡ reply → said (with_station seg i st) reply ≡ said (state_value (record s { stations = with_item s.stations i new })) told
stepped_view s seg i st new reply told view same says = λ k. said (with_station (sym view k) i (sym same k)) (sym says k)

-- a station that is as it was
pub unchanged_view : (s : Inside) (seg : Segment) (i : ℕ) (st old : Station) → state_value s ≡ seg → st ≡ old → old ≡ get_or s.stations.items i old → state_value (record s { stations = with_item s.stations i st }) ≡ seg
unchanged_view s seg i st old view same is =
    let put_back : set s.stations.items i st ≡ s.stations.items = ap (λ (x : Station). set s.stations.items i x) (same ∙ is) ∙ set-get_or s.stations.items i old in
    (λ k. record (state_value s) { stations = put_back k }) ∙ view

-- a Take
pub takes_is : (seg : Segment) (room : Bool) (i : ℕ) (st : Station) (frame : CanFrame) (step : StationStep) → Some frame ≡ bus.next_frame seg.bus i → taking_refusal st ≡ None → taken st frame room seg.now ≡ step
    → takes seg room i st ≡ Ok (record { now = seg.now; stations = set seg.stations i step.station; bus = bus.released (bus.taken seg.bus i); counts = counted (counted_look seg.counts (is_malformed_for st frame)) step.events }, Done step.events)
takes_is seg room i st frame step next free is =
    goes_on _ _ _ (takes_are seg i st room frame next) free
    ∙ ap (stepped (record seg { bus = bus.released (bus.taken seg.bus i); counts = counted_look seg.counts (is_malformed_for st frame) }) i) is

-- a TakeAgain
pub repeats_is : (seg : Segment) (room : Bool) (i : ℕ) (st : Station) (frame : CanFrame) (step : StationStep) → Some frame ≡ bus.frame_again seg.bus i → taking_refusal st ≡ None → taken st frame room seg.now ≡ step
    → repeats seg room i st ≡ Ok (record { now = seg.now; stations = set seg.stations i step.station; bus = seg.bus; counts = counted (counted_look (counted_repeat seg.counts) (is_malformed_for st frame)) step.events }, Done step.events)
repeats_is seg room i st frame step again free is =
    goes_on _ _ _ (repeats_are seg i st room frame again) free
    ∙ ap (stepped (record seg { counts = counted_look (counted_repeat seg.counts) (is_malformed_for st frame) }) i) is

-- an Overrun
pub overruns_pass : (seg : Segment) (n i : ℕ) (st : Station) → n ≤ bus.waiting seg.bus i → IsOk (overruns seg n i st)
overruns_pass seg n i st le = by (nat_lt (bus.waiting seg.bus i) n) (le-ltb (bus.waiting seg.bus i) n le)
  where
    by : (b : Bool) → b ≡ false → IsOk (cond b (Err NothingToTake) (stepped (record seg { bus = bus.released (bus.passed seg.bus i n) }) i (overrun st)))
    by true e = absurd cc
    by false e = refl

-- a step that is told and counted
pub told_view : (s : Inside) (seg : Segment) (i : ℕ) (new : Station) (events : List Event) (after : Segment) (told : Reply) → state_value s ≡ seg → after ≡ record (state_value (record s { stations = with_item s.stations i new })) { counts = counted s.counts events } → told ≡ Done events
    → stepped seg i (record { station = new; events = events }) ≡ Ok (after, told)
told_view s seg i new events after told view is says =
    ap (λ (x : Segment). stepped x i (record { station = new; events = events })) (sym view) ∙ (λ k. said (sym is k) (sym says k))

-- the stations at one place
pub same_item : (xs : List Station) (i : ℕ) (a b : Station) → i < length xs → a ≡ get_or xs i a → b ≡ get_or xs i b → a ≡ b
same_item xs i a b within x y = same_Some a b (sym (slice_get_read xs (length xs) i a refl within x) ∙ slice_get_read xs (length xs) i b refl within y)

-- what a station wants
pub wanted_is : (seg : Segment) (i : ℕ) (st : Station) (frame : CanFrame) (again : Bool) → slice_get seg.stations i ≡ Some st → frame_for seg again i ≡ Some frame → no_place st ≡ false → wanted_with (slice_get seg.stations i) (frame_for seg again i) ≡ taking.wanted st frame
wanted_is seg i st frame again there next place = (λ k. wanted_with (there k) (next k)) ∙ ap (λ b. cond b ([], 0) (taking.wanted st frame)) place

pub place_there : (n : ℕ) (st : Station) → n ≡ free_places st.queue → (n ≡ 0 → ⊥) → no_place st ≡ false
place_there n st is some = by (no_place st) refl
  where
    by : (b : Bool) → no_place st ≡ b → b ≡ false
    by true e = absurd (some (is ∙ eqb-true (free_places st.queue) 0 e))
    by false e = refl

-- clauses on an option, for the case that is there
module _ {A : Type 0} where
  pub when_some : (P : Type 0) (o : Option A) (x : A) → o ≡ Some x → OnSome o P → P
  when_some P o x is h = subst (λ (p : Option A). OnSome p P) is h

  pub when_this : (P : A → Type 0) (o : Option A) (x : A) → o ≡ Some x → IfSome o P → P x
  when_this P o x is h = subst (λ (p : Option A). IfSome p P) is h

  pub when_none : (P : Type 0) (o : Option A) → o ≡ None → IfNone o P → P
  when_none P o is h = subst (λ (p : Option A). IfNone p P) is h

-- what a station wants of its next frame, if it has a place for its answer
pub wanted_next : (seg : Segment) (a : Address) (i : ℕ) (st : Station) (frame : CanFrame) → Some i ≡ place_of seg a → station_of seg a ≡ Some st → Some frame ≡ bus.next_frame seg.bus i → taking_refusal st ≡ None → wanted seg a false ≡ taking.wanted st frame
wanted_next seg a i st frame here is next free =
    ap (λ (o : Option ℕ). elim o as (λ (_ : Option ℕ). List ℕ × ℕ) [ None ↦ ([], 0) | Some j ↦ wanted_with (station_of seg a) (frame_for seg false j) ]) (sym here)
    ∙ (λ k. wanted_with (is k) (sym next k))
    ∙ ap (λ (b : Bool). cond b ([], 0) (taking.wanted st frame)) (by (no_place st) refl)
  where
    by : (b : Bool) → no_place st ≡ b → b ≡ false
    by true e = absurd (let q : Some cause.TxFull ≡ None = ap (λ (b : Bool). cond {A = Option Cause} b (Some cause.TxFull) None) (sym e) ∙ free in cc)
    by false e = refl

-- a Take that is told and counted
pub taken_view : (s : Inside) (seg : Segment) (i : ℕ) (st : Station) (frame : CanFrame) (new : Station) (events : List Event) (malformed : Bool) (moved left : bus.Bus) (after : Segment) (told : Reply) → state_value s ≡ seg → malformed ≡ is_malformed_for st frame → moved ≡ bus.taken s.bus i → left ≡ bus.released moved
    → after ≡ record (state_value (record s { stations = with_item s.stations i new; bus = left })) { counts = counted (counted_look s.counts malformed) events } → told ≡ Done events
    → said (record { now = seg.now; stations = set seg.stations i new; bus = bus.released (bus.taken seg.bus i); counts = counted (counted_look seg.counts (is_malformed_for st frame)) events }) (Done events) ≡ said after told
taken_view s seg i st frame new events malformed moved left after told view mal move release is says =
    (λ k. said (record { now = (sym view k).now; stations = set (sym view k).stations i new; bus = bus.released (bus.taken (sym view k).bus i); counts = counted (counted_look (sym view k).counts (sym mal k)) events }) (Done events))
    ∙ (λ k. said (record { now = s.clock; stations = set s.stations.items i new; bus = bus.released (sym move k); counts = counted (counted_look s.counts malformed) events }) (Done events))
    ∙ (λ k. said (record { now = s.clock; stations = set s.stations.items i new; bus = sym release k; counts = counted (counted_look s.counts malformed) events }) (Done events))
    ∙ (λ k. said (sym is k) (sym says k))

-- a TakeAgain
pub repeated_view : (s : Inside) (seg : Segment) (i : ℕ) (st : Station) (frame : CanFrame) (new : Station) (events : List Event) (malformed : Bool) (counts : Counts) (after : Segment) (told : Reply) → state_value s ≡ seg → malformed ≡ is_malformed_for st frame → counts ≡ counted_repeat s.counts
    → after ≡ record (state_value (record s { stations = with_item s.stations i new; counts = counts })) { counts = counted (counted_look counts malformed) events } → told ≡ Done events
    → said (record { now = seg.now; stations = set seg.stations i new; bus = seg.bus; counts = counted (counted_look (counted_repeat seg.counts) (is_malformed_for st frame)) events }) (Done events) ≡ said after told
repeated_view s seg i st frame new events malformed counts after told view mal repeat is says =
    (λ k. said (record { now = (sym view k).now; stations = set (sym view k).stations i new; bus = (sym view k).bus; counts = counted (counted_look (counted_repeat (sym view k).counts) (sym mal k)) events }) (Done events))
    ∙ (λ k. said (record { now = s.clock; stations = set s.stations.items i new; bus = s.bus; counts = counted (counted_look (sym repeat k) malformed) events }) (Done events))
    ∙ (λ k. said (sym is k) (sym says k))
