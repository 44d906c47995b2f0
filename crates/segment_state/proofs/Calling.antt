-- What the calls of a station come to, where it is known which one has the address.
use Rattle.std.proofs.Common.{◌≡◌, ℕ, ◌<◌, ◌≤◌, Bool, true, false, cond, List, [], length, get_or, set, Option, Some, None, Result, Ok, Err, refl, sym, ap, ◌∙◌, subst, arith}
use Rattle.std.specs.Prelude.{slice_get, unwrap_or, ◌↔◌, IsTrue, IsErrOf, is_err}
use Rattle.std.specs.Vec.{with_item, vec_len}
use Rattle.std.proofs.lemmas.Bool.{lt-ltb, le-ltb}
use Rattle.std.proofs.lemmas.Option.{slice_get_read, slice_get-get_or}
use Rattle.bus_frame.specs.Frames.{CanFrame}
use Rattle.bus_order.specs.Bus as bus
use Rattle.bus_order.specs.declared.log.PutError.{PutError}
use Rattle.bus_order.specs.declared.log.PutError.TheVariants.{BusFull}
use Rattle.message_events.specs.declared.event.Event.{Event}
use Rattle.pgn_ids.specs.declared.address.Address.{Address}
use Rattle.tx_queue.specs.Queue.{front, behind}
use Rattle.station_core.specs.Station.{Station, StationStep, new_station}
use Rattle.station_core.specs.Overruns.{overrun}
use Rattle.station_core.specs.Memory.{MayLackMemory}
use Rattle.station_core.specs.Refusals.{IsAnswered, taking_refusal}
use Rattle.station_core.specs.declared.refused.Stopped.{Stopped}
use Rattle.station_core.specs.declared.refused.Stopped.TheVariants as stopped
use Rattle.segment_law.specs.Segment.{Segment, place_of, station_of, station_at, with_station, counted}
use Rattle.segment_law.specs.Calls.{Answer, at_address, done, stepped, with_frame, transmits_by, transmits, overruns}
use Rattle.segment_law.specs.declared.refusal.Refusal.TheVariants as refusal
use Rattle.segment_law.specs.declared.call.Call.TheVariants.{Take}
use Rattle.segment_law.specs.declared.reply.Reply.{Reply}
use Rattle.segment_law.specs.declared.reply.Reply.TheVariants.{Done}
use Rattle.segment_state.specs.Answers.{refusal_of, stop_of}
use Rattle.segment_state.specs.declared.stop.Stop.TheVariants as stop
use Rattle.segment_state.specs.Memory.{next_at, TakeMayLackMemory, MayAskMemory}
use Rattle.segment_state.specs.StateFields.{state_value, IsStateInside}
use Rattle.segment_state.specs.declared.state.SegmentState.TheInside.{Inside}
use Rattle.segment_state.proofs.Stations.{at_is, at_none}
use Rattle.segment_state.proofs.Kept.{at_here, said, stepped_view, same_item}

-- Its place

kept_here : (s : Inside) (seg : Segment) (i : ℕ) → state_value s ≡ seg → i < length seg.stations → i < length s.stations.items
kept_here s seg i view within = subst (λ (x : Segment). i < length x.stations) (sym view) within

-- it is one of the stations that are kept, and has its cursor
pub within_here : (s : Inside) (seg : Segment) (i : ℕ) → state_value s ≡ seg → i < length seg.stations → i < vec_len s.stations
within_here s seg i view within = omega (arith, s.stations.ok.0, kept_here s seg i view within)

pub cursor_here : (s : Inside) (seg : Segment) (i : ℕ) → IsStateInside s → state_value s ≡ seg → i < length seg.stations → i < length s.bus.cursors
cursor_here s seg i h view within = subst (λ (n : ℕ). i < n) (sym h.cursors) (kept_here s seg i view within)

-- the station with the address
pub of_here : (s : Inside) (seg : Segment) (a : Address) (i : ℕ) (st : Station) → state_value s ≡ seg → Some i ≡ place_of seg a → i < length seg.stations → st ≡ get_or s.stations.items i st → station_of seg a ≡ Some st
of_here s seg a i st view here within is =
    ap (λ (o : Option ℕ). elim o as (λ (_ : Option ℕ). Option Station) [ None ↦ None | Some k ↦ slice_get seg.stations k ]) (sym here)
    ∙ slice_get_read seg.stations (length seg.stations) i st refl within (is ∙ ap (λ (x : Segment). get_or x.stations i st) view)

pub of_none : (seg : Segment) (a : Address) → place_of seg a ≡ None → station_of seg a ≡ None
of_none seg a none = ap (λ (o : Option ℕ). elim o as (λ (_ : Option ℕ). Option Station) [ None ↦ None | Some k ↦ slice_get seg.stations k ]) none

-- the same, or a new one where there is none
pub station_here : (s : Inside) (seg : Segment) (a : Address) (i : ℕ) (st : Station) → state_value s ≡ seg → Some i ≡ place_of seg a → i < length seg.stations → st ≡ get_or s.stations.items i st → station_at seg a ≡ st
station_here s seg a i st view here within is = ap (λ (o : Option Station). unwrap_or o (new_station a)) (of_here s seg a i st view here within is)

pub station_none : (seg : Segment) (a : Address) → place_of seg a ≡ None → station_at seg a ≡ new_station a
station_none seg a none = ap (λ (o : Option Station). unwrap_or o (new_station a)) (of_none seg a none)

-- a call of an address that no station has is refused
pub no_station : (seg : Segment) (a : Address) (call : ℕ → Station → Answer) → place_of seg a ≡ None → Some refusal.NoSuchStation ≡ refusal_of (at_address seg a call)
no_station seg a call none = sym (ap refusal_of (at_none seg a call none))

-- what a call comes to whatever station has the address
pub at_any : (seg : Segment) (a : Address) (i : ℕ) (call : ℕ → Station → Answer) (answer : Answer) → Some i ≡ place_of seg a → i < length seg.stations → ((st : Station) → call i st ≡ answer) → at_address seg a call ≡ answer
at_any seg a i call answer here within each =
    at_is seg a i (get_or seg.stations i (new_station a)) call (sym here) (slice_get-get_or seg.stations i (new_station a) within) ∙ each (get_or seg.stations i (new_station a))

-- A frame that is put

-- a frame that is put finds the bus not full
pub had_room : (r : Result (Unit {0}) PutError) (full : Bool) → is_err r ≡ false → IsErrOf r BusFull ↔ IsTrue full → full ≡ false
had_room (Err x) full e h = absurd cc
had_room (Ok u) true e h = let never : Ok u ≡ Err BusFull = h.1 refl in absurd cc
had_room (Ok u) false e h = refl

pub transmits_is : (seg : Segment) (i : ℕ) (st : Station) (frame : CanFrame) → Some frame ≡ front st.queue → bus.is_full seg.bus ≡ false → transmits seg i st ≡ done (with_frame (with_station seg i (record st { queue = behind st.queue })) frame)
transmits_is seg i st frame next free =
    ap (transmits_by seg i st) (sym next)
    ∙ ap (λ (b : Bool). cond {A = Answer} b (Err refusal.BusFull) (done (with_frame (with_station seg i (record st { queue = behind st.queue })) frame))) free

-- the segment is kept as s before the frame is put, and as t behind it
pub transmits_here : (s t : Inside) (seg : Segment) (a : Address) (i : ℕ) (st old new : Station) (frame : CanFrame) → state_value s ≡ seg → Some i ≡ place_of seg a → i < length seg.stations → st ≡ get_or s.stations.items i st → Some frame ≡ front st.queue → bus.is_full seg.bus ≡ false
    → state_value t ≡ with_frame seg frame → old ≡ get_or t.stations.items i old → new ≡ record old { queue = behind old.queue } → at_address seg a (transmits seg) ≡ done (state_value (record t { stations = with_item t.stations i new }))
transmits_here s t seg a i st old new frame view here within is next free put there left =
    let same : old ≡ st = same_item seg.stations i old st within (there ∙ ap (λ (x : Segment). get_or x.stations i old) put) (is ∙ ap (λ (x : Segment). get_or x.stations i st) view) in
    at_here s seg a i st (transmits seg) view here within is
    ∙ transmits_is seg i st frame next free
    ∙ stepped_view t (with_frame seg frame) i (record st { queue = behind st.queue }) new (Done []) (Done []) put (left ∙ ap (λ (x : Station). record x { queue = behind x.queue }) same) refl

-- A frame that finds no memory is refused for nothing else

free_for_memory : (st : Station) (why : Stopped) → IsAnswered (taking_refusal st) (Some why) → stop_of why ≡ stop.OutOfMemory → taking_refusal st ≡ None
free_for_memory st stopped.OutOfMemory none e = none
free_for_memory st (stopped.Refused c) none e = absurd cc

-- The same of a Take of the segment

pub may_ask : (seg : Segment) (a : Address) (i : ℕ) (room : Bool) (st : Station) (frame : CanFrame) (why : Stopped) → Some i ≡ place_of seg a → station_of seg a ≡ Some st → Some frame ≡ bus.next_frame seg.bus i
    → IsAnswered (taking_refusal st) (Some why) → (taking_refusal st ≡ None → room ≡ true) → (taking_refusal st ≡ None → MayLackMemory st frame room) → stop_of why ≡ stop.OutOfMemory → MayAskMemory seg (Take a room)
may_ask seg a i room st frame why here is next answered with_room lacks e =
    let none : taking_refusal st ≡ None = free_for_memory st why answered e in
    let frame_is : next_at seg (place_of seg a) ≡ Some frame = ap (next_at seg) (sym here) ∙ sym next in
    let there : TakeMayLackMemory (Some st) (Some frame) room = lacks none in (
      with_room none,
      subst (λ (o : Option Station). TakeMayLackMemory o (next_at seg (place_of seg a)) room) (sym is) (subst (λ (n : Option CanFrame). TakeMayLackMemory (Some st) n room) (sym frame_is) there),
    )

-- Frames that are missed

pub overruns_many : (seg : Segment) (n i : ℕ) (st : Station) → bus.waiting seg.bus i < n → overruns seg n i st ≡ Err refusal.NothingToTake
overruns_many seg n i st lt = ap (λ (b : Bool). cond {A = Answer} b (Err refusal.NothingToTake) (stepped (record seg { bus = bus.released (bus.passed seg.bus i n) }) i (overrun st))) (lt-ltb (bus.waiting seg.bus i) n lt)

pub overruns_is : (seg : Segment) (n i : ℕ) (st : Station) (step : StationStep) → n ≤ bus.waiting seg.bus i → overrun st ≡ step → overruns seg n i st ≡ stepped (record seg { bus = bus.released (bus.passed seg.bus i n) }) i step
overruns_is seg n i st step le is =
    ap (λ (b : Bool). cond {A = Answer} b (Err refusal.NothingToTake) (stepped (record seg { bus = bus.released (bus.passed seg.bus i n) }) i (overrun st))) (le-ltb (bus.waiting seg.bus i) n le)
    ∙ ap (stepped (record seg { bus = bus.released (bus.passed seg.bus i n) }) i) is

pub missed_view : (s : Inside) (seg : Segment) (n i : ℕ) (new : Station) (events : List Event) (moved left : bus.Bus) (after : Segment) (told : Reply) → state_value s ≡ seg → moved ≡ bus.passed s.bus i n → left ≡ bus.released moved
    → after ≡ record (state_value (record s { stations = with_item s.stations i new; bus = left })) { counts = counted s.counts events } → told ≡ Done events
    → stepped (record seg { bus = bus.released (bus.passed seg.bus i n) }) i (record { station = new; events = events }) ≡ said after told
missed_view s seg n i new events moved left after told view move release is says =
    (λ k. stepped (record (sym view k) { bus = bus.released (bus.passed (sym view k).bus i n) }) i (record { station = new; events = events }))
    ∙ (λ k. said (record { now = s.clock; stations = set s.stations.items i new; bus = bus.released (sym move k); counts = counted s.counts events }) (Done events))
    ∙ (λ k. said (record { now = s.clock; stations = set s.stations.items i new; bus = sym release k; counts = counted s.counts events }) (Done events))
    ∙ (λ k. said (sym is k) (sym says k))
