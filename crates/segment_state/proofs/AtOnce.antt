-- A frame that is put on the bus and taken at once by the first station: as by two calls.
use Rattle.std.proofs.Common.{◌≡◌, ℕ, ◌-◌, ◌==◌, ◌<◌, ◌≤◌, Bool, true, false, cond, List, [], ◌∷◌, length, set, get_or, Option, Some, None, Err, refl, sym, ap, ◌∙◌, subst, arith, eqb-true, get_or-set_same, length-set}
use Rattle.std.specs.Prelude.{slice_get}
use Rattle.std.specs.Vec.{with_item}
use Rattle.std.proofs.lemmas.List.{set-get_or}
use Rattle.std.proofs.lemmas.Option.{none-some, slice_get_read}
use Rattle.bus_frame.specs.Frames.{CanFrame}
use Rattle.pgn_ids.specs.Identifier.{meaning_of}
use Rattle.pgn_ids.specs.declared.address.Address.{Address}
use Rattle.tx_queue.specs.Queue.{queue_limit, free_places, front, behind}
use Rattle.bus_order.specs.Bus.{Bus, is_full, next_frame, put}
use Rattle.bus_order.specs.Kept.{IsSound}
use Rattle.bus_order.specs.Abreast.{are_level, passed_first}
use Rattle.bus_order.proofs.Level.{stand_level, level_sound, level_abreast, newest_put}
use Rattle.bus_order.proofs.Abreast.{passed_newest}
use Rattle.message_events.specs.declared.event.Event.{Event}
use Rattle.station_core.specs.Station.{Station}
use Rattle.station_core.specs.Refusals.{taking_refusal}
use Rattle.station_core.specs.Taking.{is_malformed_for, looks_at, taken}
use Rattle.station_core.specs.declared.refused.Refused.{Refused as Cause}
use Rattle.station_core.specs.declared.refused.Refused.TheVariants as cause
use Rattle.segment_law.specs.Segment.{Segment, place_of, has_station, with_station, counted, counted_frame, counted_look}
use Rattle.segment_law.specs.Calls.{Answer, is_call, called, replied, at_address, done, takes, transmits, with_frame}
use Rattle.segment_law.specs.declared.call.Call.{Call}
use Rattle.segment_law.specs.declared.call.Call.TheVariants.{Inject, Take, Transmit}
use Rattle.segment_law.specs.declared.counts.Counts.{Counts}
use Rattle.segment_law.specs.declared.refusal.Refusal.TheVariants as refusal
use Rattle.segment_law.specs.declared.reply.Reply.TheVariants.{Done}
use Rattle.segment_law.proofs.Reaching.{position_kept}
use Rattle.segment_state.specs.PutTaken.{PutTaken}
use Rattle.segment_state.specs.StateFields.{state_value, IsStateInside}
use Rattle.segment_state.specs.declared.state.SegmentState.TheInside.{Inside}
use Rattle.segment_state.proofs.Calling.{transmits_is}
use Rattle.segment_state.proofs.Kept.{at_here, inside_kept, same_item, takes_is, said}
use Rattle.segment_state.proofs.Records.{done_stands, takes_called}
use Rattle.segment_state.proofs.Stations.{at_is}

-- the calls that put a frame

pub transmits_called : (seg : Segment) (a : Address) → called seg (Transmit a) ≡ at_address seg a (transmits seg)
unfolding called
transmits_called seg a = refl

pub injects_done : (seg : Segment) (f : CanFrame) → has_station seg (meaning_of f.id).from ≡ false → is_full seg.bus ≡ false → called seg (Inject f) ≡ done (with_frame seg f)
unfolding called
injects_done seg f foreign free =
    ap (λ (b : Bool). cond {A = Answer} b (Err refusal.StationAddress) (cond {A = Answer} (is_full seg.bus) (Err refusal.BusFull) (done (with_frame seg f)))) foreign
    ∙ ap (λ (b : Bool). cond {A = Answer} b (Err refusal.BusFull) (done (with_frame seg f))) free

-- a station that doesn't look at a frame

pub unseen_taken : (st : Station) (f : CanFrame) (room : Bool) (now : ℕ) → looks_at st f ≡ false → taken st f room now ≡ record { station = st; events = [] }
unseen_taken st f room now away = rw away refl

pub unseen_formed : (st : Station) (f : CanFrame) → looks_at st f ≡ false → false ≡ is_malformed_for st f
unseen_formed st f away = rw away refl

-- a frame that leaves the queue leaves a place

place_left : (queue : List CanFrame) (f : CanFrame) → Some f ≡ front queue → length queue ≤ queue_limit → (free_places (behind queue) == 0) ≡ false
place_left [] f first few = absurd (none-some f (sym first))
place_left (g ∷ queue) f first few = by (queue_limit - length queue == 0) refl
  where
    by : (b : Bool) → (queue_limit - length queue == 0) ≡ b → b ≡ false
    by true e = absurd (let none : queue_limit - length queue ≡ 0 = eqb-true (queue_limit - length queue) 0 e in omega (arith, none, few))
    by false e = refl

pub free_behind : (st : Station) (f : CanFrame) → Some f ≡ front st.queue → length st.queue ≤ queue_limit → taking_refusal (record st { queue = behind st.queue }) ≡ None
free_behind st f first few = ap (λ (b : Bool). cond {A = Option Cause} b (Some cause.TxFull) None) (place_left st.queue f first few)

-- a frame is put by a call that leaves the segment s but for it, and the first station takes it

pub put_taken : (before : Segment) (call : Call) (s : Inside) (a : Address) (st new : Station) (frame : CanFrame) (events : List Event) (malformed : Bool) (passed : Bus) (after : Segment) → is_call call ≡ true → called before call ≡ done (with_frame (state_value s) frame)
    → IsStateInside s → IsSound s.bus → are_level s.bus ≡ true → place_of (state_value s) a ≡ Some 0 → 0 < length s.stations.items → st ≡ get_or s.stations.items 0 st → taking_refusal st ≡ None → taken st frame true s.clock ≡ record { station = new; events = events }
    → malformed ≡ is_malformed_for st frame → passed ≡ passed_first 1 (put s.bus frame)
    → after ≡ record { now = s.clock; stations = set s.stations.items 0 new; bus = passed; counts = counted (counted_look (counted_frame s.counts) malformed) events } → PutTaken before call a after events
put_taken before call s a st new frame events malformed passed after fit made inside sound level here within is free step formed on left =
    let mid : Segment = with_frame (state_value s) frame in
    let there : slice_get mid.stations 0 ≡ Some st = slice_get_read s.stations.items (length s.stations.items) 0 st refl within is in
    let next : next_frame mid.bus 0 ≡ Some frame = passed_newest 0 (put s.bus frame) (level_sound s.bus frame sound level) (level_abreast s.bus frame level sound.from_one) (omega (arith, within, inside.cursors)) ∙ newest_put s.bus frame sound.from_one in
    let takes_it : called mid (Take a true) ≡ said after (Done events) =
    takes_called mid a true
    ∙ at_is mid a 0 st (takes mid true) here there
    ∙ takes_is mid true 0 st frame (record { station = new; events = events }) (sym next) free step
    ∙ (λ k. said (record { now = s.clock; stations = set s.stations.items 0 new; bus = sym on k; counts = counted (counted_look (counted_frame s.counts) (sym formed k)) events }) (Done events))
    ∙ ap (λ (x : Segment). said x (Done events)) (sym left) in
    record {
      between = mid;
      put = ap (replied before) made;
      taken = ap (replied mid) takes_it;
      put_stands = done_stands before mid call (Done []) fit made;
      taken_stands = done_stands mid after (Take a true) (Done events) refl takes_it;
    }

-- its own frame, which it passes by
pub transmit_taken : (s : Inside) (seg : Segment) (a : Address) (i : ℕ) (asked shown seen st popped : Station) (frame : CanFrame) (passed : Bus) (counts : Counts) (after : Segment) → IsStateInside s → state_value s ≡ seg → IsSound s.bus → are_level s.bus ≡ true
    → Some i ≡ place_of seg a → i ≡ 0 → i < length seg.stations → asked ≡ get_or s.stations.items 0 asked → length asked.queue ≤ queue_limit → shown ≡ get_or s.stations.items 0 shown → Some frame ≡ front shown.queue → seen ≡ get_or s.stations.items 0 seen → looks_at seen frame ≡ false
    → st ≡ get_or s.stations.items 0 st → popped ≡ record st { queue = behind st.queue } → counts ≡ counted_frame s.counts → passed ≡ passed_first 1 (put s.bus frame) → after ≡ record { now = s.clock; stations = set s.stations.items 0 popped; bus = passed; counts = counts } → PutTaken seg (Transmit a) a after []
transmit_taken s seg a i asked shown seen st popped frame passed counts after inside view sound level here zero within asked_is few shown_is first seen_is away is left counted_is on after_is =
    let there : i < length s.stations.items = subst (λ (x : Segment). i < length x.stations) (sym view) within in
    let some : 0 < length s.stations.items = omega (arith, there) in
    let items : List Station = s.stations.items in
    let first_here : Some frame ≡ front st.queue = first ∙ ap (λ (x : Station). front x.queue) (same_item items 0 shown st some shown_is is) in
    let few_here : length st.queue ≤ queue_limit = subst (λ (x : Station). length x.queue ≤ queue_limit) (same_item items 0 asked st some asked_is is) few in
    let away_here : looks_at st frame ≡ false = subst (λ (x : Station). looks_at x frame ≡ false) (same_item items 0 seen st some seen_is is) away in
    let went : record st { queue = behind st.queue } ≡ popped = sym left in
    let same : popped.address ≡ st.address = ap (λ (x : Station). x.address) left in
    let free : taking_refusal popped ≡ None = subst (λ (x : Station). taking_refusal x ≡ None) went (free_behind st frame first_here few_here) in
    let unseen : looks_at popped frame ≡ false = subst (λ (x : Station). looks_at x frame ≡ false) went away_here in
    let at : slice_get items 0 ≡ Some st = slice_get_read items (length items) 0 st refl some is in
    let here_first : Some 0 ≡ place_of seg a = sym (ap (λ (n : ℕ). Some n) zero) ∙ here in
    let t : Inside = record s { stations = with_item s.stations 0 popped } in
    let room : is_full seg.bus ≡ false = ap (λ (x : Segment). is_full x.bus) (sym view) ∙ (stand_level s.bus level).room in
    let made : called seg (Transmit a) ≡ done (with_frame (state_value t) frame) =
    transmits_called seg a
    ∙ at_here s seg a 0 st (transmits seg) view here_first (omega (arith, zero, within)) is
    ∙ transmits_is seg 0 st frame first_here room
    ∙ (λ k. done (with_frame (with_station (sym view k) 0 (went k)) frame)) in
    let place : place_of (state_value t) a ≡ Some 0 = position_kept items 0 st popped at same a ∙ ap (λ (x : Segment). place_of x a) view ∙ sym here_first in
    let long : length (set items 0 popped) ≡ length items = length-set items 0 popped in
    let is_there : popped ≡ get_or (set items 0 popped) 0 popped = sym (get_or-set_same items 0 popped popped some) in
    let put_back : set (set items 0 popped) 0 popped ≡ set items 0 popped = ap (λ (x : Station). set (set items 0 popped) 0 x) is_there ∙ set-get_or (set items 0 popped) 0 popped in
    put_taken seg (Transmit a) t a popped popped frame [] false passed after refl made (inside_kept s 0 popped st inside is same) sound level place (omega (arith, long, some)) is_there free (unseen_taken popped frame true s.clock unseen) (unseen_formed popped frame unseen) on
    (after_is ∙ (λ k. record { now = s.clock; stations = sym put_back k; bus = passed; counts = counted_is k }))

-- the frame of another node
pub inject_taken : (s : Inside) (seg : Segment) (a : Address) (i now : ℕ) (st new : Station) (frame : CanFrame) (events : List Event) (malformed : Bool) (passed : Bus) (counts : Counts) (after : Segment) → is_call (Inject frame) ≡ true → IsStateInside s → state_value s ≡ seg → IsSound s.bus → are_level s.bus ≡ true
    → Some i ≡ place_of seg a → i ≡ 0 → i < length seg.stations → has_station seg (meaning_of frame.id).from ≡ false → st ≡ get_or s.stations.items 0 st → taking_refusal st ≡ None → now ≡ s.clock → taken st frame true now ≡ record { station = new; events = events } → malformed ≡ is_malformed_for st frame
    → counts ≡ counted_frame s.counts → passed ≡ passed_first 1 (put s.bus frame) → after ≡ record { now = s.clock; stations = set s.stations.items 0 new; bus = passed; counts = counted (counted_look counts malformed) events } → PutTaken seg (Inject frame) a after events
inject_taken s seg a i now st new frame events malformed passed counts after fit inside view sound level here zero within foreign is free time step formed counted_is on after_is =
    let there : i < length s.stations.items = subst (λ (x : Segment). i < length x.stations) (sym view) within in
    let some : 0 < length s.stations.items = omega (arith, there) in
    let here_first : Some 0 ≡ place_of seg a = sym (ap (λ (n : ℕ). Some n) zero) ∙ here in
    let room : is_full seg.bus ≡ false = ap (λ (x : Segment). is_full x.bus) (sym view) ∙ (stand_level s.bus level).room in
    let made : called seg (Inject frame) ≡ done (with_frame (state_value s) frame) = injects_done seg frame foreign room ∙ ap (λ (x : Segment). done (with_frame x frame)) (sym view) in
    let place : place_of (state_value s) a ≡ Some 0 = ap (λ (x : Segment). place_of x a) view ∙ sym here_first in
    put_taken seg (Inject frame) s a st new frame events malformed passed after fit made inside sound level place some is free (ap (λ (n : ℕ). taken st frame true n) (sym time) ∙ step) formed on
    (after_is ∙ (λ k. record { now = s.clock; stations = set s.stations.items 0 new; bus = passed; counts = counted (counted_look (counted_is k) malformed) events }))
