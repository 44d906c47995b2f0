-- Stations that are abreast, of which the first take the newest frame: what is left then.
use Rattle.std.proofs.Common.{◌≡◌, ℕ, zero, suc, ◌<◌, ◌≤◌, true, false, List, [], ◌∷◌, ◌++◌, length, set, get_or, Some, refl, sym, ap, ◌∙◌, subst, arith}
use Rattle.std.specs.Vec.{with_item, with_items}
use Rattle.std.proofs.lemmas.List.{with_items_is}
use Rattle.std.proofs.lemmas.Option.{get_or_from_slice_get}
use Rattle.bus_frame.specs.Frames.{CanFrame}
use Rattle.pgn_ids.specs.declared.address.Address.{Address}
use Rattle.tx_queue.specs.Queue.{front, behind}
use Rattle.bus_order.specs.Bus.{Bus, bus_len, frame_at, is_full, put}
use Rattle.bus_order.specs.Kept.{IsSound}
use Rattle.bus_order.specs.Abreast.{are_abreast, are_level, passed_first}
use Rattle.bus_order.proofs.Level.{stand_level, level_sound, level_abreast, newest_put}
use Rattle.bus_order.proofs.Abreast.{passed_cursors}
use Rattle.message_events.specs.declared.event.Event.{Event}
use Rattle.station_core.specs.Station.{Station}
use Rattle.segment_law.specs.Segment.{Segment, station_limit, place_of, with_station, counted, counted_frame}
use Rattle.segment_law.specs.Calls.{done, transmits, with_frame}
use Rattle.segment_law.specs.declared.counts.Counts.{Counts}
use Rattle.drive_course.specs.Taken.{Takes, Notes, FirstTake, FirstTell}
use Rattle.drive_course.specs.declared.course.Course.{Course}
use Rattle.drive_course.proofs.Taken.{first_length}
use Rattle.segment_state.specs.Abreast.{FirstPass, PutAbreast}
use Rattle.segment_state.specs.Places.{ArePlaces}
use Rattle.segment_state.specs.declared.places.Places.{Places}
use Rattle.segment_state.specs.StateFields.{state_value, IsStateInside}
use Rattle.segment_state.specs.declared.state.SegmentState.TheInside.{Inside}
use Rattle.segment_state.proofs.Addresses.{taken_keeps}
use Rattle.segment_state.proofs.Kept.{at_here, inside_moved, same_item}
use Rattle.segment_state.proofs.Calling.{station_here, transmits_is}
use Rattle.segment_state.proofs.Stations.{StandInPlace, places_kept, in_place_kept}

-- The stations

after_keeps : (before : Station) (frame : CanFrame) (now : ℕ) (after : Station) (told : List Event) → Takes before frame now after told → after.address ≡ before.address
after_keeps before frame now after told t = sym (ap (λ s. s.station.address) t.step) ∙ taken_keeps before frame true now

pub first_placed : (n : ℕ) (places : Places) (frame : CanFrame) (now : ℕ) (before after : List Station) (told : List Event) → FirstTake n frame now before after told → ArePlaces places before → ArePlaces places after
first_placed zero places frame now before after told e a = subst (ArePlaces places) (sym e.0) a
first_placed (suc n) places frame now before after told m a =
    let others : ArePlaces places m.others = first_placed n places frame now before m.others m.earlier m.before a in
    subst (ArePlaces places) (sym m.left) (places_kept places m.others n m.after m.station others (sym (get_or_from_slice_get m.others n m.station m.station m.here)) (after_keeps m.station frame now m.after m.own m.takes))

pub first_in_place : (n : ℕ) (frame : CanFrame) (now : ℕ) (before after : List Station) (told : List Event) → FirstTake n frame now before after told → StandInPlace before → StandInPlace after
first_in_place zero frame now before after told e a = subst StandInPlace (sym e.0) a
first_in_place (suc n) frame now before after told m a =
    let others : StandInPlace m.others = first_in_place n frame now before m.others m.earlier m.before a in
    subst StandInPlace (sym m.left) (in_place_kept m.others n m.after m.station others (sym (get_or_from_slice_get m.others n m.station m.station m.here)) (after_keeps m.station frame now m.after m.own m.takes))

-- What the code did

pub passed_are : (s : Inside) (after : Segment) (n now : ℕ) (frame : CanFrame) (stations : List Station) (moved_on : Bus) (shown course : Course) (sum : Counts) → IsStateInside s → IsSound s.bus → are_abreast s.bus ≡ true → frame_at s.bus (bus_len s.bus) ≡ Some frame → n ≤ length s.stations.items → now ≡ s.clock
    → FirstTell n frame now s.stations.items stations shown course s.counts sum → moved_on ≡ passed_first n s.bus → after ≡ record { now = s.clock; stations = stations; bus = moved_on; counts = sum } → FirstPass n (state_value s) after shown course
passed_are s after zero now frame stations moved_on shown course sum inside sound abreast newest few time f passed is =
    let nothing : sum ≡ s.counts = f.sums ∙ ap (λ (es : List Event). counted s.counts es) f.steps.1 in (
      is ∙ (λ k. record { now = s.clock; stations = f.steps.0 k; bus = passed k; counts = nothing k }),
      subst (λ (es : List Event). Notes shown course es) f.steps.1 f.notes,
    )
passed_are s after (suc n) now frame stations moved_on shown course sum inside sound abreast newest few time f passed is =
    let same : after.stations ≡ stations = ap (λ (x : Segment). x.stations) is in
    let timed : FirstTake (suc n) frame s.clock s.stations.items stations f.told = subst (λ (t : ℕ). FirstTake (suc n) frame t s.stations.items stations f.told) time f.steps in
    record {
      abreast = abreast;
      followed = record { sound = sound; cursors = inside.cursors };
      few = few;
      frame = frame;
      newest = newest;
      in_place = inside.in_place;
      told = f.told;
      steps = subst (λ (xs : List Station). FirstTake (suc n) frame s.clock s.stations.items xs f.told) (sym same) timed;
      notes = f.notes;
      left = is ∙ (λ k. record { now = s.clock; stations = sym same k; bus = passed k; counts = f.sums k });
    }

-- and the segment is whole then
pub stations_left : (s : Inside) (n now : ℕ) (frame : CanFrame) (stations : List Station) (told : List Event) → FirstTake n frame now s.stations.items stations told → (with_items s.stations stations).items ≡ stations
stations_left s n now frame stations told steps =
    let long : length stations ≡ length s.stations.items = first_length n frame now s.stations.items stations told steps in
    with_items_is s.stations stations (omega (arith, s.stations.ok.0))

pub inside_together : (s : Inside) (n now : ℕ) (frame : CanFrame) (stations : List Station) (told : List Event) (moved_on : Bus) (counts : Counts) → IsStateInside s → FirstTake n frame now s.stations.items stations told → moved_on ≡ passed_first n s.bus → IsStateInside (record s { stations = with_items s.stations stations; bus = moved_on; counts = counts })
inside_together s n now frame stations told moved_on counts inside steps passed =
    let long : length stations ≡ length s.stations.items = first_length n frame now s.stations.items stations told steps in
    let items : (with_items s.stations stations).items ≡ stations = stations_left s n now frame stations told steps in
    record {
      few = subst (λ (xs : List Station). length xs ≤ station_limit) (sym items) (omega (arith, inside.few));
      cursors = ap (λ (b : Bus). length b.cursors) passed ∙ passed_cursors n s.bus ∙ inside.cursors ∙ sym long ∙ sym (ap (λ (xs : List Station). length xs) items);
      places = subst (ArePlaces s.places) (sym items) (first_placed n s.places frame now s.stations.items stations told steps inside.places);
      in_place = subst StandInPlace (sym items) (first_in_place n frame now s.stations.items stations told steps inside.in_place);
    }

-- A frame is put by one of them, and taken by the first

pub put_inside : (s : Inside) (i : ℕ) (popped old : Station) (frame : CanFrame) (counts : Counts) → IsStateInside s → old ≡ get_or s.stations.items i old → popped.address ≡ old.address → IsStateInside (record s { stations = with_item s.stations i popped; bus = put s.bus frame; counts = counts })
put_inside s i popped old frame counts inside is same =
    let m : IsStateInside (record s { stations = with_item s.stations i popped; bus = put s.bus frame }) = inside_moved s i popped old (put s.bus frame) inside is same refl in
    record { few = m.few; cursors = m.cursors; places = m.places; in_place = m.in_place }

pub put_together : (s : Inside) (seg after : Segment) (a : Address) (i n now : ℕ) (st old popped : Station) (frame : CanFrame) (counts sum : Counts) (stations : List Station) (moved_on : Bus) (was shown course : Course) → IsStateInside s → state_value s ≡ seg → IsSound s.bus → are_level s.bus ≡ true
    → Some i ≡ place_of seg a → i < length seg.stations → st ≡ get_or s.stations.items i st → Some frame ≡ front st.queue → old ≡ get_or s.stations.items i old → popped ≡ record old { queue = behind old.queue } → counts ≡ counted_frame s.counts
    → shown.frames.items ≡ was.frames.items ++ frame ∷ [] → shown.parts.items ≡ was.parts.items
    → n ≤ length (set s.stations.items i popped) → now ≡ s.clock → FirstTell n frame now (set s.stations.items i popped) stations shown course counts sum → moved_on ≡ passed_first n (put s.bus frame) → after ≡ record { now = s.clock; stations = stations; bus = moved_on; counts = sum } → PutAbreast a n seg after was course
put_together s seg after a i n now st old popped frame counts sum stations moved_on was shown course inside view sound level here within is next there left one_frame frames parts few time tells passed whole =
    let same : old ≡ st = same_item seg.stations i old st within (there ∙ ap (λ (x : Segment). get_or x.stations i old) view) (is ∙ ap (λ (x : Segment). get_or x.stations i st) view) in
    let free : is_full seg.bus ≡ false = ap (λ (x : Segment). is_full x.bus) (sym view) ∙ (stand_level s.bus level).room in
    let went : record st { queue = behind st.queue } ≡ popped = sym (left ∙ ap (λ (x : Station). record x { queue = behind x.queue }) same) in
    let t : Inside = record s { stations = with_item s.stations i popped; bus = put s.bus frame; counts = counts } in
    let inside_then : IsStateInside t = put_inside s i popped old frame counts inside there (ap (λ (x : Station). x.address) left) in
    record {
      between = state_value t;
      frame = frame;
      put =
          at_here s seg a i st (transmits seg) view here within is
          ∙ transmits_is seg i st frame next free
          ∙ (λ k. done (with_frame (with_station (sym view k) i (went k)) frame))
          ∙ (λ k. done (record { now = s.clock; stations = set s.stations.items i popped; bus = put s.bus frame; counts = sym one_frame k }));
      front = ap (λ (x : Station). front x.queue) (station_here s seg a i st view here within is) ∙ sym next;
      shown = shown;
      frames = frames;
      parts = parts;
      passed = passed_are t after n now frame stations moved_on shown course sum inside_then (level_sound s.bus frame sound level) (level_abreast s.bus frame level sound.from_one) (newest_put s.bus frame sound.from_one) few time tells passed whole;
    }
