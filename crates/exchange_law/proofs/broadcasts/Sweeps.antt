-- Every station takes the frame that was put last.
use Rattle.std.proofs.Common.{◌≡◌, ◌≢◌, ℕ, ◌+◌, ◌-◌, ◌<◌, ◌≤◌, max, ◌==◌, Bool, true, false, cond, List, [], ◌∷◌, ◌++◌, length, set, Option, Some, None, Err, refl, sym, ap, ◌∙◌, subst, arith, length-set, append_assoc, length-append, get_or-set_same, get_or-set_other, ⊎_elim}
use Rattle.std.specs.Prelude.{All, map, nat_le, slice_get, flat_map}
use Rattle.std.proofs.lemmas.List.{append-nil, length_push}
use Rattle.std.proofs.lemmas.List.Elements.{All-head, All-tail}
use Rattle.std.proofs.lemmas.Bool.{le-leb, cases_eq}
use Rattle.bus_frame.specs.Frames.{CanFrame}
use Rattle.pgn_ids.specs.declared.address.Address.{Address}
use Rattle.tx_queue.specs.Queue.{free_places}
use Rattle.bus_order.specs.Bus as bus
use Rattle.bus_order.specs.Bus.{Bus, Cursor, start, bus_len, cursor_at, frame_at, next_frame, waiting, released, lowest}
use Rattle.bus_order.specs.Kept.{IsSound}
use Rattle.bus_order.proofs.Steps.{sound_moved, released_len}
use Rattle.bus_order.proofs.Cursors.{lowest_each}
use Rattle.bus_order.proofs.Lists.{slice_get-drop, slice_get-right}
use Rattle.message_events.specs.declared.event.Event.{Event}
use Rattle.station_core.specs.Station.{Station, StationStep}
use Rattle.station_core.specs.Taking.{is_malformed_for, taken}
use Rattle.segment_law.specs.Segment.{Segment, place_of, waiting_at, counted, counted_look}
use Rattle.segment_law.specs.Calls.{no_place, at_place, at_station, takes, takes_by, looks, called, replied, applied, events_of}
use Rattle.segment_law.specs.Record.{Record}
use Rattle.segment_law.specs.Reached.{IsFitBus, IsReached}
use Rattle.segment_law.specs.Drive as drive
use Rattle.segment_law.specs.Drive.{Driven, events_in, with_call, stops_at, goes_on, last_take, takes_all, all_take}
use Rattle.segment_law.specs.declared.call.Call.TheVariants.{Take}
use Rattle.segment_law.specs.declared.refusal.Refusal.TheVariants as refusal
use Rattle.segment_law.specs.declared.reply.Reply.{Reply}
use Rattle.segment_law.specs.declared.reply.Reply.TheVariants.{Refused, Done}
use Rattle.bus_order.proofs.Order.{frame_past}
use Rattle.segment_law.proofs.FitStations.{taken_stays}
use Rattle.segment_law.proofs.Reaching.{reached_call, as_it_is}

-- a drive that has not ended
abbrev pub under_way : Segment → Record → ℕ → List CanFrame → Driven
under_way seg calls turns frames = record { segment = seg; calls = calls; turns = turns; frames = frames; ended = None }

pub events-append : (steps more : Record) → events_in (steps ++ more) ≡ events_in steps ++ events_in more
events-append [] more = refl
events-append (s ∷ steps) more = ap (λ (es : List Event). events_of s.1 ++ es) (events-append steps more) ∙ sym (append_assoc (events_of s.1) (events_in steps) (events_in more))

-- ---- one station takes it

module _ (seg : Segment) (a : Address) (i : ℕ) (st : Station) (place : place_of seg a ≡ Some i) (at : slice_get seg.stations i ≡ Some st) where
  module _ (f : CanFrame) (next : next_frame seg.bus i ≡ Some f) (room : no_place st ≡ false) where
    abbrev pub step : StationStep
    step = taken st f true seg.now

    abbrev pub took : Segment
    took = record { now = seg.now; stations = set seg.stations i step.station; bus = released (bus.taken seg.bus i); counts = counted (counted_look seg.counts (is_malformed_for st f)) step.events }

    pub take_is : applied seg (Take a true) ≡ (took, Done step.events)
    unfolding called
    take_is =
        ap (λ (o : Option ℕ). replied seg (at_place seg o (takes seg true))) place
        ∙ ap (λ (o : Option Station). replied seg (at_station o (takes seg true i))) at
        ∙ ap (λ (o : Option CanFrame). replied seg (takes_by seg true i st o)) next
        ∙ ap (λ (b : Bool). replied seg (cond b (Err refusal.TxFull) (looks (record seg { bus = released (bus.taken seg.bus i) }) true i st f))) room

  pub take_none : next_frame seg.bus i ≡ None → applied seg (Take a true) ≡ (seg, Refused refusal.NothingToTake)
  unfolding called
  take_none none =
      ap (λ (o : Option ℕ). replied seg (at_place seg o (takes seg true))) place
      ∙ ap (λ (o : Option Station). replied seg (at_station o (takes seg true i))) at
      ∙ ap (λ (o : Option CanFrame). replied seg (takes_by seg true i st o)) none

  pub waiting_is : waiting_at seg a ≡ waiting seg.bus i
  waiting_is = ap (λ (o : Option ℕ). elim o as (λ (_ : Option ℕ). ℕ) [ None ↦ 0 | Some j ↦ waiting seg.bus j ]) place

-- the calls of a station that takes one frame
abbrev two_calls : Address → List Event → Record
two_calls a events = (Take a true, Done events) ∷ (Take a true, Refused refusal.NothingToTake) ∷ []

takes_one : (seg took : Segment) (a : Address) (events : List Event) (calls : Record) (t : ℕ) (fs : List CanFrame)
    → waiting_at seg a ≡ 1 → applied seg (Take a true) ≡ (took, Done events) → applied took (Take a true) ≡ (took, Refused refusal.NothingToTake)
    → takes_all a (under_way seg calls t fs) ≡ under_way took (calls ++ two_calls a events) t fs
takes_one seg took a events calls t fs waits first last =
    ap (λ (k : ℕ). goes_on (drive.takes k a (under_way seg calls t fs)) (last_take a)) waits
    ∙ ap (λ (r : Segment × Reply). goes_on (stops_at (with_call (under_way seg calls t fs) (Take a true) r) r.1) (last_take a)) first
    ∙ ap (λ (r : Segment × Reply). with_call (under_way took (calls ++ (Take a true, Done events) ∷ []) t fs) (Take a true) r) last
    ∙ ap (λ (cs : Record). under_way took cs t fs) (append_assoc calls ((Take a true, Done events) ∷ []) ((Take a true, Refused refusal.NothingToTake) ∷ []))

-- ---- the bus while the stations take it

-- so many stations, of which the first j took the frame behind place L, and the others have still to
pub record Offers (n L j : ℕ) (f : CanFrame) (b : Bus) : Type 0 where
  pub fit : IsFitBus n b
  pub len : bus_len b ≡ L + 1
  pub frame : frame_at b (L + 1) ≡ Some f
  pub took : (i : ℕ) → i < j → (cursor_at b i).place ≡ L + 1
  pub waits : (i : ℕ) → j ≤ i → i < n → (cursor_at b i).place ≡ L

-- a frame that isn't dropped stays at its place
frame_released : (b : Bus) (place : ℕ) → b.first ≤ max 1 (lowest b.cursors) → max 1 (lowest b.cursors) ≤ place → frame_at (released b) place ≡ frame_at b place
frame_released b place held upto =
    let from : ℕ = max 1 (lowest b.cursors) in
    let t : nat_le from place ≡ true = le-leb from place upto in
    let u : nat_le b.first place ≡ true = le-leb b.first place (omega (arith, held, upto)) in
    rw (t, u) (slice_get-drop (from - b.first) b.kept (place - from) (place - b.first) (omega (arith, held, upto)))

module _ (n L j : ℕ) (f : CanFrame) (b : Bus) (o : Offers n L j f b) (here : j < n) where
  there : j < length b.cursors
  there = omega (arith, o.fit.cursors, here)

  at_place_L : (cursor_at b j).place ≡ L
  at_place_L = o.waits j (omega arith) here

  pub next_is : next_frame b j ≡ Some f
  next_is = ap (λ (p : ℕ). frame_at b (p + 1)) at_place_L ∙ o.frame

  pub one_waits : waiting b j ≡ 1
  one_waits = omega (arith, at_place_L, o.len)

  moved : IsSound (bus.taken b j)
  moved = sound_moved b j (record { place = (cursor_at b j).place + 1; repeatable = true }) o.fit.sound there (omega arith) (omega (arith, at_place_L, o.len)) (λ _. omega arith)

  cursor_same : (cursor_at (bus.taken b j) j).place ≡ L + 1
  cursor_same = ap (λ (c : Cursor). c.place) (get_or-set_same b.cursors j (record { place = (cursor_at b j).place + 1; repeatable = true }) start there) ∙ ap (λ (p : ℕ). p + 1) at_place_L

  cursor_other : (i : ℕ) → i ≢ j → cursor_at (bus.taken b j) i ≡ cursor_at b i
  cursor_other i ne = get_or-set_other b.cursors j i _ start ne

  len_after : bus_len (released (bus.taken b j)) ≡ L + 1
  len_after = released_len (bus.taken b j) moved ∙ o.len

  pub offers_next : IsFitBus n (released (bus.taken b j)) → Offers n L (j + 1) f (released (bus.taken b j))
  offers_next fit =
      let low : lowest (bus.taken b j).cursors ≤ (cursor_at (bus.taken b j) j).place = lowest_each (bus.taken b j).cursors j start (omega (arith, there, length-set b.cursors j (record { place = (cursor_at b j).place + 1; repeatable = true }))) in
      record {
        fit = fit;
        len = len_after;
        frame = frame_released (bus.taken b j) (L + 1) moved.held (omega (arith, low, cursor_same)) ∙ o.frame;
        took = λ i lt. ⊎_elim (λ (e : i ≡ j). ap (λ (k : ℕ). (cursor_at (bus.taken b j) k).place) e ∙ cursor_same) (λ (ne : i ≢ j). ap (λ (c : Cursor). c.place) (cursor_other i ne) ∙ o.took i (omega (arith, ne, lt))) (cases_eq i j);
        waits = λ i le lt. ap (λ (c : Cursor). c.place) (cursor_other i (λ e. omega (arith, e, le))) ∙ o.waits i (omega arith) lt;
      }

  pub nothing_next : next_frame (released (bus.taken b j)) j ≡ None
  nothing_next = frame_past (released (bus.taken b j)) ((cursor_at (bus.taken b j) j).place + 1) (omega (arith, len_after, cursor_same))

-- ---- all stations take it

pub record Swept (n L now : ℕ) (f : CanFrame) (stations : List Station) (events : List Event) (t : ℕ) (fs : List CanFrame) (d : Driven) : Type 0 where
  pub segment : Segment
  pub calls : Record
  pub is : d ≡ under_way segment calls t fs
  pub reached : IsReached segment
  pub now_is : segment.now ≡ now
  pub stations_are : segment.stations ≡ stations
  pub offers : Offers n L n f segment.bus
  pub told : events_in calls ≡ events

set_at : {X : Type 0} (pre rest : List X) (x y : X) → set (pre ++ x ∷ rest) (length pre) y ≡ (pre ++ y ∷ []) ++ rest
set_at [] rest x y = refl
set_at (p ∷ pre) rest x y = ap (λ xs. p ∷ xs) (set_at pre rest x y)

module _ (n L now : ℕ) (f : CanFrame) (t : ℕ) (fs : List CanFrame) where
  abbrev go : Station → StationStep
  go st = taken st f true now

  abbrev pub after : List Station → List Station
  after rest = map (λ st. (go st).station) rest

  abbrev pub told_by : List Station → List Event
  told_by rest = flat_map (λ st. (go st).events) rest

  -- each has a free place in its queue
  pub sweep_free : (rest pre : List Station) (seg : Segment) (calls : Record) → IsReached seg → seg.now ≡ now → seg.stations ≡ pre ++ rest → n ≡ length pre + length rest
      → All (λ (st : Station). no_place st ≡ false) rest → Offers n L (length pre) f seg.bus
      → Swept n L now f (pre ++ after rest) (events_in calls ++ told_by rest) t fs (all_take rest (under_way seg calls t fs))
  sweep_free [] pre seg calls r clock stations many free o = record {
    segment = seg;
    calls = calls;
    is = refl;
    reached = r;
    now_is = clock;
    stations_are = stations;
    offers = subst (λ (j : ℕ). Offers n L j f seg.bus) (let e : length pre ≡ n = omega (arith, many) in e) o;
    told = sym (append-nil (events_in calls));
  }
  sweep_free (st ∷ rest) pre seg calls r clock stations many free o =
      let i : ℕ = length pre in
      let here : i < n = omega (arith, many) in
      let at : slice_get seg.stations i ≡ Some st = ap (λ (xs : List Station). slice_get xs i) stations ∙ slice_get-right pre (st ∷ rest) i 0 (omega arith) in
      let place : place_of seg st.address ≡ Some i = r.places i st at in
      let room : no_place st ≡ false = All-head (λ (s : Station). no_place s ≡ false) st rest free in
      let next : next_frame seg.bus i ≡ Some f = next_is n L i f seg.bus o here in
      let first : applied seg (Take st.address true) ≡ (took seg st.address i st place at f next room, Done (taken st f true seg.now).events) = take_is seg st.address i st place at f next room in
      let new : Segment = took seg st.address i st place at f next room in
      let y : Station = (taken st f true seg.now).station in
      let reached : IsReached new = subst IsReached (ap (λ (s : Segment × Reply). s.0) first) (reached_call seg r (Take st.address true) refl) in
      let many_are : length seg.stations ≡ n = ap length stations ∙ length-append pre (st ∷ rest) ∙ sym many in
      let fit : IsFitBus n new.bus = subst (λ (k : ℕ). IsFitBus k new.bus) (length-set seg.stations i y ∙ many_are) reached.bus in
      let offers : Offers n L (i + 1) f new.bus = offers_next n L i f seg.bus o here fit in
      let stations_new : new.stations ≡ (pre ++ y ∷ []) ++ rest = ap (λ (xs : List Station). set xs i y) stations ∙ set_at pre rest st y in
      let at_new : slice_get new.stations i ≡ Some y = ap (λ (xs : List Station). slice_get xs i) (stations_new ∙ append_assoc pre (y ∷ []) rest) ∙ slice_get-right pre (y ∷ rest) i 0 (omega arith) in
      let address : y.address ≡ st.address = (taken_stays st.address st f true seg.now (as_it_is seg r i st at)).address in
      let place_new : place_of new st.address ≡ Some i = ap (place_of new) (sym address) ∙ reached.places i y at_new in
      let last : applied new (Take st.address true) ≡ (new, Refused refusal.NothingToTake) = take_none new st.address i y place_new at_new (nothing_next n L i f seg.bus o here) in
      let waits : waiting_at seg st.address ≡ 1 = waiting_is seg st.address i st place at ∙ one_waits n L i f seg.bus o here in
      let calls_new : Record = calls ++ two_calls st.address (taken st f true seg.now).events in
      let one : takes_all st.address (under_way seg calls t fs) ≡ under_way new calls_new t fs = takes_one seg new st.address (taken st f true seg.now).events calls t fs waits first last in
      let longer : length (pre ++ y ∷ []) ≡ i + 1 = length_push pre y in
      let rec : Swept n L now f ((pre ++ y ∷ []) ++ after rest) (events_in calls_new ++ told_by rest) t fs (all_take rest (under_way new calls_new t fs)) =
      sweep_free rest (pre ++ y ∷ []) new calls_new reached clock stations_new (omega (arith, many, longer)) (All-tail (λ (s : Station). no_place s ≡ false) st rest free) (subst (λ (j : ℕ). Offers n L j f new.bus) (sym longer) offers) in
      let step_now : go st ≡ taken st f true seg.now = ap (taken st f true) (sym clock) in
      record {
        segment = rec.segment;
        calls = rec.calls;
        is = ap (all_take rest) one ∙ rec.is;
        reached = rec.reached;
        now_is = rec.now_is;
        stations_are = rec.stations_are ∙ append_assoc pre (y ∷ []) (after rest) ∙ ap (λ (s : StationStep). pre ++ s.station ∷ after rest) (sym step_now);
        offers = rec.offers;
        told =
            rec.told
            ∙ ap (λ (es : List Event). es ++ told_by rest) (events-append calls (two_calls st.address (taken st f true seg.now).events) ∙ ap (λ (es : List Event). events_in calls ++ es) (append-nil (taken st f true seg.now).events))
            ∙ append_assoc (events_in calls) (taken st f true seg.now).events (told_by rest)
            ∙ ap (λ (s : StationStep). events_in calls ++ (s.events ++ told_by rest)) (sym step_now);
      }

  -- as each has where nothing is queued
  pub sweep : (rest pre : List Station) (seg : Segment) (calls : Record) → IsReached seg → seg.now ≡ now → seg.stations ≡ pre ++ rest → n ≡ length pre + length rest
      → All (λ (st : Station). st.queue ≡ []) rest → Offers n L (length pre) f seg.bus
      → Swept n L now f (pre ++ after rest) (events_in calls ++ told_by rest) t fs (all_take rest (under_way seg calls t fs))
  sweep rest pre seg calls r clock stations many queues o = sweep_free rest pre seg calls r clock stations many (λ j d lt. ap (λ (q : List CanFrame). free_places q == 0) (queues j d lt)) o
