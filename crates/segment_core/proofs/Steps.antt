-- The calls of the code as steps of a drive.
use Rattle.std.proofs.Common.{◌≡◌, ℕ, ◌+◌, ◌<◌, ◌≤◌, ◌==◌, Bool, true, false, cond, nat_lt, List, [], ◌∷◌, ◌++◌, length, map, set, get_or, Option, Some, None, Result, Ok, Err, IsOk, refl, sym, ap, ◌∙◌, subst, arith, length-set}
use Rattle.std.proofs.lemmas.List.{append-nil}
use Rattle.std.specs.Prelude.{slice_get, position, option_to_list}
use Rattle.std.specs.List.{position_or_len}
use Rattle.std.proofs.Math.Seq.{map-set_same}
use Rattle.std.proofs.lemmas.List.{length_push, get_or-set_same}
use Rattle.std.proofs.lemmas.List.Folds.{position_or_len-set}
use Rattle.std.proofs.lemmas.Option.{slice_get_within, get_or_from_slice_get}
use Rattle.bus_frame.specs.Frames.{CanFrame}
use Rattle.pgn_ids.specs.Address.{null_address}
use Rattle.pgn_ids.specs.declared.address.Address.{Address}
use Rattle.tx_queue.specs.Queue.{front}
use Rattle.bus_order.specs.Bus.{Bus, Cursor, bus_len, cursor_at, next_frame, waiting, released}
use Rattle.bus_order.specs.Bus as bus
use Rattle.bus_order.specs.Kept.{IsSound}
use Rattle.bus_order.proofs.Steps.{sound_moved, sound_released, released_len}
use Rattle.lane_core.specs.declared.refused.PumpRefused.{PumpRefused}
use Rattle.lane_core.specs.declared.refused.PumpRefused.TheVariants as pump
use Rattle.station_lanes.specs.LaneReaders.{refusal_at, missing_at}
use Rattle.message_events.specs.declared.event.Event.{Event}
use Rattle.station_core.specs.Station.{Station}
use Rattle.station_core.specs.Taking as taking
use Rattle.segment_law.specs.Segment.{Segment, place_of, station_at, waiting_at}
use Rattle.segment_law.specs.Calls.{Answer, called, replied, applied, events_of, is_call, at_station, at_place, at_address, no_place, looks, takes_by, takes, transmits_by, transmits, pumps_by, pump_places, pumps, ticks}
use Rattle.segment_law.specs.Drive.{Driven, end_by, with_call, stops_at, pumps_again, goes_on, makes, makes_call, with_put, puts_from, puts, last_take}
use Rattle.segment_law.specs.Drive as drive
use Rattle.segment_law.specs.declared.call.Call.{Call}
use Rattle.segment_law.specs.declared.call.Call.TheVariants.{Pump, Transmit, Take, Tick}
use Rattle.segment_law.specs.declared.end.DriveEnd.{DriveEnd}
use Rattle.segment_law.specs.declared.refusal.Refusal.{Refusal}
use Rattle.segment_law.specs.declared.refusal.Refusal.TheVariants as refusal
use Rattle.segment_law.specs.declared.reply.Reply.{Reply}
use Rattle.segment_law.specs.declared.reply.Reply.TheVariants.{Done}
use Rattle.segment_law.specs.declared.reply.Reply.TheVariants as reply
use Rattle.bus_order.proofs.Order.{frame_past}
use Rattle.segment_law.proofs.Buses.{frame_within}
use Rattle.segment_state.specs.Answers.{IsAnswer, refusal_of}
use Rattle.segment_core.specs.Transmits.{put_by}
use Rattle.segment_state.specs.Followed.{IsFollowed}
use Rattle.segment_core.specs.Drives.{IsShown, GoesOn, HasGone, HasTaken, too_soon}
use Rattle.segment_state.specs.declared.stop.Stop.{Stop}
use Rattle.segment_state.specs.declared.stop.Stop.TheVariants.{Refused, OutOfMemory}
use Rattle.segment_state.proofs.Addresses.{taken_keeps}
use Rattle.segment_core.proofs.Drives.{shown_step, shown_call, ok_applied, err_applied, shown_ok, shown_err, goes, stays, by_trans, by_makes_call, on_goes, on_makes_call, on_put}

-- What the calls are

pub called_transmit : (seg : Segment) (a : Address) → called seg (Transmit a) ≡ at_address seg a (transmits seg)
unfolding called
called_transmit seg a = refl

pub called_pump : (seg : Segment) (from to : Address) → called seg (Pump from to) ≡ at_address seg from (pumps seg to)
unfolding called
called_pump seg from to = refl

pub called_take : (seg : Segment) (a : Address) → called seg (Take a true) ≡ at_address seg a (takes seg true)
unfolding called
called_take seg a = refl

pub called_tick : (seg : Segment) (n : ℕ) → called seg (Tick n) ≡ ticks seg n
unfolding called
called_tick seg n = refl

-- What they answer

abbrev ok_of : Segment × Reply → Answer
ok_of step = Ok step

abbrev told_of : Answer → Reply → Reply
told_of (Ok step) reply = step.1
told_of (Err cause) reply = reply

abbrev left_by : Answer → Segment → Segment
left_by (Ok step) seg = step.0
left_by (Err cause) seg = seg

abbrev Tells : Reply → Type 0
Tells reply = reply ≡ Done (events_of reply)

tells : (next seg : Segment) (events : List Event) (reply : Reply) → ok_of (seg, Done events) ≡ Ok (next, reply) → Tells reply
tells next seg events reply e =
    let same : Done events ≡ reply = ap (λ (x : Answer). told_of x reply) e in
    sym same ∙ ap (λ (r : Reply). Done (events_of r)) same

station_tells : (Q : Reply → Type 0) (o : Option Station) (call : Station → Answer) (next : Segment) (reply : Reply) → ((st : Station) → call st ≡ Ok (next, reply) → Q reply) → at_station o call ≡ Ok (next, reply) → Q reply
station_tells Q None call next reply each e = absurd cc
station_tells Q (Some st) call next reply each e = each st e

place_tells : (Q : Reply → Type 0) (seg : Segment) (o : Option ℕ) (call : ℕ → Station → Answer) (next : Segment) (reply : Reply) → ((i : ℕ) (st : Station) → call i st ≡ Ok (next, reply) → Q reply) → at_place seg o call ≡ Ok (next, reply) → Q reply
place_tells Q seg None call next reply each e = absurd cc
place_tells Q seg (Some i) call next reply each e = station_tells Q (slice_get seg.stations i) (call i) next reply (each i) e

unless_tells : (Q : Reply → Type 0) (b : Bool) (cause : Refusal) (x : Answer) (next : Segment) (reply : Reply) → (x ≡ Ok (next, reply) → Q reply) → cond b (Err cause) x ≡ Ok (next, reply) → Q reply
unless_tells Q true cause x next reply each e = absurd cc
unless_tells Q false cause x next reply each e = each e

abbrev IsQuiet : Reply → Type 0
IsQuiet reply = reply ≡ Done []

quiet : (next seg : Segment) (reply : Reply) → ok_of (seg, Done []) ≡ Ok (next, reply) → IsQuiet reply
quiet next seg reply e = sym (ap (λ (x : Answer). told_of x reply) e)

pub quiet_tells : (reply : Reply) → IsQuiet reply → Tells reply
quiet_tells reply e = e ∙ ap (λ (r : Reply). Done (events_of r)) (sym e)

transmit_quiet : (seg : Segment) (a : Address) (next : Segment) (reply : Reply) → at_address seg a (transmits seg) ≡ Ok (next, reply) → IsQuiet reply
transmit_quiet seg a next reply e = place_tells IsQuiet seg (place_of seg a) (transmits seg) next reply (λ i st h. by i st (front st.queue) h) e
  where
    by : (i : ℕ) (st : Station) (o : Option CanFrame) → transmits_by seg i st o ≡ Ok (next, reply) → IsQuiet reply
    by i st None h = absurd cc
    by i st (Some f) h = unless_tells IsQuiet (bus.is_full seg.bus) refusal.BusFull _ next reply (λ k. quiet next _ reply k) h

pub tick_quiet : (seg : Segment) (n : ℕ) (next : Segment) (reply : Reply) → ticks seg n ≡ Ok (next, reply) → IsQuiet reply
tick_quiet seg n next reply e = unless_tells IsQuiet _ refusal.ClockEnd _ next reply (λ k. quiet next _ reply k) e

pub take_tells : (seg : Segment) (a : Address) (next : Segment) (reply : Reply) → at_address seg a (takes seg true) ≡ Ok (next, reply) → Tells reply
take_tells seg a next reply e = place_tells Tells seg (place_of seg a) (takes seg true) next reply (λ i st h. by i st (next_frame seg.bus i) h) e
  where
    by : (i : ℕ) (st : Station) (o : Option CanFrame) → takes_by seg true i st o ≡ Ok (next, reply) → Tells reply
    by i st None h = absurd cc
    by i st (Some f) h = unless_tells Tells (no_place st) refusal.TxFull _ next reply (λ k. tells next _ _ reply k) h

pub pump_tells : (seg : Segment) (a to : Address) (next : Segment) (reply : Reply) → at_address seg a (pumps seg to) ≡ Ok (next, reply) → Tells reply
pump_tells seg a to next reply e = place_tells Tells seg (place_of seg a) (pumps seg to) next reply (λ i st h. unless_tells Tells (to.0 == null_address) refusal.NoSuchStation _ next reply (by i st (refusal_at st.lanes to.0 seg.now)) h) e
  where
    by : (i : ℕ) (st : Station) (o : Option PumpRefused) → pumps_by seg to i st o ≡ Ok (next, reply) → Tells reply
    by i st (Some pump.NothingToSend) h = absurd cc
    by i st (Some pump.NotYet) h = absurd cc
    by i st None h = unless_tells Tells (nat_lt _ pump_places) refusal.TxFull _ next reply (λ k. tells next _ _ reply k) h

-- A call that the code made

pub made : (start : Segment) (d : Driven) (seg next : Segment) (put : List CanFrame) (told more : List Event) (call : Call) (answer : Answer) (reply : Reply) → IsShown None start d seg put told → is_call call ≡ true → called seg call ≡ answer → answer ≡ Ok (next, reply) → Tells reply → more ≡ told ++ events_of reply → ((events : List Event) → put_by seg call (Done events) ≡ []) → IsShown None start (makes_call call d) next put more
made start d seg next put told more call answer reply h fit is ok tells more_is none =
    shown_ok start d seg next put told more (events_of reply) call h fit (is ∙ ok ∙ ap (λ (r : Reply). Ok (next, r)) tells) more_is (none (events_of reply))

-- one that it didn't
pub stopped : (start : Segment) (d : Driven) (seg next : Segment) (put : List CanFrame) (told : List Event) (call : Call) (answer : Answer) (stop : Stop) → IsShown None start d seg put told → is_call call ≡ true → called seg call ≡ answer → IsAnswer answer seg next (Err stop) → HasGone start (makes_call call d) next put told (Err stop)
stopped start d seg next put told call answer (Refused cause) h fit is e =
    subst (λ (s : Segment). IsShown (Some (end_by cause)) start (makes_call call d) s put told) (sym e.1) (shown_err start d seg put told call cause h fit (is ∙ e.0))
stopped start d seg next put told call answer OutOfMemory h fit is e = record {
  made = d;
  shown = subst (λ (s : Segment). IsShown None start d s put told) (sym e.1) h;
  call = call;
  not_refused = subst (λ (s : Segment). IsOk (called s call)) (sym e.1) (subst (λ (x : Answer). IsOk x) (sym is) e.0);
  on = by_makes_call d call;
}

-- a step that stopped, and then the drive stays
pub stays_stopped : (start : Segment) (d whole : Driven) (seg : Segment) (put : List CanFrame) (told : List Event) (stop : Stop) → HasGone start d seg put told (Err stop) → ((end : DriveEnd) → d.ended ≡ Some end → whole ≡ d) → GoesOn d whole → HasGone start whole seg put told (Err stop)
stays_stopped start d whole seg put told (Refused cause) h stay on = subst (λ (x : Driven). IsShown (Some (end_by cause)) start x seg put told) (sym (stay (end_by cause) h.end)) h
stays_stopped start d whole seg put told OutOfMemory h stay on = record { made = h.made; shown = h.shown; call = h.call; not_refused = h.not_refused; on = by_trans h.call h.made d whole h.on on }

-- the same of a drive that hasn't ended
pub gone_on : (start : Segment) (d : Driven) (next : Driven → Driven) (seg : Segment) (put : List CanFrame) (told : List Event) (result : Result (Unit {0}) Stop) → d.ended ≡ None → HasGone start (next d) seg put told result → HasGone start (goes_on d next) seg put told result
gone_on start d next seg put told result e h = subst (λ (x : Driven). HasGone start x seg put told result) (sym (goes d next e)) h

-- A frame that is put

pub shown_put : (start : Segment) (d : Driven) (seg next : Segment) (put more : List CanFrame) (told : List Event) (a : Address) (o : Option CanFrame) → IsShown None start d seg put told → applied seg (Transmit a) ≡ (next, Done []) → o ≡ front (station_at seg a).queue → more ≡ put ++ option_to_list o
    → IsShown None start (with_put o (with_call d (Transmit a) (applied d.segment (Transmit a)))) next more told
shown_put start d seg next put more told a None h is first e =
    subst (λ (fs : List CanFrame). IsShown None start (with_call d (Transmit a) (applied d.segment (Transmit a))) next fs told) (sym (e ∙ append-nil put))
    (shown_call start d seg next put told told (Transmit a) (Done []) h refl is (sym (append-nil told)) (ap (λ (o : Option CanFrame). option_to_list o) (sym first)))
shown_put start d seg next put more told a (Some f) h is first e =
    let x : Driven = with_put (Some f) (with_call d (Transmit a) (applied d.segment (Transmit a))) in
    let puts : d.frames ++ f ∷ [] ≡ d.frames ++ option_to_list (front (station_at seg a).queue) = ap (λ (o : Option CanFrame). d.frames ++ option_to_list o) first in
    let many : d.turns + 1 ≡ length (d.frames ++ f ∷ []) = ap (λ (n : ℕ). n + 1) h.turns ∙ sym (length_push d.frames f) in
    let shown : IsShown None start x next (d.frames ++ f ∷ []) told =
    shown_step start d seg next put told told (Transmit a) (Done []) (d.turns + 1) (d.frames ++ f ∷ []) h refl is (sym (append-nil told)) many puts in
    subst (λ (fs : List CanFrame). IsShown None start x next fs told) (sym (e ∙ ap (λ (fs : List CanFrame). fs ++ f ∷ []) h.frames)) shown

pub puts_made : (start : Segment) (d : Driven) (seg next : Segment) (put more : List CanFrame) (told : List Event) (a : Address) (reply : Reply) → IsShown None start d seg put told → at_address seg a (transmits seg) ≡ Ok (next, reply) → more ≡ put ++ option_to_list (front (station_at seg a).queue) → IsShown None start (puts d a) next more told
puts_made start d seg next put more told a reply h ok e =
    let x : Driven = makes_call (Transmit a) d in
    let y : Driven = with_call d (Transmit a) (applied d.segment (Transmit a)) in
    let o : Option CanFrame = front (station_at d.segment a).queue in
    let quiet : IsQuiet reply = transmit_quiet seg a next reply ok in
    let is : applied seg (Transmit a) ≡ (next, Done []) = ok_applied seg next (Transmit a) (Done []) (called_transmit seg a ∙ ok ∙ ap (λ (r : Reply). Ok (next, r)) quiet) in
    let answer : (applied d.segment (Transmit a)).1 ≡ Done [] = ap (λ (s : Segment). (applied s (Transmit a)).1) (sym h.segment) ∙ ap (λ (p : Segment × Reply). p.1) is in
    let same : x ≡ y = ap (stops_at y) answer in
    let first : o ≡ front (station_at seg a).queue = ap (λ (s : Segment). front (station_at s a).queue) (sym h.segment) in
    let putting : IsShown None start (with_put o y) next more told = shown_put start d seg next put more told a o h is first (e ∙ ap (λ (o : Option CanFrame). put ++ option_to_list o) (sym first)) in
    let whole : puts d a ≡ with_put o y = goes d (puts_from a) h.end ∙ goes x (with_put o) (ap (λ (z : Driven). z.ended) same ∙ h.end) ∙ ap (with_put o) same in
    subst (λ (z : Driven). IsShown None start z next more told) (sym whole) putting

pub puts_stopped : (start : Segment) (d : Driven) (seg next : Segment) (put : List CanFrame) (told : List Event) (a : Address) (stop : Stop) → IsShown None start d seg put told → IsAnswer (at_address seg a (transmits seg)) seg next (Err stop) → HasGone start (puts d a) next put told (Err stop)
puts_stopped start d seg next put told a stop h e =
    let x : Driven = makes_call (Transmit a) d in
    let o : Option CanFrame = front (station_at d.segment a).queue in
    let here : HasGone start x next put told (Err stop) = stopped start d seg next put told (Transmit a) (at_address seg a (transmits seg)) stop h refl (called_transmit seg a) e in
    gone_on start d (puts_from a) next put told (Err stop) h.end (stays_stopped start x (puts_from a d) next put told stop here (λ end is. stays x (with_put o) end is) (on_goes x (with_put o) (on_put o)))

-- Takes

pub takes_made : (start : Segment) (d : Driven) (seg next : Segment) (put : List CanFrame) (told more : List Event) (a : Address) (reply : Reply) → IsShown None start d seg put told → at_address seg a (takes seg true) ≡ Ok (next, reply) → more ≡ told ++ events_of reply → IsShown None start (makes d (Take a true)) next put more
takes_made start d seg next put told more a reply h ok e =
    gone_on start d (makes_call (Take a true)) next put more (Ok tt) h.end (made start d seg next put told more (Take a true) (at_address seg a (takes seg true)) reply h refl (called_take seg a) ok (take_tells seg a next reply ok) e (λ _. refl))

pub takes_stopped : (start : Segment) (d : Driven) (seg next : Segment) (put : List CanFrame) (told : List Event) (a : Address) (stop : Stop) → IsShown None start d seg put told → IsAnswer (at_address seg a (takes seg true)) seg next (Err stop) → HasGone start (makes d (Take a true)) next put told (Err stop)
takes_stopped start d seg next put told a stop h e =
    gone_on start d (makes_call (Take a true)) next put told (Err stop) h.end (stopped start d seg next put told (Take a true) (at_address seg a (takes seg true)) stop h refl (called_take seg a) e)

-- where nothing waits, a Take is refused
no_frame : (seg : Segment) (a : Address) → waiting_at seg a ≡ 0 → (cause : Refusal) × (at_address seg a (takes seg true) ≡ Err cause)
no_frame seg a none = by_place (place_of seg a) none
  where
    by_frame : (i : ℕ) (st : Station) → waiting seg.bus i ≡ 0 → (cause : Refusal) × (takes seg true i st ≡ Err cause)
    by_frame i st none =
        let past : next_frame seg.bus i ≡ None = frame_past seg.bus ((cursor_at seg.bus i).place + 1) (omega arith) in
        (refusal.NothingToTake, ap (takes_by seg true i st) past)

    by_station : (i : ℕ) (o : Option Station) → waiting seg.bus i ≡ 0 → (cause : Refusal) × (at_station o (takes seg true i) ≡ Err cause)
    by_station i None none = (refusal.NoSuchStation, refl)
    by_station i (Some st) none = by_frame i st none

    by_place : (o : Option ℕ) → elim o as (λ (_ : Option ℕ). ℕ) [ None ↦ 0 | Some i ↦ waiting seg.bus i ] ≡ 0 → (cause : Refusal) × (at_place seg o (takes seg true) ≡ Err cause)
    by_place None none = (refusal.NoSuchStation, refl)
    by_place (Some i) none = by_station i (slice_get seg.stations i) none

pub last_shown : (start : Segment) (d : Driven) (seg : Segment) (put : List CanFrame) (told : List Event) (a : Address) → IsShown None start d seg put told → waiting_at seg a ≡ 0 → IsShown None start (last_take a d) seg put told
last_shown start d seg put told a h none =
    let refused : (cause : Refusal) × (at_address seg a (takes seg true) ≡ Err cause) = no_frame seg a none in
    shown_call start d seg seg put told told (Take a true) (reply.Refused refused.0) h refl (err_applied seg (Take a true) refused.0 (called_take seg a ∙ refused.1)) (sym (append-nil told)) refl

-- What a Take leaves

bus_waits : (b : Bus) (i : ℕ) (f : CanFrame) → IsSound b → i < length b.cursors → next_frame b i ≡ Some f → (IsSound (released (bus.taken b i))) × (waiting b i ≡ waiting (released (bus.taken b i)) i + 1)
bus_waits b i f sound here next =
    let c : Cursor = record { place = (cursor_at b i).place + 1; repeatable = true } in
    let within : (cursor_at b i).place + 1 ≤ bus_len b = frame_within b ((cursor_at b i).place + 1) f next in
    let moved : IsSound (bus.taken b i) = sound_moved b i c sound here (omega arith) within (λ _. omega arith) in
    let len : bus_len (released (bus.taken b i)) ≡ bus_len (bus.taken b i) = released_len (bus.taken b i) moved in
    let at : cursor_at (released (bus.taken b i)) i ≡ c = get_or-set_same b.cursors i c bus.start here in
    let place : (cursor_at (released (bus.taken b i)) i).place ≡ (cursor_at b i).place + 1 = ap (λ (x : Cursor). x.place) at in
    (sound_released (bus.taken b i) moved, omega arith)

-- a station that keeps its address keeps its place
place_kept : (seg next : Segment) (a : Address) (i : ℕ) (st new : Station) → slice_get seg.stations i ≡ Some st → new.address ≡ st.address → next.stations ≡ set seg.stations i new → place_of next a ≡ place_of seg a
place_kept seg next a i st new is same set_is =
    let old : get_or seg.stations i st ≡ st = get_or_from_slice_get seg.stations i st st is in
    let here : position_or_len (λ (s : Station). s.address.0 == a.0) (set seg.stations i new) ≡ position_or_len (λ (s : Station). s.address.0 == a.0) seg.stations =
    position_or_len-set (λ (s : Station). s.address.0 == a.0) seg.stations i new st (ap (λ (b : Address). b.0 == a.0) (same ∙ ap (λ (s : Station). s.address) (sym old))) in
    let kept : position (λ (s : Station). s.address.0 == a.0) (set seg.stations i new) ≡ position (λ (s : Station). s.address.0 == a.0) seg.stations = rw (here, length-set) refl in
    ap (λ (stations : List Station). position (λ (s : Station). s.address.0 == a.0) stations) set_is ∙ kept

taken_at : (seg next : Segment) (a : Address) (i : ℕ) (st new : Station) (f : CanFrame) → IsFollowed seg → place_of seg a ≡ Some i → slice_get seg.stations i ≡ Some st → next_frame seg.bus i ≡ Some f → new.address ≡ st.address → next.stations ≡ set seg.stations i new → next.bus ≡ released (bus.taken seg.bus i) → HasTaken a seg next
taken_at seg next a i st new f h here is frame same set_is bus_is =
    let inside : i < length seg.stations = slice_get_within seg.stations i st is in
    let b : (IsSound (released (bus.taken seg.bus i))) × (waiting seg.bus i ≡ waiting (released (bus.taken seg.bus i)) i + 1) = bus_waits seg.bus i f h.sound (omega (arith, h.cursors)) frame in
    let old : get_or seg.stations i st ≡ st = get_or_from_slice_get seg.stations i st st is in
    let stands : place_of next a ≡ Some i = place_kept seg next a i st new is same set_is ∙ here in
    let before : waiting_at seg a ≡ waiting seg.bus i = ap (λ (o : Option ℕ). elim o as (λ (_ : Option ℕ). ℕ) [ None ↦ 0 | Some k ↦ waiting seg.bus k ]) here in
    let behind : waiting_at next a ≡ waiting next.bus i = ap (λ (o : Option ℕ). elim o as (λ (_ : Option ℕ). ℕ) [ None ↦ 0 | Some k ↦ waiting next.bus k ]) stands in
    let behind_is : waiting next.bus i ≡ waiting (released (bus.taken seg.bus i)) i = ap (λ (x : Bus). waiting x i) bus_is in
    record {
      waits = before ∙ b.1 ∙ ap (λ (n : ℕ). n + 1) (sym (behind ∙ behind_is));
      followed = record {
        sound = subst IsSound (sym bus_is) b.0;
        cursors = ap (λ (x : Bus). length x.cursors) bus_is ∙ length-set seg.bus.cursors i _ ∙ h.cursors ∙ sym (length-set seg.stations i new) ∙ ap (λ (xs : List Station). length xs) (sym set_is);
      };
      addresses = ap (λ (xs : List Station). map (λ (s : Station). s.address) xs) set_is ∙ map-set_same (λ (s : Station). s.address) seg.stations i new st (same ∙ ap (λ (s : Station). s.address) (sym old));
    }

pub has_taken : (seg next : Segment) (a : Address) (reply : Reply) → IsFollowed seg → at_address seg a (takes seg true) ≡ Ok (next, reply) → HasTaken a seg next
has_taken seg next a reply h ok = by_place (place_of seg a) refl ok
  where
    by_room : (i : ℕ) (st : Station) (f : CanFrame) → place_of seg a ≡ Some i → slice_get seg.stations i ≡ Some st → next_frame seg.bus i ≡ Some f → (b : Bool) → cond b (Err refusal.TxFull) (looks (record seg { bus = released (bus.taken seg.bus i) }) true i st f) ≡ Ok (next, reply) → HasTaken a seg next
    by_room i st f here is frame true e = absurd cc
    by_room i st f here is frame false e =
        let left : left_by (looks (record seg { bus = released (bus.taken seg.bus i) }) true i st f) seg ≡ next = ap (λ (x : Answer). left_by x seg) e in
        taken_at seg next a i st (taking.taken st f true seg.now).station f h here is frame (taken_keeps st f true seg.now)
        (ap (λ (s : Segment). s.stations) (sym left)) (ap (λ (s : Segment). s.bus) (sym left))

    by_frame : (i : ℕ) (st : Station) → place_of seg a ≡ Some i → slice_get seg.stations i ≡ Some st → (o : Option CanFrame) → next_frame seg.bus i ≡ o → takes_by seg true i st o ≡ Ok (next, reply) → HasTaken a seg next
    by_frame i st here is None frame e = absurd cc
    by_frame i st here is (Some f) frame e = by_room i st f here is frame (no_place st) e

    by_station : (i : ℕ) → place_of seg a ≡ Some i → (o : Option Station) → slice_get seg.stations i ≡ o → at_station o (takes seg true i) ≡ Ok (next, reply) → HasTaken a seg next
    by_station i here None is e = absurd cc
    by_station i here (Some st) is e = by_frame i st here is (next_frame seg.bus i) refl e

    by_place : (o : Option ℕ) → place_of seg a ≡ o → at_place seg o (takes seg true) ≡ Ok (next, reply) → HasTaken a seg next
    by_place None here e = absurd cc
    by_place (Some i) here e = by_station i here (slice_get seg.stations i) refl e

-- Pumps

soon_is : (answer : Answer) → too_soon (refusal_of answer) ≡ true → answer ≡ Err refusal.NotYet
soon_is (Ok step) e = absurd cc
soon_is (Err refusal.NotYet) e = refl
soon_is (Err cause) e = absurd cc

-- a lane that isn't too soon is pumped once
pub pumps_once : (d : Driven) (seg : Segment) (from to : Address) → seg ≡ d.segment → d.ended ≡ None → too_soon (refusal_of (at_address seg from (pumps seg to))) ≡ false → makes d (Pump from to) ≡ drive.pumps from to d
pumps_once d seg from to same none soon =
    let call : Call = Pump from to in
    let is : called d.segment call ≡ at_address d.segment from (pumps d.segment to) = called_pump d.segment from to in
    let late : too_soon (refusal_of (called d.segment call)) ≡ false = ap (λ (x : Answer). too_soon (refusal_of x)) is ∙ ap (λ (s : Segment). too_soon (refusal_of (at_address s from (pumps s to)))) (sym same) ∙ soon in
    goes d (makes_call call) none ∙ sym (by (called d.segment call) (sym is) late (with_call d call (applied d.segment call)))
  where
    by : (answer : Answer) → at_address d.segment from (pumps d.segment to) ≡ answer → too_soon (refusal_of answer) ≡ false → (x : Driven) → pumps_again from to (replied d.segment answer).1 x ≡ stops_at x (replied d.segment answer).1
    by (Ok step) is e x = subst (λ (r : Reply). pumps_again from to r x ≡ stops_at x r) (sym (pump_tells d.segment from to step.0 step.1 is)) refl
    by (Err refusal.NotYet) is e x = absurd cc
    by (Err cause) is e x = refl

pub pumps_later : (start : Segment) (d : Driven) (seg after : Segment) (put more : List CanFrame) (told others : List Event) (from to : Address) (result : Result (Unit {0}) Stop) → IsShown None start d seg put told → is_call (Pump from to) ≡ true → too_soon (refusal_of (at_address seg from (pumps seg to))) ≡ true
    → ((x : Driven) → IsShown None start x seg put told → HasGone start (makes (makes x (Tick (missing_at (station_at seg from).lanes to.0 seg.now))) (Pump from to)) after more others result) → HasGone start (drive.pumps from to d) after more others result
pumps_later start d seg after put more told others from to result h fit soon each =
    let call : Call = Pump from to in
    let x : Driven = with_call d call (applied d.segment call) in
    let is : applied seg call ≡ (seg, reply.Refused refusal.NotYet) = err_applied seg call refusal.NotYet (called_pump seg from to ∙ soon_is (at_address seg from (pumps seg to)) soon) in
    let answer : (applied d.segment call).1 ≡ reply.Refused refusal.NotYet = ap (λ (s : Segment). (applied s call).1) (sym h.segment) ∙ ap (λ (p : Segment × Reply). p.1) is in
    let shown : IsShown None start x seg put told = shown_call start d seg seg put told told call (reply.Refused refusal.NotYet) h fit is (sym (append-nil told)) refl in
    let gone : HasGone start (makes (makes x (Tick (missing_at (station_at x.segment from).lanes to.0 x.segment.now))) (Pump from to)) after more others result =
    subst (λ (s : Segment). HasGone start (makes (makes x (Tick (missing_at (station_at s from).lanes to.0 s.now))) (Pump from to)) after more others result) shown.segment (each x shown) in
    subst (λ (r : Reply). HasGone start (pumps_again from to r x) after more others result) (sym answer) gone

-- a Tick, and then a Pump
pub tick_made : (start : Segment) (d : Driven) (seg next : Segment) (put : List CanFrame) (told : List Event) (n : ℕ) (reply : Reply) → IsShown None start d seg put told → ticks seg n ≡ Ok (next, reply) → IsShown None start (makes d (Tick n)) next put told
tick_made start d seg next put told n reply h ok =
    let quiet : IsQuiet reply = tick_quiet seg n next reply ok in
    let told_is : told ≡ told ++ events_of reply = sym (append-nil told) ∙ ap (λ (r : Reply). told ++ events_of r) (sym quiet) in
    gone_on start d (makes_call (Tick n)) next put told (Ok tt) h.end (made start d seg next put told told (Tick n) (ticks seg n) reply h refl (called_tick seg n) ok (quiet_tells reply quiet) told_is (λ _. refl))

pub tick_stopped : (start : Segment) (d : Driven) (seg next : Segment) (put : List CanFrame) (told : List Event) (n : ℕ) (from to : Address) (stop : Stop) → IsShown None start d seg put told → IsAnswer (ticks seg n) seg next (Err stop) → HasGone start (makes (makes d (Tick n)) (Pump from to)) next put told (Err stop)
tick_stopped start d seg next put told n from to stop h e =
    let x : Driven = makes d (Tick n) in
    let here : HasGone start x next put told (Err stop) = gone_on start d (makes_call (Tick n)) next put told (Err stop) h.end (stopped start d seg next put told (Tick n) (ticks seg n) stop h refl (called_tick seg n) e) in
    stays_stopped start x (makes x (Pump from to)) next put told stop here (λ end is. stays x (makes_call (Pump from to)) end is) (on_goes x (makes_call (Pump from to)) (λ y. on_makes_call y (Pump from to)))

pub pump_made : (start : Segment) (d : Driven) (seg next : Segment) (put : List CanFrame) (told more : List Event) (from to : Address) (reply : Reply) → IsShown None start d seg put told → is_call (Pump from to) ≡ true → at_address seg from (pumps seg to) ≡ Ok (next, reply) → more ≡ told ++ events_of reply → IsShown None start (makes d (Pump from to)) next put more
pump_made start d seg next put told more from to reply h fit ok e =
    gone_on start d (makes_call (Pump from to)) next put more (Ok tt) h.end (made start d seg next put told more (Pump from to) (at_address seg from (pumps seg to)) reply h fit (called_pump seg from to) ok (pump_tells seg from to next reply ok) e (λ _. refl))

pub pump_stopped : (start : Segment) (d : Driven) (seg next : Segment) (put : List CanFrame) (told : List Event) (from to : Address) (stop : Stop) → IsShown None start d seg put told → is_call (Pump from to) ≡ true → IsAnswer (at_address seg from (pumps seg to)) seg next (Err stop) → HasGone start (makes d (Pump from to)) next put told (Err stop)
pump_stopped start d seg next put told from to stop h fit e =
    gone_on start d (makes_call (Pump from to)) next put told (Err stop) h.end (stopped start d seg next put told (Pump from to) (at_address seg from (pumps seg to)) stop h fit (called_pump seg from to) e)

-- a step of the code by what it answered
pub gone_by : (start : Segment) (d : Driven) (seg : Segment) (put : List CanFrame) (told : List Event) (result : Result (Unit {0}) Stop) (stop : Stop) → result ≡ Err stop → HasGone start d seg put told (Err stop) → HasGone start d seg put told result
gone_by start d seg put told result stop e h = subst (λ (r : Result (Unit {0}) Stop). HasGone start d seg put told r) (sym e) h
