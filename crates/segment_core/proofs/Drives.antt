-- The steps of a drive, and how the code does them.
use Rattle.std.proofs.Common.{◌≡◌, ℕ, zero, suc, Bool, true, false, cond, List, [], ◌∷◌, ◌++◌, length, Option, Some, None, Ok, Err, refl, sym, ap, ◌∙◌, subst, append_assoc}
use Rattle.std.proofs.lemmas.List.{append-nil}
use Rattle.std.specs.List.{list_all}
use Rattle.bus_frame.specs.Frames.{CanFrame}
use Rattle.pgn_ids.specs.declared.address.Address.{Address}
use Rattle.tx_queue.specs.Queue.{front}
use Rattle.station_lanes.specs.LaneReaders.{missing_at}
use Rattle.message_events.specs.declared.event.Event.{Event}
use Rattle.station_core.specs.Station.{Station}
use Rattle.segment_law.specs.Segment.{Segment, station_at, waiting_at}
use Rattle.segment_law.specs.Calls.{called, applied, replied, events_of, is_call}
use Rattle.segment_law.specs.Record.{Step, Record, replies_from, after, calls_of, replies_of}
use Rattle.segment_law.specs.Drive.{Driven, events_in, end_by, with_call, stops_at, goes_on, makes, makes_call, pumps_again, pumps, with_put, puts_from, puts, has_queued, turn_puts, takes, last_take, takes_all, all_take, turn, turns_from}
use Rattle.segment_law.specs.declared.call.Call.{Call}
use Rattle.segment_law.specs.declared.call.Call.TheVariants.{Pump, Transmit, Take, Tick}
use Rattle.segment_law.specs.declared.end.DriveEnd.{DriveEnd}
use Rattle.segment_law.specs.declared.refusal.Refusal.{Refusal}
use Rattle.segment_law.specs.declared.refusal.Refusal.TheVariants as refusal
use Rattle.segment_law.specs.declared.reply.Reply.{Reply}
use Rattle.segment_law.specs.declared.reply.Reply.TheVariants.{Opened, Sent, Refused, Done}
use Rattle.segment_law.proofs.Booleans.{both, both_pass}
use Rattle.segment_core.specs.Drives.{IsShown, GoesOn, GoesOnBy}
use Rattle.segment_core.specs.Transmits.{put_by, transmitted}

-- One more call

events_push : (xs : Record) (s : Step) → events_in (xs ++ s ∷ []) ≡ events_in xs ++ events_of s.1
events_push [] s = append-nil (events_of s.1)
events_push (x ∷ xs) s = ap (λ (es : List Event). events_of x.1 ++ es) (events_push xs s) ∙ sym (append_assoc (events_of x.1) (events_in xs) (events_of s.1))

fit_push : (xs : Record) (s : Step) → list_all is_call (calls_of xs) ≡ true → is_call s.0 ≡ true → list_all is_call (calls_of (xs ++ s ∷ [])) ≡ true
fit_push [] s h e = both (is_call s.0) true e refl
fit_push (x ∷ xs) s h e =
    let parts : (is_call x.0 ≡ true) × (list_all is_call (calls_of xs) ≡ true) = both_pass (is_call x.0) (list_all is_call (calls_of xs)) h in
    both (is_call x.0) (list_all is_call (calls_of (xs ++ s ∷ []))) parts.0 (fit_push xs s parts.1 e)

replies_push : (xs : Record) (start : Segment) (s : Step) → replies_from start (calls_of xs) ≡ replies_of xs → (applied (after start (calls_of xs)) s.0).1 ≡ s.1 → replies_from start (calls_of (xs ++ s ∷ [])) ≡ replies_of (xs ++ s ∷ [])
replies_push [] start s h e = ap (λ (r : Reply). r ∷ []) e
replies_push (x ∷ xs) start s h e =
    let first : (applied start x.0).1 ≡ x.1 = cc in
    let others : replies_from (applied start x.0).0 (calls_of xs) ≡ replies_of xs = cc in
    let rest : replies_from (applied start x.0).0 (calls_of (xs ++ s ∷ [])) ≡ replies_of (xs ++ s ∷ []) = replies_push xs (applied start x.0).0 s others e in
    λ i. first i ∷ rest i

after_push : (xs : Record) (start : Segment) (s : Step) → after start (calls_of (xs ++ s ∷ [])) ≡ (applied (after start (calls_of xs)) s.0).0
after_push [] start s = refl
after_push (x ∷ xs) start s = after_push xs (applied start x.0).0 s

transmitted_push : (xs : Record) (start : Segment) (s : Step) → transmitted start (xs ++ s ∷ []) ≡ transmitted start xs ++ put_by (after start (calls_of xs)) s.0 s.1
transmitted_push [] start s = append-nil (put_by start s.0 s.1)
transmitted_push (x ∷ xs) start s =
    let next : Segment = (applied start x.0).0 in
    ap (λ (fs : List CanFrame). put_by start x.0 x.1 ++ fs) (transmitted_push xs next s)
    ∙ sym (append_assoc (put_by start x.0 x.1) (transmitted next xs) (put_by (after next (calls_of xs)) s.0 s.1))

-- a call that is refused puts no frame
refused_puts_none : (seg : Segment) (call : Call) (cause : Refusal) → put_by seg call (Refused cause) ≡ []
refused_puts_none seg (Transmit a) cause = refl
refused_puts_none seg call cause = refl

-- a call, and the frames that it put
pub shown_step : (start : Segment) (d : Driven) (seg next : Segment) (put : List CanFrame) (told more : List Event) (call : Call) (reply : Reply) (turns : ℕ) (frames : List CanFrame) → IsShown None start d seg put told → is_call call ≡ true → applied seg call ≡ (next, reply) → more ≡ told ++ events_of reply
    → turns ≡ length frames → frames ≡ d.frames ++ put_by seg call reply → IsShown None start (record (with_call d call (applied d.segment call)) { turns = turns; frames = frames }) next frames more
shown_step start d seg next put told more call reply turns frames h fit is events many puts =
    let here : applied d.segment call ≡ (next, reply) = ap (λ (s : Segment). applied s call) (sym h.segment) ∙ is in
    let r : Reply = (applied d.segment call).1 in
    let same : r ≡ reply = ap (λ (p : Segment × Reply). p.1) here in
    let stood : applied (after start (calls_of d.calls)) call ≡ applied d.segment call = ap (λ (s : Segment). applied s call) h.state in
    let stands : seg ≡ after start (calls_of d.calls) = h.segment ∙ sym h.state in
    record {
      segment = sym (ap (λ (p : Segment × Reply). p.0) here);
      frames = refl;
      events = events ∙ (λ i. h.events i ++ events_of (sym same i)) ∙ sym (events_push d.calls (call, r));
      end = h.end;
      turns = many;
      transmits = puts ∙ (λ i. h.transmits i ++ put_by (stands i) call (sym same i)) ∙ sym (transmitted_push d.calls start (call, r));
      fit = fit_push d.calls (call, r) h.fit fit;
      replies = replies_push d.calls start (call, r) h.replies (ap (λ (p : Segment × Reply). p.1) stood);
      state = after_push d.calls start (call, r) ∙ ap (λ (p : Segment × Reply). p.0) stood;
    }

-- a call that puts no frame
pub shown_call : (start : Segment) (d : Driven) (seg next : Segment) (put : List CanFrame) (told more : List Event) (call : Call) (reply : Reply) → IsShown None start d seg put told → is_call call ≡ true → applied seg call ≡ (next, reply) → more ≡ told ++ events_of reply → put_by seg call reply ≡ [] → IsShown None start (with_call d call (applied d.segment call)) next put more
shown_call start d seg next put told more call reply h fit is events none =
    let puts : d.frames ≡ d.frames ++ put_by seg call reply = sym (append-nil d.frames) ∙ ap (λ (fs : List CanFrame). d.frames ++ fs) (sym none) in
    let shown : IsShown None start (with_call d call (applied d.segment call)) next d.frames more = shown_step start d seg next put told more call reply d.turns d.frames h fit is events h.turns puts in
    subst (λ (fs : List CanFrame). IsShown None start (with_call d call (applied d.segment call)) next fs more) (sym h.frames) shown

-- A call that isn't refused, or is

pub ok_applied : (seg next : Segment) (call : Call) (reply : Reply) → called seg call ≡ Ok (next, reply) → applied seg call ≡ (next, reply)
ok_applied seg next call reply e = ap (replied seg) e

pub err_applied : (seg : Segment) (call : Call) (cause : Refusal) → called seg call ≡ Err cause → applied seg call ≡ (seg, Refused cause)
err_applied seg call cause e = ap (replied seg) e

pub shown_ok : (start : Segment) (d : Driven) (seg next : Segment) (put : List CanFrame) (told more events : List Event) (call : Call) → IsShown None start d seg put told → is_call call ≡ true → called seg call ≡ Ok (next, Done events) → more ≡ told ++ events → put_by seg call (Done events) ≡ [] → IsShown None start (makes_call call d) next put more
shown_ok start d seg next put told more events call h fit is e none =
    let shown : IsShown None start (with_call d call (applied d.segment call)) next put more = shown_call start d seg next put told more call (Done events) h fit (ok_applied seg next call (Done events) is) e none in
    let reply : (applied d.segment call).1 ≡ Done events = ap (λ (s : Segment). (applied s call).1) (sym h.segment) ∙ ap (λ (p : Segment × Reply). p.1) (ok_applied seg next call (Done events) is) in
    subst (λ (r : Reply). IsShown None start (stops_at (with_call d call (applied d.segment call)) r) next put more) (sym reply) shown

ended_here : (start : Segment) (d : Driven) (seg : Segment) (put : List CanFrame) (told : List Event) (cause : DriveEnd) → IsShown None start d seg put told → IsShown (Some cause) start (record d { ended = Some cause }) seg put told
ended_here start d seg put told cause h = record { segment = h.segment; frames = h.frames; events = h.events; end = refl; turns = h.turns; transmits = h.transmits; fit = h.fit; replies = h.replies; state = h.state }

pub shown_err : (start : Segment) (d : Driven) (seg : Segment) (put : List CanFrame) (told : List Event) (call : Call) (cause : Refusal) → IsShown None start d seg put told → is_call call ≡ true → called seg call ≡ Err cause → IsShown (Some (end_by cause)) start (makes_call call d) seg put told
shown_err start d seg put told call cause h fit is =
    let x : Driven = with_call d call (applied d.segment call) in
    let shown : IsShown None start x seg put told = shown_call start d seg seg put told told call (Refused cause) h fit (err_applied seg call cause is) (sym (append-nil told)) (refused_puts_none seg call cause) in
    let reply : (applied d.segment call).1 ≡ Refused cause = ap (λ (s : Segment). (applied s call).1) (sym h.segment) ∙ ap (λ (p : Segment × Reply). p.1) (err_applied seg call cause is) in
    subst (λ (r : Reply). IsShown (Some (end_by cause)) start (stops_at x r) seg put told) (sym reply) (ended_here start x seg put told (end_by cause) shown)

-- Going on

pub goes : (d : Driven) (next : Driven → Driven) → d.ended ≡ None → goes_on d next ≡ next d
goes d next e = ap (λ (o : Option DriveEnd). elim o as (λ (_ : Option DriveEnd). Driven) [ None ↦ next d | Some cause ↦ d ]) e

pub stays : (d : Driven) (next : Driven → Driven) (end : DriveEnd) → d.ended ≡ Some end → goes_on d next ≡ d
stays d next end e = ap (λ (o : Option DriveEnd). elim o as (λ (_ : Option DriveEnd). Driven) [ None ↦ next d | Some cause ↦ d ]) e

pub takes_stay : (k : ℕ) (a : Address) (d : Driven) (end : DriveEnd) → d.ended ≡ Some end → takes k a d ≡ d
takes_stay zero a d end e = refl
takes_stay (suc k) a d end e = ap (takes k a) (stays d (makes_call (Take a true)) end e) ∙ takes_stay k a d end e

pub turns_stay : (k : ℕ) (from to : Address) (d : Driven) (end : DriveEnd) → d.ended ≡ Some end → turns_from k from to d ≡ d
turns_stay zero from to d end e = refl
turns_stay (suc k) from to d end e = ap (turns_from k from to) (stays d (turn from to) end e) ∙ turns_stay k from to d end e

-- Each step goes on from where the drive was

pub on_refl : (d : Driven) → GoesOn d d
on_refl d = record { rest = []; later = []; calls = append-nil d.calls; frames = append-nil d.frames }

pub on_trans : (a b c : Driven) → GoesOn a b → GoesOn b c → GoesOn a c
on_trans a b c x y = record {
  rest = x.rest ++ y.rest;
  later = x.later ++ y.later;
  calls = sym (append_assoc a.calls x.rest y.rest) ∙ ap (λ (cs : Record). cs ++ y.rest) x.calls ∙ y.calls;
  frames = sym (append_assoc a.frames x.later y.later) ∙ ap (λ (fs : List CanFrame). fs ++ y.later) x.frames ∙ y.frames;
}

-- and by a call first, where it is made next
pub by_trans : (call : Call) (a b c : Driven) → GoesOnBy call a b → GoesOn b c → GoesOnBy call a c
by_trans call a b c x y = record {
  reply = x.reply;
  rest = x.rest ++ y.rest;
  later = x.later ++ y.later;
  calls = sym (append_assoc a.calls ((call, x.reply) ∷ x.rest) y.rest) ∙ ap (λ (cs : Record). cs ++ y.rest) x.calls ∙ y.calls;
  frames = sym (append_assoc a.frames x.later y.later) ∙ ap (λ (fs : List CanFrame). fs ++ y.later) x.frames ∙ y.frames;
}

pub on_call : (d : Driven) (call : Call) (step : Segment × Reply) → GoesOn d (with_call d call step)
on_call d call step = record { rest = (call, step.1) ∷ []; later = []; calls = refl; frames = append-nil d.frames }

on_stops : (d : Driven) (reply : Reply) → GoesOn d (stops_at d reply)
on_stops d (Opened port) = on_refl d
on_stops d (Sent number) = on_refl d
on_stops d (Refused cause) = record { rest = []; later = []; calls = append-nil d.calls; frames = append-nil d.frames }
on_stops d (Done events) = on_refl d

by_call : (d : Driven) (call : Call) (step : Segment × Reply) → GoesOnBy call d (with_call d call step)
by_call d call step = record { reply = step.1; rest = []; later = []; calls = refl; frames = append-nil d.frames }

pub by_makes_call : (d : Driven) (call : Call) → GoesOnBy call d (makes_call call d)
by_makes_call d call = by_trans call d (with_call d call (applied d.segment call)) (makes_call call d) (by_call d call (applied d.segment call)) (on_stops (with_call d call (applied d.segment call)) (applied d.segment call).1)

pub on_goes : (d : Driven) (next : Driven → Driven) → ((x : Driven) → GoesOn x (next x)) → GoesOn d (goes_on d next)
on_goes d next keeps = by d.ended
  where
    by : (o : Option DriveEnd) → GoesOn d (elim o as (λ (_ : Option DriveEnd). Driven) [ None ↦ next d | Some cause ↦ d ])
    by None = keeps d
    by (Some cause) = on_refl d

pub on_makes_call : (d : Driven) (call : Call) → GoesOn d (makes_call call d)
on_makes_call d call = on_trans d (with_call d call (applied d.segment call)) (makes_call call d) (on_call d call (applied d.segment call)) (on_stops (with_call d call (applied d.segment call)) (applied d.segment call).1)

pub on_makes : (d : Driven) (call : Call) → GoesOn d (makes d call)
on_makes d call = on_goes d (makes_call call) (λ x. on_makes_call x call)

pub on_in_time : (from to : Address) (k : ℕ) (d : Driven) → GoesOn d (makes (makes d (Tick k)) (Pump from to))
on_in_time from to k d = on_trans d (makes d (Tick k)) (makes (makes d (Tick k)) (Pump from to)) (on_makes d (Tick k)) (on_makes (makes d (Tick k)) (Pump from to))

on_again : (from to : Address) (reply : Reply) (d : Driven) → GoesOn d (pumps_again from to reply d)
on_again from to (Refused refusal.NotYet) d = on_in_time from to (missing_at (station_at d.segment from).lanes to.0 d.segment.now) d
on_again from to reply d = on_stops d reply

pub on_pumps : (from to : Address) (d : Driven) → GoesOn d (pumps from to d)
on_pumps from to d =
    let x : Driven = with_call d (Pump from to) (applied d.segment (Pump from to)) in
    on_trans d x (pumps from to d) (on_call d (Pump from to) (applied d.segment (Pump from to))) (on_again from to (applied d.segment (Pump from to)).1 x)

pub on_put : (o : Option CanFrame) (d : Driven) → GoesOn d (with_put o d)
on_put None d = on_refl d
on_put (Some f) d = record { rest = []; later = f ∷ []; calls = append-nil d.calls; frames = refl }

pub on_puts_from : (a : Address) (d : Driven) → GoesOn d (puts_from a d)
on_puts_from a d = on_trans d (makes_call (Transmit a) d) (puts_from a d) (on_makes_call d (Transmit a)) (on_goes (makes_call (Transmit a) d) (with_put (front (station_at d.segment a).queue)) (on_put (front (station_at d.segment a).queue)))

pub on_puts : (d : Driven) (a : Address) → GoesOn d (puts d a)
on_puts d a = on_goes d (puts_from a) (on_puts_from a)

pub on_turn_puts : (from to : Address) (d : Driven) → GoesOn d (turn_puts from to d)
on_turn_puts from to d = by (has_queued d.segment from) (has_queued d.segment to)
  where
    by : (a b : Bool) → GoesOn d (cond a (puts d from) (cond b (puts d to) (puts (pumps from to d) from)))
    by true b = on_puts d from
    by false true = on_puts d to
    by false false = on_trans d (pumps from to d) (puts (pumps from to d) from) (on_pumps from to d) (on_puts (pumps from to d) from)

pub on_takes : (k : ℕ) (a : Address) (d : Driven) → GoesOn d (takes k a d)
on_takes zero a d = on_refl d
on_takes (suc k) a d = on_trans d (makes d (Take a true)) (takes (suc k) a d) (on_makes d (Take a true)) (on_takes k a (makes d (Take a true)))

pub on_last : (a : Address) (d : Driven) → GoesOn d (last_take a d)
on_last a d = on_call d (Take a true) (applied d.segment (Take a true))

pub on_takes_all : (a : Address) (d : Driven) → GoesOn d (takes_all a d)
on_takes_all a d = on_trans d (takes (waiting_at d.segment a) a d) (takes_all a d) (on_takes (waiting_at d.segment a) a d) (on_goes (takes (waiting_at d.segment a) a d) (last_take a) (on_last a))

pub on_all_take : (stations : List Station) (d : Driven) → GoesOn d (all_take stations d)
on_all_take [] d = on_refl d
on_all_take (st ∷ stations) d =
    let x : Driven = goes_on d (takes_all st.address) in
    on_trans d x (all_take stations x) (on_goes d (takes_all st.address) (on_takes_all st.address)) (on_all_take stations x)

pub on_turn : (from to : Address) (d : Driven) → GoesOn d (turn from to d)
on_turn from to d = on_trans d (turn_puts from to d) (turn from to d) (on_turn_puts from to d) (on_goes (turn_puts from to d) (λ e. all_take e.segment.stations e) (λ e. on_all_take e.segment.stations e))

pub on_turns : (k : ℕ) (from to : Address) (d : Driven) → GoesOn d (turns_from k from to d)
on_turns zero from to d = on_refl d
on_turns (suc k) from to d =
    let x : Driven = goes_on d (turn from to) in
    on_trans d x (turns_from k from to x) (on_goes d (turn from to) (on_turn from to)) (on_turns k from to x)

-- the same lists
pub relisted : (ended : Option DriveEnd) (start : Segment) (d : Driven) (seg : Segment) (put more : List CanFrame) (told others : List Event) → more ≡ put → others ≡ told → IsShown ended start d seg put told → IsShown ended start d seg more others
relisted ended start d seg put more told others e f h = record { segment = h.segment; frames = e ∙ h.frames; events = f ∙ h.events; end = h.end; turns = h.turns; transmits = h.transmits; fit = h.fit; replies = h.replies; state = h.state }
