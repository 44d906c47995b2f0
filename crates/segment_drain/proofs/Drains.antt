-- A drain goes on turn by turn, and stays at its end.
use Rattle.std.proofs.Common.{◌≡◌, ◌≢◌, ℕ, zero, suc, ◌+◌, ◌<◌, ◌≤◌, Bool, true, false, cond, List, [], ◌∷◌, ◌++◌, length, Option, Some, None, Result, Ok, Err, refl, sym, ap, ◌∙◌, subst, arith, true≢false, append-nil, append_assoc, add-one, ◌⊎◌, inl, inr}
use Rattle.std.specs.Prelude.{option_to_list}
use Rattle.std.proofs.lemmas.Option.{none-some}
use Rattle.std.proofs.lemmas.List.{length-append}
use Rattle.bus_frame.specs.Frames.{CanFrame}
use Rattle.pgn_ids.specs.declared.address.Address.{Address}
use Rattle.port_table.specs.declared.port.PortId.{PortId}
use Rattle.message_events.specs.declared.event.Event.{Event}
use Rattle.segment_law.specs.Segment.{Segment}
use Rattle.segment_law.specs.Calls.{applied, events_of}
use Rattle.segment_law.specs.Drive.{events_in}
use Rattle.segment_law.specs.Readers.{front_at}
use Rattle.segment_law.specs.Record.{Step, Record}
use Rattle.segment_law.specs.declared.call.Call.{Call}
use Rattle.segment_law.specs.declared.call.Call.TheVariants as asks
use Rattle.segment_law.specs.declared.refusal.Refusal.{Refusal}
use Rattle.segment_law.specs.declared.reply.Reply.{Reply}
use Rattle.segment_law.specs.declared.reply.Reply.TheVariants as reply
use Rattle.drive_course.specs.Joined.{joined}
use Rattle.segment_core.specs.Transmits.{put_by}
use Rattle.record_law.proofs.Tests.{equal_or_not}
use Rattle.segment_drain.specs.Chosen.{is_hold, or_else, makes_room, waits_until, lowest, next_tick, unblocked, next_of}
use Rattle.segment_drain.specs.Drains.{Drain, times_of, end_by, makes, IsSame, frame_put, timed_by, goes_on_by, turn_by, turn, turns_from, end_at, last_look, undrained, drained, Shows, IsCourse, Makes, HasNext, Goes, IsDrained, HasBegun}
use Rattle.segment_drain.specs.declared.course.Course.{Course}
use Rattle.segment_drain.specs.declared.drained.Drained as ran
use Rattle.segment_drain.specs.declared.end.DrainEnd.{DrainEnd}
use Rattle.segment_drain.specs.declared.end.DrainEnd.TheVariants as end
use Rattle.segment_drain.specs.declared.choosing.Next.{Next}
use Rattle.segment_drain.specs.declared.choosing.Next.TheVariants.{Make, End}
use Rattle.segment_drain.specs.declared.kind.Kind.TheVariants as kind

-- Its next call

-- an end that the segment itself gives
abbrev EndsWell : Next → Type 0
EndsWell (Make call) = Unit {0}
EndsWell (End end.Rest) = Unit {0}
EndsWell (End (end.Refused cause)) = Unit {0}
EndsWell (End why) = ⊥

or_well : (o : Option Address) (call : Address → Call) (other : Next) → EndsWell other → EndsWell (or_else o call other)
or_well (Some a) call other h = tt
or_well None call other h = h

room_well : (b : Bool) (call : Call) (c : _) → EndsWell (cond b (Make call) (End (end.Refused c)))
room_well true call c = tt
room_well false call c = tt

until_well : (now : ℕ) (o : Option ℕ) → EndsWell (waits_until now o)
until_well now None = tt
until_well now (Some t) = tt

either_well : (b : Bool) (x y : Next) → EndsWell x → EndsWell y → EndsWell (cond b x y)
either_well true x y h k = h
either_well false x y h k = k

ends_well : (seg : Segment) → EndsWell (next_of seg)
unfolding next_of
ends_well seg =
    or_well (lowest seg kind.Take) _ _
    (or_well (lowest seg kind.Transmit) _ _
    (either_well _ (makes_room seg) (unblocked seg) (room_well _ _ _)
    (or_well (lowest seg kind.Pump) _ _ (or_well (lowest seg kind.Fire) _ _ (until_well seg.now (next_tick seg))))))

-- One turn

pub turn_on : (d : Drain) → d.ended ≡ None → turn d ≡ turn_by d (next_of d.segment)
turn_on d e = ap (λ (o : Option DrainEnd). elim o as (λ (_ : Option DrainEnd). Drain) [ None ↦ turn_by d (next_of d.segment) | Some end ↦ d ]) e

pub turn_off : (d : Drain) (why : DrainEnd) → d.ended ≡ Some why → turn d ≡ d
turn_off d why e = ap (λ (o : Option DrainEnd). elim o as (λ (_ : Option DrainEnd). Drain) [ None ↦ turn_by d (next_of d.segment) | Some end ↦ d ]) e

-- a call is the turn
pub goes_by_call : (r : Result (Unit {0}) DrainEnd) (d : Drain) (call : Call) (seg : Segment) (course : Course) → next_of d.segment ≡ Make call → d.ended ≡ None → Makes r d call seg course → Goes r d seg course
goes_by_call r d call seg course is on h = by r h
  where
    same : makes d call (applied d.segment call) ≡ turn d
    same = sym (turn_on d on ∙ ap (turn_by d) is)

    stops : (why : DrainEnd) → IsCourse (makes d call (applied d.segment call)) seg course × ((makes d call (applied d.segment call)).ended ≡ Some why) → IsCourse (turn d) seg course × ((turn d).ended ≡ Some why)
    stops why k = subst (λ (x : Drain). IsCourse x seg course × (x.ended ≡ Some why)) same k

    by : (r : Result (Unit {0}) DrainEnd) → Makes r d call seg course → Goes r d seg course
    by (Ok u) k = subst (λ (x : Drain). IsCourse x seg course × (x.ended ≡ None)) same k
    by (Err end.OutOfMemory) k = (k, subst (HasNext d) (sym is) on)
    by (Err end.Rest) k = stops end.Rest k
    by (Err end.Held) k = stops end.Held k
    by (Err end.Turns) k = stops end.Turns k
    by (Err (end.Refused cause)) k = stops (end.Refused cause) k

-- or the end is
pub goes_by_end : (d : Drain) (why : DrainEnd) (seg : Segment) (course : Course) → next_of d.segment ≡ End why → d.ended ≡ None → IsCourse d seg course → Goes (Err why) d seg course
goes_by_end d why seg course is on h = by why is (subst EndsWell is (ends_well d.segment))
  where
    same : (why : DrainEnd) → next_of d.segment ≡ End why → record d { ended = Some why } ≡ turn d
    same why is = sym (turn_on d on ∙ ap (turn_by d) is)

    shown : (why : DrainEnd) → IsCourse (record d { ended = Some why }) seg course
    shown why = record { segment = h.segment; turns = h.turns; frames = h.frames; times = h.times; events = h.events }

    stops : (why : DrainEnd) → next_of d.segment ≡ End why → IsCourse (turn d) seg course × ((turn d).ended ≡ Some why)
    stops why is = subst (λ (x : Drain). IsCourse x seg course × (x.ended ≡ Some why)) (same why is) (shown why, refl)

    by : (why : DrainEnd) → next_of d.segment ≡ End why → EndsWell (End why) → Goes (Err why) d seg course
    by end.Rest is w = stops end.Rest is
    by (end.Refused cause) is w = stops (end.Refused cause) is
    by end.Held is w = absurd w
    by end.Turns is w = absurd w
    by end.OutOfMemory is w = absurd w

-- What stays at its end

pub ended_stays : (start : Drain) (why : DrainEnd) (i n : ℕ) → i ≤ n → (turns_from i start).ended ≡ Some why → turns_from n start ≡ turns_from i start
unfolding turns_from
ended_stays start why i zero le e = ap (λ k. turns_from k start) (sym (let same : i ≡ 0 = omega (arith, le) in same))
ended_stays start why i (suc n) le e = by (equal_or_not i (suc n)) (ended_stays start why i n)
  where
    by : (i ≡ suc n) ⊎ (i ≡ suc n → ⊥) → (i ≤ n → (turns_from i start).ended ≡ Some why → turns_from n start ≡ turns_from i start) → turn (turns_from n start) ≡ turns_from i start
    by (inl q) rest = ap (λ k. turns_from k start) (sym q)
    by (inr q) rest =
        let same : turns_from n start ≡ turns_from i start = rest (omega (arith, q, le)) e in
        ap turn same ∙ turn_off (turns_from i start) why e

-- a drain that goes on made a call in each turn
pub calls_made : (start : Drain) → start.calls ≡ [] → (i : ℕ) → (turns_from i start).ended ≡ None → length (turns_from i start).calls ≡ i
unfolding turns_from
calls_made start none zero on = ap length none
calls_made start none (suc n) on = by d.ended refl (calls_made start none n)
  where
    d : Drain
    d = turns_from n start

    next : (x : Next) → turn d ≡ turn_by d x → length d.calls ≡ n → length (turn d).calls ≡ suc n
    next (Make call) e k =
        let more : length (d.calls ++ (call, (applied d.segment call).1) ∷ []) ≡ length d.calls + 1 = length-append d.calls ((call, (applied d.segment call).1) ∷ []) in
        ap (λ (x : Drain). length x.calls) e ∙ omega (arith, more, k)
    next (End why) e k = absurd (none-some why (sym on ∙ ap (λ (x : Drain). x.ended) e))

    by : (o : Option DrainEnd) → d.ended ≡ o → (d.ended ≡ None → length d.calls ≡ n) → length (turn d).calls ≡ suc n
    by None e rest = next (next_of d.segment) (turn_on d e) (rest e)
    by (Some why) e rest = absurd (none-some why (sym on ∙ ap (λ (x : Drain). x.ended) (turn_off d why e) ∙ e))

-- What the code leaves

-- after so many turns the drain goes on
pub record Draining (start : Segment) (i : ℕ) (seg : Segment) (course : Course) : Type 0 where
  pub on : (turns_from i (undrained start)).ended ≡ None
  pub shown : IsCourse (turns_from i (undrained start)) seg course

-- what a course holds at its end
pub record Copies (course : Course) (why : DrainEnd) (done : ran.Drained) : Type 0 where
  pub turns : done.turns ≡ course.turns
  pub frames : done.frames.items ≡ course.frames.items
  pub times : done.times.items ≡ course.times.items
  pub parts : done.parts.items ≡ course.parts.items
  pub end : done.end ≡ why

-- what is promised of a drain
pub record Says (start seg : Segment) (turns : ℕ) (done : ran.Drained) : Type 0 where
  pub done_is : done.end ≢ end.OutOfMemory → IsDrained (drained start turns) seg done
  pub begun_is : done.end ≡ end.OutOfMemory → HasBegun start seg turns done

-- an end other than want of memory
abbrev is_want : DrainEnd → Bool
is_want end.OutOfMemory = true
is_want why = false

fair : {e : DrainEnd} (why : DrainEnd) → is_want why ≡ false → e ≡ why → e ≡ end.OutOfMemory → ⊥
fair why apart is q = true≢false (ap is_want (sym q ∙ is) ∙ apart)

pub rest_is_fair : {e : DrainEnd} → e ≡ end.Rest → e ≡ end.OutOfMemory → ⊥
rest_is_fair is q = fair end.Rest refl is q

copied : (d : Drain) (seg : Segment) (course : Course) (why : DrainEnd) (done : ran.Drained) → IsCourse d seg course → Copies course why done → Shows d seg done.turns done.frames.items done.times.items (joined done.parts.items)
copied d seg course why done h c = record { segment = h.segment; turns = c.turns ∙ h.turns; frames = c.frames ∙ h.frames; times = c.times ∙ h.times; events = ap joined c.parts ∙ h.events }

pub counted : (start : Segment) (i : ℕ) (seg : Segment) (course : Course) → Draining start i seg course → course.turns ≡ i
counted start i seg course h = h.shown.turns ∙ calls_made (undrained start) refl i h.on

pub last_on : (d : Drain) → d.ended ≡ None → last_look d ≡ record d { ended = Some (end_at (next_of d.segment)) }
last_on d e = ap (λ (o : Option DrainEnd). elim o as (λ (_ : Option DrainEnd). Drain) [ None ↦ record d { ended = Some (end_at (next_of d.segment)) } | Some end ↦ d ]) e

pub last_off : (d : Drain) (why : DrainEnd) → d.ended ≡ Some why → last_look d ≡ d
last_off d why e = ap (λ (o : Option DrainEnd). elim o as (λ (_ : Option DrainEnd). Drain) [ None ↦ record d { ended = Some (end_at (next_of d.segment)) } | Some end ↦ d ]) e

pub draining_begins : (start : Segment) (course : Course) → course.turns ≡ 0 → course.frames.items ≡ [] → course.times.items ≡ [] → course.parts.items ≡ [] → Draining start 0 start course
unfolding turns_from
draining_begins start course turns frames times parts = record { on = refl; shown = record { segment = refl; turns = turns; frames = frames; times = times; events = ap joined parts } }

pub draining_goes : (start : Segment) (i : ℕ) (seg : Segment) (course : Course) → Goes (Ok tt) (turns_from i (undrained start)) seg course → Draining start (i + 1) seg course
unfolding turns_from
draining_goes start i seg course g = subst (λ k. Draining start k seg course) (sym (add-one i)) (record { on = g.1; shown = g.0 })

-- a turn ended it
module _ (start : Segment) (turns i : ℕ) (seg : Segment) (course : Course) (done : ran.Drained) (below : i < turns) (on : (turns_from i (undrained start)).ended ≡ None) where
  abbrev d : Drain
  d = turns_from i (undrained start)

  stopped : (why : DrainEnd) → done.end ≢ end.OutOfMemory → IsCourse (turn d) seg course × ((turn d).ended ≡ Some why) → Copies course why done → Says start seg turns done
  unfolding turns_from drained
  stopped why fair g c = record {
    done_is = λ q. subst (λ (x : Drain). IsDrained x seg done) (sym all) (record { shown = copied (turn d) seg course why done g.0 c; end = g.1 ∙ ap (λ (x : DrainEnd). Some x) (sym c.end) });
    begun_is = λ q. absurd (fair q);
  }
    where
      all : drained start turns ≡ turn d
      all = ap last_look (ended_stays (undrained start) why (suc i) turns (omega (arith, below)) g.1) ∙ last_off (turn d) why g.1

  has_more : (x : Next) → HasNext d x → record d { ended = Some (end_at x) } ≡ record d { ended = Some end.Turns }
  has_more (Make call) h = refl
  has_more (End why) h = absurd h

  lacked : IsCourse d seg course × HasNext d (next_of d.segment) → Copies course end.OutOfMemory done → Says start seg turns done
  unfolding turns_from drained
  lacked g c = record {
    done_is = λ q. absurd (q c.end);
    begun_is = λ q. record {
      few = omega (arith, below, count);
      shown = subst (λ (x : Drain). Shows x seg done.turns done.frames.items done.times.items (joined done.parts.items)) (sym all) (record { segment = k.segment; turns = k.turns; frames = k.frames; times = k.times; events = k.events });
      more = ap (λ (x : Drain). x.ended) all;
    };
  }
    where
      k : Shows d seg done.turns done.frames.items done.times.items (joined done.parts.items)
      k = copied d seg course end.OutOfMemory done g.0 c

      count : done.turns ≡ i
      count = k.turns ∙ calls_made (undrained start) refl i on

      all : drained start done.turns ≡ record d { ended = Some end.Turns }
      all = ap (λ n. last_look (turns_from n (undrained start))) count ∙ last_on d on ∙ has_more (next_of d.segment) g.1

  pub turn_says : (why : DrainEnd) → Goes (Err why) d seg course → Copies course why done → Says start seg turns done
  turn_says end.OutOfMemory g c = lacked g c
  turn_says end.Rest g c = stopped end.Rest (fair end.Rest refl c.end) g c
  turn_says end.Held g c = stopped end.Held (fair end.Held refl c.end) g c
  turn_says end.Turns g c = stopped end.Turns (fair end.Turns refl c.end) g c
  turn_says (end.Refused cause) g c = stopped (end.Refused cause) (fair (end.Refused cause) refl c.end) g c

-- all its turns were made
pub last_says : (start : Segment) (turns : ℕ) (seg : Segment) (course : Course) (done : ran.Drained) → Draining start turns seg course → Copies course (end_at (next_of seg)) done → Says start seg turns done
unfolding drained
last_says start turns seg course done h c = record {
  done_is = λ q. subst (λ (y : Drain). IsDrained y seg done) (sym all) (record {
    shown = record { segment = k.segment; turns = k.turns; frames = k.frames; times = k.times; events = k.events };
    end = ap (λ (y : DrainEnd). Some y) (ap (λ (s : Segment). end_at (next_of s)) (sym k.segment) ∙ sym c.end);
  });
  begun_is = λ q. absurd (well (next_of seg) (ends_well seg) c.end q);
}
  where
    d : Drain
    d = turns_from turns (undrained start)

    k : Shows d seg done.turns done.frames.items done.times.items (joined done.parts.items)
    k = copied d seg course (end_at (next_of seg)) done h.shown c

    all : drained start turns ≡ record d { ended = Some (end_at (next_of d.segment)) }
    all = last_on d h.on

    well : (x : Next) → EndsWell x → done.end ≡ end_at x → done.end ≡ end.OutOfMemory → ⊥
    well (Make call) w e q = fair end.Turns refl e q
    well (End end.Rest) w e q = fair end.Rest refl e q
    well (End (end.Refused cause)) w e q = fair (end.Refused cause) refl e q
    well (End end.Held) w e q = absurd w
    well (End end.Turns) w e q = absurd w
    well (End end.OutOfMemory) w e q = absurd w

-- One call

events_push : (steps : Record) (step : Step) → events_in (steps ++ step ∷ []) ≡ events_in steps ++ events_of step.1
events_push [] step = append-nil (events_of step.1)
events_push (x ∷ steps) step = ap (λ (es : List Event). events_of x.1 ++ es) (events_push steps step) ∙ sym (append_assoc (events_of x.1) (events_in steps) (events_of step.1))

put_done : (call : Call) (seg : Segment) (events : List Event) → put_by seg call (reply.Done events) ≡ option_to_list (frame_put seg call)
put_done (asks.Transmit a) seg events = refl
put_done call seg events = refl

abbrev ended_of : Result (Unit {0}) DrainEnd → Option DrainEnd
ended_of (Ok u) = None
ended_of (Err why) = Some why

end_done : (call : Call) (seg : Segment) (events : List Event) → end_by seg call (reply.Done events) ≡ ended_of (goes_on_by seg (timed_by call))
end_done (asks.Fire a) seg events = by (is_hold (front_at seg a))
  where
    by : (b : Bool) → cond b (Some end.Held) None ≡ ended_of (cond b (Err end.Held) (Ok tt))
    by true = refl
    by false = refl
end_done call seg events = refl

module _ (d : Drain) (call : Call) (seg new : Segment) (old with_room noted : Course) (h : IsCourse d seg old) (same : IsSame old with_room) where
  abbrev next : Drain
  next = makes d call (applied d.segment call)

  answer : (reply : Reply) → applied seg call ≡ (new, reply) → applied d.segment call ≡ (new, reply)
  answer reply says = ap (λ (s : Segment). applied s call) (sym h.segment) ∙ says

  shown_by : (reply : Reply) → applied seg call ≡ (new, reply) → noted.turns ≡ with_room.turns + 1 → noted.frames.items ≡ with_room.frames.items ++ put_by seg call reply → noted.times.items ≡ with_room.times.items ++ times_of seg (put_by seg call reply) → joined noted.parts.items ≡ joined with_room.parts.items ++ events_of reply → IsCourse next new noted
  shown_by reply says turns frames times told = subst (λ (p : Segment × Reply). IsCourse (makes d call p) new noted) (sym (answer reply says)) (record {
    segment = refl;
    turns = (let more : length (d.calls ++ (call, reply) ∷ []) ≡ length d.calls + 1 = length-append d.calls ((call, reply) ∷ []) in let a = h.turns in let b = same.turns in omega (arith, more, a, b, turns));
    frames = frames ∙ ap (λ (fs : List CanFrame). fs ++ put_by seg call reply) (same.frames ∙ h.frames) ∙ ap (λ (s : Segment). d.frames ++ put_by s call reply) h.segment;
    times = times ∙ ap (λ (ts : List ℕ). ts ++ times_of seg (put_by seg call reply)) (same.times ∙ h.times) ∙ ap (λ (s : Segment). d.times ++ times_of s (put_by s call reply)) h.segment;
    events = told ∙ ap (λ (es : List Event). es ++ events_of reply) (ap joined same.parts ∙ h.events) ∙ sym (events_push d.calls (call, reply));
  })

  ended_by : (reply : Reply) → applied seg call ≡ (new, reply) → next.ended ≡ end_by new call reply
  ended_by reply says = ap (λ (p : Segment × Reply). end_by p.0 call p.1) (answer reply says)

  -- it is done
  pub done_makes : (events : List Event) (put : Option CanFrame) (r : Result (Unit {0}) DrainEnd) → applied seg call ≡ (new, reply.Done events) → put ≡ frame_put seg call → r ≡ goes_on_by new (timed_by call)
      → noted.turns ≡ with_room.turns + 1 → noted.frames.items ≡ with_room.frames.items ++ option_to_list put → noted.times.items ≡ with_room.times.items ++ times_of seg (option_to_list put) → joined noted.parts.items ≡ joined with_room.parts.items ++ events → Makes r d call new noted
  done_makes events put r says is r_is turns frames times told = subst (λ (x : Result (Unit {0}) DrainEnd). Makes x d call new noted) (sym r_is) (by (timed_by call) (ended_by (reply.Done events) says ∙ end_done call new events))
    where
      put_is : option_to_list put ≡ put_by seg call (reply.Done events)
      put_is = ap (λ (o : Option CanFrame). option_to_list o) is ∙ sym (put_done call seg events)

      shown : IsCourse next new noted
      shown = shown_by (reply.Done events) says turns (frames ∙ ap (λ (fs : List CanFrame). with_room.frames.items ++ fs) put_is) (times ∙ ap (λ (fs : List CanFrame). with_room.times.items ++ times_of seg fs) put_is) told

      by : (o : Option Address) → next.ended ≡ ended_of (goes_on_by new o) → Makes (goes_on_by new o) d call new noted
      by None e = (shown, e)
      by (Some a) e = held (is_hold (front_at new a)) e
        where
          held : (b : Bool) → next.ended ≡ ended_of (cond b (Err end.Held) (Ok tt)) → Makes (cond b (Err end.Held) (Ok tt)) d call new noted
          held true e = (shown, e)
          held false e = (shown, e)

  -- or it has another answer, which has no frame and no event
  plain_shown : (reply : Reply) → put_by seg call reply ≡ [] → events_of reply ≡ [] → applied seg call ≡ (new, reply) → noted ≡ record with_room { turns = with_room.turns + 1 } → IsCourse next new noted
  plain_shown reply no_frame no_event says is = shown_by reply says (ap (λ (c : Course). c.turns) is)
      (ap (λ (c : Course). c.frames.items) is ∙ sym (append-nil with_room.frames.items) ∙ ap (λ (fs : List CanFrame). with_room.frames.items ++ fs) (sym no_frame))
      (ap (λ (c : Course). c.times.items) is ∙ sym (append-nil with_room.times.items) ∙ ap (λ (fs : List CanFrame). with_room.times.items ++ times_of seg fs) (sym no_frame))
      (ap (λ (c : Course). joined c.parts.items) is ∙ sym (append-nil (joined with_room.parts.items)) ∙ ap (λ (es : List Event). joined with_room.parts.items ++ es) (sym no_event))

  pub refused_makes : (cause : Refusal) → applied seg call ≡ (new, reply.Refused cause) → noted ≡ record with_room { turns = with_room.turns + 1 } → Makes (Err (end.Refused cause)) d call new noted
  refused_makes cause says is = (plain_shown (reply.Refused cause) (none call) refl says is, ended_by (reply.Refused cause) says)
    where
      none : (call : Call) → put_by seg call (reply.Refused cause) ≡ []
      none (asks.Transmit a) = refl
      none call = refl

  pub opened_makes : (port : PortId) → applied seg call ≡ (new, reply.Opened port) → noted ≡ record with_room { turns = with_room.turns + 1 } → Makes (Ok tt) d call new noted
  opened_makes port says is = (plain_shown (reply.Opened port) (none call) refl says is, ended_by (reply.Opened port) says ∙ on call)
    where
      none : (call : Call) → put_by seg call (reply.Opened port) ≡ []
      none (asks.Transmit a) = refl
      none call = refl

      on : (call : Call) → end_by new call (reply.Opened port) ≡ None
      on (asks.Fire a) = refl
      on call = refl

  pub sent_makes : (number : ℕ) → applied seg call ≡ (new, reply.Sent number) → noted ≡ record with_room { turns = with_room.turns + 1 } → Makes (Ok tt) d call new noted
  sent_makes number says is = (plain_shown (reply.Sent number) (none call) refl says is, ended_by (reply.Sent number) says ∙ on call)
    where
      none : (call : Call) → put_by seg call (reply.Sent number) ≡ []
      none (asks.Transmit a) = refl
      none call = refl

      on : (call : Call) → end_by new call (reply.Sent number) ≡ None
      on (asks.Fire a) = refl
      on call = refl
