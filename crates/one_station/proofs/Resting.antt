-- A node between its calls: its station has looked at every frame of its bus.
use Rattle.std.proofs.Common.{◌≡◌, ℕ, ◌-◌, Bool, true, false, cond, List, [], ◌∷◌, ◌++◌, Option, Some, None, Ok, Err, IsOk, refl, sym, ap, ◌∙◌, subst}
use Rattle.std.specs.Prelude.{nat_le, nat_lt}
use Rattle.bus_frame.specs.Frames.{CanFrame}
use Rattle.pgn_ids.specs.declared.address.Address.{Address}
use Rattle.tx_queue.specs.Queue.{queue_limit}
use Rattle.bus_order.specs.Bus.{waiting}
use Rattle.message_events.specs.declared.event.Event.{Event}
use Rattle.station_core.specs.Station.{new_station}
use Rattle.segment_law.specs.Segment.{Segment, new_segment}
use Rattle.segment_law.specs.Calls.{Answer, called, replied, applied, no_place}
use Rattle.segment_law.specs.Record.{Record, StandsAt}
use Rattle.segment_law.specs.Reached.{IsReached}
use Rattle.segment_law.specs.Readers.{queue_len}
use Rattle.segment_law.specs.declared.call.Call.{Call}
use Rattle.segment_law.specs.declared.call.Call.TheVariants.{Open, Close, Send, Pump, Transmit, Take, TakeAgain, Overrun, Tick, Fire, Cancel, Inject, Pause, Resume}
use Rattle.segment_law.specs.declared.refusal.Refusal.TheVariants as refusal
use Rattle.segment_law.specs.declared.reply.Reply.{Reply}
use Rattle.segment_law.specs.declared.reply.Reply.TheVariants as replies
use Rattle.segment_law.specs.declared.reply.Reply.TheVariants.{Done}
use Rattle.segment_law.proofs.Records.{stands_reached}
use Rattle.record_law.proofs.EachCall.{Holds, Accepted, each_called}
use Rattle.record_law.proofs.Replies.{IsReplyTo, fits}
use Rattle.segment_state.specs.Answers.{refusal_of}
use Rattle.segment_state.specs.Memory.{MayAskMemory}
use Rattle.one_station.specs.Node.{Node}
use Rattle.one_station.specs.Looks.{comes_on_bus, Tells, Puts, PassesBy, HasLooked}
use Rattle.one_station.specs.NodeFields.{IsStood, IsAlone, HasLookedAtAll}
use Rattle.one_station.specs.Answers.{IsUndone, IsTakenIn, first_cause, feed_refusal, has_frame, overruns, is_own, is_queue_full, as_error}
use Rattle.one_station.specs.declared.error.NodeError.{NodeError}
use Rattle.one_station.specs.declared.error.NodeError.TheVariants.{Refused}
use Rattle.one_station.specs.declared.error.Fed.{Fed}
use Rattle.one_station.specs.declared.error.Fed.TheVariants.{Taken, WithoutRoom, PassedBy}
use Rattle.one_station.proofs.Alone.{waits_after, leaves_by, rests, waits_is, keeps_one, overrun_passes, take_passes, has_place, comes_next}
use Rattle.one_station.proofs.Made.{node_of, tells_quietly}

reached : (address : Address) (segment : Segment) → IsStood address segment → IsReached segment
reached address segment stood = stands_reached (address ∷ []) stood.0 segment stood.1

-- nothing was done yet
pub rests_at_first : (address : Address) (segment : Segment) → segment ≡ new_segment (address ∷ []) → HasLookedAtAll address segment
rests_at_first address segment same = subst (HasLookedAtAll address) (sym same) (record { station = new_station address; alone = refl; its = refl }, refl)

-- a call that puts no frame on the bus
pub rested : (address : Address) (segment new : Segment) (call : Call) (reply : Reply) → IsStood address segment → HasLookedAtAll address segment → comes_on_bus call ≡ false → applied segment call ≡ (new, reply) → HasLookedAtAll address new
rested address segment new call reply stood looked away says = rests address segment (reached address segment stood) looked.0 looked.1 call away new reply says

-- no frame waits, and nothing is refused that isn't to be
pub none_waits : (now : Node) (segment : Segment) (address : Address) (events : List Event) (missed : Bool) (quiet : ℕ) → node_of segment address events missed quiet ≡ now → IsStood address segment → HasLookedAtAll address segment → has_frame now ≡ false
none_waits now segment address events missed quiet view stood looked =
    subst (λ (n : Node). has_frame n ≡ false) view (ap (nat_lt 0) (waits_is address segment (reached address segment stood) looked.0 ∙ looked.1))

pub may_miss : (now : Node) (segment : Segment) (address : Address) (events : List Event) (missed : Bool) (quiet : ℕ) → node_of segment address events missed quiet ≡ now → IsStood address segment → HasLookedAtAll address segment → IsOk (called now.segment (overruns now))
may_miss now segment address events missed quiet view stood looked =
    subst (λ (n : Node). IsOk (called n.segment (overruns n))) view (overrun_passes address segment (reached address segment stood) looked.0)

-- what holds of the two calls by which a frame comes on the bus holds of each such call
on_bus : (P : Call → Type 0) → ((a : Address) → P (Transmit a)) → ((f : CanFrame) → P (Inject f)) → (call : Call) → comes_on_bus call ≡ true → P call
on_bus P own foreign (Transmit a) e = own a
on_bus P own foreign (Inject f) e = foreign f
on_bus P own foreign (Open a pgn max_len) e = absurd cc
on_bus P own foreign (Close port) e = absurd cc
on_bus P own foreign (Send from to pgn bytes) e = absurd cc
on_bus P own foreign (Pump a to) e = absurd cc
on_bus P own foreign (Take a room) e = absurd cc
on_bus P own foreign (TakeAgain a room) e = absurd cc
on_bus P own foreign (Overrun a n) e = absurd cc
on_bus P own foreign (Tick n) e = absurd cc
on_bus P own foreign (Fire a) e = absurd cc
on_bus P own foreign (Cancel from to number) e = absurd cc
on_bus P own foreign (Pause port) e = absurd cc
on_bus P own foreign (Resume port) e = absurd cc

-- there is room on the bus
pub room_on_bus : (address : Address) (segment : Segment) (call : Call) → comes_on_bus call ≡ true → IsStood address segment → HasLookedAtAll address segment → MayAskMemory segment call → ⊥
room_on_bus address segment call comes stood looked =
    let none = keeps_one address segment (reached address segment stood) looked.0 looked.1 in
    on_bus (λ c. MayAskMemory segment c → ⊥) (λ a. none) (λ f. none) call comes

-- it is answered by what it tells, if it isn't refused
abbrev pub IsOfBus : Reply → Type 0
IsOfBus (replies.Opened port) = ⊥
IsOfBus (replies.Sent number) = ⊥
IsOfBus reply = Unit {0}

pub fits_bus : (seg new : Segment) (call : Call) (reply : Reply) → comes_on_bus call ≡ true → applied seg call ≡ (new, reply) → IsOfBus reply
fits_bus seg new call reply comes says = by reply says
  where
    by : (r : Reply) → applied seg call ≡ (new, r) → IsOfBus r
    by (replies.Opened port) e = on_bus (λ c. IsReplyTo (replies.Opened port) c → ⊥) (λ a h. h) (λ f h. h) call comes (fits seg call new (replies.Opened port) e tt)
    by (replies.Sent number) e = on_bus (λ c. IsReplyTo (replies.Sent number) c → ⊥) (λ a h. h) (λ f h. h) call comes (fits seg call new (replies.Sent number) e tt)
    by (replies.Refused cause) e = tt
    by (replies.Done events) e = tt

-- what isn't refused
pub none_of : (x : Answer) → IsOk x → refusal_of x ≡ None
none_of (Ok step) ok = refl
none_of (Err cause) ok = absurd (cc)

-- a call that is done isn't refused
pub done_ok : (seg new : Segment) (call : Call) (events : List Event) → applied seg call ≡ (new, Done events) → IsOk (called seg call)
done_ok seg new call events e = by (called seg call) e
  where
    by : (x : Answer) → replied seg x ≡ (new, Done events) → IsOk x
    by (Ok step) e = refl
    by (Err cause) e = absurd (let same : replies.Refused cause ≡ Done events = ap (λ (p : Segment × Reply). p.1) e in cc)

abbrev causes : (own full : Bool) → Option NodeError → Option NodeError
causes own full o = cond {A = Option NodeError} own (Some (Refused refusal.StationAddress)) (cond full (Some (Refused refusal.TxFull)) o)

none_early : (own full : Bool) (o : Option NodeError) → causes own full None ≡ None → (full ≡ false) × (causes own full o ≡ o)
none_early true full o e = absurd (cc)
none_early false true o e = absurd (cc)
none_early false false o e = (refl, refl)

some_early : (own full : Bool) (o : Option NodeError) (error : NodeError) → causes own full None ≡ Some error → causes own full o ≡ Some error
some_early true full o error e = e
some_early false true o error e = e
some_early false false o error e = absurd (cc)

-- a frame is refused early
pub early_undone : (now : Node) (frame : CanFrame) (error : NodeError) → first_cause now frame None ≡ Some error → IsTakenIn now frame now (Err error)
early_undone now frame error e =
    subst (λ o. IsUndone o now now error) (sym (some_early (is_own now frame) (is_queue_full now) (as_error (refusal_of (called now.segment (Inject frame)))) error e)) (refl, refl)

-- or it isn't: there is a place for its answer, and the inner bus has the word
pub may_feed : (now : Node) (segment : Segment) (address : Address) (events : List Event) (missed : Bool) (quiet : ℕ) (frame : CanFrame) → node_of segment address events missed quiet ≡ now → first_cause now frame None ≡ None
    → (nat_le queue_limit (queue_len segment address) ≡ false) × (feed_refusal now frame ≡ as_error (refusal_of (called segment (Inject frame))))
may_feed now segment address events missed quiet frame view free =
    let P : Node → Type 0 = λ n. first_cause n frame None ≡ None → (nat_le queue_limit (queue_len segment address) ≡ false) × (feed_refusal n frame ≡ as_error (refusal_of (called segment (Inject frame)))) in
    let node : Node = node_of segment address events missed quiet in
    subst P view (none_early (is_own node frame) (is_queue_full node) (as_error (refusal_of (called segment (Inject frame))))) free

-- a frame that came on the bus is taken
pub stood_by : (address : Address) (before after : Segment) (waiting left : List Event) (call : Call) → Tells before waiting call after left → IsStood address before → IsStood address after
stood_by address before after waiting left call t (steps, h) = (steps ++ (call, (applied before call).1) ∷ [], t.stands (address ∷ []) steps h)

same_station : (address : Address) (segment new : Segment) (h : IsAlone address segment) (k : IsAlone address new) → new.stations ≡ segment.stations → h.station ≡ k.station
same_station address segment new h k same = let e : h.station ∷ [] ≡ k.station ∷ [] = sym h.alone ∙ sym same ∙ k.alone in cc

pub comes_to_take : (address : Address) (segment mid : Segment) (frame : CanFrame) → IsStood address segment → HasLookedAtAll address segment → (nat_le queue_limit (queue_len segment address) ≡ false) × IsOk (called segment (Inject frame)) → Puts segment (Inject frame) mid
    → (room : Bool) → IsOk (called mid (Take address room))
comes_to_take address segment mid frame stood looked (few, ok) puts room =
    let r = reached address segment stood in
    let t = puts [] in
    let k = leaves_by address segment r looked.0 (Inject frame) mid ok t.made in
    let n = comes_next address segment r looked.0 looked.1 frame mid ok t.made in
    take_passes address mid (reached address mid (stood_by address segment mid [] [] (Inject frame) t stood)) k.0 frame n.0
    (ap no_place (sym (same_station address segment mid looked.0 k.0 n.1)) ∙ has_place address segment r looked.0 few) room

-- and then none waits
one_waits : (call : Call) → comes_on_bus call ≡ true → (address : Address) (segment mid : Segment) (r : IsReached segment) (h : HasLookedAtAll address segment) → IsOk (called segment call) → (applied segment call).0 ≡ mid → IsAlone address mid × (waiting mid.bus 0 ≡ 1)
one_waits call comes address segment mid r h ok made =
    let k = leaves_by address segment r h.0 call mid ok made in
    (k.0, k.1 ∙ ap (λ n. waits_after call n) h.1 ∙ on_bus (λ c. waits_after c 0 ≡ 1) (λ a. refl) (λ f. refl) call comes)

-- where it was taken
pub looked_again : (address : Address) (segment mid after : Segment) (call : Call) (room : Bool) (waits left : List Event) → comes_on_bus call ≡ true → IsStood address segment → HasLookedAtAll address segment → IsOk (called segment call) → Puts segment call mid
    → IsOk (called mid (Take address room)) → Tells mid waits (Take address room) after left → IsStood address after × HasLookedAtAll address after
looked_again address segment mid after call room waits left comes stood looked ok puts ok' u =
    let t = puts [] in
    let s : IsStood address mid = stood_by address segment mid [] [] call t stood in
    let k = one_waits call comes address segment mid (reached address segment stood) looked ok t.made in
    let n = leaves_by address mid (reached address mid s) k.0 (Take address room) after ok' u.made in
    (stood_by address mid after waits left (Take address room) u s, (n.0, n.1 ∙ ap (λ w. w - 1) k.1))

pub looked_in : (address : Address) (segment mid after : Segment) (call : Call) (fed : Fed) (waits left : List Event) → comes_on_bus call ≡ true → IsStood address segment → HasLookedAtAll address segment → IsOk (called segment call) → Puts segment call mid
    → ((room : Bool) → IsOk (called mid (Take address room))) → HasLooked mid waits address after left fed → IsStood address after × HasLookedAtAll address after
looked_in address segment mid after call Taken waits left comes stood looked ok puts ok' u = looked_again address segment mid after call true waits left comes stood looked ok puts (ok' true) u
looked_in address segment mid after call WithoutRoom waits left comes stood looked ok puts ok' u = looked_again address segment mid after call false waits left comes stood looked ok puts (ok' false) u
looked_in address segment mid after call PassedBy waits left comes stood looked ok puts ok' never = absurd never

-- a frame that comes on the bus tells nothing
abbrev IsSilent : Call → Segment × Reply → Type 0
IsSilent (Transmit a) step = step.1 ≡ Done []
IsSilent (Inject f) step = step.1 ≡ Done []
IsSilent call step = Unit {0}

each_silent : (seg : Segment) → Accepted seg IsSilent
each_silent seg = record {
  station = λ i st at. record {
    opens = λ a pgn max_len here. tt;
    closes = λ port here there. tt;
    sends = λ from to pgn bytes here other long short. tt;
    pumps = λ a to here. tt;
    transmits = λ a f here first free. refl;
    takes = λ a room f here next free. tt;
    repeats = λ a room f here last free. tt;
    overruns = λ a n here few. tt;
    fires = λ a here. tt;
    cancels = λ from to number here pending. tt;
    pauses = λ port here. tt;
    resumes = λ port here. tt;
  };
  ticks = λ n. tt;
  injects = λ f foreign free. refl;
}

silent : (seg : Segment) (call : Call) → comes_on_bus call ≡ true → IsOk (called seg call) → (applied seg call).1 ≡ Done []
silent seg call comes ok = by (called seg call) (each_called seg IsSilent (each_silent seg) call) ok
  where
    of_call : (c : Call) → comes_on_bus c ≡ true → (step : Segment × Reply) → IsSilent c step → step.1 ≡ Done []
    of_call = on_bus (λ c. (step : Segment × Reply) → IsSilent c step → step.1 ≡ Done []) (λ a step h. h) (λ f step h. h)

    by : (x : Answer) → Holds seg IsSilent call x → IsOk x → (replied seg x).1 ≡ Done []
    by (Err cause) h ok = absurd (cc)
    by (Ok step) h ok = of_call call comes step h

pub silent_says : (seg new : Segment) (call : Call) (reply : Reply) → comes_on_bus call ≡ true → IsOk (called seg call) → applied seg call ≡ (new, reply) → reply ≡ Done []
silent_says seg new call reply comes ok says = sym (ap (λ (p : Segment × Reply). p.1) says) ∙ silent seg call comes ok

pub put_silently : (seg new : Segment) (call : Call) (reply : Reply) → comes_on_bus call ≡ true → IsOk (called seg call) → applied seg call ≡ (new, reply)
    → ((addresses : List Address) (steps : Record) → StandsAt addresses steps seg → StandsAt addresses (steps ++ (call, reply) ∷ []) new) → Puts seg call new
put_silently seg new call reply comes ok says stands =
    let quiet : reply ≡ Done [] = silent_says seg new call reply comes ok says in
    tells_quietly seg new call (says ∙ ap (λ (r : Reply). (new, r)) quiet) (subst (λ (r : Reply). (addresses : List Address) (steps : Record) → StandsAt addresses steps seg → StandsAt addresses (steps ++ (call, r) ∷ []) new) quiet stands)

-- its own frame, which it passed by
pub looked_own : (address : Address) (segment mid after : Segment) → IsStood address segment → HasLookedAtAll address segment → IsOk (called segment (Transmit address)) → Puts segment (Transmit address) mid → PassesBy mid address → Puts mid (Take address true) after
    → IsStood address after × HasLookedAtAll address after
looked_own address segment mid after stood looked ok puts passes took =
    looked_again address segment mid after (Transmit address) true [] [] refl stood looked ok puts (subst (λ (x : Answer). IsOk x) (sym (passes.1 true)) refl) (took [])
