-- Calls that a node made.
use Rattle.std.proofs.Common.{◌≡◌, ℕ, Bool, true, false, List, [], ◌∷◌, ◌++◌, Option, Some, None, Ok, Err, refl, sym, ap, ◌∙◌, subst, append_assoc}
use Rattle.std.specs.Prelude.{Result}
use Rattle.std.proofs.lemmas.List.{append-nil}
use Rattle.bus_frame.specs.Frames.{CanFrame}
use Rattle.pgn_ids.specs.declared.address.Address.{Address}
use Rattle.message_events.specs.declared.event.Event.{Event}
use Rattle.segment_law.specs.Segment.{Segment}
use Rattle.segment_law.specs.Calls.{called, applied, events_of}
use Rattle.segment_law.specs.Record.{Record, StandsAt}
use Rattle.segment_law.specs.declared.call.Call.{Call}
use Rattle.segment_law.specs.declared.call.Call.TheVariants.{Transmit, Take}
use Rattle.segment_law.specs.declared.refusal.Refusal.{Refusal}
use Rattle.segment_law.specs.declared.reply.Reply.{Reply}
use Rattle.segment_law.specs.declared.reply.Reply.TheVariants as replies
use Rattle.segment_law.specs.declared.reply.Reply.TheVariants.{Done}
use Rattle.segment_state.specs.Answers.{refusal_of}
use Rattle.record_law.proofs.Replies.{refused_for}
use Rattle.one_station.specs.Node.{Node, Did, answered}
use Rattle.one_station.specs.NodeFields.{IsStood}
use Rattle.one_station.specs.Looks.{Tells, Puts, HasLooked}
use Rattle.one_station.specs.Answers.{DidAndLooked, EndsFirst, IsReady, IsCaughtUp, IsTakenIn, IsFed, IsPassedBy, IsSent, has_frame, as_error, caught_up}
use Rattle.one_station.specs.declared.error.NodeError.{NodeError}
use Rattle.one_station.specs.declared.error.NodeError.TheVariants.{Refused, ClockPassed, Starting, OutOfMemory}
use Rattle.one_station.specs.declared.error.Fed.{Fed}
use Rattle.one_station.specs.declared.error.Fed.TheVariants.{Taken, WithoutRoom, PassedBy}

abbrev pub node_of : Segment → Address → List Event → Bool → ℕ → Node
node_of segment address events missed quiet = record { segment = segment; address = address; events = events; has_missed = missed; quiet_until = quiet }

-- the segment goes on by a call
pub stood_on : (address : Address) (before after : Segment) (call : Call) (reply : Reply)
    → ((addresses : List Address) (steps : Record) → StandsAt addresses steps before → StandsAt addresses (steps ++ (call, reply) ∷ []) after) → IsStood address before → IsStood address after
stood_on address before after call reply stands (steps, h) = (steps ++ (call, reply) ∷ [], stands (address ∷ []) steps h)

-- a call that the segment refused
pub make_refused : (now : Node) (segment new : Segment) (address : Address) (events told : List Event) (missed : Bool) (quiet : ℕ) (call : Address → Call) (reply : Reply) (cause : Refusal)
    → node_of segment address events missed quiet ≡ now → told ≡ events → applied segment (call address) ≡ (new, reply) → reply ≡ replies.Refused cause
    → (called now.segment (call now.address) ≡ Err cause) × (node_of new address told missed quiet ≡ now)
make_refused now segment new address events told missed quiet call reply cause view same says is =
    let r : (called segment (call address) ≡ Err cause) × (new ≡ segment) = refused_for segment (call address) new cause (says ∙ ap (λ (x : Reply). (new, x)) is) in
    let P : Node → Type 0 = λ n. (called n.segment (call n.address) ≡ Err cause) × (node_of new address told missed quiet ≡ n) in
    subst P view (r.0, λ k. node_of (r.1 k) address (same k) missed quiet)

-- what was under way when frames were missed has ended
pub did_caught_up : (before mid after : Node) (call : Call) → Did before (call ∷ []) mid → after ≡ record mid { has_missed = false } → Did (caught_up before) (call ∷ []) after
did_caught_up before mid after call did is = record {
  node = is ∙ (λ k. record (did.node k) { has_missed = false });
  stands = λ addresses steps h. subst (λ (s : Segment). StandsAt addresses (steps ++ answered before.segment (call ∷ [])) s) (sym (ap (λ (n : Node). n.segment) is)) (did.stands addresses steps h);
}

-- a call that told nothing
pub tells_quietly : (before after : Segment) (call : Call) → applied before call ≡ (after, Done [])
    → ((addresses : List Address) (steps : Record) → StandsAt addresses steps before → StandsAt addresses (steps ++ (call, Done []) ∷ []) after) → Puts before call after
tells_quietly before after call says stands = λ waiting. record {
  made = ap (λ (p : Segment × Reply). p.0) says;
  told = sym (append-nil waiting) ∙ ap (λ (p : Segment × Reply). waiting ++ events_of p.1) (sym says);
  stands = λ addresses steps h. subst (λ (p : Segment × Reply). StandsAt addresses (steps ++ (call, p.1) ∷ []) after) (sym says) (stands addresses steps h);
}

-- two calls, as each was made
pub did_two : (before : Node) (call next : Call) (mid after : Segment) (told left : List Event) → Tells before.segment before.events call mid told → Tells mid told next after left → Did before (call ∷ next ∷ []) (record before { segment = after; events = left })
did_two before call next mid after told left t u = record {
  node = (λ k. record before { segment = sym u.made k; events = u.told k }) ∙ (λ k. record before { segment = (applied (sym t.made k) next).0; events = t.told k ++ events_of (applied (sym t.made k) next).1 });
  stands = λ addresses steps h.
      let first : Record = (call, (applied before.segment call).1) ∷ [] in
      let k : StandsAt addresses ((steps ++ first) ++ (next, (applied mid next).1) ∷ []) after = u.stands addresses (steps ++ first) (t.stands addresses steps h) in
      subst (λ (s : Segment). StandsAt addresses (steps ++ (call, (applied before.segment call).1) ∷ (next, (applied s next).1) ∷ []) after) (sym t.made)
      (subst (λ (m : Record). StandsAt addresses m after) (append_assoc steps first ((next, (applied mid next).1) ∷ [])) k);
}

-- a frame that came on the bus, and was looked at
pub took_in : (now : Node) (segment mid after : Segment) (address : Address) (events told left : List Event) (missed : Bool) (quiet : ℕ) (call : Call) (fed : Fed) → node_of segment address events missed quiet ≡ now → told ≡ events
    → Puts segment call mid → HasLooked mid told address after left fed → DidAndLooked now call (node_of after address left missed quiet) fed
took_in now segment mid after address events told left missed quiet call fed view same puts looked =
    subst (λ (n : Node). DidAndLooked n call (node_of after address left missed quiet) fed) view (by fed (subst (λ (es : List Event). HasLooked mid es address after left fed) same looked))
  where
    by : (fed : Fed) → HasLooked mid events address after left fed → DidAndLooked (node_of segment address events missed quiet) call (node_of after address left missed quiet) fed
    by Taken t = did_two (node_of segment address events missed quiet) call (Take address true) mid after events left (puts events) t
    by WithoutRoom t = did_two (node_of segment address events missed quiet) call (Take address false) mid after events left (puts events) t
    by PassedBy t = t

-- first the node is ready, and then it takes the frame
pub fed_ready : (before ready : Node) (frame : CanFrame) (after : Node) (fed : Result Fed NodeError) → IsReady before ready → IsTakenIn ready frame after fed → IsFed before frame after fed
fed_ready before ready frame after (Ok Taken) first taken = (ready, first, taken)
fed_ready before ready frame after (Ok WithoutRoom) first taken = (ready, first, taken)
fed_ready before ready frame after (Ok PassedBy) first (free, never) = absurd never
fed_ready before ready frame after (Err error) first taken = (ready, first, taken)

-- nothing is left of what came before
pub ready_at_once : (now : Node) → now.has_missed ≡ false → has_frame now ≡ false → IsReady now now
ready_at_once now level none = (subst (λ (b : Bool). EndsFirst b now now) (sym level) refl, none)

pub ready_then : (before after : Node) → before.has_missed ≡ true → IsCaughtUp before after → has_frame after ≡ false → IsReady before after
ready_then before after behind ends none = (subst (λ (b : Bool). EndsFirst b before after) (sym behind) ends, none)

-- a refusal to put is none for want of memory
as_refused : (o : Option Refusal) (error : NodeError) → as_error o ≡ Some error → (cause : Refusal) × (error ≡ Refused cause)
as_refused None error e = absurd (cc)
as_refused (Some cause) error e = (cause, (let same : Some (Refused cause) ≡ Some error = e in cc))

pub sent_ready : (before ready after : Node) (sent : Result (Unit {0}) NodeError) → IsReady before ready → IsPassedBy ready after sent → IsSent before after sent
sent_ready before ready after (Ok done) first passed = (ready, first, passed)
sent_ready before ready after (Err (Refused cause)) first passed = (ready, first, passed)
sent_ready before ready after (Err OutOfMemory) first (e, same) = absurd (let r = as_refused (refusal_of (called ready.segment (Transmit ready.address))) OutOfMemory e in let no : OutOfMemory ≡ Refused r.0 = r.1 in cc)
sent_ready before ready after (Err ClockPassed) first (e, same) = absurd (let r = as_refused (refusal_of (called ready.segment (Transmit ready.address))) ClockPassed e in let no : ClockPassed ≡ Refused r.0 = r.1 in cc)
sent_ready before ready after (Err (Starting tick)) first (e, same) = absurd (let r = as_refused (refusal_of (called ready.segment (Transmit ready.address))) (Starting tick) e in let no : Starting tick ≡ Refused r.0 = r.1 in cc)

-- a call from where nothing changed yet
pub tells_from : (seg was : Segment) (told waiting : List Event) (call : Call) (after : Segment) (left : List Event) → seg ≡ was → told ≡ waiting → Tells seg told call after left → Tells was waiting call after left
tells_from seg was told waiting call after left same untold t = subst (λ (s : Segment). Tells s waiting call after left) same (subst (λ (es : List Event). Tells seg es call after left) untold t)
