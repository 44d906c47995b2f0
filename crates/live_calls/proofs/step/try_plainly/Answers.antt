use Rattle.std.proofs.Common.{◌≡◌, List, true, sym, ap, subst, ◌∙◌}
use Rattle.std.specs.Prelude.{IfSome}
use Rattle.std.proofs.lemmas.Bool.{false≢true}
use Rattle.message_events.specs.declared.event.Event.{Event}
use Rattle.pgn_ids.specs.declared.address.Address.{Address}
use Rattle.segment_law.specs.Segment.{Segment}
use Rattle.segment_law.specs.Calls.{applied, is_send}
use Rattle.segment_law.specs.Record.{Record, StandsAt}
use Rattle.segment_law.specs.declared.call.Call.TheVariants.{Take}
use Rattle.segment_law.specs.declared.reply.Reply.{Reply}
use Rattle.segment_state.specs.Answers.{made_as, reply_with}
use Rattle.segment_state.specs.declared.made.Made.{Made}
use Rattle.segment_state.specs.declared.made.Tried.{Tried}
use Rattle.segment_state.specs.declared.made.Tried.TheVariants as tried
use Rattle.live_record.specs.Replies.{Follows, IsAnsweredBy, IsRefusal, opens}
use Rattle.segment_law.proofs.Drifting.{stands_drifts}
use Rattle.live_record.proofs.Replies.{follows}
use Rattle.live_calls.specs.declared.call.WorkerCall.{WorkerCall}
use Rattle.live_calls.specs.Words.{call_of}
use Rattle.live_calls.proofs.Applying.{never_opens, never_sends}
use Rattle.live_calls.proofs.step.try_plainly.Goals as goal

-- a call that was answered so
module _ (old new : Segment) (call : WorkerCall) (told : List Event) where
  abbrev Is : Reply → Type 0
  Is reply = applied old (call_of call true) ≡ (new, reply)

  follows_as : (reply : Reply) → Is reply → (addresses : List Address) (steps : Record) → StandsAt addresses steps old → Follows old (call_of call true) new reply
  follows_as reply e addresses steps h = subst (λ (x : Segment × Reply). Follows old (call_of call true) x.0 x.1) e (follows addresses steps old (stands_drifts addresses steps old h) (call_of call true))

-- a Take with room that was answered so
module _ (old new : Segment) (station : Address) (told : List Event) where
  abbrev Says : Tried → Type 0
  Says t = IfSome (made_as t) (λ (m : Made). applied old (Take station true) ≡ (new, reply_with m told))

  says : (t other : Tried) → t ≡ other → Says t → Says other
  says t other is h = subst Says is h

pub returns-in-Done-clause-follows : goal.returns-in-Done-clause-follows
returns-in-Done-clause-follows c =
    let old = c.args.segment.now in
    let new = c.take_unless_whole.new.self in
    let told = c.take_unless_whole.new.told in
    let call = c.args.call in
    let is : (r : Reply) → applied old (Take c.in-Take.station true) ≡ (new, r) → Is old new call told r = λ r e. subst (λ (w : WorkerCall). applied old (call_of w true) ≡ (new, r)) (sym c.in-Take.is) e in
    follows_as old new call told _ (is _ (says old new c.in-Take.station told c.in-Ok.tried tried.Done c.in-Done.is c.in-Ok.ensures.ok))

pub returns-in-Refused-clause-same : goal.returns-in-Refused-clause-same
returns-in-Refused-clause-same c addresses steps h =
    let old = c.args.segment.now in
    let new = c.take_unless_whole.new.self in
    let told = c.take_unless_whole.new.told in
    let call = c.args.call in
    let is : (r : Reply) → applied old (Take c.in-Take.station true) ≡ (new, r) → Is old new call told r = λ r e. subst (λ (w : WorkerCall). applied old (call_of w true) ≡ (new, r)) (sym c.in-Take.is) e in
    (follows_as old new call told _ (is _ (says old new c.in-Take.station told c.in-Ok.tried (tried.Refused c.in-Refused.field-0) c.in-Refused.is c.in-Ok.ensures.ok)) addresses steps h).refused tt

pub returns-in-Refused-made-clause-same : goal.returns-in-Refused-made-clause-same
returns-in-Refused-made-clause-same c addresses steps h =
    (c.in-Ok-make_telling.ensures.follows addresses steps h).refused (subst IsRefusal (sym (ap (λ (m : Made). reply_with m c.make_telling.new.told) c.in-Refused-made.is)) tt)

pub returns-in-Opened-clause-same : goal.returns-in-Opened-clause-same
returns-in-Opened-clause-same c addresses steps h =
    let f = c.in-Ok-make_telling.ensures.follows addresses steps h in
    let kind : opens c.with_room.result ≡ true = subst (IsAnsweredBy c.with_room.result) (ap (λ (m : Made). reply_with m c.make_telling.new.told) c.in-Opened.is) f.kind in
    absurd (false≢true (sym (never_opens c.args.call true) ∙ ap opens (sym c.with_room.ensures) ∙ kind))

pub returns-in-Sent-clause-same : goal.returns-in-Sent-clause-same
returns-in-Sent-clause-same c addresses steps h =
    let f = c.in-Ok-make_telling.ensures.follows addresses steps h in
    let kind : is_send c.with_room.result ≡ true = subst (IsAnsweredBy c.with_room.result) (ap (λ (m : Made). reply_with m c.make_telling.new.told) c.in-Sent.is) f.kind in
    absurd (false≢true (sym (never_sends c.args.call true) ∙ ap is_send (sym c.with_room.ensures) ∙ kind))
