use Rattle.std.proofs.Common.{◌≡◌, subst}
use Rattle.segment_law.specs.Segment.{Segment}
use Rattle.segment_law.specs.Calls.{applied}
use Rattle.segment_law.specs.declared.reply.Reply.{Reply}
use Rattle.segment_state.specs.Answers.{reply_with}
use Rattle.segment_state.specs.declared.made.Made.{Made}
use Rattle.live_record.specs.Replies.{Follows}
use Rattle.segment_law.proofs.Drifting.{stands_drifts}
use Rattle.live_record.proofs.Replies.{follows}
use Rattle.live_ends.proofs.Results.{on_ok}
use Rattle.live_calls.proofs.step.make_telling.Goals as goal

pub returns-clause-follows : goal.returns-clause-follows
returns-clause-follows c addresses steps h =
    let old = c.args.segment.now in
    let new = c.apply_apart.new.self in
    let call = c.args.call in
    let told = c.apply_apart.new.told in
    on_ok (λ (m : Made). applied old call ≡ (new, reply_with m told)) (λ (m : Made). Follows old call new (reply_with m told)) c.apply_apart.result
    (λ m e. subst (λ (x : Segment × Reply). Follows old call x.0 x.1) e (follows addresses steps old (stands_drifts addresses steps old h) call)) c.apply_apart.ensures.ok
