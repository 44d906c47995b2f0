use Rattle.std.proofs.Common.{◌≡◌, subst}
use Rattle.segment_law.specs.Segment.{Segment}
use Rattle.segment_law.specs.Calls.{applied}
use Rattle.segment_law.specs.declared.reply.Reply.{Reply}
use Rattle.live_record.specs.Replies.{Follows}
use Rattle.segment_law.proofs.Drifting.{stands_drifts}
use Rattle.live_record.proofs.Replies.{follows}
use Rattle.live_ends.proofs.Results.{on_ok}
use Rattle.live_calls.proofs.step.make.Goals as goal

pub returns-clause-follows : goal.returns-clause-follows
returns-clause-follows c addresses steps h =
    let old = c.args.segment.now in
    let new = c.apply.new.self in
    let call = c.args.call in
    on_ok (λ (r : Reply). applied old call ≡ (new, r)) (λ (r : Reply). Follows old call new r) c.apply.result
    (λ r e. subst (λ (x : Segment × Reply). Follows old call x.0 x.1) e (follows addresses steps old (stands_drifts addresses steps old h) call)) c.apply.ensures.ok
