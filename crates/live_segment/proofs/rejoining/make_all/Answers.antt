use Rattle.std.proofs.Common.{◌<◌, ◌++◌, length, take, refl, sym, ap, arith}
use Rattle.segment_law.specs.Segment.{Segment}
use Rattle.segment_law.specs.declared.reply.Reply.{Reply}
use Rattle.live_record.specs.Record.{trail}
use Rattle.live_segment.proofs.Replays.{next_more}
use Rattle.live_segment.proofs.rejoining.make_all.Goals as goal

pub loop-at-preserved : goal.loop-at-preserved
loop-at-preserved c = λ addresses made h.
    let xs = c.args.calls.now.items in
    let i = c.loop-at.at in
    let l : i < length xs = omega arith in
    let at = c.loop-at.invariant addresses made h in
    let stands = c.in_ok-apply.ensures.stands addresses (trail addresses (made ++ take i xs)).steps at.0 in
    next_more addresses made xs i c.in_ok-call.field-0 c.loop-at.segment c.apply.new.self c.in_ok-call.field-0.call c.in_ok-apply.field-0 l (c.in_ok-call.ensures c.in_ok-call.field-0) at refl
    (sym (ap (λ (step : Segment × Reply). step.1) c.in_ok-apply.ensures.ok)) (sym (ap (λ (step : Segment × Reply). step.0) c.in_ok-apply.ensures.ok)) stands
