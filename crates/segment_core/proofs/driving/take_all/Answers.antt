use Rattle.std.proofs.Common.{◌≡◌, Err, rules}
use Rattle.drive_course.specs.Joined.{joined}
use Rattle.segment_law.specs.Drive.{takes_all}
use Rattle.segment_core.proofs.Steps.{gone_by}
use Rattle.segment_core.proofs.Turns.{taking_goes, taking_ends, taking_stops}
use Rattle.segment_core.proofs.driving.take_all.Goals as goal

pub loop-preserved : goal.loop-preserved
loop-preserved c =
    taking_goes c.args.station c.args.seg.now c.args.course.now.frames.items c.args.course.now.parts.items c.left-left.result c.loop.counter
    c.loop.seg c.take_next.new.seg c.loop.course.frames.items c.take_next.new.course.frames.items c.loop.course.parts.items c.take_next.new.course.parts.items
    c.loop.invariant c.in_ok-take_next.ensures.taken (λ start d h. c.in_ok-take_next.ensures.took start d h)

pub returns-in_err-take_next-clause-took : goal.returns-in_err-take_next-clause-took
returns-in_err-take_next-clause-took c = λ start d h.
    let e : c.from_residual.result ≡ Err c.in_err-take_next.field-0.0 = search rules in
    gone_by start (takes_all c.args.station d) c.take_next.new.seg c.take_next.new.course.frames.items (joined c.take_next.new.course.parts.items) c.from_residual.result c.in_err-take_next.field-0.0 e
    (taking_stops c.args.station c.args.seg.now c.args.course.now.frames.items c.args.course.now.parts.items c.left-left.result c.loop.counter
    c.loop.seg c.take_next.new.seg c.loop.course.frames.items c.take_next.new.course.frames.items c.loop.course.parts.items c.take_next.new.course.parts.items c.in_err-take_next.field-0.0
    c.loop.invariant c.loop-test.true (λ from x k. c.in_err-take_next.ensures.took from x k) start d h)

pub returns-clause-took : goal.returns-clause-took
returns-clause-took c = λ start d h.
    taking_ends c.args.station c.args.seg.now c.args.course.now.frames.items c.args.course.now.parts.items c.left-left.result c.loop.counter
    c.loop.seg c.loop.course.frames.items c.loop.course.parts.items c.loop.invariant c.loop-test.false start d h
