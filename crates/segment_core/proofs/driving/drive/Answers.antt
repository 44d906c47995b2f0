use Rattle.std.proofs.Common.{◌∙◌}
use Rattle.drive_course.specs.Joined.{joined}
use Rattle.segment_law.specs.Drive.{driven}
use Rattle.segment_core.proofs.Turns.{turning_begins, turning_goes, turning_ends, turning_stops, all_turns, drive_stops}
use Rattle.segment_core.proofs.driving.drive.Goals as goal

pub loop-init : goal.loop-init
loop-init c = turning_begins c.args.seg.now c.args.from c.args.to c.args.turns c.new-course.result.frames.items c.new-course.result.parts.items c.new-course.ensures.frames c.new-course.ensures.parts

pub loop-preserved : goal.loop-preserved
loop-preserved c =
    turning_goes c.args.seg.now c.args.from c.args.to c.args.turns c.loop.counter c.loop.seg c.turn.new.seg c.loop.course.frames.items c.turn.new.course.frames.items c.loop.course.parts.items c.turn.new.course.parts.items
    c.loop.invariant c.loop-test.true (λ d h. c.in_default.ensures c.args.seg.now d h)

pub returns-in-Err : goal.returns-in-Err
returns-in-Err c =
    let put = c.turn.new.course.frames.items in
    let parts = c.turn.new.course.parts.items in
    let gone = turning_stops c.args.seg.now c.args.from c.args.to c.args.turns c.loop.counter c.loop.seg c.turn.new.seg c.loop.course.frames.items put c.loop.course.parts.items parts c.in-Err.stop
    c.loop.invariant c.loop-test.true (λ d h. c.in-Err.ensures c.args.seg.now d h) in
    let says = drive_stops c.args.seg.now (driven c.args.seg.now c.args.from c.args.to c.args.turns) c.turn.new.seg put (joined parts) c.ended.result c.in-Err.stop gone
    (record { turns = c.ended.ensures.turns; frames = c.ended.ensures.frames; events = c.ended.ensures.events; end = c.ended.ensures.end ∙ c.end_at.ensures }) in
    record {
      done = says.done_is;
      begun = says.begun_is;
      stands = says.stands_is;
    }

pub returns : goal.returns
returns c =
    let put = c.loop.course.frames.items in
    let parts = c.loop.course.parts.items in
    let shown = turning_ends c.args.seg.now c.args.from c.args.to c.args.turns c.loop.counter c.loop.seg put parts c.loop.invariant c.loop-test.false in
    let says = all_turns c.args.seg.now (driven c.args.seg.now c.args.from c.args.to c.args.turns) c.loop.seg put (joined parts) c.ended-2.result shown
    (record { turns = c.ended-2.ensures.turns; frames = c.ended-2.ensures.frames; events = c.ended-2.ensures.events; end = c.ended-2.ensures.end }) in
    record {
      done = says.done_is;
      begun = says.begun_is;
      stands = says.stands_is;
    }
