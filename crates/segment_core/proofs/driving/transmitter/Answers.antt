use Rattle.std.proofs.Common.{◌≡◌, None, Err, sym, subst, rules}
use Rattle.std.specs.Prelude.{Result, IfErr}
use Rattle.pgn_ids.specs.declared.address.Address.{Address}
use Rattle.segment_law.specs.Segment.{Segment}
use Rattle.drive_course.specs.Joined.{joined}
use Rattle.segment_law.specs.Drive.{Driven, puts, pumps, puts_from, turn_puts}
use Rattle.segment_core.specs.Drives.{HasGone, IsCourse, Went}
use Rattle.segment_state.specs.declared.stop.Stop.{Stop}
use Rattle.segment_core.proofs.Drives.{stays, on_puts}
use Rattle.segment_core.proofs.Steps.{stays_stopped}
use Rattle.segment_core.proofs.Turns.{puts_from_it, puts_answer, puts_pumped}
use Rattle.segment_core.proofs.driving.transmitter.Goals as goal

pub returns-then-queued-gt0-clause-found : goal.returns-then-queued-gt0-clause-found
returns-then-queued-gt0-clause-found c = λ start d h. record {
  at = d;
  shown = h;
  on = sym (puts_from_it c.args.from c.args.to c.args.seg.now d c.queue_len-queued.result h.segment c.queue_len-queued.ensures.value c.if-queued-gt0.true);
}

pub returns-then-answers-gt0-clause-found : goal.returns-then-answers-gt0-clause-found
returns-then-answers-gt0-clause-found c = λ start d h. record {
  at = d;
  shown = h;
  on = sym (puts_answer c.args.from c.args.to c.args.seg.now d c.queue_len-queued.result c.queue_len-answers.result h.segment c.queue_len-queued.ensures.value c.if-queued-gt0.false c.queue_len-answers.ensures.value c.if-answers-gt0.true);
}

pub returns-in_err-pump_lane-clause-stopped : goal.returns-in_err-pump_lane-clause-stopped
returns-in_err-pump_lane-clause-stopped c =
    let e : c.from_residual.result ≡ Err c.in_err-pump_lane.field-0.0 = search rules in
    let seg = c.pump_lane.new.seg in
    let course = c.pump_lane.new.course in
    let put = course.frames.items in
    let told = joined course.parts.items in
    subst (λ (r : Result Address Stop). IfErr r (λ stop. (start : Segment) (d : Driven) → IsCourse None start d c.args.seg.now c.args.course.now → Went start (turn_puts c.args.from c.args.to d) seg course (Err stop))) (sym e)
    (λ start d h.
    let same = puts_pumped c.args.from c.args.to c.args.seg.now d c.queue_len-queued.result c.queue_len-answers.result h.segment c.queue_len-queued.ensures.value c.if-queued-gt0.false c.queue_len-answers.ensures.value c.if-answers-gt0.false in
    let x = pumps c.args.from c.args.to d in
    let gone = stays_stopped start x (puts x c.args.from) seg put told c.in_err-pump_lane.field-0.0 (c.in_err-pump_lane.ensures start d h) (λ end is. stays x (puts_from c.args.from) end is) (on_puts x c.args.from) in
    subst (λ (y : Driven). HasGone start y seg put told (Err c.in_err-pump_lane.field-0.0)) (sym same) gone)

pub returns-clause-found : goal.returns-clause-found
returns-clause-found c = λ start d h. record {
  at = pumps c.args.from c.args.to d;
  shown = c.in_ok-pump_lane.ensures start d h;
  on = sym (puts_pumped c.args.from c.args.to c.args.seg.now d c.queue_len-queued.result c.queue_len-answers.result h.segment c.queue_len-queued.ensures.value c.if-queued-gt0.false c.queue_len-answers.ensures.value c.if-answers-gt0.false);
}
