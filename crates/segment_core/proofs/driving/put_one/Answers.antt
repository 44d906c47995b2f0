use Rattle.std.proofs.Common.{◌≡◌, ◌++◌, [], None, Err, sym, ap, subst, ◌∙◌, rules}
use Rattle.std.specs.Prelude.{option_to_list}
use Rattle.segment_law.specs.Segment.{Segment}
use Rattle.segment_law.specs.Drive.{Driven}
use Rattle.segment_core.specs.Drives.{IsCourse, SameTold}
use Rattle.drive_course.specs.declared.course.Course.{Course}
use Rattle.drive_course.specs.Joined.{joined}
use Rattle.segment_law.specs.declared.reply.Reply.TheVariants.{Done}
use Rattle.segment_core.proofs.Drives.{relisted}
use Rattle.segment_core.proofs.Steps.{puts_made, puts_stopped}
use Rattle.segment_core.proofs.driving.put_one.Goals as goal

pub returns-in_err-make_way-clause-stopped : goal.returns-in_err-make_way-clause-stopped
returns-in_err-make_way-clause-stopped c =
    let e : c.from_residual.result ≡ Err c.in_err-make_way.field-0.0 = search rules in
    let was = c.args.course.now in
    let put = c.make_way.new.course.frames.items in
    let told = joined c.make_way.new.course.parts.items in
    rw e (λ start d h.
    puts_stopped start d c.args.seg.now c.args.seg.now put told c.args.station c.in_err-make_way.field-0.0
    (relisted None start d c.args.seg.now was.frames.items put (joined was.parts.items) told c.make_way.ensures.same.0 (ap joined c.make_way.ensures.same.1) h)
    c.in_err-make_way.ensures.stopped)

pub returns-in-Some-clause-put : goal.returns-in-Some-clause-put
returns-in-Some-clause-put c =
    let was = c.args.course.now in
    let put = c.make_way.new.course.frames.items in
    let done = c.in-Some.ensures.put in
    let told = joined done.shown.parts.items in
    record {
      between = done.between;
      shown = done.shown;
      put = λ start d h.
          puts_made start d c.args.seg.now done.between put done.shown.frames.items told c.args.station (Done [])
          (relisted None start d c.args.seg.now was.frames.items put (joined was.parts.items) told c.make_way.ensures.same.0 (ap joined (done.parts ∙ c.make_way.ensures.same.1)) h)
          done.put (done.frames ∙ ap (λ o. put ++ option_to_list o) (sym done.front));
      passed = done.passed;
    }

-- where nothing was put, all is as before
unput : (start : Segment) (d : Driven) (seg same : Segment) (was now left : Course) → same ≡ seg → left ≡ now → SameTold was now → IsCourse None start d seg was → IsCourse None start d same left
unput start d seg same was now left e f told h =
    subst (λ (x : Segment). IsCourse None start d x left) (sym e)
    (subst (λ (x : Course). IsCourse None start d seg x) (sym f)
    (relisted None start d seg was.frames.items now.frames.items (joined was.parts.items) (joined now.parts.items) told.0 (ap joined told.1) h))

pub returns-in_err-taken-clause-stopped : goal.returns-in_err-taken-clause-stopped
returns-in_err-taken-clause-stopped c =
    let e : c.from_residual-in_err-taken.result ≡ Err c.in_err-taken.field-0.0 = search rules in
    let same : c.put_abreast.new.self ≡ c.args.seg.now = search rules in
    let untold : c.put_abreast.new.course ≡ c.make_way.new.course = search rules in
    rw e (λ start d h. c.in_err-taken.ensures.stopped start d
    (unput start d c.args.seg.now c.put_abreast.new.self c.args.course.now c.make_way.new.course c.put_abreast.new.course same untold c.make_way.ensures.same h))

pub returns-clause-put : goal.returns-clause-put
returns-clause-put c =
    let same : c.put_abreast.new.self ≡ c.args.seg.now = search rules in
    let untold : c.put_abreast.new.course ≡ c.make_way.new.course = search rules in
    let done = c.in_ok-taken.ensures.put in
    record {
      between = done.between;
      shown = done.shown;
      put = λ start d h. done.put start d (unput start d c.args.seg.now c.put_abreast.new.self c.args.course.now c.make_way.new.course c.put_abreast.new.course same untold c.make_way.ensures.same h);
      passed = done.passed;
    }
