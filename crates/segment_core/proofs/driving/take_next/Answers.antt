use Rattle.std.proofs.Common.{◌≡◌, None, Err, ap, ◌∙◌, rules}
use Rattle.drive_course.specs.Joined.{joined}
use Rattle.segment_law.specs.Drive.{makes}
use Rattle.segment_law.specs.declared.call.Call.TheVariants.{Take}
use Rattle.segment_law.specs.declared.reply.Reply.TheVariants.{Done}
use Rattle.std.specs.Prelude.{true}
use Rattle.segment_core.proofs.Drives.{relisted}
use Rattle.segment_core.proofs.Steps.{takes_made, takes_stopped, has_taken, gone_by}
use Rattle.segment_core.proofs.driving.take_next.Goals as goal

pub returns-in_err-make_part-clause-took : goal.returns-in_err-make_part-clause-took
returns-in_err-make_part-clause-took c = λ start d h.
    let e : c.from_residual.result ≡ Err c.in_err-make_part.field-0.0 = search rules in
    let put = c.make_part.new.course.frames.items in
    let told = joined c.make_part.new.course.parts.items in
    gone_by start (makes d (Take c.args.station true)) c.args.seg.now put told c.from_residual.result c.in_err-make_part.field-0.0 e
    (takes_stopped start d c.args.seg.now c.args.seg.now put told c.args.station c.in_err-make_part.field-0.0
    (relisted None start d c.args.seg.now c.args.course.now.frames.items put (joined c.args.course.now.parts.items) told c.make_part.ensures.same.0 (ap joined c.make_part.ensures.same.1) h)
    c.in_err-make_part.ensures.stopped)

pub returns-in_err-take_telling-clause-took : goal.returns-in_err-take_telling-clause-took
returns-in_err-take_telling-clause-took c = λ start d h.
    let e : c.from_residual-in_err-take_telling.result ≡ Err c.in_err-take_telling.field-0.0 = search rules in
    let put = c.make_part.new.course.frames.items in
    let told = joined c.make_part.new.course.parts.items in
    gone_by start (makes d (Take c.args.station true)) c.take_telling.new.self put told c.from_residual-in_err-take_telling.result c.in_err-take_telling.field-0.0 e
    (takes_stopped start d c.args.seg.now c.take_telling.new.self put told c.args.station c.in_err-take_telling.field-0.0
    (relisted None start d c.args.seg.now c.args.course.now.frames.items put (joined c.args.course.now.parts.items) told c.make_part.ensures.same.0 (ap joined c.make_part.ensures.same.1) h) c.in_err-take_telling.ensures.answer)

pub returns-clause-took : goal.returns-clause-took
returns-clause-took c = λ start d h.
    let put = c.note.new.self.frames.items in
    let told = joined c.make_part.new.course.parts.items in
    takes_made start d c.args.seg.now c.take_telling.new.self put told (joined c.note.new.self.parts.items) c.args.station (Done c.take_telling.new.told)
    (relisted None start d c.args.seg.now c.args.course.now.frames.items put (joined c.args.course.now.parts.items) told (c.note.ensures.frames ∙ c.make_part.ensures.same.0) (ap joined c.make_part.ensures.same.1) h)
    c.in_ok-take_telling.ensures.answer c.note.ensures.told

pub returns-clause-taken : goal.returns-clause-taken
returns-clause-taken c = has_taken c.args.seg.now c.take_telling.new.self c.args.station (Done c.take_telling.new.told) c.requires c.in_ok-take_telling.ensures.answer
