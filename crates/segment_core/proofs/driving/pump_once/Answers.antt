use Rattle.std.proofs.Common.{◌≡◌, None, Err, ap, ◌∙◌, rules}
use Rattle.drive_course.specs.Joined.{joined}
use Rattle.segment_law.specs.Drive.{makes}
use Rattle.segment_law.specs.declared.call.Call.TheVariants.{Pump}
use Rattle.segment_law.specs.declared.reply.Reply.TheVariants.{Done}
use Rattle.segment_core.proofs.Drives.{relisted}
use Rattle.segment_core.proofs.Steps.{pump_made, pump_stopped, gone_by}
use Rattle.segment_core.proofs.driving.pump_once.Goals as goal

pub returns-in_err-make_pump_part : goal.returns-in_err-make_pump_part
returns-in_err-make_pump_part c = λ start d h.
    let e : c.from_residual.result ≡ Err c.in_err-make_pump_part.field-0.0 = search rules in
    let put = c.make_pump_part.new.course.frames.items in
    let told = joined c.make_pump_part.new.course.parts.items in
    gone_by start (makes d (Pump c.args.from c.args.to)) c.args.seg.now put told c.from_residual.result c.in_err-make_pump_part.field-0.0 e
    (pump_stopped start d c.args.seg.now c.args.seg.now put told c.args.from c.args.to c.in_err-make_pump_part.field-0.0
    (relisted None start d c.args.seg.now c.args.course.now.frames.items put (joined c.args.course.now.parts.items) told c.make_pump_part.ensures.same.0 (ap joined c.make_pump_part.ensures.same.1) h)
    c.one_byte.ensures c.in_err-make_pump_part.ensures.stopped)

pub returns-in_err-pump_telling : goal.returns-in_err-pump_telling
returns-in_err-pump_telling c = λ start d h.
    let e : c.from_residual-in_err-pump_telling.result ≡ Err c.in_err-pump_telling.field-0.0 = search rules in
    let put = c.make_pump_part.new.course.frames.items in
    let told = joined c.make_pump_part.new.course.parts.items in
    gone_by start (makes d (Pump c.args.from c.args.to)) c.pump_telling.new.self put told c.from_residual-in_err-pump_telling.result c.in_err-pump_telling.field-0.0 e
    (pump_stopped start d c.args.seg.now c.pump_telling.new.self put told c.args.from c.args.to c.in_err-pump_telling.field-0.0
    (relisted None start d c.args.seg.now c.args.course.now.frames.items put (joined c.args.course.now.parts.items) told c.make_pump_part.ensures.same.0 (ap joined c.make_pump_part.ensures.same.1) h)
    c.one_byte.ensures c.in_err-pump_telling.ensures.answer)

pub returns : goal.returns
returns c = λ start d h.
    let put = c.note.new.self.frames.items in
    let told = joined c.make_pump_part.new.course.parts.items in
    pump_made start d c.args.seg.now c.pump_telling.new.self put told (joined c.note.new.self.parts.items) c.args.from c.args.to (Done c.pump_telling.new.told)
    (relisted None start d c.args.seg.now c.args.course.now.frames.items put (joined c.args.course.now.parts.items) told (c.note.ensures.frames ∙ c.make_pump_part.ensures.same.0) (ap joined c.make_pump_part.ensures.same.1) h)
    c.one_byte.ensures c.in_ok-pump_telling.ensures.answer c.note.ensures.told
