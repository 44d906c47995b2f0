use Rattle.segment_state.specs.Answers.{reply_with}
use Rattle.std.proofs.Common.{◌≡◌, ℕ, [], Err, subst, rules}
use Rattle.drive_course.specs.Joined.{joined}
use Rattle.segment_law.specs.Drive.{makes}
use Rattle.segment_law.specs.declared.call.Call.TheVariants.{Pump, Tick}
use Rattle.segment_core.specs.Drives.{HasGone}
use Rattle.segment_core.proofs.Steps.{tick_made, tick_stopped, gone_by}
use Rattle.segment_core.proofs.driving.pump_in_time.Goals as goal

pub returns-in_err-_done : goal.returns-in_err-_done
returns-in_err-_done c = λ start d h.
    let e : c.from_residual.result ≡ Err c.in_err-_done.field-0.0 = search rules in
    let put = c.args.course.now.frames.items in
    let told = joined c.args.course.now.parts.items in
    let gone = tick_stopped start d c.args.seg.now c.tick.new.self put told c.missing-missing.result c.args.from c.args.to c.in_err-_done.field-0.0 h c.in_err-_done.ensures in
    subst (λ (n : ℕ). HasGone start (makes (makes d (Tick n)) (Pump c.args.from c.args.to)) c.tick.new.self put told c.from_residual.result) c.missing-missing.ensures
    (gone_by start (makes (makes d (Tick c.missing-missing.result)) (Pump c.args.from c.args.to)) c.tick.new.self put told c.from_residual.result c.in_err-_done.field-0.0 e gone)

pub returns : goal.returns
returns c = λ start d h.
    let put = c.args.course.now.frames.items in
    let told = joined c.args.course.now.parts.items in
    let ticked = tick_made start d c.args.seg.now c.tick.new.self put told c.missing-missing.result (reply_with c.in_ok-_done._done []) h c.in_ok-_done.ensures in
    let gone = c.pump_once.ensures start (makes d (Tick c.missing-missing.result)) ticked in
    subst (λ (n : ℕ). HasGone start (makes (makes d (Tick n)) (Pump c.args.from c.args.to)) c.pump_once.new.seg c.pump_once.new.course.frames.items (joined c.pump_once.new.course.parts.items) c.pump_once.result) c.missing-missing.ensures gone
