use Rattle.std.proofs.Common.{Err, refl, sym, ap, ◌∙◌, subst}
use Rattle.drive_course.specs.Joined.{joined}
use Rattle.segment_law.specs.Drive.{Driven}
use Rattle.segment_core.specs.Drives.{HasGone, too_soon}
use Rattle.segment_state.specs.declared.stop.Stop.TheVariants.{Refused}
use Rattle.segment_state.proofs.Causes.{cause_refused}
use Rattle.segment_core.proofs.Steps.{pumps_once, pumps_later, pump_stopped}
use Rattle.segment_core.proofs.driving.pump_lane.Goals as goal

pub returns-then-is_too_soon : goal.returns-then-is_too_soon
returns-then-is_too_soon c = λ start d h.
    let gone = c.pump_in_time in
    pumps_later start d c.args.seg.now gone.new.seg c.args.course.now.frames.items gone.new.course.frames.items (joined c.args.course.now.parts.items) (joined gone.new.course.parts.items) c.args.from c.args.to gone.result h
    c.one_byte.ensures (ap too_soon (sym c.pump_refusal-cause.ensures) ∙ sym c.if-is_too_soon.ensures) (λ x k. gone.ensures start x k)

pub returns : goal.returns
returns c = λ start d h.
    let gone = c.pump_once in
    let same = pumps_once d c.args.seg.now c.args.from c.args.to h.segment h.end (ap too_soon (sym c.pump_refusal-cause.ensures) ∙ sym c.if-is_too_soon.ensures) in
    subst (λ (x : Driven). HasGone start x gone.new.seg gone.new.course.frames.items (joined gone.new.course.parts.items) gone.result) same (gone.ensures start d h)

pub returns-in-Some : goal.returns-in-Some
returns-in-Some c = λ start d h.
    let put = c.args.course.now.frames.items in
    let told = joined c.args.course.now.parts.items in
    let same = pumps_once d c.args.seg.now c.args.from c.args.to h.segment h.end (ap too_soon (sym c.pump_refusal-cause.ensures) ∙ sym c.if-is_too_soon.ensures) in
    subst (λ (x : Driven). HasGone start x c.args.seg.now put told (Err (Refused c.in-Some.cause))) same
    (pump_stopped start d c.args.seg.now c.args.seg.now put told c.args.from c.args.to (Refused c.in-Some.cause) h c.one_byte.ensures
    (cause_refused _ c.in-Some.cause (sym c.in-Some.is ∙ c.pump_refusal-cause.ensures), refl))
