use Rattle.std.proofs.Common.{◌≡◌, Err, refl, sym, ◌∙◌, rules}
use Rattle.segment_state.specs.declared.stop.Stop.TheVariants.{OutOfMemory}
use Rattle.segment_state.proofs.Causes.{cause_refused, no_cause_passes}
use Rattle.segment_core.proofs.driving.grow_course.Goals as goal

pub returns-in-Some-clause-stopped : goal.returns-in-Some-clause-stopped
returns-in-Some-clause-stopped c = (cause_refused _ c.in-Some.cause c.in-Some.ensures, refl)

pub returns-in_err-reserve-clause-stopped : goal.returns-in_err-reserve-clause-stopped
returns-in_err-reserve-clause-stopped c =
    let e : c.from_residual.result ≡ Err OutOfMemory = search rules in
    rw e (no_cause_passes _ (sym c.in_default.is ∙ c.transmit_refusal.ensures), refl)
