use Rattle.std.proofs.Common.{◌+◌, length, sym, ap, ◌∙◌, subst}
use Rattle.segment_rings.specs.Ends.{submits}
use Rattle.segment_rings.specs.Submitting.{why_refused}
use Rattle.port_relay.specs.Working.{HasPushed}
use Rattle.port_relay.proofs.Worked.{submitted_one}
use Rattle.port_relay.proofs.working.submit_one.Goals as goal

pub returns-in-Ok-clause-pushed : goal.returns-in-Ok-clause-pushed
returns-in-Ok-clause-pushed c start v h =
    let old = c.args.client.now in
    let new = c.submit.new.self in
    let d = c.in-Some.delivery in
    subst (λ o. HasPushed c.args.to start new v record { count = c.args.worked.now.count + 1; hand = o }) (sym c.take.ensures.after)
    (submitted_one c.args.to start old new v d c.args.worked.now h (sym c.take.ensures.value ∙ c.in-Some.is)
    (c.in-Ok.ensures.new ∙ ap (λ n. submits old c.args.to n d.bytes new.free new.gone) c.raw.ensures.value)
    c.submit.ensures.gone.0
    (ap (λ n. why_refused old.station c.args.to n (length d.bytes)) (sym c.raw.ensures.value) ∙ c.in-Ok.ensures.fit))
