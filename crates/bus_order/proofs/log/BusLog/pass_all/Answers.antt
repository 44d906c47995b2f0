use Rattle.std.proofs.Common.{◌≡◌, ◌<◌, ◌+◌, ◌∙◌, true, refl, sym, ap, length, replicate, arith}
use Rattle.bus_order.specs.Bus.{lowest, released}
use Rattle.bus_order.proofs.Abreast.{passed_all, stand_abreast}
use Rattle.bus_order.proofs.log.BusLog.pass_all.Goals as goal

pub returns-clause-passed : goal.returns-clause-passed
returns-clause-passed c =
    let bus = c.args.self.now in
    let n = length bus.cursors in
    let some : 0 < n = omega (arith, c.if-stations-eq0.false, c.stations.ensures) in
    let place : c.taken.inside.place ≡ lowest bus.cursors = ap (λ x. x.place) c.taken.view_is ∙ ap (λ x. x.place) c.at.ensures.value ∙ (stand_abreast bus c.requires.abreast).each 0 some in
    c.release.ensures.released
    ∙ ap released (c.bring_to.ensures.moved ∙ ap (λ to. record bus { cursors = replicate n to }) c.taken-to.ensures ∙ (λ i. record bus { cursors = replicate n (record { place = place i + 1; repeatable = true }) }))
    ∙ sym (passed_all n bus c.at.ensures.sound c.requires.abreast refl some)
