use Rattle.std.proofs.Common.{sym, ap, ◌∙◌}
use Rattle.log_decode.specs.Stray.{bus_stray}
use Rattle.log_decode.proofs.Buses.{there, taken_there}
use Rattle.log_decode.proofs.decoder.Decoder.take.Goals as goal

pub returns-in_ok-stray-in-Some-clause-told : goal.returns-in_ok-stray-in-Some-clause-told
returns-in_ok-stray-in-Some-clause-told c =
    let p = sym c.place_of.ensures.place ∙ c.in-Some.is in
    let v = there c.args.iface c.self.inside.buses.entries c.in-Some.at c.index_mut-bus.result.now p c.index_mut-bus.ensures.value in
    rw (c.time-self-inside.ensures, sym c.self.view_is)
    (taken_there c.self.inside.most c.self.inside.time c.args.time c.in-Some.at c.args.iface c.args.frame.now c.self.inside.buses.entries c.index_mut-bus.result.now c.take.new.self c.args.told.now.items c.take.new.told.items p v
    c.in_ok-stray-in-Some.ensures.told)

pub returns-in_ok-stray-in-Some-clause-stray : goal.returns-in_ok-stray-in-Some-clause-stray
returns-in_ok-stray-in-Some-clause-stray c =
    let p = sym c.place_of.ensures.place ∙ c.in-Some.is in
    let v = there c.args.iface c.self.inside.buses.entries c.in-Some.at c.index_mut-bus.result.now p c.index_mut-bus.ensures.value in
    rw (sym c.self.view_is) (c.in_ok-stray-in-Some.ensures.stray ∙ ap (λ b. bus_stray b c.args.time c.args.iface c.args.frame.now) (sym v))
