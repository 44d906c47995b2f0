use Rattle.segment_law.specs.declared.call.Call.TheVariants.{Transmit}
use Rattle.std.proofs.Common.{refl, []}
use Rattle.one_station.proofs.AtOnce.{looked_at_once, passed_at_once}
use Rattle.one_station.proofs.node.Node.pass_own.Goals as goal

pub returns-then-transmit_and_take : goal.returns-then-transmit_and_take
returns-then-transmit_and_take c =
    passed_at_once c.args.self.now c.self.inside.segment c.transmit_and_take.new.self c.self.inside.address c.self.inside.told.events c.self.inside.has_missed c.self.inside.quiet_until tt c.self.view_is c.if-transmit_and_take.ensures.made

pub invariant_of-self : goal.invariant_of-self
invariant_of-self c =
    let l = looked_at_once c.self.inside.segment c.transmit_and_take.new.self c.self.inside.address (Transmit c.self.inside.address) [] c.if-transmit_and_take.ensures.made refl c.self.invariant.stood c.self.invariant.looked in
    record { stood = l.0; looked = l.1 }
