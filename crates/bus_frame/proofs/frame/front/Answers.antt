use Rattle.std.proofs.Common.{arith}
use Rattle.bus_frame.proofs.Fronts.{front_fits}
use Rattle.bus_frame.proofs.frame.front.Goals as goal

pub returns-clause-in_range : goal.returns-clause-in_range
returns-clause-in_range c = front_fits c.args.bytes.now c.args.len (λ i. omega (arith, c.type_inv.bytes i))
