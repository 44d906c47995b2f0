use Rattle.std.proofs.Common.{rules}
use Rattle.port_relay.proofs.Moves.{merges, holds_the_rest}
use Rattle.port_relay.proofs.line.rejoin.Goals as goal

pub absorb-requires-clause-rule : goal.absorb-requires-clause-rule
absorb-requires-clause-rule c = merges _ _ _ _ (search rules) (search rules)

pub learn_as-requires-clause-rule : goal.learn_as-requires-clause-rule
learn_as-requires-clause-rule c = λ items views h at puts takes. holds_the_rest _ _ puts takes items views h at
