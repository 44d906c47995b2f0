use Rattle.std.proofs.Common.{◌==◌, not, rules, tests}
use Rattle.std.proofs.lemmas.Fn.{filter_same}
use Rattle.port_table.proofs.table.remove.Goals as goal

pub returns-clause-items : goal.returns-clause-items
returns-clause-items c =
    filter_same _ (λ p. not (p.number == c.args.number)) _ (λ x b f k. search (rules, tests)) _ _ c.retain.ensures.filtered
