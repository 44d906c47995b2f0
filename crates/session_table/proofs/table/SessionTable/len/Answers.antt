use Rattle.std.proofs.Common.{sym, ap, ◌∙◌}
use Rattle.std.specs.FinMap as map
use Rattle.session_table.proofs.Tables.{len_of_distinct}
use Rattle.session_table.proofs.table.SessionTable.len.Goals as goal

pub returns-clause-value : goal.returns-clause-value
returns-clause-value g c =
    c.len.ensures.len ∙ sym (len_of_distinct c.self.inside.places c.self.inside.index.entries c.len.ensures.distinct) ∙ ap map.len c.self.view_is
