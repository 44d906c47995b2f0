use Rattle.std.proofs.Common.{is_some, sym, ap, ◌∙◌}
use Rattle.std.specs.FinMap as map
use Rattle.session_table.proofs.Tables.{contains-sessions_of}
use Rattle.session_table.proofs.table.SessionTable.contains.Goals as goal

pub returns : goal.returns
returns g c =
    c.is_some.ensures ∙ ap is_some c.find.ensures
    ∙ sym (contains-sessions_of c.self.inside.places c.self.inside.index.entries c.args.key)
    ∙ ap (λ m. map.contains_key m c.args.key) c.self.view_is
