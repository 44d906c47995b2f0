use Rattle.std.proofs.Common.{◌≡◌, None, sym, ap, ◌∙◌, refl}
use Rattle.std.specs.Option.{option_map, option_flatten}
use Rattle.std.specs.FinMap as map
use Rattle.session_table.specs.Shape.{content_at}
use Rattle.session_table.proofs.Tables.{absent_of_key, get-sessions_of}
use Rattle.session_table.proofs.table.SessionTable.get.Goals as goal

pub returns-in_err-find : goal.returns-in_err-find
returns-in_err-find g c =
    let leads = sym c.find.ensures ∙ c.in_err-find.was in
    let e : map.get c.args.self.now c.args.key ≡ None = sym (ap (λ m. map.get m c.args.key) c.self.view_is) ∙ absent_of_key _ _ c.args.key c.self.invariant leads in
    rw (e, c.from_residual.ensures) refl

pub returns : goal.returns
returns g c =
    let leads = sym c.find.ensures ∙ c.in_ok-find.was in
    let e = sym (ap (λ m. map.get m c.args.key) c.self.view_is) ∙ get-sessions_of c.self.inside.places c.self.inside.index.entries c.args.key ∙ ap (option_map (content_at c.self.inside.places)) leads in
    c.content.ensures ∙ sym (ap option_flatten e)
