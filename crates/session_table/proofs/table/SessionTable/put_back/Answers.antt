use Rattle.std.proofs.Common.{◌≡◌, Some, None, sym, ap, ◌∙◌}
use Rattle.std.specs.Option.{option_copied_mut}
use Rattle.std.specs.FinMap as map
use Rattle.session_table.specs.Shape.{sessions_of}
use Rattle.session_table.specs.Shape.{content_of}
use Rattle.session_table.proofs.Tables.{found, get_place, view-written, linked-written}
use Rattle.session_table.proofs.table.SessionTable.put_back.Goals as goal

pub unreachable-requires : goal.unreachable-requires
unreachable-requires g c =
    let h : map.get (sessions_of c.self.inside.places c.self.inside.index.entries) c.args.held ≡ Some None = ap (λ m. map.get m c.args.held) c.self.view_is ∙ c.requires in
    let f = found _ _ c.args.held c.self.invariant None h in
    let leads = f.1.leads in
    let is = rw c.spend-key.ensures at c.find.ensures in
    cc

pub unreachable-requires-in-Some-into_content : goal.unreachable-requires-in-Some-into_content
unreachable-requires-in-Some-into_content g c =
    let h : map.get (sessions_of c.self.inside.places c.self.inside.index.entries) c.args.held ≡ Some None = ap (λ m. map.get m c.args.held) c.self.view_is ∙ c.requires in
    let leads = sym (rw c.spend-key.ensures at c.find.ensures) ∙ c.in-Some.is in
    let there = sym c.get_mut.ensures.value ∙ ap option_copied_mut c.in-Some-get_mut.is in
    let e = get_place _ _ c.args.held c.self.invariant c.in-Some.at _ leads there in
    let was = c.replace.ensures.value in
    let is = c.into_content.ensures in
    cc

pub invariant_of-self : goal.invariant_of-self
invariant_of-self g c =
    let leads = c.find.ensures in
    let at = c.in-Some.is in
    let there = sym c.get_mut.ensures.value ∙ ap option_copied_mut c.in-Some-get_mut.is in
    linked-written _ _ c.spend-key.result c.self.invariant c.in-Some.at _ (sym leads ∙ at) there c.replace.new.dest

pub returns : goal.returns
returns g c =
    let there = sym c.get_mut.ensures.value ∙ ap option_copied_mut c.in-Some-get_mut.is in
    let leads = sym (rw c.spend-key.ensures at c.find.ensures) ∙ c.in-Some.is in
    view-written _ _ c.args.held c.self.invariant c.in-Some.at _ leads there c.replace.new.dest
    ∙ (λ i. map.insert (c.self.view_is i) c.args.held (content_of (c.replace.ensures.after i)))
