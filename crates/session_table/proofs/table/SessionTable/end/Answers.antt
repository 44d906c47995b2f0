use Rattle.std.proofs.Common.{◌≡◌, ◌≤◌, Some, None, length, sym, ap, ◌∙◌, arith}
use Rattle.std.specs.FinMap as map
use Rattle.session_table.specs.Shape.{sessions_of}
use Rattle.session_table.proofs.Tables.{found, get_place, view-ended, linked-ended}
use Rattle.session_table.proofs.table.SessionTable.end.Goals as goal

pub unreachable-requires : goal.unreachable-requires
unreachable-requires g c =
    let h : map.get (sessions_of c.self.inside.places c.self.inside.index.entries) c.args.held ≡ Some None = ap (λ m. map.get m c.args.held) c.self.view_is ∙ c.requires in
    let f = found _ _ c.args.held c.self.invariant None h in
    let leads = f.1.leads in
    let is = rw c.spend-key.ensures at c.unlink.ensures.value in
    cc

pub unreachable-requires-in-Some-into_content : goal.unreachable-requires-in-Some-into_content
unreachable-requires-in-Some-into_content g c =
    let h : map.get (sessions_of c.self.inside.places c.self.inside.index.entries) c.args.held ≡ Some None = ap (λ m. map.get m c.args.held) c.self.view_is ∙ c.requires in
    let leads = sym (rw c.spend-key.ensures at c.unlink.ensures.value) ∙ c.in-Some.is in
    let there = sym c.try_remove.ensures.value ∙ c.in-Some-try_remove.is in
    let e = get_place _ _ c.args.held c.self.invariant c.in-Some.at _ leads there in
    let is = c.into_content.ensures in
    cc

pub invariant_of-self : goal.invariant_of-self
invariant_of-self g c =
    let leads = sym c.unlink.ensures.value ∙ c.in-Some.is in
    let few : length c.unlink.new.index.entries ≤ 32 = omega (arith, c.unlink.ensures.len, c.self.invariant.few) in
    linked-ended _ _ _ _ c.spend-key.result c.in-Some.at c.self.invariant leads c.try_remove.ensures.updates c.unlink.ensures.turns few

pub returns : goal.returns
returns g c =
    let leads = sym c.unlink.ensures.value ∙ c.in-Some.is in
    view-ended _ _ _ _ c.spend-key.result c.in-Some.at c.self.invariant leads c.try_remove.ensures.updates c.unlink.ensures.turns
    ∙ (λ i. map.remove (c.self.view_is i) (c.spend-key.ensures i))
