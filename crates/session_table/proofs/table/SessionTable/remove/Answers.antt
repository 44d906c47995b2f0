use Rattle.std.proofs.Common.{◌≡◌, ◌≤◌, Option, Some, None, length, sym, ap, ◌∙◌, arith}
use Rattle.std.specs.Prelude.{OnSome, IfNone}
use Rattle.std.specs.Option.{option_flatten, option_map}
use Rattle.std.specs.FinMap as map
use Rattle.std.specs.Map.Iter.{deref_pair}
use Rattle.session_table.specs.declared.incoming.Incoming.{Incoming}
use Rattle.session_table.proofs.Tables.{found, get_place, view-ended, linked-ended}
use Rattle.session_table.proofs.table.SessionTable.remove.Goals as goal

there_is : {T : Type 0} (a : Option (Option (T × Incoming))) (v : T × Incoming) → Some v ≡ option_flatten a → a ≡ Some (Some v)
there_is None v e = absurd cc
there_is (Some None) v e = absurd cc
there_is (Some (Some w)) v e = ap (λ x. Some x) (sym e)

in_each : {A : Type 0} {P : Type 0} (o : Option A) → P → OnSome o P
in_each None p = tt
in_each (Some x) p = p

never : {A : Type 0} (P : Type 0) (o : Option A) (v : A) → Some v ≡ o → IfNone o P
never P None v e = absurd cc
never P (Some x) v e = tt

pub unreachable-requires : goal.unreachable-requires
unreachable-requires g c =
    let there = there_is _ _ (sym (ap (option_map deref_pair) c.in-Some.is) ∙ c.get.ensures) in
    let h = ap (λ m. map.get m c.args.key) c.self.view_is ∙ there in
    let f = found _ _ c.args.key c.self.invariant _ h in
    let leads = f.1.leads in
    let is = c.unlink.ensures.value in
    cc

pub invariant_of-self : goal.invariant_of-self
invariant_of-self g c =
    let leads = sym c.unlink.ensures.value ∙ c.in-Some-unlink.is in
    let few : length c.unlink.new.index.entries ≤ 32 = omega (arith, c.unlink.ensures.len, c.self.invariant.few) in
    linked-ended _ _ _ _ c.args.key c.in-Some-unlink.at c.self.invariant leads c.try_remove.ensures.updates c.unlink.ensures.turns few

pub returns-clause-value : goal.returns-clause-value
returns-clause-value g c =
    let leads = sym c.unlink.ensures.value ∙ c.in-Some-unlink.is in
    let there = sym c.try_remove.ensures.value ∙ c.in-Some-try_remove.is in
    let e = sym (ap (λ m. map.get m c.args.key) c.self.view_is) ∙ get_place _ _ c.args.key c.self.invariant c.in-Some-unlink.at _ leads there in
    c.into_content.ensures ∙ sym (ap option_flatten e)

pub returns-clause-removed : goal.returns-clause-removed
returns-clause-removed g c =
    let leads = sym c.unlink.ensures.value ∙ c.in-Some-unlink.is in
    in_each c.into_content.result
    (view-ended _ _ _ _ c.args.key c.in-Some-unlink.at c.self.invariant leads c.try_remove.ensures.updates c.unlink.ensures.turns
    ∙ (λ i. map.remove (c.self.view_is i) c.args.key))

pub returns-clause-absent : goal.returns-clause-absent
returns-clause-absent g c =
    never _ c.into_content.result _ (sym (ap (option_map deref_pair) c.in-Some.is) ∙ c.get.ensures ∙ sym (returns-clause-value g c))
