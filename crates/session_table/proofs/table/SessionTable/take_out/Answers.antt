use Rattle.std.proofs.Common.{◌≡◌, Some, None, sym, ap, ◌∙◌, refl}
use Rattle.std.specs.Option.{option_copied_mut}
use Rattle.std.specs.FinMap as map
use Rattle.session_table.specs.Shape.{content_of}
use Rattle.session_table.proofs.Tables.{absent_of_key, get_place, get_inserted, view-written, linked-written}
use Rattle.session_table.proofs.table.SessionTable.take_out.Goals as goal

pub returns-in_err-at-clause-value : goal.returns-in_err-at-clause-value
returns-in_err-at-clause-value g c =
    let leads = sym c.find.ensures ∙ c.in_err-at.was in
    let e : map.get c.args.self.now c.args.key ≡ None = sym (ap (λ m. map.get m c.args.key) c.self.view_is) ∙ absent_of_key _ _ c.args.key c.self.invariant leads in
    rw e c.from_residual.ensures

pub returns-in_err-bound-clause-value : goal.returns-in_err-bound-clause-value
returns-in_err-bound-clause-value g c =
    let leads = sym c.find.ensures ∙ c.in_ok-at.was in
    let there = sym c.get_mut.ensures.value ∙ ap option_copied_mut (c.in_ok-place.was) in
    let e = sym (ap (λ m. map.get m c.args.key) c.self.view_is) ∙ get_place _ _ c.args.key c.self.invariant c.in_ok-at.at _ leads there in
    let was = ap content_of (sym c.replace.ensures.value) ∙ sym c.into_content.ensures ∙ c.in_err-bound.was in
    rw (e ∙ ap Some was) c.from_residual-in_err-bound.ensures

pub invariant_of-self-2 : goal.invariant_of-self-2
invariant_of-self-2 g c =
    let leads = sym c.find.ensures ∙ c.in_ok-at.was in
    let there = sym c.get_mut.ensures.value ∙ ap option_copied_mut (c.in_ok-place.was) in
    linked-written _ _ c.args.key c.self.invariant c.in_ok-at.at _ leads there c.replace.new.dest

pub returns-clause-value : goal.returns-clause-value
returns-clause-value g c =
    let leads = sym c.find.ensures ∙ c.in_ok-at.was in
    let there = sym c.get_mut.ensures.value ∙ ap option_copied_mut (c.in_ok-place.was) in
    let e = sym (ap (λ m. map.get m c.args.key) c.self.view_is) ∙ get_place _ _ c.args.key c.self.invariant c.in_ok-at.at _ leads there in
    let was = ap content_of (sym c.replace.ensures.value) ∙ sym c.into_content.ensures ∙ c.in_ok-bound.was in
    rw (e ∙ ap Some was, c.new.ensures) refl

pub returns-clause-held : goal.returns-clause-held
returns-clause-held g c =
    let leads = sym c.find.ensures ∙ c.in_ok-at.was in
    let there = sym c.get_mut.ensures.value ∙ ap option_copied_mut (c.in_ok-place.was) in
    view-written _ _ c.args.key c.self.invariant c.in_ok-at.at _ leads there c.replace.new.dest
    ∙ (λ i. map.insert (c.self.view_is i) c.args.key (content_of (c.replace.ensures.after i)))

pub returns-clause-token : goal.returns-clause-token
returns-clause-token g c =
    let leads = sym c.find.ensures ∙ c.in_ok-at.was in
    let there = sym c.get_mut.ensures.value ∙ ap option_copied_mut c.in_ok-place.was in
    (λ i. map.get ((view-written _ _ c.args.key c.self.invariant c.in_ok-at.at _ leads there c.replace.new.dest
    ∙ (λ j. map.insert (c.self.view_is j) c.args.key (content_of (c.replace.ensures.after j)))) i) (c.new.ensures i))
    ∙ get_inserted c.args.self.now c.args.key None
