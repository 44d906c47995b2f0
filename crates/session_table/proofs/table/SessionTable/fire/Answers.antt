use Rattle.std.proofs.Common.{◌≡◌, None, sym, ap, ◌∙◌, refl}
use Rattle.std.specs.Option.{option_copied_mut}
use Rattle.std.specs.FinMap as map
use Rattle.session_table.specs.Shape.{content_of}
use Rattle.session_table.specs.Leading.{by_timer}
use Rattle.session_table.proofs.Tables.{absent_of_key, get_place, view-written, linked-written, led_at, steady_by_timer}
use Rattle.session_table.proofs.table.SessionTable.fire.Goals as goal

pub returns-in_default : goal.returns-in_default
returns-in_default g c =
    let leads = sym c.find.ensures ∙ c.in_default.is in
    let e : map.get c.args.self.now c.args.key ≡ None = sym (ap (λ m. map.get m c.args.key) c.self.view_is) ∙ absent_of_key _ _ c.args.key c.self.invariant leads in
    rw e (refl, refl, refl)

pub invariant_of-self-2 : goal.invariant_of-self-2
invariant_of-self-2 g c =
    let leads = sym c.find.ensures ∙ c.in-Some.is in
    let there = sym c.get_mut.ensures.value ∙ ap option_copied_mut c.in-Some-get_mut.is in
    linked-written _ _ c.args.key c.self.invariant c.in-Some.at _ leads there c.fire.new.self

pub returns : goal.returns
returns g c =
    let leads = sym c.find.ensures ∙ c.in-Some.is in
    let there = sym c.get_mut.ensures.value ∙ ap option_copied_mut c.in-Some-get_mut.is in
    let e = sym (ap (λ m. map.get m c.args.key) c.self.view_is) ∙ get_place _ _ c.args.key c.self.invariant c.in-Some.at _ leads there in
    led_at c.args.self.now c.args.key (by_timer c.args.flow c.args.now) (steady_by_timer c.args.flow c.args.now) c.fire.result c.args.queue.now c.fire.new.queue _ (content_of c.fire.new.self) _ e
    (view-written _ _ c.args.key c.self.invariant c.in-Some.at _ leads there c.fire.new.self
    ∙ (λ i. map.insert (c.self.view_is i) c.args.key (content_of c.fire.new.self)))
    c.fire.ensures
