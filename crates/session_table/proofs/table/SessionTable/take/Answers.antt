use Rattle.std.proofs.Common.{◌≡◌, Some, None, sym, ap, ◌∙◌, refl}
use Rattle.std.specs.Option.{option_copied_mut}
use Rattle.std.specs.FinMap as map
use Rattle.responder.specs.declared.receiver.Left.TheVariants.{Nothing}
use Rattle.session_table.specs.declared.place.Slot.TheVariants.{Full}
use Rattle.session_table.specs.Shape.{content_of}
use Rattle.session_table.specs.Leading.{by_frame}
use Rattle.session_table.proofs.Tables.{absent_of_key, get_place, view-written, linked-written, led_at, steady_by_frame}
use Rattle.session_table.proofs.table.SessionTable.take.Goals as goal

pub returns-in_default : goal.returns-in_default
returns-in_default g c =
    let leads = sym c.find.ensures ∙ c.in_default.is in
    let e : map.get c.args.self.now c.args.key ≡ None = sym (ap (λ m. map.get m c.args.key) c.self.view_is) ∙ absent_of_key _ _ c.args.key c.self.invariant leads in
    rw e (refl, refl, refl)

pub returns-in_default-slot : goal.returns-in_default-slot
returns-in_default-slot g c =
    let leads = sym c.find.ensures ∙ c.in-Some.is in
    let there = sym c.get_mut.ensures.value ∙ ap option_copied_mut c.in-Some-get_mut.is in
    let e = sym (ap (λ m. map.get m c.args.key) c.self.view_is) ∙ get_place _ _ c.args.key c.self.invariant c.in-Some.at _ leads there in
    let none = e ∙ ap (λ x. Some (content_of x)) c.in_default-slot.is in
    led_at c.args.self.now c.args.key (by_frame c.args.wire.now c.args.room c.args.flow c.args.now) (steady_by_frame c.args.wire.now c.args.room c.args.flow c.args.now) Nothing c.args.queue.now c.args.queue.now None None _ none
    (view-written _ _ c.args.key c.self.invariant c.in-Some.at _ leads there c.in-Some-get_mut.found.now.slot
    ∙ (λ i. map.insert (c.self.view_is i) c.args.key (content_of c.in-Some-get_mut.found.now.slot))
    ∙ ap (λ x. map.insert c.args.self.now c.args.key (content_of x)) c.in_default-slot.is)
    (refl, refl)

pub invariant_of-self-2 : goal.invariant_of-self-2
invariant_of-self-2 g c =
    let leads = sym c.find.ensures ∙ c.in-Some.is in
    let there = sym c.get_mut.ensures.value ∙ ap option_copied_mut c.in-Some-get_mut.is in
    linked-written _ _ c.args.key c.self.invariant c.in-Some.at _ leads there _

pub returns : goal.returns
returns g c =
    let leads = sym c.find.ensures ∙ c.in-Some.is in
    let there = sym c.get_mut.ensures.value ∙ ap option_copied_mut c.in-Some-get_mut.is in
    let e = sym (ap (λ m. map.get m c.args.key) c.self.view_is) ∙ get_place _ _ c.args.key c.self.invariant c.in-Some.at _ leads there in
    let full = e ∙ ap (λ x. Some (content_of x)) c.in-Full.is in
    led_at c.args.self.now c.args.key (by_frame c.args.wire.now c.args.room c.args.flow c.args.now) (steady_by_frame c.args.wire.now c.args.room c.args.flow c.args.now) c.take.result c.args.queue.now c.take.new.queue _ (content_of (Full c.in-Full._bound c.take.new.self)) _ full
    (view-written _ _ c.args.key c.self.invariant c.in-Some.at _ leads there (Full c.in-Full._bound c.take.new.self)
    ∙ (λ i. map.insert (c.self.view_is i) c.args.key (content_of (Full c.in-Full._bound c.take.new.self))))
    (refl, c.take.ensures)
