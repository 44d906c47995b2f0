use Rattle.std.proofs.Common.{◌≡◌, ℕ, List, ◌∷◌, ◌<◌, get_or, set, refl, sym, ap, ◌∙◌, subst, []}
use Rattle.message_events.specs.declared.event.Event.{Event}
use Rattle.message_events.specs.declared.event.Event.TheVariants as event
use Rattle.segment_rings.specs.declared.words.Delivery.{Delivery}
use Rattle.segment_rings.specs.Views.{DoorView, with_delivery, has_pushed_news}
use Rattle.live_ends.specs.Ends.{NoneAt, give_all}
use Rattle.live_ends.specs.Places.{TakesAll, EnoughFor, IsPlaceIn}
use Rattle.live_ends.proofs.Giving.{give_absent, give_at, takes_at, give_all_none}
use Rattle.live_ends.proofs.Buffers.{popped_two}
use Rattle.live_ends.proofs.Waiting.{marks_in}
use Rattle.live_ends.proofs.hand.hand_one.Goals as goal

pub returns-in_default-clause-doors : goal.returns-in_default-clause-doors
returns-in_default-clause-doors c =
    let m = c.in-Given in
    let ds = c.args.doors.now.items in
    let none : NoneAt m.port ds = subst (NoneAt m.port) c.as_slice.ensures.value c.in_default.ensures in
    sym (ap (λ (e : Event). give_all (e ∷ []) ds) m.is ∙ give_absent m.port m.from m.to m.pgn m.bytes ds none)

pub filled-requires-in-Given : goal.filled-requires-in-Given
filled-requires-in-Given c =
    let m = c.in-Given in
    let n = c.requires.enough.0 in
    let h : EnoughFor n (event.Given m.port m.from m.to m.pgn m.bytes ∷ []) c.args.buffers.now.items = subst (λ (e : Event). EnoughFor n (e ∷ []) c.args.buffers.now.items) m.is c.requires.enough.1 in
    (popped_two n [] m.port m.from m.to m.pgn m.bytes c.args.buffers.now.items c.pop.new.self.items c.pop-in-Given.new.self.items c.in-Some-pop.first c.in-Some-pop-2.second c.in-Some-pop.ensures.items c.in-Some-pop-2.ensures.items h).1.1

pub filled-requires : goal.filled-requires
filled-requires c =
    let m = c.in-Given in
    let n = c.requires.enough.0 in
    let h : EnoughFor n (event.Given m.port m.from m.to m.pgn m.bytes ∷ []) c.args.buffers.now.items = subst (λ (e : Event). EnoughFor n (e ∷ []) c.args.buffers.now.items) m.is c.requires.enough.1 in
    (popped_two n [] m.port m.from m.to m.pgn m.bytes c.args.buffers.now.items c.pop.new.self.items c.pop-in-Given.new.self.items c.in-Some-pop.first c.in-Some-pop-2.second c.in-Some-pop.ensures.items c.in-Some-pop-2.ensures.items h).1.0

pub give-is_first-requires-clause-free : goal.give-is_first-requires-clause-free
give-is_first-requires-clause-free c =
    let m = c.in-Given in
    let ds = c.args.doors.now.items in
    let d = c.index_mut-door.result.now in
    let k = c.in-Some.k in
    let here : IsPlaceIn ds m.port k = subst (λ (xs : List DoorView). IsPlaceIn xs m.port k) c.as_slice.ensures.value c.in-Some.ensures in
    let h = subst (λ (e : Event). TakesAll (e ∷ []) ds) m.is c.requires.takes in
    let f : 0 < (get_or ds k d).free = (takes_at m.port m.from m.to m.pgn m.bytes k ds d here.0 (here.1 d) h).0 in
    subst (λ (x : DoorView). 0 < x.free) (sym c.index_mut-door.ensures.value) f

pub give-is_first-requires-clause-spare : goal.give-is_first-requires-clause-spare
give-is_first-requires-clause-spare c =
    let m = c.in-Given in
    let ds = c.args.doors.now.items in
    let d = c.index_mut-door.result.now in
    let k = c.in-Some.k in
    let here : IsPlaceIn ds m.port k = subst (λ (xs : List DoorView). IsPlaceIn xs m.port k) c.as_slice.ensures.value c.in-Some.ensures in
    let h = subst (λ (e : Event). TakesAll (e ∷ []) ds) m.is c.requires.takes in
    let f : 0 < (get_or ds k d).spare = (takes_at m.port m.from m.to m.pgn m.bytes k ds d here.0 (here.1 d) h).1 in
    subst (λ (x : DoorView). 0 < x.spare) (sym c.index_mut-door.ensures.value) f

pub returns-in-Some-pop-2-clause-doors : goal.returns-in-Some-pop-2-clause-doors
returns-in-Some-pop-2-clause-doors c =
    let m = c.in-Given in
    let ds = c.args.doors.now.items in
    let d = c.index_mut-door.result.now in
    let k = c.in-Some.k in
    let here : IsPlaceIn ds m.port k = subst (λ (xs : List DoorView). IsPlaceIn xs m.port k) c.as_slice.ensures.value c.in-Some.ensures in
    let x : Delivery = record { from = m.from; to = m.to; pgn = m.pgn; bytes = m.bytes } in
    let same : c.delivery-pushed.result ≡ x = c.delivery-pushed.ensures ∙ ap (λ (b : List ℕ). record { from = m.from; to = m.to; pgn = m.pgn; bytes = b }) c.filled.ensures in
    let gave : c.give-is_first.new.self ≡ with_delivery (get_or ds k d) x = c.give-is_first.ensures.given ∙ ap (λ (y : Delivery). with_delivery d y) same ∙ ap (λ (y : DoorView). with_delivery y x) c.index_mut-door.ensures.value in
    ap (set ds k) gave ∙ give_at m.port m.from m.to m.pgn m.bytes k ds d here.0 (here.1 d) c.requires.apart ∙ sym (ap (λ (e : Event). give_all (e ∷ []) ds) m.is)

pub returns-in-Some-pop-2-clause-enough : goal.returns-in-Some-pop-2-clause-enough
returns-in-Some-pop-2-clause-enough c n es h =
    let m = c.in-Given in
    let g : EnoughFor n (event.Given m.port m.from m.to m.pgn m.bytes ∷ es) c.args.buffers.now.items = subst (λ (e : Event). EnoughFor n (e ∷ es) c.args.buffers.now.items) m.is h in
    (popped_two n es m.port m.from m.to m.pgn m.bytes c.args.buffers.now.items c.pop.new.self.items c.pop-in-Given.new.self.items c.in-Some-pop.first c.in-Some-pop-2.second c.in-Some-pop.ensures.items c.in-Some-pop-2.ensures.items g).0

pub returns-in-Outcome-clause-doors : goal.returns-in-Outcome-clause-doors
returns-in-Outcome-clause-doors c =
    let m = c.in-Outcome in
    let ds = c.args.doors.now.items in
    sym (ap (λ (e : Event). give_all (e ∷ []) ds) m.is ∙ give_all_none (event.Outcome m.from m.to m.number m.outcome ∷ []) ds (λ q. refl))

pub returns-in-Some-pop-2-clause-news : goal.returns-in-Some-pop-2-clause-news
returns-in-Some-pop-2-clause-news c =
    let ds = c.args.doors.now.items in
    let d = c.index_mut-door.result.now in
    let k = c.in-Some.k in
    let here : IsPlaceIn ds c.in-Given.port k = subst (λ (xs : List DoorView). IsPlaceIn xs c.in-Given.port k) c.as_slice.ensures.value c.in-Some.ensures in
    marks_in has_pushed_news c.give-is_first.result ds k d c.give-is_first.new.self c.told_of.result c.told_of.ensures here.0 c.index_mut-door.ensures.value (λ t. (c.give-is_first.ensures.first t, c.give-is_first.ensures.news)) (λ t. c.give-is_first.ensures.news ∙ sym (c.give-is_first.ensures.again t))
