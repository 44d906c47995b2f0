use Rattle.std.proofs.Common.{◌≡◌, ℕ, List, length, get_or, set, Option, option_to_list, ◌∷◌, ◌++◌, sym, ◌∙◌, ap, subst, arith, min, ◌-◌, vec_len, vec_capacity, deque_capacity, []}
use Rattle.segment_rings.specs.Views.{SeatView, has_noted_news, named_seat}
use Rattle.live_ends.specs.Waiting.{Waits}
use Rattle.live_ends.proofs.Lists.{no_items}
use Rattle.live_ends.specs.Homes.{AreQuiet, SeatsView}
use Rattle.live_ends.proofs.Quiet.{quiet-name}
use Rattle.live_ends.proofs.Waiting.{waits_first, waits_less, waits_end, not_below, at_default}
use Rattle.live_ends.proofs.seating.Seats.name.Goals as goal

pub index_mut-seat-requires : goal.index_mut-seat-requires
index_mut-seat-requires c =
    let i = c.self.inside in
    let w = c.pop_front.new.self.items in
    let e : i.news.items ≡ c.in-Some.k ∷ w = c.pop_front.ensures.items ∙ ap (λ (o : Option ℕ). option_to_list o ++ w) c.in-Some.is in
    let h = subst (λ (u : List ℕ). Waits has_noted_news i.seats.items u (deque_capacity i.news)) e c.self.invariant.1 in
    omega (arith, (waits_first has_noted_news i.seats.items c.in-Some.k w (deque_capacity i.news) h).0, i.seats.ok.0)

pub returns : goal.returns
returns c =
    let i = c.self.inside in
    let k = c.in-Some.k in
    let w = c.pop_front.new.self.items in
    let e : i.news.items ≡ k ∷ w = c.pop_front.ensures.items ∙ ap (λ (o : Option ℕ). option_to_list o ++ w) c.in-Some.is in
    let h = subst (λ (u : List ℕ). Waits has_noted_news i.seats.items u (deque_capacity i.news)) e c.self.invariant.1 in
    let first = waits_first has_noted_news i.seats.items k w (deque_capacity i.news) h in
    rw (← c.self.view_is) (first.0, λ x. (first.1 x, ap (set i.seats.items k) (c.name.ensures ∙ ap named_seat (at_default i.seats.items k c.index_mut-seat.result.now x first.0 c.index_mut-seat.ensures.value))))

pub invariant_of-self-2 : goal.invariant_of-self-2
invariant_of-self-2 c =
    let i = c.self.inside in
    let k = c.in-Some.k in
    let w = c.pop_front.new.self.items in
    let e : i.news.items ≡ k ∷ w = c.pop_front.ensures.items ∙ ap (λ (o : Option ℕ). option_to_list o ++ w) c.in-Some.is in
    let g = subst (λ (u : List ℕ). Waits has_noted_news i.seats.items u (deque_capacity i.news)) e c.self.invariant.1 in
    let h = subst (λ (n : ℕ). Waits has_noted_news i.seats.items (k ∷ w) n) (sym c.pop_front.ensures.capacity) g in
    let e' : c.name.new.self ≡ named_seat (get_or i.seats.items k c.index_mut-seat.result.now) = c.name.ensures ∙ ap named_seat c.index_mut-seat.ensures.value in (
      subst (λ (x : SeatView). AreQuiet i.homes.items (set i.seats.items k x)) (sym e') (quiet-name i.homes.items k i.seats.items c.index_mut-seat.result.now c.self.invariant.0),
      waits_less has_noted_news i.seats.items k c.name.new.self w (deque_capacity c.pop_front.new.self) (ap has_noted_news c.name.ensures ∙ not_below (length c.index_mut-seat.result.now.noted)) h,
    )

pub returns-in_default : goal.returns-in_default
returns-in_default c =
    let i = c.self.inside in
    let none : i.news.items ≡ [] = no_items i.news.items (omega (arith, c.in_default.ensures.cases.0)) in
    (ap {B = SeatsView} (λ (n : ℕ). record { items = i.seats.items; spare = min (vec_capacity i.seats) n - vec_len i.seats }) c.pop_front.ensures.capacity ∙ c.self.view_is, rw (← c.self.view_is) (waits_end has_noted_news i.seats.items i.news.items (deque_capacity i.news) none c.self.invariant.1))
