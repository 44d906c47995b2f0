use Rattle.std.proofs.Common.{◌≡◌, ℕ, List, length, set, Option, option_to_list, ◌∷◌, ◌++◌, sym, ◌∙◌, ap, subst, arith, min, ◌-◌, vec_len, vec_capacity, deque_capacity, []}
use Rattle.segment_rings.specs.Views.{has_pushed_news, named_door}
use Rattle.live_ends.specs.Waiting.{Waits, DoorsView}
use Rattle.live_ends.proofs.Lists.{no_items}
use Rattle.live_ends.proofs.Waiting.{waits_first, waits_less, waits_end, not_below, at_default}
use Rattle.live_ends.proofs.all_doors.Doors.name.Goals as goal

pub index_mut-door-requires : goal.index_mut-door-requires
index_mut-door-requires c =
    let i = c.self.inside in
    let w = c.pop_front.new.self.items in
    let e : i.news.items ≡ c.in-Some.k ∷ w = c.pop_front.ensures.items ∙ ap (λ (o : Option ℕ). option_to_list o ++ w) c.in-Some.is in
    let h = subst (λ (u : List ℕ). Waits has_pushed_news i.doors.items u (deque_capacity i.news)) e c.self.invariant in
    omega (arith, (waits_first has_pushed_news i.doors.items c.in-Some.k w (deque_capacity i.news) h).0, i.doors.ok.0)

pub returns : goal.returns
returns c =
    let i = c.self.inside in
    let k = c.in-Some.k in
    let w = c.pop_front.new.self.items in
    let e : i.news.items ≡ k ∷ w = c.pop_front.ensures.items ∙ ap (λ (o : Option ℕ). option_to_list o ++ w) c.in-Some.is in
    let h = subst (λ (u : List ℕ). Waits has_pushed_news i.doors.items u (deque_capacity i.news)) e c.self.invariant in
    let first = waits_first has_pushed_news i.doors.items k w (deque_capacity i.news) h in
    rw (← c.self.view_is) (first.0, λ x. (first.1 x, ap (set i.doors.items k) (c.name.ensures ∙ ap named_door (at_default i.doors.items k c.index_mut-door.result.now x first.0 c.index_mut-door.ensures.value))))

pub invariant_of-self-2 : goal.invariant_of-self-2
invariant_of-self-2 c =
    let i = c.self.inside in
    let k = c.in-Some.k in
    let w = c.pop_front.new.self.items in
    let e : i.news.items ≡ k ∷ w = c.pop_front.ensures.items ∙ ap (λ (o : Option ℕ). option_to_list o ++ w) c.in-Some.is in
    let g = subst (λ (u : List ℕ). Waits has_pushed_news i.doors.items u (deque_capacity i.news)) e c.self.invariant in
    let h = subst (λ (n : ℕ). Waits has_pushed_news i.doors.items (k ∷ w) n) (sym c.pop_front.ensures.capacity) g in
    waits_less has_pushed_news i.doors.items k c.name.new.self w (deque_capacity c.pop_front.new.self) (ap has_pushed_news c.name.ensures ∙ not_below (length c.index_mut-door.result.now.pushed)) h

pub returns-in_default : goal.returns-in_default
returns-in_default c =
    let i = c.self.inside in
    let none : i.news.items ≡ [] = no_items i.news.items (omega (arith, c.in_default.ensures.cases.0)) in
    (ap {B = DoorsView} (λ (n : ℕ). record { items = i.doors.items; spare = min (vec_capacity i.doors) n - vec_len i.doors }) c.pop_front.ensures.capacity ∙ c.self.view_is, rw (← c.self.view_is) (waits_end has_pushed_news i.doors.items i.news.items (deque_capacity i.news) none c.self.invariant))
