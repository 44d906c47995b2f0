use Rattle.std.proofs.Common.{ℕ, map, Option, subst, arith, deque_capacity}
use Rattle.segment_rings.specs.Views.{has_pushed_news}
use Rattle.live_ends.specs.Waiting.{Marks}
use Rattle.live_ends.proofs.Waiting.{waits_same, waits_told, waits_room}
use Rattle.live_ends.proofs.all_doors.Doors.hand_one.Goals as goal

pub push_back_reserved-requires : goal.push_back_reserved-requires
push_back_reserved-requires c =
    let i = c.self.inside in
    let m = subst (λ (o : Option ℕ). Marks o (map has_pushed_news i.doors.items) (map has_pushed_news c.hand_one.new.doors.items)) c.in-Some.is c.hand_one.ensures.news in
    omega (arith, waits_room has_pushed_news i.doors.items (map has_pushed_news c.hand_one.new.doors.items) c.in-Some.k i.news.items (deque_capacity i.news) m c.self.invariant)

pub invariant_of-self : goal.invariant_of-self
invariant_of-self c =
    let i = c.self.inside in
    let es = c.hand_one.new.doors.items in
    let m = subst (λ (o : Option ℕ). Marks o (map has_pushed_news i.doors.items) (map has_pushed_news es)) c.in-Some.is c.hand_one.ensures.news in
    rw (c.push_back_reserved.ensures.items, c.push_back_reserved.ensures.capacity) (waits_told has_pushed_news i.doors.items es c.in-Some.k i.news.items (deque_capacity i.news) m c.self.invariant)

pub invariant_of-self-in_default : goal.invariant_of-self-in_default
invariant_of-self-in_default c =
    let i = c.self.inside in
    let es = c.hand_one.new.doors.items in
    let m = subst (λ (o : Option ℕ). Marks o (map has_pushed_news i.doors.items) (map has_pushed_news es)) c.in_default.is c.hand_one.ensures.news in
    waits_same has_pushed_news i.doors.items es i.news.items (deque_capacity i.news) m c.self.invariant
