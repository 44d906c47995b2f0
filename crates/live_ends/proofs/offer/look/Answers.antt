use Rattle.std.proofs.Common.{subst}
use Rattle.segment_rings.specs.Views.{SeatView, SameSeat}
use Rattle.live_ends.proofs.Only.{only_set}
use Rattle.live_ends.proofs.SeatsSame.{same_seats-set}
use Rattle.live_ends.proofs.offer.look.Goals as goal

pub returns-then-stored-ge-MOST_CALLS-clause-same : goal.returns-then-stored-ge-MOST_CALLS-clause-same
returns-then-stored-ge-MOST_CALLS-clause-same c =
    let s = c.index_mut-seat.result.now in
    same_seats-set c.args.seats.now.items c.args.k s _ c.requires (subst (λ (x : SeatView). SameSeat x c.offer.new.self) c.index_mut-seat.ensures.value c.offer.ensures.same)

pub returns-in-Empty-clause-same : goal.returns-in-Empty-clause-same
returns-in-Empty-clause-same c =
    let s = c.index_mut-seat.result.now in
    same_seats-set c.args.seats.now.items c.args.k s _ c.requires (subst (λ (x : SeatView). SameSeat x c.offer.new.self) c.index_mut-seat.ensures.value c.offer.ensures.same)

pub returns-in-Owed-clause-same : goal.returns-in-Owed-clause-same
returns-in-Owed-clause-same c =
    let s = c.index_mut-seat.result.now in
    same_seats-set c.args.seats.now.items c.args.k s _ c.requires (subst (λ (x : SeatView). SameSeat x c.offer.new.self) c.index_mut-seat.ensures.value c.offer.ensures.same)

pub returns-else-stored-ge-MOST_CALLS-clause-same : goal.returns-else-stored-ge-MOST_CALLS-clause-same
returns-else-stored-ge-MOST_CALLS-clause-same c =
    let s = c.index_mut-seat.result.now in
    same_seats-set c.args.seats.now.items c.args.k s _ c.requires (subst (λ (x : SeatView). SameSeat x c.offer.new.self) c.index_mut-seat.ensures.value c.offer.ensures.same)

pub returns-then-stored-ge-MOST_CALLS-clause-only : goal.returns-then-stored-ge-MOST_CALLS-clause-only
returns-then-stored-ge-MOST_CALLS-clause-only c = only_set c.args.k c.args.seats.now.items c.offer.new.self

pub returns-in-Empty-clause-only : goal.returns-in-Empty-clause-only
returns-in-Empty-clause-only c = only_set c.args.k c.args.seats.now.items c.offer.new.self

pub returns-in-Owed-clause-only : goal.returns-in-Owed-clause-only
returns-in-Owed-clause-only c = only_set c.args.k c.args.seats.now.items c.offer.new.self

pub returns-else-stored-ge-MOST_CALLS-clause-only : goal.returns-else-stored-ge-MOST_CALLS-clause-only
returns-else-stored-ge-MOST_CALLS-clause-only c = only_set c.args.k c.args.seats.now.items c.offer.new.self
