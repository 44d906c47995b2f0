use Rattle.std.proofs.Common.{subst}
use Rattle.segment_rings.specs.Views.{SeatView, SameSeat}
use Rattle.live_ends.proofs.Only.{only_set}
use Rattle.live_ends.proofs.SeatsSame.{same_seats-set}
use Rattle.live_ends.proofs.offer.has_nothing.Goals as goal

pub returns-in-Empty-clause-same : goal.returns-in-Empty-clause-same
returns-in-Empty-clause-same c =
    let s = c.index_mut-seat.result.now in
    same_seats-set c.args.seats.now.items c.args.k s _ c.requires (subst (λ (x : SeatView). SameSeat x c.offer.new.self) c.index_mut-seat.ensures.value c.offer.ensures.same)

pub returns-in-Owed-clause-same : goal.returns-in-Owed-clause-same
returns-in-Owed-clause-same c =
    let s = c.index_mut-seat.result.now in
    same_seats-set c.args.seats.now.items c.args.k s _ c.requires (subst (λ (x : SeatView). SameSeat x c.offer.new.self) c.index_mut-seat.ensures.value c.offer.ensures.same)

pub returns-in-Ready-clause-same : goal.returns-in-Ready-clause-same
returns-in-Ready-clause-same c =
    let s = c.index_mut-seat.result.now in
    same_seats-set c.args.seats.now.items c.args.k s _ c.requires (subst (λ (x : SeatView). SameSeat x c.offer.new.self) c.index_mut-seat.ensures.value c.offer.ensures.same)

pub returns-in-Empty-clause-only : goal.returns-in-Empty-clause-only
returns-in-Empty-clause-only c = only_set c.args.k c.args.seats.now.items c.offer.new.self

pub returns-in-Owed-clause-only : goal.returns-in-Owed-clause-only
returns-in-Owed-clause-only c = only_set c.args.k c.args.seats.now.items c.offer.new.self

pub returns-in-Ready-clause-only : goal.returns-in-Ready-clause-only
returns-in-Ready-clause-only c = only_set c.args.k c.args.seats.now.items c.offer.new.self
