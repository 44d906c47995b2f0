use Rattle.std.proofs.Common.{subst}
use Rattle.segment_rings.specs.Views.{SeatView, SameSeat}
use Rattle.live_ends.proofs.Fronts.{same_seat-spare}
use Rattle.live_ends.proofs.Only.{only_set}
use Rattle.live_ends.proofs.SeatsSame.{same_seats-set, same_seat-refl}
use Rattle.live_ends.proofs.offer.keep_notes.Goals as goal

pub returns-clause-same : goal.returns-clause-same
returns-clause-same c =
    let ss = c.args.seats.now.items in
    let s = c.index_mut-seat.result.now in
    let same : SameSeat s c.reserve.new.self = same_seat-spare s s c.reserve.new.self (same_seat-refl s) c.reserve.ensures.same c.reserve.ensures.more in
    same_seats-set ss c.args.k s _ c.requires (subst (λ (x : SeatView). SameSeat x c.reserve.new.self) c.index_mut-seat.ensures.value same)

pub returns-clause-only : goal.returns-clause-only
returns-clause-only c = only_set c.args.k c.args.seats.now.items c.reserve.new.self
