use Rattle.std.proofs.Common.{refl}
use Rattle.live_ends.proofs.SeatsSame.{same_seats-trans}
use Rattle.live_calls.proofs.offer.find_ready.Goals as goal

pub returns-then-has_nothing-clause-ready : goal.returns-then-has_nothing-clause-ready
returns-then-has_nothing-clause-ready c = c.if-has_nothing.ensures.nothing refl 0 0

pub returns-clause-seats : goal.returns-clause-seats
returns-clause-seats c = same_seats-trans c.args.seats.now.items c.has_nothing.new.self.items c.make_front_ready.new.seats.items c.has_nothing.ensures.same c.make_front_ready.ensures.seats
