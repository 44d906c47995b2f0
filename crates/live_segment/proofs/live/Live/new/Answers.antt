use Rattle.std.proofs.Common.{refl}
use Rattle.live_segment.proofs.Holding.{holds-new}
use Rattle.live_segment.proofs.live.Live.new.Goals as goal

pub invariant_of-result : goal.invariant_of-result
invariant_of-result c = rw (c.in_ok-segment.ensures, c.in_ok-calls.ensures.items, c.in_ok-calls.ensures.pieces, c.new-5.ensures.items, c.in_ok-seats.ensures, c.new-6.ensures.items, c.in-Ok-from_slice.ensures.items) (holds-new c.args.addresses.now c.in-Ok.segment c.in-Ok.ensures.ok c.in-Ok.ensures.stands, record { is_of = refl; keeps = λ _. (tt, tt) })
