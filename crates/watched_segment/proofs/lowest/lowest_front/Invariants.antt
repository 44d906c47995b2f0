use Rattle.watched_segment.proofs.Fronts.{Stands}
use Rattle.watched_segment.proofs.lowest.lowest_front.Given as goal

abbrev pub invariant-loop-address : goal.invariant-loop-address
invariant-loop-address l = Stands l.segment l.addresses l.address-index l.lowest l.least
