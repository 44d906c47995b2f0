use Rattle.live_segment.proofs.Keeping.{keeps_uncut}
use Rattle.live_segment.proofs.Laws.{laws}
use Rattle.live_segment.proofs.live.Live.laws.Goals as goal

pub returns-clause-laws : goal.returns-clause-laws
returns-clause-laws c = rw (← c.self.view_is) (laws _ _ _ _ _ _ _ c.self.invariant.0 c.laws.ensures (keeps_uncut _ _ _ _ _ c.self.invariant.1))

pub returns-clause-headline : goal.returns-clause-headline
returns-clause-headline c = rw (← c.self.view_is) (c.the_headline_holds.ensures _ _ _ c.self.invariant.0.stands)
