use Rattle.segment_core.proofs.segment.Segment.new.Goals as goal

pub returns-in-Ok-clause-headline : goal.returns-in-Ok-clause-headline
returns-in-Ok-clause-headline c = λ addresses steps. c.the_headline_holds.ensures addresses steps _
