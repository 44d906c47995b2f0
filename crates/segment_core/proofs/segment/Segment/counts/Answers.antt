use Rattle.std.proofs.Common.{ap, ◌∙◌}
use Rattle.record_law.proofs.readers.Recorded.{counts_are_recorded}
use Rattle.segment_core.proofs.segment.Segment.counts.Goals as goal

pub returns-clause-of_record : goal.returns-clause-of_record
returns-clause-of_record c = λ addresses steps stands.
    c.counts.ensures ∙ ap (λ seg. seg.counts) c.self.view_is ∙ counts_are_recorded addresses steps c.args.self.now stands
