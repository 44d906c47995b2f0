use Rattle.std.proofs.Common.{subst}
use Rattle.segment_law.specs.Drive.{driven}
use Rattle.segment_core.specs.Drives.{IsDriven}
use Rattle.segment_core.proofs.Undisturbed.{quiet_drive}
use Rattle.segment_core.proofs.segment.Segment.drive.Goals as goal

pub returns-clause-undisturbed : goal.returns-clause-undisturbed
returns-clause-undisturbed c = λ addresses steps m stands quiet many ends.
    quiet_drive c.messages_are_undisturbed.ensures addresses steps c.args.self.now c.drive.new.seg c.args.from c.args.to m c.args.turns c.drive.result stands quiet many
    (subst (λ seg. IsDriven (driven seg c.args.from c.args.to c.args.turns) c.drive.new.seg c.drive.result) c.self.view_is (c.drive.ensures.done ends))

pub returns-clause-headline : goal.returns-clause-headline
returns-clause-headline c = λ addresses steps. c.the_headline_holds.ensures addresses steps _
