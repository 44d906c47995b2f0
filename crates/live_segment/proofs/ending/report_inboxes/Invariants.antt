use Rattle.std.proofs.Common.{take}
use Rattle.live_segment.specs.Reports.{AreInboxReports}
use Rattle.live_segment.proofs.ending.report_inboxes.Given as goal

abbrev pub invariant-loop-inbox : goal.invariant-loop-inbox
invariant-loop-inbox l = AreInboxReports l.live (take l.inbox-index l.inboxes) l.reports.items
