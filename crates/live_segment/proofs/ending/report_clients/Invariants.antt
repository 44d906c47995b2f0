use Rattle.std.proofs.Common.{take}
use Rattle.live_segment.specs.Reports.{AreClientReports}
use Rattle.live_segment.proofs.ending.report_clients.Given as goal

abbrev pub invariant-loop-client : goal.invariant-loop-client
invariant-loop-client l = AreClientReports l.live (take l.client-index l.clients) l.reports.items
