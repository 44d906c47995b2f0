-- What a live segment reports at its end.
pub use Rattle.live_segment.specs.Reports.{AreClientReports, AreInboxReports, HasPort}
pub use Rattle.live_segment.specs.declared.report.ClientReport.{ClientReport}
pub use Rattle.live_segment.specs.declared.report.InboxReport.{InboxReport}
