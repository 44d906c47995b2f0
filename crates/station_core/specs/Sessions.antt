-- What is said of the sessions of a station: what stands above names them by this module, so that it need not list their crates.
pub use Rattle.session_table.specs.Key.{session_for}
pub use Rattle.session_table.specs.DueOrder.{first_due}
pub use Rattle.session_table.specs.declared.TheConstants.{MAX_SESSIONS}
pub use Rattle.session_table.specs.declared.key.Key.{Key}
pub use Rattle.session_table.specs.declared.key.SessionKind.{SessionKind}
pub use Rattle.station_sessions.specs.Opening.{key_of, others_than}
pub use Rattle.station_sessions.specs.Receiving.{aborted_at, fired_at}
