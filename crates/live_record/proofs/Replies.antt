-- Of replies, for what stands above.
pub use Rattle.reply_law.proofs.Following.{follows}
pub use Rattle.reply_law.proofs.Gives.{none_short}
