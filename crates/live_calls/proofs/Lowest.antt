-- Which of two fronts is before the other.
pub use Rattle.watched_segment.proofs.Fronts.{before_or_at}
