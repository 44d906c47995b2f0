-- Which station's frame is next on the bus.
pub use Rattle.watched_segment.specs.Lowest.{IsNext}
