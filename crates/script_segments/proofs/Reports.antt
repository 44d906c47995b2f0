-- What the reports of a segment that was never cut are.
pub use Rattle.live_segment.proofs.Uncut.{given_uncut, left_uncut, notes_uncut, rest_uncut}
