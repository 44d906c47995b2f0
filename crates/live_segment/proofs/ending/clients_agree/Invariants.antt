use Rattle.std.proofs.Common.{ℕ, ◌<◌, get_or}
use Rattle.segment_rings.specs.Ends.{ClientEnd}
use Rattle.live_segment.specs.Reports.{ClientAgrees}
use Rattle.live_segment.proofs.ending.clients_agree.Given as goal

abbrev pub invariant-loop-client : goal.invariant-loop-client
invariant-loop-client l = (k : ℕ) (c : ClientEnd) → k < l.client-index → ClientAgrees l.live (get_or l.clients k c)
