use Rattle.std.proofs.Common.{ℕ, ◌<◌, get_or}
use Rattle.segment_rings.specs.Ends.{InboxEnd}
use Rattle.live_segment.specs.Reports.{InboxAgrees}
use Rattle.live_segment.proofs.ending.inboxes_agree.Given as goal

abbrev pub invariant-loop-inbox : goal.invariant-loop-inbox
invariant-loop-inbox l = (k : ℕ) (i : InboxEnd) → k < l.inbox-index → InboxAgrees l.live (get_or l.inboxes k i)
