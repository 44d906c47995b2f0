use Rattle.std.proofs.Common.{◌≡◌, ◌+◌, ◌≤◌, length, vec_capacity}
use Rattle.std.specs.Vec.Iter.{into_iter_items, into_iter_len}
use Rattle.segment_core.proofs.Running.{Made}
use Rattle.segment_core.proofs.segment.Segment.run.Given as goal

abbrev pub invariant-loop-call : goal.invariant-loop-call
invariant-loop-call l =
    Made l.fn.self (into_iter_items l.initial.call-iterator) l.yielded (into_iter_items l.call-iterator) l.self l.replies.items
    × (into_iter_len l.call-iterator ≡ length (into_iter_items l.call-iterator))
    × (length l.replies.items + length (into_iter_items l.call-iterator) ≤ vec_capacity l.replies)
