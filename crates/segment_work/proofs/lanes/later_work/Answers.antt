use Rattle.std.proofs.Common.{◌≡◌, ℕ, ◌+◌, ◌-◌, length, ap, sym, ◌∙◌, arith}
use Rattle.std.specs.Prelude.{slice_get}
use Rattle.record_law.specs.Counting.{up_to_last}
use Rattle.lane_core.specs.declared.message.Pending.{Pending}
use Rattle.work_law.specs.Work.{sum_below}
use Rattle.segment_work.specs.Terms.{turn_terms, at, turn_of}
use Rattle.segment_work.proofs.Sums.{over_rest}
use Rattle.segment_work.proofs.lanes.later_work.Goals as goal

pub returns : goal.returns
returns c =
    let turn : Pending → ℕ = turn_of (turn_terms c.args.segment.now) c.args.from.0 c.args.to.0 in
    let all : c.loop-i.i ≡ length c.args.lane.now.pending - 1 = omega (arith, c.loop-i-test.false, c.loop-i.auto.i-end, c.saturating_sub-i-end.ensures, c.pending_len.ensures.value) in
    c.loop-i.invariant ∙ ap up_to_last (ap (sum_below (λ k. at turn (slice_get c.args.lane.now.pending (1 + k)))) all ∙ sym (over_rest turn 1 c.args.lane.now.pending))
