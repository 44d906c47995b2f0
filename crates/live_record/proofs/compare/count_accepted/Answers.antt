use Rattle.std.proofs.Common.{◌<◌, Bool, cond, length, ap, ◌∙◌, arith}
use Rattle.segment_law.specs.declared.call.Call.TheVariants.{Tick}
use Rattle.stored_calls.specs.Lists.{nobodys}
use Rattle.live_record.proofs.Prefixes.{counted, counted_same}
use Rattle.live_record.proofs.compare.count_accepted.Goals as goal
use Rattle.live_record.proofs.compare.count_accepted.Goals.{then-is_message_of, else-is_message_of}

pub loop-at-preserved-in_default : goal.loop-at-preserved-in_default
loop-at-preserved-in_default c =
    let xs = c.args.calls.now.items in
    let i = c.loop-at.at in
    let l : i < length xs = omega arith in
    let same = counted_same c.args.client xs i (nobodys (Tick 0)) l (c.in_default.ensures.brief (nobodys (Tick 0))).by in
    let was = c.loop-at.invariant in
    record { sum = omega (arith, same, was.sum); few = omega (arith, was.few) }

pub loop-at-preserved : goal.loop-at-preserved
loop-at-preserved c =
    let xs = c.args.calls.now.items in
    let i = c.loop-at.at in
    let x = c.in-Some.stored.now in
    let l : i < length xs = omega arith in
    let all = counted c.args.client xs i x l (c.in-Some.ensures.whole x) in
    let was = c.loop-at.invariant in
    elim c.if-is_message_of.branch [
      | then-is_message_of w ↦
          let one = c.is_message_of.ensures ∙ ap (λ (b : Bool). cond b 1 0) w.if-is_message_of.true in
          record { sum = omega (arith, all, one, w.count-is, was.sum); few = omega (arith, w.count-is, was.few) }
      | else-is_message_of w ↦
          let none = c.is_message_of.ensures ∙ ap (λ (b : Bool). cond b 1 0) w.if-is_message_of.false in
          record { sum = omega (arith, all, none, w.count-is, was.sum); few = omega (arith, w.count-is, was.few) }
    ]
