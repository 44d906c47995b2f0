use Rattle.std.proofs.Common.{◌≡◌, ℕ, ◌<◌, length, get_or, true, false, sym, ap, ◌∙◌, subst, inl, inr, arith}
use Rattle.std.specs.Prelude.{IsTrue}
use Rattle.std.proofs.lemmas.List.{get_or_default}
use Rattle.live_segment.specs.Reports.{InboxAgrees}
use Rattle.live_calls.proofs.Lowest.{before_or_at}
use Rattle.live_segment.proofs.ending.inboxes_agree.Goals as goal

pub returns-then-not-inbox_agrees : goal.returns-then-not-inbox_agrees
returns-then-not-inbox_agrees c =
    let v = c.args.live.now in
    let xs = c.args.inboxes.now in
    let i = c.loop-inbox.inbox-index in
    let x = c.inbox-item.result in
    let l : i < length xs = omega arith in (
      λ (t : false ≡ true). absurd cc,
      λ all.
          let a : InboxAgrees v x = subst (InboxAgrees v) (sym c.inbox-item.is) (all i x l) in
          let t : IsTrue c.inbox_agrees.result = c.inbox_agrees.ensures.1 a in
          let f = c.if-not-inbox_agrees.true in
          cc,
    )

pub loop-inbox-preserved : goal.loop-inbox-preserved
loop-inbox-preserved c k d m =
    let v = c.args.live.now in
    let xs = c.args.inboxes.now in
    let i = c.loop-inbox.inbox-index in
    let x = c.inbox-item.result in
    let l : i < length xs = omega arith in
    let here : InboxAgrees v x = c.inbox_agrees.ensures.0 c.if-not-inbox_agrees.false in
    elim (before_or_at k i m) [
      | inl b ↦ c.loop-inbox.invariant k d b
      | inr q ↦ subst (InboxAgrees v) (c.inbox-item.is ∙ get_or_default xs i x d l ∙ ap (λ (n : ℕ). get_or xs n d) (sym q)) here
    ]
