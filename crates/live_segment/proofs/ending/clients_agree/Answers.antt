use Rattle.std.proofs.Common.{◌≡◌, ℕ, ◌<◌, length, get_or, true, false, sym, ap, ◌∙◌, subst, inl, inr, arith}
use Rattle.std.specs.Prelude.{IsTrue}
use Rattle.std.proofs.lemmas.List.{get_or_default}
use Rattle.live_segment.specs.Reports.{ClientAgrees}
use Rattle.live_calls.proofs.Lowest.{before_or_at}
use Rattle.live_segment.proofs.ending.clients_agree.Goals as goal

pub returns-then-not-client_agrees : goal.returns-then-not-client_agrees
returns-then-not-client_agrees c =
    let v = c.args.live.now in
    let xs = c.args.clients.now in
    let i = c.loop-client.client-index in
    let x = c.client-item.result in
    let l : i < length xs = omega arith in (
      λ (t : false ≡ true). absurd cc,
      λ all.
          let a : ClientAgrees v x = subst (ClientAgrees v) (sym c.client-item.is) (all i x l) in
          let t : IsTrue c.client_agrees.result = c.client_agrees.ensures.1 a in
          let f = c.if-not-client_agrees.true in
          cc,
    )

pub loop-client-preserved : goal.loop-client-preserved
loop-client-preserved c k d m =
    let v = c.args.live.now in
    let xs = c.args.clients.now in
    let i = c.loop-client.client-index in
    let x = c.client-item.result in
    let l : i < length xs = omega arith in
    let here : ClientAgrees v x = c.client_agrees.ensures.0 c.if-not-client_agrees.false in
    elim (before_or_at k i m) [
      | inl b ↦ c.loop-client.invariant k d b
      | inr q ↦ subst (ClientAgrees v) (c.client-item.is ∙ get_or_default xs i x d l ∙ ap (λ (n : ℕ). get_or xs n d) (sym q)) here
    ]
