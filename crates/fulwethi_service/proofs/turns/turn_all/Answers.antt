use Rattle.std.proofs.Common.{◌+◌, subst, ℕ, inr, arith}
use Rattle.fulwethi_service.specs.Turned.{IsRound}
use Rattle.fulwethi_service.proofs.Rounds.{rounds_more}
use Rattle.fulwethi_service.proofs.turns.turn_all.Goals as goal

pub returns-then-calls-eq0 : goal.returns-then-calls-eq0
returns-then-calls-eq0 c =
    let t = c.loop-at-test.true in (
      c.loop-at.at + 1,
      omega (arith, t),
      rounds_more c.loop-at.at c.args.live.now c.loop-at.live c.round.new.live c.loop-at.made c.in_ok-calls.calls c.saturating_add.result c.loop-at.invariant c.in_ok-calls.ensures.done c.saturating_add.ensures,
      inr (c.loop-at.live, subst (λ (n : ℕ). IsRound c.loop-at.live c.round.new.live n) c.if-calls-eq0.true c.in_ok-calls.ensures.done),
      tt,
    )
