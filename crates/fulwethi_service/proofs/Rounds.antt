-- One round more.
use Rattle.std.proofs.Common.{◌≡◌, ℕ, suc, ◌+◌, subst, arith}
use Rattle.segment_law.specs.Segment.{plus}
use Rattle.live_segment.specs.LiveView.{LiveView}
use Rattle.fulwethi_service.specs.Turned.{IsRound, Rounds}

pub rounds_more : (n : ℕ) (p m q : LiveView) (before last calls : ℕ) → Rounds n p m before → IsRound m q last → calls ≡ plus before last → Rounds (n + 1) p q calls
rounds_more n p m q before last calls h i c = let e : suc n ≡ n + 1 = omega arith in subst (λ (k : ℕ). Rounds k p q calls) e (m, before, last, h, i, c)
