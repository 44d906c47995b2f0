-- Turns: which call was answered how.
use Rattle.std.proofs.Common.{◌≡◌, ℕ, suc, ◌+◌, ◌<◌, ◌≤◌, Bool, subst, inl, inr, arith}
use Rattle.std.proofs.lemmas.Bool.{cases_lt}
use Rattle.pgn_ids.specs.declared.address.Address.{Address}
use Rattle.segment_law.specs.declared.reply.Reply.{Reply}
use Rattle.segment_law.specs.declared.reply.Reply.TheVariants.{Refused}
use Rattle.segment_law.specs.declared.refusal.Refusal.TheVariants.{TraceFull}
use Rattle.live_calls.specs.declared.call.WorkerCall.{WorkerCall}
use Rattle.live_record.specs.declared.calls.TheConstants.{MOST_CALLS}
use Rattle.live_segment.specs.LiveView.{LiveView, Applied, stored_calls}
use Rattle.live_segment.specs.Turns.{IsAnswered, Point, AcceptsOne, AcceptsBelow}

-- a call is refused if no more can be stored, and else answered
pub answered_when : (a b : LiveView) (call : WorkerCall) (r : Reply) → (MOST_CALLS ≤ stored_calls a → (r ≡ Refused TraceFull) × (b ≡ a)) → (stored_calls a < MOST_CALLS → (room : Bool) × Applied a b call r room) → IsAnswered a b call r
answered_when a b call r full made = elim (cases_lt (stored_calls a) MOST_CALLS) [ inl few ↦ inr (few, made few) | inr many ↦ inl (many, (full many).0, (full many).1) ]

pub below_more : (n : ℕ) (station : Address) (p m q : Point) → AcceptsBelow n station p m → AcceptsOne station n m q → AcceptsBelow (n + 1) station p q
below_more n station p m q h i = let e : suc n ≡ n + 1 = omega arith in subst (λ (k : ℕ). AcceptsBelow k station p q) e (m, h, i)
