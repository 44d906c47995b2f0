-- What holds of each sender that events lead to: no number has two outcomes.
use Rattle.std.proofs.Common.{◌≡◌, ◌≢◌, ℕ, ◌+◌, ◌<◌, List, ◌∷◌, Option, Some, None, refl, subst, arith}
use Rattle.lane_law.specs.Outcome.{Fate, Outcome, outcome}
use Rattle.lane_law.specs.Sender.{Sender, SenderEvent, Sends, Begins, Ends, EndsPending, MayHappen, after, new_sender, IsReached}
use Rattle.lane_law.proofs.Numbers.{AreNumbers, IsOpen, numbers_sent, numbers_begun, numbers_without, numbers_over, rising_at}
use Rattle.lane_law.proofs.Reached.{keeps_on}

-- the message under way is the last that was begun, and has no outcome
abbrev IsUnderWay : ℕ → List Outcome → Option ℕ → Type 0
IsUnderWay begun os None = Unit {0}
IsUnderWay begun os (Some n) = (n ≡ begun) × (0 < n) × IsOpen n os

-- begun is the last number that was begun, or 0
pub record IsSender (s : Sender) : Type 0 where
  begun : ℕ
  pub numbers : AreNumbers begun s.sent s.pending s.outcomes
  under_way : IsUnderWay begun s.outcomes s.under_way

still_under_way : (begun k : ℕ) (os : List Outcome) (fate : Fate) (u : Option ℕ) → begun < k → IsUnderWay begun os u → IsUnderWay begun (outcome k fate ∷ os) u
still_under_way begun k os fate None lt h = tt
still_under_way begun k os fate (Some n) lt h = let ne : k ≢ n = omega (arith, lt, h.0) in (h.0, h.1, (ne, h.2))

keeps : (e : SenderEvent) (s : Sender) → MayHappen e s → IsSender s → IsSender (after e s)
keeps Sends s h i = record { begun = i.begun; numbers = numbers_sent i.begun s.sent (s.sent + 1) s.pending s.outcomes refl i.numbers; under_way = i.under_way }
keeps (Begins n rest) s h i =
    let a = subst (λ ns. AreNumbers i.begun s.sent ns s.outcomes) h.1 i.numbers in
    record { begun = n; numbers = numbers_begun i.begun s.sent n rest s.outcomes a; under_way = (refl, (let lt = a.rising.0 in omega (arith, lt)), a.no_outcome.0) }
keeps (Ends n fate) s h i =
    let u = subst (λ o. IsUnderWay i.begun s.outcomes o) h i.under_way in
    record { begun = i.begun; numbers = numbers_over i.begun s.sent n s.pending s.outcomes fate u.0 u.1 u.2 i.numbers; under_way = tt }
keeps (EndsPending earlier n later fate) s h i =
    let a = subst (λ ns. AreNumbers i.begun s.sent ns s.outcomes) h i.numbers in
    record { begun = i.begun; numbers = numbers_without i.begun s.sent n earlier later s.outcomes fate a; under_way = still_under_way i.begun n s.outcomes fate s.under_way (rising_at i.begun n earlier later a.rising) i.under_way }

at_first : IsSender new_sender
at_first = record { begun = 0; numbers = record { begun_le = omega arith; rising = tt; within = tt; no_outcome = tt; outcomes_within = tt; single = tt }; under_way = tt }

pub is_sender : (s : Sender) → IsReached s → IsSender s
is_sender s h = keeps_on MayHappen after IsSender keeps new_sender s at_first h
