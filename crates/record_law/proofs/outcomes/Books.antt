-- The numbers that were given so far: each is pending or has ended, and that once.
use Rattle.std.proofs.Common.{◌≡◌, ℕ, zero, suc, ◌+◌, ◌<◌, ◌≤◌, ◌==◌, List, [], ◌∷◌, ◌++◌, refl, ap, ◌∙◌, arith, eqb-true, ⊎_elim}
use Rattle.std.proofs.lemmas.Bool.{cases_lt}
use Rattle.lane_core.specs.Lane.{Lane}
use Rattle.record_law.proofs.Tests.{on_test}
use Rattle.record_law.proofs.outcomes.Counting.{one_if, times, times-append}
use Rattle.record_law.proofs.outcomes.LaneSteps.{numbers_of}
use Rattle.record_law.proofs.outcomes.Calls.{Ended, Added}

-- how often n is among the numbers from 1 to k
abbrev pub up_to : ℕ → ℕ → ℕ
up_to zero n = 0
up_to (suc k) n = up_to k n + one_if (suc k == n)

pub up_to_within : (k n : ℕ) → 1 ≤ up_to k n → (1 ≤ n) × (n ≤ k)
up_to_within zero n h = absurd (omega arith)
up_to_within (suc k) n h = on_test (λ b. (suc k == n) ≡ b → 1 ≤ up_to k n + one_if b → (1 ≤ n) × (n ≤ suc k)) (suc k == n)
    (λ _ e _. let same : suc k ≡ n = eqb-true (suc k) n e in (omega (arith, same), omega (arith, same)))
    (λ _ _ l. let rest : (1 ≤ n) × (n ≤ k) = up_to_within k n (omega (arith, l)) in (rest.0, omega (arith, rest.1)))
    refl h

pub up_to_once : (k n : ℕ) → up_to k n ≤ 1
up_to_once zero n = omega arith
up_to_once (suc k) n = on_test (λ b. (suc k == n) ≡ b → up_to k n + one_if b ≤ 1) (suc k == n)
    (λ _ e.
    let same : suc k ≡ n = eqb-true (suc k) n e in
    ⊎_elim
    (λ (some : 0 < up_to k n). let within : (1 ≤ n) × (n ≤ k) = up_to_within k n (omega (arith, some)) in absurd (omega (arith, same, within.1)))
    (λ (none : up_to k n ≤ 0). omega (arith, none))
    (cases_lt 0 (up_to k n)))
    (λ _ _. let rest : up_to k n ≤ 1 = up_to_once k n in omega (arith, rest))
    refl

-- each number of the lane so far is pending, or among those that ended
abbrev pub Books : Lane → List ℕ → Type 0
Books lane ended = (n : ℕ) → times n (numbers_of lane.pending) + times n ended ≡ up_to lane.sent n

pub books_ended : (before after : Lane) (ended numbers : List ℕ) → Books before ended → Ended before after numbers → Books after (ended ++ numbers)
books_ended before after ended numbers h k n =
    let all : times n (ended ++ numbers) ≡ times n ended + times n numbers = times-append n ended numbers in
    let was : times n (numbers_of before.pending) + times n ended ≡ up_to before.sent n = h n in
    let same : up_to after.sent n ≡ up_to before.sent n = ap (λ m. up_to m n) k.sent in
    let each : times n (numbers_of before.pending) ≡ times n (numbers_of after.pending) + times n numbers = k.each n in
    omega (arith, all, was, same, each)

-- what ends was sent
pub ended_within : (before after : Lane) (ended numbers : List ℕ) → Books before ended → Ended before after numbers → (n : ℕ) → 1 ≤ times n numbers → (1 ≤ n) × (n ≤ before.sent)
ended_within before after ended numbers h k n some =
    let was : times n (numbers_of before.pending) + times n ended ≡ up_to before.sent n = h n in
    let each : times n (numbers_of before.pending) ≡ times n (numbers_of after.pending) + times n numbers = k.each n in
    up_to_within before.sent n (omega (arith, was, each, some))

pub books_added : (before after : Lane) (ended : List ℕ) → Books before ended → Added before after → Books after ended
books_added before after ended h k n =
    let was : times n (numbers_of before.pending) + times n ended ≡ up_to before.sent n = h n in
    let next : before.sent + 1 ≡ suc before.sent = omega arith in
    let more : up_to after.sent n ≡ up_to before.sent n + one_if (suc before.sent == n) = ap (λ m. up_to m n) (k.sent ∙ next) in
    let new : times n ((before.sent + 1) ∷ []) ≡ one_if (suc before.sent == n) + 0 = ap (λ m. times n (m ∷ [])) next in
    let each : times n (numbers_of after.pending) ≡ times n (numbers_of before.pending) + times n ((before.sent + 1) ∷ []) = k.each n in
    omega (arith, was, more, new, each)
