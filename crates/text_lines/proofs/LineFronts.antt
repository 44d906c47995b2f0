-- The first line of a text that begins with a front of no line feed.
use Rattle.std.proofs.Common.{◌≡◌, ◌≢◌, ℕ, zero, suc, slice_index, ◌∙◌, ◌+◌, ◌<◌, ◌≤◌, Bool, true, false, cond, eqb, eqb-true, List, [], ◌∷◌, ◌++◌, length, take, refl, ap, arith}
use Rattle.std.proofs.lemmas.Bool.{ne_eqb, eqb-false, eq-eqb}
use Rattle.text_lines.specs.Lines.{before_feed, NoFeed, lines_of, before_lines}

-- at its place, or nowhere
pub before_feed_at : (bs : List ℕ) (at : ℕ) → at < length bs → slice_index bs at ≡ 10 → ((k : ℕ) → k < at → slice_index bs k ≢ 10) → before_feed bs ≡ at
before_feed_at [] at l is before = absurd (omega arith)
before_feed_at (b ∷ bs) zero l is before = rw (eq-eqb b 10 is) refl
before_feed_at (b ∷ bs) (suc at) l is before =
    let other : b ≢ 10 = before 0 (omega arith) in
    let more : at + 1 ≡ suc at = omega arith in
    rw (ne_eqb b 10 other) (ap (λ n. n + 1) (before_feed_at bs at (omega arith) is (λ k a. before (suc k) (omega arith))) ∙ more)

pub before_feed_none : (bs : List ℕ) → ((k : ℕ) → k < length bs → slice_index bs k ≢ 10) → before_feed bs ≡ length bs
before_feed_none [] none = refl
before_feed_none (b ∷ bs) none =
    let other : b ≢ 10 = none 0 (omega arith) in
    let more : length bs + 1 ≡ suc (length bs) = omega arith in
    rw (ne_eqb b 10 other) (ap (λ n. n + 1) (before_feed_none bs (λ k a. none (suc k) (omega arith))) ∙ more)

pub no_feed_more : (line part : List ℕ) → NoFeed line → NoFeed part → NoFeed (line ++ part)
no_feed_more [] part f h = h
no_feed_more (b ∷ bs) part f h = (f.0, no_feed_more bs part f.1 h)

-- before the first line feed there is none
no_feed_by : (is : Bool) (b : ℕ) (bs : List ℕ) → eqb b 10 ≡ is → NoFeed (take (before_feed bs) bs) → NoFeed (take (cond is 0 (before_feed bs + 1)) (b ∷ bs))
no_feed_by true b bs e f = tt
no_feed_by false b bs e f =
    let one : before_feed bs + 1 ≡ suc (before_feed bs) = omega arith in
    rw one (eqb-false _ _ e, f)

pub no_feed_before : (bytes : List ℕ) → NoFeed (take (before_feed bytes) bytes)
no_feed_before [] = tt
no_feed_before (b ∷ bs) = no_feed_by (eqb b 10) b bs refl (no_feed_before bs)

-- and where not all bytes stand before it, it comes next
feed_by : (is : Bool) (b : ℕ) (bs : List ℕ) → eqb b 10 ≡ is → (before_feed bs < length bs → take (before_feed bs + 1) bs ≡ take (before_feed bs) bs ++ 10 ∷ [])
    → cond is 0 (before_feed bs + 1) < length (b ∷ bs) → take (cond is 0 (before_feed bs + 1) + 1) (b ∷ bs) ≡ take (cond is 0 (before_feed bs + 1)) (b ∷ bs) ++ 10 ∷ []
feed_by true b bs e f n = ap (λ x. x ∷ []) (eqb-true _ _ e)
feed_by false b bs e f n =
    let one : before_feed bs + 1 ≡ suc (before_feed bs) = omega arith in
    let more : suc (before_feed bs) + 1 ≡ suc (before_feed bs + 1) = omega arith in
    rw one (rw more (ap (λ l. b ∷ l) (f (omega (arith, n)))))

pub feed_behind : (bytes : List ℕ) → before_feed bytes < length bytes → take (before_feed bytes + 1) bytes ≡ take (before_feed bytes) bytes ++ 10 ∷ []
feed_behind [] h = absurd (omega arith)
feed_behind (b ∷ bs) h = feed_by (eqb b 10) b bs refl (feed_behind bs) h

pub last_line : (line : List ℕ) → NoFeed line → 0 < length line → lines_of line ≡ line ∷ []
last_line [] f h = absurd (omega arith)
last_line (b ∷ []) f h = rw (ne_eqb _ _ f.0) refl
last_line (b ∷ c ∷ bs) f h = rw (ne_eqb _ _ f.0) (ap (before_lines b) (last_line (c ∷ bs) f.1 (omega arith)))

pub ended_line : (line rest : List ℕ) → NoFeed line → lines_of (line ++ 10 ∷ rest) ≡ line ∷ lines_of rest
ended_line [] rest f = refl
ended_line (b ∷ bs) rest f = rw (ne_eqb _ _ f.0) (ap (before_lines b) (ended_line bs rest f.1))

-- the first line is at least as long
pub long_line : (front rest : List ℕ) → NoFeed front → 0 < length front → (long : List ℕ) × (others : List (List ℕ)) × (lines_of (front ++ rest) ≡ long ∷ others) × (length front ≤ length long)
long_line [] rest f h = absurd (omega arith)
long_line (b ∷ []) rest f h = rw (ne_eqb _ _ f.0) (elim (lines_of rest) as (λ ls. (long : List ℕ) × (others : List (List ℕ)) × (before_lines b ls ≡ long ∷ others) × (1 ≤ length long)) [
  | [] ↦ (b ∷ [], [], refl, omega arith)
  | l ∷ ls ↦ (b ∷ l, ls, refl, omega arith)
])
long_line (b ∷ c ∷ bs) rest f h =
    let r = long_line (c ∷ bs) rest f.1 (omega arith) in
    rw (ne_eqb _ _ f.0) (b ∷ r.0, r.1, ap (before_lines b) r.2, omega (arith, r.3))
