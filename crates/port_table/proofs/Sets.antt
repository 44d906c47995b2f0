-- What is kept of a set: the numbers before the first 0, and one more of them.
use Rattle.std.proofs.Common.{◌≡◌, ℕ, zero, suc, ◌+◌, ◌-◌, ◌<◌, ◌≤◌, Bool, false, true, ◌==◌, List, [], ◌∷◌, ◌++◌, length, set, take, drop, get_or, refl, sym, ap, subst, ◌∙◌, arith}
use Rattle.std.specs.Prelude.{replicate}
use Rattle.std.proofs.lemmas.Bool.{eq-eqb, eqb-true, ne_eqb}
use Rattle.std.proofs.lemmas.Grind.{get_or-set_at}
use Rattle.std.proofs.lemmas.List.{drop-set-lt, drop-drop, drop-replicate, length-set, length-take-le, get_or-drop, get_or-replicate, get_or-set_other, get_or-take, take_more, take-set-le}
use Rattle.std.proofs.lemmas.List.Sums.{position_or_len_is, fails_before_first, prefix_len-le-length}
use Rattle.std.proofs.lemmas.List.Folds.{length-prefix_len}
use Rattle.port_table.specs.PortSet.{port_limit}
use Rattle.port_table.specs.SetFields.{ports_in}

pub drop_push : (kept : List ℕ) (len number : ℕ) → drop len kept ≡ replicate (port_limit - len) 0 →
    drop (len + 1) (set kept len number) ≡ replicate (port_limit - (len + 1)) 0
drop_push kept len number padded =
    drop-set-lt (len + 1) kept len number (omega arith)
    ∙ sym (drop-drop 1 len kept)
    ∙ ap (λ xs. drop 1 xs) padded
    ∙ drop-replicate 1 (port_limit - len) 0
    ∙ ap (λ n. replicate n 0) (omega arith)

above_zero : (n : ℕ) → (n == 0) ≡ false → 0 < n
above_zero zero e = absurd (cc)
above_zero (suc n) e = omega arith

not_zero : (n : ℕ) → 0 < n → (n == 0) ≡ false
not_zero n above = ne_eqb n 0 (λ e. absurd (omega (arith, e, above)))

is_zero : (n : ℕ) → n ≡ 0 → (n == 0) ≡ true
is_zero n e = eq-eqb n 0 e

-- so many numbers stand before the first 0
pub first_zero : (kept : List ℕ) (n : ℕ) → n < length kept → ((k : ℕ) → k < n → (get_or kept k 0 == 0) ≡ false) → get_or kept n 0 ≡ 0 → ports_in kept ≡ n
first_zero kept n within before here =
    position_or_len_is (λ x. x == 0) kept n 0 (omega (arith, within)) before (λ _. is_zero (get_or kept n 0) here)

-- none is 0
pub no_zero : (kept : List ℕ) → ((k : ℕ) → k < length kept → (get_or kept k 0 == 0) ≡ false) → ports_in kept ≡ length kept
no_zero kept before =
    position_or_len_is (λ x. x == 0) kept (length kept) 0 (omega arith) before (λ within. absurd (omega (arith, within)))

-- no port has the number 0
pub ports_above : (kept : List ℕ) (n k d : ℕ) → n ≡ ports_in kept → k < length (take n kept) → 0 < get_or (take n kept) k d
ports_above kept n k d e within =
    let le : ports_in kept ≤ length kept = prefix_len-le-length _ kept in
    let few : n ≤ length kept = omega (arith, e, le) in
    let inside : k < n = omega (arith, length-take-le n kept few, within) in
    let at : get_or (take n kept) k d ≡ get_or kept k d = get_or-take n kept k d inside in
    let other : (get_or kept k d == 0) ≡ false = fails_before_first (λ x. x == 0) kept k d (omega (arith, inside, e)) in
    omega (arith, at, above_zero (get_or kept k d) other)

module _ (kept : List ℕ) (len number : ℕ) (within : len < length kept) where
  -- a number that isn't 0 in the place of the first one that is
  put_before : (k : ℕ) → 0 < number → ((j : ℕ) → j < len → (get_or kept j 0 == 0) ≡ false) → k < len + 1 → (get_or (set kept len number) k 0 == 0) ≡ false
  put_before k above before inside = by (k == len) refl
    where
      by : (b : Bool) → (k == len) ≡ b → (get_or (set kept len number) k 0 == 0) ≡ false
      by true e = ap (λ n. n == 0) (get_or-set_at kept len k number 0 (eqb-true k len e) within) ∙ not_zero number above
      by false e =
          let apart : k ≡ len → ⊥ = λ same. let t = eq-eqb k len same in cc in
          ap (λ n. n == 0) (get_or-set_other kept len k number 0 apart) ∙ before k (omega (arith, inside, apart))

-- one number more
pub ports_push : (kept : List ℕ) (number : ℕ) → length kept ≡ port_limit → drop (ports_in kept) kept ≡ replicate (port_limit - ports_in kept) 0 →
    ports_in kept < port_limit → 0 < number → ports_in (set kept (ports_in kept) number) ≡ ports_in kept + 1
ports_push kept number whole padded few above =
    let len : ℕ = ports_in kept in
    let put : List ℕ = set kept len number in
    let within : len < length kept = omega (arith, whole, few) in
    let long : length put ≡ length kept = length-set kept len number in
    let next : len + 1 < length put → (get_or put (len + 1) 0 == 0) ≡ true =
    λ more.
    let apart : len + 1 ≡ len → ⊥ = λ same. omega (arith, same) in
    is_zero (get_or put (len + 1) 0)
    (get_or-set_other kept len (len + 1) number 0 apart
    ∙ sym (get_or-drop len kept 1 0)
    ∙ ap (λ xs. get_or xs 1 0) padded
    ∙ get_or-replicate (port_limit - len) 1 0 0 (omega (arith, more, long, whole))) in
    position_or_len_is (λ x. x == 0) put (len + 1) 0 (omega (arith, long, within))
    (λ k inside. put_before kept len number within k above (λ j earlier. fails_before_first (λ x. x == 0) kept j 0 earlier) inside)
    next

-- how long the numbers of the ports are
pub ports_long : (kept : List ℕ) (set : List ℕ) (n : ℕ) → take (ports_in kept) kept ≡ set → n ≡ length set → n ≡ ports_in kept
ports_long kept set n is long = long ∙ sym (ap (λ xs. length xs) is) ∙ length-prefix_len _ kept

module _ (kept : List ℕ) (n number : ℕ) (is : n ≡ ports_in kept) (whole : length kept ≡ port_limit)
    (padded : drop (ports_in kept) kept ≡ replicate (port_limit - ports_in kept) 0) (few : n < port_limit) (above : 0 < number) where
  pub one_more : ports_in (set kept n number) ≡ n + 1
  one_more = subst (λ m. ports_in (set kept m number) ≡ m + 1) (sym is) (ports_push kept number whole padded (omega (arith, is, few)) above)

  pub padded_push : drop (ports_in (set kept n number)) (set kept n number) ≡ replicate (port_limit - ports_in (set kept n number)) 0
  padded_push = rw one_more (drop_push kept n number (subst (λ m. drop m kept ≡ replicate (port_limit - m) 0) (sym is) padded))

  pub value_push : take (ports_in (set kept n number)) (set kept n number) ≡ take (ports_in kept) kept ++ number ∷ []
  value_push =
      ap (λ m. take m (set kept n number)) one_more
      ∙ take_more (set kept n number) n 0 (omega (arith, length-set kept n number, whole, few))
      ∙ ap (λ x. take n (set kept n number) ++ x ∷ []) (get_or-set_at kept n n number 0 refl (omega (arith, whole, few)))
      ∙ ap (λ xs. xs ++ number ∷ []) (take-set-le n kept n number (omega arith))
      ∙ ap (λ m. take m kept ++ number ∷ []) is
