-- What stands between marks and spaces is found there.
use Rattle.std.proofs.Common.{◌≡◌, ◌≢◌, ℕ, zero, suc, ◌+◌, ◌<◌, List, [], ◌∷◌, ◌++◌, length, take, drop, true, Some, None, refl, ◌∙◌, ap, arith, add-one, option_map, unwrap_or}
use Rattle.std.proofs.lemmas.Bool.{ne_eqb}
use Rattle.std.proofs.lemmas.Bool.Decides.{nat_tests}
use Rattle.std.specs.Prelude.{◌==◌, ◌/◌, ◌%◌}
use Rattle.text_digits.specs.Numerals.{◌>>=◌}
use Rattle.text_digits.specs.Digits.{digits}
use Rattle.log_fields.specs.Fields.{place_of, cut_at, spaces_in, word_len, next_word}
use Rattle.log_text.proofs.DigitsBack.{char_from}

-- no byte is this one
abbrev pub Without : ℕ → List ℕ → Type 0
Without w [] = Unit {0}
Without w (b ∷ bs) = (b ≢ w) × Without w bs

pub without_append : (w : ℕ) (xs ys : List ℕ) → Without w xs → Without w ys → Without w (xs ++ ys)
without_append w [] ys f g = g
without_append w (b ∷ bs) ys f g = (f.0, without_append w bs ys f.1 g)

-- marks and spaces are no digits
pub digits_without : (w base width n : ℕ) → w < 48 → Without w (digits base width n)
digits_without w base zero n h = tt
digits_without w base (suc width) n h =
    let c = char_from (n % base) in
    without_append w (digits base width (n / base)) _ (digits_without w base width (n / base) h) (λ e. omega (arith, c, h, e), tt)

same_byte : (w : ℕ) → (w == w) ≡ true
same_byte w = grind (arith, nat_tests)

pub place_front : (w : ℕ) (xs rest : List ℕ) → Without w xs → place_of w (xs ++ w ∷ rest) ≡ Some (length xs)
place_front w [] rest f = rw (same_byte w) refl
place_front w (b ∷ bs) rest f =
    let e : length bs + 1 ≡ suc (length bs) = omega arith in
    rw (ne_eqb _ _ f.0) (ap (option_map (λ at. at + 1)) (place_front w bs rest f.1) ∙ ap Some e)

place_none : (w : ℕ) (xs : List ℕ) → Without w xs → place_of w xs ≡ None
place_none w [] f = refl
place_none w (b ∷ bs) f = rw (ne_eqb _ _ f.0) (ap (option_map (λ at. at + 1)) (place_none w bs f.1))

pub take_front : (xs ys : List ℕ) → take (length xs) (xs ++ ys) ≡ xs
take_front [] ys = refl
take_front (x ∷ xs) ys = ap (λ zs. x ∷ zs) (take_front xs ys)

drop_front : (xs ys : List ℕ) → drop (length xs) (xs ++ ys) ≡ ys
drop_front [] ys = refl
drop_front (x ∷ xs) ys = drop_front xs ys

drop_behind : (xs : List ℕ) (w : ℕ) (ys : List ℕ) → drop (suc (length xs)) (xs ++ w ∷ ys) ≡ ys
drop_behind [] w ys = refl
drop_behind (x ∷ xs) w ys = drop_behind xs w ys

pub cut_front : (w : ℕ) (xs rest : List ℕ) → Without w xs → cut_at w (xs ++ w ∷ rest) ≡ Some (xs, rest)
cut_front w xs rest f =
    let text : List ℕ = xs ++ w ∷ rest in
    let d : drop (length xs + 1) (xs ++ w ∷ rest) ≡ rest = rw add-one (drop_behind xs w rest) in
    ap (λ o. o >>= λ at. Some (take at text, drop (at + 1) text)) (place_front w xs rest f) ∙ (λ i. Some (take_front xs (w ∷ rest) i, d i))

all_taken : (xs : List ℕ) → take (length xs) xs ≡ xs
all_taken [] = refl
all_taken (x ∷ xs) = ap (λ zs. x ∷ zs) (all_taken xs)

all_dropped : (xs : List ℕ) → drop (length xs) xs ≡ []
all_dropped [] = refl
all_dropped (x ∷ xs) = all_dropped xs

no_spaces : (b : ℕ) (bs : List ℕ) → b ≢ 32 → spaces_in (b ∷ bs) ≡ 0
no_spaces b bs n = rw (ne_eqb b 32 n) refl

abbrev split : ℕ → List ℕ → List ℕ × List ℕ
split n text = (take n text, drop n text)

-- behind one space
word_at : (b : ℕ) (bs : List ℕ) (n : ℕ) → b ≢ 32 → word_len (b ∷ bs) ≡ n → next_word (32 ∷ b ∷ bs) ≡ split n (b ∷ bs)
word_at b bs n f l =
    let s : spaces_in (32 ∷ b ∷ bs) ≡ 1 = ap (λ k. k + 1) (no_spaces b bs f) in
    ap (λ t. split (word_len t) t) (ap (λ k. drop k (32 ∷ b ∷ bs)) s) ∙ ap (λ k. split k (b ∷ bs)) l

-- a word behind a space, and another space behind it
pub word_front : (b : ℕ) (bs rest : List ℕ) → Without 32 (b ∷ bs) → next_word (32 ∷ (b ∷ bs) ++ 32 ∷ rest) ≡ (b ∷ bs, 32 ∷ rest)
word_front b bs rest f =
    let text : List ℕ = b ∷ bs ++ 32 ∷ rest in
    word_at b (bs ++ 32 ∷ rest) (length (b ∷ bs)) f.0 (ap (λ o. unwrap_or o (length text)) (place_front 32 (b ∷ bs) rest f))
    ∙ (λ i. (take_front (b ∷ bs) (32 ∷ rest) i, drop_front (b ∷ bs) (32 ∷ rest) i))

-- the last one
pub word_last : (b : ℕ) (bs : List ℕ) → Without 32 (b ∷ bs) → next_word (32 ∷ b ∷ bs) ≡ (b ∷ bs, [])
word_last b bs f =
    word_at b bs (length (b ∷ bs)) f.0 (ap (λ o. unwrap_or o (length (b ∷ bs))) (place_none 32 (b ∷ bs) f))
    ∙ (λ i. (all_taken (b ∷ bs) i, all_dropped (b ∷ bs) i))
