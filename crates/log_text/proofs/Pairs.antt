-- Pairs of digits, with what was read so far put before.
use Rattle.std.proofs.Common.{◌≡◌, ℕ, List, [], ◌∷◌, ◌++◌, Option, Some, None, refl, sym, ◌∙◌, ap, append_assoc, arith, length, option_map}
use Rattle.std.proofs.lemmas.List.{append-nil}
use Rattle.std.proofs.Common.{◌≤◌, ◌==◌, true, false, nat_lt, suc}
use Rattle.bus_frame.specs.Frames.{CanFrame}
use Rattle.log_fields.specs.Fields.{next_word}
use Rattle.log_text.specs.Screen.{byte_of, bytes_in}
use Rattle.std.proofs.lemmas.Bool.Decides.{nat_tests}
use Rattle.text_digits.specs.Numerals.{pairs_of, pair_of}
use Rattle.log_text.specs.Digits.{data_of}

no_bytes : (s : List ℕ) → length s ≡ 0 → s ≡ []
no_bytes [] h = refl
no_bytes (b ∷ s) h = absurd (omega arith)

abbrev pub with_front : List ℕ → Option (List ℕ) → Option (List ℕ)
with_front front None = None
with_front front (Some others) = Some (front ++ others)

regroup : (front : List ℕ) (b : ℕ) (read : Option (List ℕ)) → with_front front (with_front (b ∷ []) read) ≡ with_front (front ++ b ∷ []) read
regroup front b None = refl
regroup front b (Some others) = ap Some (sym (append_assoc front (b ∷ []) others))

step : (a b byte : ℕ) (rest : List ℕ) → pair_of a b ≡ Some byte → pairs_of (a ∷ b ∷ rest) ≡ with_front (byte ∷ []) (pairs_of rest)
unfolding pairs_of
step a b byte rest e = rw e (elim (pairs_of rest) as (λ r. option_map (λ others. byte ∷ others) r ≡ with_front (byte ∷ []) r) [ None ↦ refl | Some others ↦ refl ])

pub pair_read : (front : List ℕ) (a b byte : ℕ) (word after rest : List ℕ) (all : Option (List ℕ)) → word ≡ a ∷ after → after ≡ b ∷ rest → pair_of a b ≡ Some byte
    → with_front front (pairs_of word) ≡ all → with_front (front ++ byte ∷ []) (pairs_of rest) ≡ all
pair_read front a b byte word after rest all w v e so_far =
    let one : pairs_of word ≡ with_front (byte ∷ []) (pairs_of rest) = rw (w, v) (step a b byte rest e) in
    sym (ap (with_front front) one ∙ regroup front byte (pairs_of rest)) ∙ so_far

pub pair_odd : (front : List ℕ) (a : ℕ) (word after : List ℕ) (all : Option (List ℕ)) → word ≡ a ∷ after → length after ≡ 0 → with_front front (pairs_of word) ≡ all → all ≡ None
unfolding pairs_of
pair_odd front a word after all w v so_far = let one : with_front front (pairs_of word) ≡ None = rw (w, no_bytes after v) refl in sym so_far ∙ one

pub pair_bad : (front : List ℕ) (a b : ℕ) (word after rest : List ℕ) (all : Option (List ℕ)) → word ≡ a ∷ after → after ≡ b ∷ rest → pair_of a b ≡ None → with_front front (pairs_of word) ≡ all → all ≡ None
unfolding pairs_of
pair_bad front a b word after rest all w v e so_far = let one : with_front front (pairs_of word) ≡ None = rw (w, v, e) refl in sym so_far ∙ one

pub pairs_end : (front word : List ℕ) (all : Option (List ℕ)) → length word ≡ 0 → with_front front (pairs_of word) ≡ all → all ≡ Some front
unfolding pairs_of
pairs_end front word all w so_far = let one : with_front front (pairs_of word) ≡ Some front = rw (no_bytes word w) (ap Some (append-nil front)) in sym so_far ∙ one

-- the frame, where its digits aren't too many
pub frame_none : (id : ℕ) (digits : List ℕ) → length digits ≤ 16 → pairs_of digits ≡ None → data_of id digits ≡ None
frame_none id digits h e = let t : nat_lt 16 (length digits) ≡ false = grind (arith, nat_tests) in rw (t, e) refl

pub frame_some : (id : ℕ) (digits bytes : List ℕ) → length digits ≤ 16 → pairs_of digits ≡ Some bytes → data_of id digits ≡ Some record { id = id; bytes = bytes }
frame_some id digits bytes h e = let t : nat_lt 16 (length digits) ≡ false = grind (arith, nat_tests) in rw (t, e) refl

-- words of two digits on a screen

word_step : (n : ℕ) (text : List ℕ) (byte : ℕ) → byte_of (next_word text).0 ≡ Some byte → bytes_in (suc n) text ≡ with_front (byte ∷ []) (bytes_in n (next_word text).1)
unfolding bytes_in
word_step n text byte e = rw e (elim (bytes_in n (next_word text).1) as (λ r. option_map (λ others. byte ∷ others) r ≡ with_front (byte ∷ []) r) [ None ↦ refl | Some others ↦ refl ])

pub word_read : (front : List ℕ) (left n : ℕ) (text : List ℕ) (byte : ℕ) (all : Option (List ℕ)) → left ≡ suc n → byte_of (next_word text).0 ≡ Some byte → with_front front (bytes_in left text) ≡ all
    → with_front (front ++ byte ∷ []) (bytes_in n (next_word text).1) ≡ all
word_read front left n text byte all l e so_far =
    let one : bytes_in left text ≡ with_front (byte ∷ []) (bytes_in n (next_word text).1) = ap (λ k. bytes_in k text) l ∙ word_step n text byte e in
    sym (ap (with_front front) one ∙ regroup front byte (bytes_in n (next_word text).1)) ∙ so_far

pub word_bad : (front : List ℕ) (left n : ℕ) (text : List ℕ) (all : Option (List ℕ)) → left ≡ suc n → byte_of (next_word text).0 ≡ None → with_front front (bytes_in left text) ≡ all → all ≡ None
unfolding bytes_in
word_bad front left n text all l e so_far = let one : with_front front (bytes_in left text) ≡ None = rw (l, e) refl in sym so_far ∙ one

pub words_over : (front : List ℕ) (left : ℕ) (text : List ℕ) (all : Option (List ℕ)) → left ≡ 0 → (length (next_word text).0 == 0) ≡ false → with_front front (bytes_in left text) ≡ all → all ≡ None
unfolding bytes_in
words_over front left text all l e so_far = let one : with_front front (bytes_in left text) ≡ None = rw (l, e) refl in sym so_far ∙ one

pub words_end : (front : List ℕ) (left : ℕ) (text : List ℕ) (all : Option (List ℕ)) → left ≡ 0 → (length (next_word text).0 == 0) ≡ true → with_front front (bytes_in left text) ≡ all → all ≡ Some front
unfolding bytes_in
words_end front left text all l e so_far = let one : with_front front (bytes_in left text) ≡ Some front = rw (l, e) (ap Some (append-nil front)) in sym so_far ∙ one

-- the frame of those bytes
pub made_none : (id : ℕ) (o : Option (List ℕ)) → o ≡ None → ◌≡◌ {A = Option CanFrame} (option_map (λ bytes. record { id = id; bytes = bytes }) o) None
made_none id o e = ap (λ r. option_map {T = List ℕ} {U = CanFrame} (λ bytes. record { id = id; bytes = bytes }) r) e

pub made_some : (id : ℕ) (o : Option (List ℕ)) (bytes : List ℕ) → o ≡ Some bytes → ◌≡◌ {A = Option CanFrame} (option_map (λ bytes. record { id = id; bytes = bytes }) o) (Some record { id = id; bytes = bytes })
made_some id o bytes e = ap (λ r. option_map {T = List ℕ} {U = CanFrame} (λ bytes. record { id = id; bytes = bytes }) r) e
