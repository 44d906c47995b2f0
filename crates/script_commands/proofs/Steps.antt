-- Reading that goes on, with what was read so far put before.
use Rattle.std.proofs.Common.{◌≡◌, ℕ, ◌+◌, List, [], ◌∷◌, ◌++◌, Option, Some, None, Result, Ok, Err, refl, sym, ◌∙◌, ap, append_assoc, arith, length, drop, get_or, suc, ◌<◌, ◌≤◌, add-one, drop-cons}
use Rattle.std.specs.Borrow.{Bor}
use Rattle.std.proofs.lemmas.List.{get_or-map, length-map, drop_all}
use Rattle.script_commands.specs.Words.{texts}
use Rattle.std.proofs.lemmas.List.{append-nil}
use Rattle.std.specs.Prelude.{option_map}
use Rattle.text_digits.specs.Numerals.{pairs_of, pair_of}
use Rattle.pgn_ids.specs.declared.address.Address.{Address}
use Rattle.script_commands.specs.Values.{address_of, addresses_of, ◌>>=◌, Fails}
use Rattle.line_faults.specs.declared.fault.Fault.{Fault}
use Rattle.line_faults.specs.declared.fault.LineError.{LineError}
use Rattle.line_faults.specs.declared.fault.LineError.TheVariants as errors

abbrev pub with_addresses : List Address → Result (List Address) Fault → Result (List Address) Fault
with_addresses front read = read >>= λ others. Ok (front ++ others)

regroup : (front : List Address) (a : Address) (read : Result (List Address) Fault) → with_addresses front (read >>= λ others. Ok (a ∷ others)) ≡ with_addresses (front ++ a ∷ []) read
regroup front a (Ok others) = ap Ok (sym (append_assoc front (a ∷ []) others))
regroup front a (Err f) = refl

pub address_read : (front : List Address) (a : Address) (words rest : List (List ℕ)) (word : List ℕ) (all : Result (List Address) Fault) → words ≡ word ∷ rest → address_of word ≡ Ok a
    → with_addresses front (addresses_of words) ≡ all → with_addresses (front ++ a ∷ []) (addresses_of rest) ≡ all
unfolding addresses_of
address_read front a words rest word all w e so_far =
    let one : with_addresses front (addresses_of words) ≡ with_addresses (front ++ a ∷ []) (addresses_of rest) = rw (w, e) (regroup front a (addresses_of rest)) in
    sym one ∙ so_far

pub address_fails : (e : LineError) (front : List Address) (words rest : List (List ℕ)) (word : List ℕ) (all : Result (List Address) Fault) → words ≡ word ∷ rest → Fails e (address_of word)
    → with_addresses front (addresses_of words) ≡ all → Fails e all
unfolding addresses_of
address_fails errors.OutOfMemory front words rest word all w h so_far = tt
address_fails (errors.Fault f) front words rest word all w h so_far =
    let one : with_addresses front (addresses_of words) ≡ Err f = rw (w, h) refl in
    sym so_far ∙ one

pub addresses_end : (front : List Address) (words : List (List ℕ)) (all : Result (List Address) Fault) → words ≡ [] → with_addresses front (addresses_of words) ≡ all → all ≡ Ok front
unfolding addresses_of
addresses_end front words all w so_far =
    let one : with_addresses front (addresses_of words) ≡ Ok front = rw w (ap Ok (append-nil front)) in
    sym so_far ∙ one

no_bytes : (s : List ℕ) → length s ≡ 0 → s ≡ []
no_bytes [] h = refl
no_bytes (b ∷ s) h = absurd (omega arith)

-- the texts from place i on
pub texts_at : (words : List (Bor (List ℕ))) (i : ℕ) (d : Bor (List ℕ)) → d.now ≡ [] → i < length words → drop i (texts words) ≡ (get_or words i d).now ∷ drop (i + 1) (texts words)
texts_at words i d e h =
    let l : i < length (texts words) = simp length-map h in
    rw (add-one, drop-cons (texts words) i []) (ap (λ w. w ∷ drop (suc i) (texts words)) (get_or-map (λ (w : Bor (List ℕ)). w.now) words i d [] h))

pub texts_end : (words : List (Bor (List ℕ))) (i : ℕ) → length words ≤ i → drop i (texts words) ≡ []
texts_end words i h = drop_all i (texts words) (simp length-map h)

abbrev pub with_data : List ℕ → Option (List ℕ) → Option (List ℕ)
with_data front None = None
with_data front (Some others) = Some (front ++ others)

data_regroup : (front : List ℕ) (b : ℕ) (read : Option (List ℕ)) → with_data front (with_data (b ∷ []) read) ≡ with_data (front ++ b ∷ []) read
data_regroup front b None = refl
data_regroup front b (Some others) = ap Some (sym (append_assoc front (b ∷ []) others))

data_step : (a b byte : ℕ) (rest : List ℕ) → pair_of a b ≡ Some byte → pairs_of (a ∷ b ∷ rest) ≡ with_data (byte ∷ []) (pairs_of rest)
unfolding pairs_of
data_step a b byte rest e = rw e (elim (pairs_of rest) as (λ r. option_map (λ others. byte ∷ others) r ≡ with_data (byte ∷ []) r) [ None ↦ refl | Some others ↦ refl ])

pub data_read : (front : List ℕ) (a b byte : ℕ) (word after rest : List ℕ) (all : Option (List ℕ)) → word ≡ a ∷ after → after ≡ b ∷ rest → pair_of a b ≡ Some byte
    → with_data front (pairs_of word) ≡ all → with_data (front ++ byte ∷ []) (pairs_of rest) ≡ all
data_read front a b byte word after rest all w v e so_far =
    let one : pairs_of word ≡ with_data (byte ∷ []) (pairs_of rest) = rw (w, v) (data_step a b byte rest e) in
    sym (ap (with_data front) one ∙ data_regroup front byte (pairs_of rest)) ∙ so_far

pub data_odd : (front : List ℕ) (a : ℕ) (word after : List ℕ) (all : Option (List ℕ)) → word ≡ a ∷ after → length after ≡ 0 → with_data front (pairs_of word) ≡ all → None ≡ all
unfolding pairs_of
data_odd front a word after all w v so_far = let one : with_data front (pairs_of word) ≡ None = rw (w, no_bytes after v) refl in sym one ∙ so_far

pub data_bad : (front : List ℕ) (a b : ℕ) (word after rest : List ℕ) (all : Option (List ℕ)) → word ≡ a ∷ after → after ≡ b ∷ rest → pair_of a b ≡ None → with_data front (pairs_of word) ≡ all → None ≡ all
unfolding pairs_of
data_bad front a b word after rest all w v e so_far = let one : with_data front (pairs_of word) ≡ None = rw (w, v, e) refl in sym one ∙ so_far

pub data_end : (front word : List ℕ) (all : Option (List ℕ)) → length word ≡ 0 → with_data front (pairs_of word) ≡ all → Some front ≡ all
unfolding pairs_of
data_end front word all w so_far = let one : with_data front (pairs_of word) ≡ Some front = rw (no_bytes word w) (ap Some (append-nil front)) in sym one ∙ so_far
