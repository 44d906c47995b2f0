-- What is read of a line as candump -L writes it.
use Rattle.std.proofs.Common.{◌≡◌, ◌≢◌, ℕ, ◌+◌, ◌*◌, ◌/◌, ◌^◌, ◌<◌, List, [], ◌∷◌, ◌++◌, length, length-append, take, drop, append_assoc, Bool, true, false, ◌&&◌, is_some, Option, Some, None, refl, sym, subst, ◌∙◌, ap, arith, nat_lt, nat_le, if◌then◌else◌, ◌==◌}
use lib.ListN.{take-append-drop}
use Rattle.std.proofs.lemmas.Bool.{ne_eqb}
use Rattle.std.proofs.lemmas.Bool.Decides.{nat_tests}
use Rattle.std.proofs.lemmas.Option.{none-some, option_and_then_some}
use Rattle.bus_frame.specs.Frames.{CanFrame}
use Rattle.text_digits.specs.Numerals.{◌>>=◌, digit_of, put_digit, numeral_from, pair_of, pairs_of}
use Rattle.log_text.specs.Digits.{data_of}
use Rattle.log_fields.specs.Fields.{cut_at, next_word}
use Rattle.log_text.specs.Line.{is_other, is_ended, long_frame, frame_line, behind_time}
use Rattle.log_fields.specs.Iface.{iface_of}
use Rattle.log_text.specs.Reading.{micros_of, stamp_of, is_id, is_bracket, begins_shown, shown_line, stamped_line}
use Rattle.log_fields.specs.declared.iface.Iface.{Iface}
use Rattle.log_text.specs.declared.line.LogLine.{LogLine}
use Rattle.log_text.specs.declared.line.LogLine.TheVariants.{Frame}
use Rattle.log_text.proofs.FieldsBack.{Without, without_append, cut_front}
use Rattle.log_text.proofs.Written.{word_parts, last_word}

-- what is below the digits is none
no_digit : (b : ℕ) → b < 48 → digit_of b ≡ None
no_digit b h =
    let p : nat_le 48 b ≡ false = grind (arith, nat_tests) in
    let q : nat_le 65 b ≡ false = grind (arith, nat_tests) in
    let r : nat_le 97 b ≡ false = grind (arith, nat_tests) in
    rw (p, q, r) refl

digit_is : (w b d : ℕ) → w < 48 → digit_of b ≡ Some d → b ≢ w
digit_is w b d h e s = none-some d (sym (no_digit b (omega (arith, h, s))) ∙ e)

abbrev digit_put : (base n d : ℕ) → Option ℕ
digit_put base n d = if nat_lt d base && nat_lt (base * n + d) (2 ^ 64) then Some (base * n + d) else None

put_is : (w base n b m : ℕ) → w < 48 → put_digit base n b ≡ Some m → b ≢ w
put_is w base n b m h e = option_and_then_some (digit_put base n) (digit_of b) m e (λ d p q. digit_is w b d h p)

-- in the digits of a number there are no marks and no spaces
numeral_without : (w base n : ℕ) (xs : List ℕ) (m : ℕ) → w < 48 → numeral_from base n xs ≡ Some m → Without w xs
numeral_without w base n [] m h e = tt
numeral_without w base n (b ∷ bs) m h e =
    option_and_then_some (λ k. numeral_from base k bs) (put_digit base n b) m e (λ k p q. (put_is w base n b k h p, numeral_without w base k bs m h q))

abbrev low_put : (b high : ℕ) → Option ℕ
low_put b high = digit_of b >>= (λ low. Some (16 * high + low))

pair_is : (w a b byte : ℕ) → w < 48 → pair_of a b ≡ Some byte → (a ≢ w) × (b ≢ w)
pair_is w a b byte h e =
    option_and_then_some (low_put b) (digit_of a) byte e (λ high p q.
    option_and_then_some (λ low. Some (16 * high + low)) (digit_of b) byte q (λ low r s. (digit_is w a high h p, digit_is w b low h r)))

abbrev put_front : List ℕ → ℕ → Option (List ℕ)
put_front rest byte = pairs_of rest >>= (λ others. Some (byte ∷ others))

-- nor in pairs of them
pairs_without : (w : ℕ) (xs ys : List ℕ) → w < 48 → pairs_of xs ≡ Some ys → Without w xs
unfolding pairs_of
pairs_without w [] ys h e = tt
pairs_without w (a ∷ []) ys h e = absurd (none-some ys e)
pairs_without w (a ∷ b ∷ rest) ys h e =
    option_and_then_some (put_front rest) (pair_of a b) ys e (λ byte p q.
    option_and_then_some (λ others. Some (byte ∷ others)) (pairs_of rest) ys q (λ others r s.
    let both = pair_is w a b byte h p in (both.0, (both.1, pairs_without w rest others h r))))

not_remote : (b d : ℕ) → digit_of b ≡ Some d → b ≢ 82
not_remote b d e s = none-some d (sym (ap digit_of s) ∙ e)

pairs_no_other : (xs ys : List ℕ) → pairs_of xs ≡ Some ys → is_other xs ≡ false
unfolding pairs_of
pairs_no_other [] ys e = refl
pairs_no_other (a ∷ []) ys e = absurd (none-some ys e)
pairs_no_other (a ∷ b ∷ rest) ys e =
    option_and_then_some (put_front rest) (pair_of a b) ys e (λ byte p q.
    option_and_then_some (low_put b) (digit_of a) byte p (λ high r s.
    rw (ne_eqb a 82 (not_remote a high r), ne_eqb a 35 (digit_is 35 a high (omega arith) r)) refl))

abbrev framed : ℕ → List ℕ → Option CanFrame
framed id bytes = Some record { id = id; bytes = bytes }

abbrev data_by : ℕ → List ℕ → Bool → Option CanFrame
data_by id digits t = if t then None else (pairs_of digits >>= framed id)

data_pairs : (P : Type 0) (id : ℕ) (digits : List ℕ) (f : CanFrame) (t : Bool) → data_by id digits t ≡ Some f → ((bytes : List ℕ) → pairs_of digits ≡ Some bytes → P) → P
data_pairs P id digits f true e k = absurd (none-some f e)
data_pairs P id digits f false e k = option_and_then_some (framed id) (pairs_of digits) f e (λ bytes p q. k bytes p)

data_without : (w id : ℕ) (digits : List ℕ) (f : CanFrame) → w < 48 → data_of id digits ≡ Some f → Without w digits
data_without w id digits f h e = data_pairs (Without w digits) id digits f (nat_lt 16 (length digits)) e (λ bytes p. pairs_without w digits bytes h p)

data_no_other : (id : ℕ) (digits : List ℕ) (f : CanFrame) → data_of id digits ≡ Some f → is_other digits ≡ false
data_no_other id digits f e = data_pairs (is_other digits ≡ false) id digits f (nat_lt 16 (length digits)) e (λ bytes p. pairs_no_other digits bytes p)

long_there : (time : ℕ) (iface : Iface) (xs ys : List ℕ) (id : ℕ) (f : CanFrame) → numeral_from 16 0 xs ≡ Some id → is_other ys ≡ false → nat_le (2 ^ 29) id ≡ false → data_of id ys ≡ Some f
    → long_frame time iface xs ys ≡ Some (Frame (Some time) iface f)
unfolding long_frame
long_there time iface xs ys id f n o t d = rw (n, o, t, d) refl

-- what the last word of a line says
abbrev pub Shows : ℕ → Iface → CanFrame → List ℕ × List ℕ → Type 0
Shows time iface f p = (is_id p.0 ≡ false) × (is_ended p.1 ≡ true) × (frame_line time iface p.0 ≡ Some (Frame (Some time) iface f))

longer : (xs : List ℕ) → 8 < length xs → is_id xs ≡ false
longer xs h =
    let p : (length xs == 8) ≡ false = ne_eqb _ _ (λ e. omega (arith, h, e)) in
    let q : (length xs == 3) ≡ false = ne_eqb _ _ (λ e. omega (arith, h, e)) in
    rw (p, q) refl

pub frame_there : (time : ℕ) (iface : Iface) (text xs ys : List ℕ) (id : ℕ) (f : CanFrame) → text ≡ 32 ∷ xs ++ 35 ∷ ys → length xs ≡ 8 → numeral_from 16 0 xs ≡ Some id → id < 2 ^ 29 → data_of id ys ≡ Some f
    → Shows time iface f (next_word text)
frame_there time iface text xs ys id f e l n t d =
    let word : List ℕ = xs ++ 35 ∷ ys in
    let bare : Without 32 word = without_append 32 xs (35 ∷ ys) (numeral_without 32 16 0 xs id (omega arith) n) (λ q. omega (arith, q), data_without 32 id ys f (omega arith) d) in
    let many : 8 < length word = simp length-append (omega (arith, l)) in
    let last : next_word text ≡ (word, []) = ap next_word e ∙ last_word word (omega (arith, many)) bare in
    let low : nat_le (2 ^ 29) id ≡ false = grind (arith, nat_tests, t) in
    let line : frame_line time iface word ≡ Some (Frame (Some time) iface f) = word_parts time iface word xs ys _ (cut_front 35 xs ys (numeral_without 35 16 0 xs id (omega arith) n)) l (long_there time iface xs ys id f n (data_no_other id ys f d) low d) in
    subst (Shows time iface f) (sym last) (longer word many, refl, line)

stamped_parts : (text stamp rest xs ys : List ℕ) (time : ℕ) → cut_at 41 text ≡ Some (stamp, rest) → cut_at 46 stamp ≡ Some (xs, ys) → stamp_of xs ys ≡ Some time
    → stamped_line text ≡ (if begins_shown rest then shown_line (Some time) rest else behind_time time rest)
unfolding stamped_line
stamped_parts text stamp rest xs ys time a b c = rw (a, b, c) refl

abbrev micros_by : List ℕ → ℕ → Option ℕ
micros_by ys n = if length ys == 6 then Some n else if length ys == 9 then Some (n / 1000) else None

micros_without : (w : ℕ) (ys : List ℕ) (m : ℕ) → w < 48 → micros_of ys ≡ Some m → Without w ys
unfolding micros_of
micros_without w ys m h e = option_and_then_some (micros_by ys) (numeral_from 10 0 ys) m e (λ n p q. numeral_without w 10 0 ys n h p)

abbrev sum_by : (s m : ℕ) → Option ℕ
sum_by s m = if nat_lt (s * 1000000 + m) (2 ^ 64) then Some (s * 1000000 + m) else None

abbrev seconds_by : List ℕ → ℕ → Option ℕ
seconds_by ys s = micros_of ys >>= sum_by s

abbrev stamp_by : (xs ys : List ℕ) → Bool → Option ℕ
stamp_by xs ys t = if t then None else (numeral_from 10 0 xs >>= seconds_by ys)

both_by : (w : ℕ) (xs ys : List ℕ) (time : ℕ) (t : Bool) → w < 48 → stamp_by xs ys t ≡ Some time → Without w xs × Without w ys
both_by w xs ys time true h e = absurd (none-some time e)
both_by w xs ys time false h e =
    option_and_then_some (seconds_by ys) (numeral_from 10 0 xs) time e (λ s p q.
    option_and_then_some (sum_by s) (micros_of ys) time q (λ m r u. (numeral_without w 10 0 xs s h p, micros_without w ys m h r)))

stamp_without : (w : ℕ) (xs ys : List ℕ) (time : ℕ) → w < 48 → stamp_of xs ys ≡ Some time → Without w xs × Without w ys
unfolding stamp_of
stamp_without w xs ys time h e = both_by w xs ys time (length xs == 0) h e

pub stamped_there : (text xs ys rest : List ℕ) (time : ℕ) → text ≡ xs ++ 46 ∷ (ys ++ 41 ∷ rest) → stamp_of xs ys ≡ Some time
    → stamped_line text ≡ (if begins_shown rest then shown_line (Some time) rest else behind_time time rest)
stamped_there text xs ys rest time e s =
    let point = stamp_without 46 xs ys time (omega arith) s in
    let end = stamp_without 41 xs ys time (omega arith) s in
    let bare : Without 41 (xs ++ 46 ∷ ys) = without_append 41 xs (46 ∷ ys) end.0 (λ q. omega (arith, q), end.1) in
    let whole : text ≡ (xs ++ 46 ∷ ys) ++ 41 ∷ rest = e ∙ sym (append_assoc xs (46 ∷ ys) (41 ∷ rest)) in
    stamped_parts text (xs ++ 46 ∷ ys) rest xs ys time (ap (cut_at 41) whole ∙ cut_front 41 (xs ++ 46 ∷ ys) rest bare) (cut_front 46 xs ys point.0) s

-- a text in two parts
pub parted : (n : ℕ) (text front back : List ℕ) → front ≡ take n text → back ≡ drop n text → text ≡ front ++ back
parted n text front back f b = rw (f, b) (sym (take-append-drop n text))

-- by the first word behind the time, and what stands behind it
abbrev Behind : ℕ → List ℕ → Option LogLine → List ℕ × List ℕ → Type 0
Behind time text found p =
    (if is_some (iface_of p.0) && is_id (next_word p.1).0 && is_bracket (next_word (next_word p.1).1).0 then shown_line (Some time) text
    else (iface_of p.0 >>= (λ iface. if is_ended (next_word p.1).1 then frame_line time iface (next_word p.1).0 else None))) ≡ found

pub behind_there : (time : ℕ) (iface : Iface) (text : List ℕ) (p : List ℕ × List ℕ) (found : Option LogLine) → p ≡ next_word text → iface_of p.0 ≡ Some iface → is_id (next_word p.1).0 ≡ false → is_ended (next_word p.1).1 ≡ true
    → frame_line time iface (next_word p.1).0 ≡ found → (if begins_shown text then shown_line (Some time) text else behind_time time text) ≡ found
unfolding behind_time
behind_there time iface text p found w i d e f = subst (Behind time text found) w (rw (i, d, e) f)
