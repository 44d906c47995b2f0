-- A line that was written is read back.
use Rattle.std.proofs.Common.{◌≡◌, ℕ, ◌+◌, ◌*◌, ◌/◌, ◌%◌, ◌^◌, ◌<◌, List, [], ◌∷◌, ◌++◌, length, Bool, true, false, Option, Some, None, refl, ◌∙◌, ap, arith, nat_lt, nat_le, if◌then◌else◌}
use Rattle.std.specs.Prelude.{◌==◌}
use Rattle.std.proofs.lemmas.Bool.{ne_eqb}
use Rattle.std.proofs.lemmas.Bool.Decides.{nat_tests}
use Rattle.bus_frame.specs.Frames.{CanFrame}
use Rattle.text_digits.specs.Numerals.{◌>>=◌, numeral_from}
use Rattle.log_text.specs.Digits.{data_of}
use Rattle.text_digits.specs.Digits.{digits, digit_char, unspaced}
use Rattle.log_fields.specs.Fields.{cut_at, next_word}
use Rattle.log_fields.specs.Iface.{iface_of, name_of}
use Rattle.log_fields.specs.Time.{time_of, seconds_width, time_text}
use Rattle.log_text.specs.Line.{is_other, is_ended, long_frame, frame_line, behind_time, timed_line, log_line}
use Rattle.log_text.specs.Written.{frame_text, log_text, IsFrame}
use Rattle.log_fields.specs.declared.iface.Iface.{Iface}
use Rattle.log_text.specs.declared.line.LogLine.{LogLine}
use Rattle.log_text.specs.declared.line.LogLine.TheVariants.{Frame}
use Rattle.log_text.proofs.DigitsBack.{Fits, digits_back, reads_last_10, reads_last_16, length-digits, length-unspaced, pairs_back, char_from, char_to}
use Rattle.log_text.proofs.FieldsBack.{Without, without_append, digits_without, cut_front, word_front, word_last}
use Rattle.log_text.proofs.IfaceBack.{IsName, name_there, name_back, printable_without}
use Rattle.log_text.proofs.Pairs.{frame_some}

-- the seconds have as many digits as are written
seconds_fit : (s : ℕ) → s < 100000000000000 → Fits 10 (seconds_width s) s
seconds_fit s h = by (nat_lt s 10000000000) refl
  where
    by : (b : Bool) → nat_lt s 10000000000 ≡ b → Fits 10 (seconds_width s) s
    by true t = rw t (let l : s < 10000000000 = grind (arith, nat_tests) in omega (arith, l))
    by false t = rw t (omega (arith, h))

some_width : (s : ℕ) → (seconds_width s == 0) ≡ false
some_width s = elim (nat_lt s 10000000000) as (λ b. ((if b then 10 else 14) == 0) ≡ false) [ true ↦ refl | false ↦ refl ]

time_parts : (xs ys : List ℕ) (s m time : ℕ) → (length xs == 0) ≡ false → (length ys == 6) ≡ true → numeral_from 10 0 xs ≡ Some s → numeral_from 10 0 ys ≡ Some m
    → nat_lt (s * 1000000 + m) (2 ^ 64) ≡ true → s * 1000000 + m ≡ time → time_of xs ys ≡ Some time
unfolding time_of
time_parts xs ys s m time a b c d f e = rw (a, b, c, d, f) (ap Some e)

time_back : (time : ℕ) → time < 2 ^ 64 → time_of (digits 10 (seconds_width (time / 1000000)) (time / 1000000)) (digits 10 6 (time % 1000000)) ≡ Some time
time_back time h =
    let a = ap (λ n. n == 0) (length-digits 10 (seconds_width (time / 1000000)) (time / 1000000)) ∙ some_width (time / 1000000) in
    let b = ap (λ n. n == 6) (length-digits 10 6 (time % 1000000)) in
    let c = digits_back 10 (seconds_width (time / 1000000)) (time / 1000000) reads_last_10 (seconds_fit (time / 1000000) (omega (arith, h))) (omega (arith, h)) in
    let d = digits_back 10 6 (time % 1000000) reads_last_10 (omega arith) (omega arith) in
    let e : time / 1000000 * 1000000 + time % 1000000 ≡ time = omega arith in
    let l : time / 1000000 * 1000000 + time % 1000000 < 2 ^ 64 = omega (arith, e, h) in
    let f : nat_lt (time / 1000000 * 1000000 + time % 1000000) (2 ^ 64) ≡ true = grind (arith, nat_tests, l) in
    time_parts _ _ _ _ time a b c d f e

-- data begin with no mark of another frame
no_other : (bytes : List ℕ) → is_other (unspaced bytes) ≡ false
no_other [] = refl
no_other (b ∷ bs) =
    let l = char_from (b / 16 % 16) in
    let m = char_to (b / 16 % 16) (omega arith) in
    let p = ne_eqb (digit_char (b / 16 % 16)) 82 (λ e. omega (arith, m, e)) in
    let q = ne_eqb (digit_char (b / 16 % 16)) 35 (λ e. omega (arith, l, e)) in
    rw (p, q) refl

long_back : (time : ℕ) (iface : Iface) (xs ys : List ℕ) (f : CanFrame) → numeral_from 16 0 xs ≡ Some f.id → is_other ys ≡ false → nat_le (2 ^ 29) f.id ≡ false → data_of f.id ys ≡ Some f
    → long_frame time iface xs ys ≡ Some (Frame (Some time) iface f)
unfolding long_frame
long_back time iface xs ys f n o t d = rw (n, o, t, d) refl

pub word_parts : (time : ℕ) (iface : Iface) (word xs ys : List ℕ) (found : Option LogLine) → cut_at 35 word ≡ Some (xs, ys) → length xs ≡ 8 → long_frame time iface xs ys ≡ found → frame_line time iface word ≡ found
unfolding frame_line
word_parts time iface word xs ys found c l e = rw (c, l) e

frame_back : (time : ℕ) (iface : Iface) (f : CanFrame) → IsFrame f → frame_line time iface (frame_text f) ≡ Some (Frame (Some time) iface f)
unfolding frame_text
frame_back time iface f h =
    let i = h.id in
    let s = h.short in
    let u = length-unspaced f.bytes in
    let t : nat_le (2 ^ 29) f.id ≡ false = grind (arith, nat_tests, i) in
    word_parts time iface _ _ _ _ (cut_front 35 (digits 16 8 f.id) (unspaced f.bytes) (digits_without 35 16 8 f.id (omega arith))) (length-digits 16 8 f.id)
    (long_back time iface _ _ f (digits_back 16 8 f.id reads_last_16 (omega (arith, i)) (omega (arith, i))) (no_other f.bytes) t
    (frame_some f.id (unspaced f.bytes) f.bytes (omega (arith, s, u)) (pairs_back f.bytes h.bytes)))

-- a frame's word has no space in it
unspaced_without : (w : ℕ) (bytes : List ℕ) → w < 48 → Without w (unspaced bytes)
unspaced_without w [] h = tt
unspaced_without w (b ∷ bs) h = without_append w (digits 16 2 b) (unspaced bs) (digits_without w 16 2 b h) (unspaced_without w bs h)

frame_without : (f : CanFrame) → Without 32 (frame_text f)
unfolding frame_text
frame_without f = without_append 32 (digits 16 8 f.id) (35 ∷ unspaced f.bytes) (digits_without 32 16 8 f.id (omega arith)) (λ e. omega (arith, e), unspaced_without 32 f.bytes (omega arith))

some_frame : (f : CanFrame) → 0 < length (frame_text f)
unfolding frame_text
some_frame f = omega arith

front_word : (xs rest : List ℕ) → 0 < length xs → Without 32 xs → next_word (32 ∷ xs ++ 32 ∷ rest) ≡ (xs, 32 ∷ rest)
front_word [] rest h f = absurd (omega (arith, h))
front_word (b ∷ bs) rest h f = word_front b bs rest f

pub last_word : (xs : List ℕ) → 0 < length xs → Without 32 xs → next_word (32 ∷ xs) ≡ (xs, [])
last_word [] h f = absurd (omega (arith, h))
last_word (b ∷ bs) h f = word_last b bs f

-- by the words behind the time
abbrev behind_by : ℕ → (name word : List ℕ × List ℕ) → Option LogLine
behind_by time name word = iface_of name.0 >>= λ iface. if is_ended word.1 then frame_line time iface word.0 else None

behind_back : (time : ℕ) (name : List ℕ) (iface : Iface) (f : CanFrame) → IsName name → iface_of name ≡ Some iface → IsFrame f → behind_time time (32 ∷ name ++ 32 ∷ frame_text f) ≡ Some (Frame (Some time) iface f)
unfolding behind_time
behind_back time name iface f n e h =
    let w = front_word name (frame_text f) n.some (printable_without 32 name (omega arith) n.printable) in
    let v = last_word (frame_text f) (some_frame f) (frame_without f) in
    let x : behind_by time (name, 32 ∷ frame_text f) (frame_text f, []) ≡ Some (Frame (Some time) iface f) = rw e (frame_back time iface f h) in
    (λ i. behind_by time (w i) (next_word (w i).1)) ∙ ap (behind_by time (name, 32 ∷ frame_text f)) v ∙ x

-- what stands behind the time in its brackets
regroup : (stamp name word : List ℕ) → ((stamp ++ (41 ∷ [])) ++ (32 ∷ name)) ++ (32 ∷ word) ≡ stamp ++ (41 ∷ 32 ∷ (name ++ (32 ∷ word)))
regroup [] name word = refl
regroup (x ∷ stamp) name word = ap (λ ys. x ∷ ys) (regroup stamp name word)

timed_parts : (text stamp rest xs ys : List ℕ) (time : ℕ) (found : Option LogLine) → cut_at 41 text ≡ Some (stamp, rest) → cut_at 46 stamp ≡ Some (xs, ys) → time_of xs ys ≡ Some time → behind_time time rest ≡ found
    → timed_line text ≡ found
unfolding timed_line
timed_parts text stamp rest xs ys time found a b c d = rw (a, b, c) d

timed_back : (time : ℕ) (rest : List ℕ) (found : Option LogLine) → time < 2 ^ 64 → behind_time time rest ≡ found
    → timed_line ((digits 10 (seconds_width (time / 1000000)) (time / 1000000) ++ 46 ∷ digits 10 6 (time % 1000000)) ++ 41 ∷ rest) ≡ found
timed_back time rest found h e =
    let a : List ℕ = digits 10 (seconds_width (time / 1000000)) (time / 1000000) in
    let b : List ℕ = digits 10 6 (time % 1000000) in
    let no_end : Without 41 (a ++ 46 ∷ b) = without_append 41 a (46 ∷ b) (digits_without 41 10 (seconds_width (time / 1000000)) (time / 1000000) (omega arith)) (λ q. omega (arith, q), digits_without 41 10 6 (time % 1000000) (omega arith)) in
    timed_parts _ _ rest a b time found (cut_front 41 (a ++ 46 ∷ b) rest no_end) (cut_front 46 a b (digits_without 46 10 (seconds_width (time / 1000000)) (time / 1000000) (omega arith))) (time_back time h) e

pub line_back : (time : ℕ) (name : List ℕ) (iface : Iface) (f : CanFrame) → time < 2 ^ 64 → iface_of name ≡ Some iface → IsFrame f → log_line (log_text time iface f) ≡ Some (Frame (Some time) iface f)
unfolding log_line log_text time_text
line_back time name iface f t e h =
    let n = name_there name iface e in
    let b : name_of iface ≡ name = ap name_of n.1 ∙ name_back name n.0 in
    let rest : List ℕ = 32 ∷ (name_of iface ++ (32 ∷ frame_text f)) in
    let r : behind_time time rest ≡ Some (Frame (Some time) iface f) = ap (λ n. behind_time time (32 ∷ (n ++ (32 ∷ frame_text f)))) b ∙ behind_back time name iface f n.0 e h in
    ap timed_line (regroup (digits 10 (seconds_width (time / 1000000)) (time / 1000000) ++ (46 ∷ digits 10 6 (time % 1000000))) (name_of iface) (frame_text f)) ∙ timed_back time rest (Some (Frame (Some time) iface f)) t r
