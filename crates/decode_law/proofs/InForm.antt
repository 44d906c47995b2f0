-- The line that is written of a frame has the form of a log with times, and is read in such a log as it is alone.
use Rattle.std.proofs.Common.{◌≡◌, ℕ, zero, suc, ◌+◌, ◌/◌, ◌%◌, ◌^◌, ◌<◌, List, [], ◌∷◌, ◌++◌, length, drop, Bool, true, false, Option, Some, None, refl, sym, ◌∙◌, ap, arith, nat_lt, nat_le, append_assoc, option_map, if◌then◌else◌}
use Rattle.std.specs.Prelude.{◌==◌, ◌&&◌, ◌||◌, not, is_some}
use Rattle.std.proofs.lemmas.Bool.{ne_eqb}
use Rattle.std.proofs.lemmas.Bool.Decides.{nat_tests}
use Rattle.bus_frame.specs.Frames.{CanFrame}
use Rattle.text_digits.specs.Numerals.{◌>>=◌, is_between, numeral_from}
use Rattle.text_digits.specs.Digits.{digits, digit_char, unspaced}
use Rattle.log_fields.specs.Fields.{place_of, cut_at, spaces_in, next_word}
use Rattle.log_fields.specs.Iface.{iface_of, name_of}
use Rattle.log_fields.specs.Time.{time_of, seconds_width, time_text}
use Rattle.log_text.specs.Line.{timed_line, log_line}
use Rattle.log_text.specs.Reading.{before_return, trimmed, begins_timed, is_bracket, is_id, begins_shown, form_of, micros_of, stamp_of, stamped_line, line_as}
use Rattle.log_text.specs.Written.{frame_text, log_text, IsFrame}
use Rattle.log_fields.specs.declared.iface.Iface.{Iface}
use Rattle.log_text.specs.declared.line.LogLine.TheVariants.{Frame}
use Rattle.log_text.specs.declared.reading.Form.{Form}
use Rattle.log_text.specs.declared.reading.Form.TheVariants.{Timed, Untimed}
use Rattle.log_text.proofs.DigitsBack.{length-digits}
use Rattle.log_text.proofs.FieldsBack.{Without, without_append, digits_without, cut_front, word_front, word_last}
use Rattle.log_text.proofs.IfaceBack.{IsName, name_there, name_back, printable_without}
use Rattle.decode_law.specs.Lines.{LinesHaveForm, LinesAreReadInForm}

-- the digits of the time
abbrev seconds : (time : ℕ) → List ℕ
seconds time = digits 10 (seconds_width (time / 1000000)) (time / 1000000)

abbrev micros : (time : ℕ) → List ℕ
micros time = digits 10 6 (time % 1000000)

-- what stands in the brackets of the time, and behind them
abbrev stamp : (time : ℕ) → List ℕ
stamp time = seconds time ++ 46 ∷ micros time

abbrev behind : (name : List ℕ) → CanFrame → List ℕ
behind name f = 32 ∷ (name ++ (32 ∷ frame_text f))

regroup : (stamp name word : List ℕ) → ((stamp ++ (41 ∷ [])) ++ (32 ∷ name)) ++ (32 ∷ word) ≡ stamp ++ (41 ∷ 32 ∷ (name ++ (32 ∷ word)))
regroup [] name word = refl
regroup (x ∷ stamp) name word = ap (λ ys. x ∷ ys) (regroup stamp name word)

grouped : (time : ℕ) (iface : Iface) (f : CanFrame) → log_text time iface f ≡ 40 ∷ (stamp time ++ 41 ∷ behind (name_of iface) f)
unfolding log_text time_text
grouped time iface f = ap (λ ys. 40 ∷ ys) (regroup (stamp time) (name_of iface) (frame_text f))

-- bytes that stand in none of them
stamp_without : (w time : ℕ) → w < 46 → Without w (stamp time)
stamp_without w time h =
    without_append w (seconds time) (46 ∷ micros time) (digits_without w 10 (seconds_width (time / 1000000)) (time / 1000000) (omega (arith, h)))
    (λ e. omega (arith, e, h), digits_without w 10 6 (time % 1000000) (omega (arith, h)))

data_without : (w : ℕ) (bytes : List ℕ) → w < 48 → Without w (unspaced bytes)
data_without w [] h = tt
data_without w (b ∷ bs) h = without_append w (digits 16 2 b) (unspaced bs) (digits_without w 16 2 b h) (data_without w bs h)

frame_without : (w : ℕ) (f : CanFrame) → w < 35 → Without w (frame_text f)
unfolding frame_text
frame_without w f h =
    without_append w (digits 16 8 f.id) (35 ∷ unspaced f.bytes) (digits_without w 16 8 f.id (omega (arith, h))) (λ e. omega (arith, e, h), data_without w f.bytes (omega (arith, h)))

no_return : (time : ℕ) (name : List ℕ) (f : CanFrame) → Without 13 name → Without 13 (40 ∷ (stamp time ++ 41 ∷ behind name f))
no_return time name f free = (
  λ e. omega (arith, e),
  without_append 13 (stamp time) (41 ∷ behind name f) (stamp_without 13 time (omega arith))
      (λ e. omega (arith, e), (λ e. omega (arith, e), without_append 13 name (32 ∷ frame_text f) free (λ e. omega (arith, e), frame_without 13 f (omega arith)))),
)

-- so there is nothing to trim
no_place : (w : ℕ) (xs : List ℕ) → Without w xs → place_of w xs ≡ None
no_place w [] free = refl
no_place w (b ∷ bs) free = rw (ne_eqb b w free.0) (ap (option_map (λ at. at + 1)) (no_place w bs free.1))

abbrev by_return : List ℕ → Option (List ℕ × List ℕ) → List ℕ
by_return line o = elim o [ None ↦ line | Some p ↦ if length p.1 == 0 then p.0 else line ]

bare : (line : List ℕ) → Without 13 line → before_return line ≡ line
bare line free =
    let none : cut_at 13 line ≡ None = rw (no_place 13 line free) refl in
    ap (by_return line) none

trimmed_is : (time : ℕ) (name : List ℕ) (f : CanFrame) → Without 13 name → trimmed (40 ∷ (stamp time ++ 41 ∷ behind name f)) ≡ 40 ∷ (stamp time ++ 41 ∷ behind name f)
trimmed_is time name f free = ap (λ x. drop (spaces_in x) x) (bare (40 ∷ (stamp time ++ 41 ∷ behind name f)) (no_return time name f free))

-- a bracket and a digit
digit_is : (d : ℕ) → d < 10 → is_between 48 57 (digit_char d) ≡ true
digit_is d h =
    let t : nat_lt d 10 ≡ true = grind (arith, nat_tests, h) in
    let a : nat_le 48 (48 + d) ≡ true = grind (arith, nat_tests) in
    let b : nat_le (48 + d) 57 ≡ true = grind (arith, nat_tests, h) in
    rw t (rw (a, b) refl)

first_digit : (w n : ℕ) (rest : List ℕ) → begins_timed (40 ∷ (digits 10 (suc w) n ++ rest)) ≡ true
first_digit zero n rest = digit_is (n % 10) (omega arith)
first_digit (suc w) n rest =
    ap (λ ys. begins_timed (40 ∷ ys)) (append_assoc (digits 10 (suc w) (n / 10)) (digit_char (n % 10) ∷ []) rest)
    ∙ first_digit w (n / 10) (digit_char (n % 10) ∷ rest)

some_width : (s : ℕ) → (w : ℕ) × (seconds_width s ≡ suc w)
some_width s = elim (nat_lt s 10000000000) as (λ b. (w : ℕ) × ((if b then 10 else 14) ≡ suc w)) [ true ↦ (9, refl) | false ↦ (13, refl) ]

begins : (time : ℕ) (rest : List ℕ) → begins_timed (40 ∷ (stamp time ++ rest)) ≡ true
begins time rest =
    let s : ℕ = time / 1000000 in
    let w = some_width s in
    ap (λ ys. begins_timed (40 ∷ ys)) (append_assoc (seconds time) (46 ∷ micros time) rest)
    ∙ ap (λ n. begins_timed (40 ∷ (digits 10 n s ++ (46 ∷ micros time ++ rest)))) w.1
    ∙ first_digit w.0 s (46 ∷ micros time ++ rest)

-- the name of an interface, as it is written
name_is : (name : List ℕ) (iface : Iface) → iface_of name ≡ Some iface → IsName name × (name_of iface ≡ name)
name_is name iface e = let n = name_there name iface e in (n.0, ap name_of n.1 ∙ name_back name n.0)

line_is : (time : ℕ) (name : List ℕ) (iface : Iface) (f : CanFrame) → name_of iface ≡ name → log_text time iface f ≡ 40 ∷ (stamp time ++ 41 ∷ behind name f)
line_is time name iface f e = grouped time iface f ∙ ap (λ n. 40 ∷ (stamp time ++ 41 ∷ behind n f)) e

abbrev form_by : (timed : Bool) (text : List ℕ) → Option Form
form_by timed text = if timed then Some Timed else if begins_shown text then Some Untimed else None

pub has_form : LinesHaveForm
has_form time name iface f e =
    let n = name_is name iface e in
    let line : List ℕ = 40 ∷ (stamp time ++ 41 ∷ behind name f) in
    let free : Without 13 name = printable_without 13 name (omega arith) n.0.printable in
    ap form_of (line_is time name iface f n.1) ∙ ap (λ t. form_by (begins_timed t) t) (trimmed_is time name f free)
    ∙ ap (λ b. form_by b line) (begins time (41 ∷ behind name f))

-- in such a log too six digits behind the point are microseconds
bind_some : (o : Option ℕ) → (o >>= λ m. Some m) ≡ o
bind_some None = refl
bind_some (Some m) = refl

six_digits : (ys : List ℕ) → (length ys == 6) ≡ true → micros_of ys ≡ numeral_from 10 0 ys
unfolding micros_of
six_digits ys l = rw l (bind_some (numeral_from 10 0 ys))

only_six : (a b : Bool) (found : Option ℕ) → b ≡ true → (if a then None else found) ≡ (if a || not b then None else found)
only_six true b found e = refl
only_six false b found e = rw e refl

same_time : (xs ys : List ℕ) → (length ys == 6) ≡ true → stamp_of xs ys ≡ time_of xs ys
unfolding stamp_of time_of
same_time xs ys l = rw (six_digits ys l) (only_six (length xs == 0) (length ys == 6) _ l)

-- what stands behind the time doesn't begin as a frame on a screen: the word of the frame is longer than an identifier
no_id : (f : CanFrame) → is_id (frame_text f) ≡ false
unfolding frame_text
no_id f =
    let l : 8 < length (frame_text f) = (let d = length-digits 16 8 f.id in omega (arith, d)) in
    let a : (length (frame_text f) == 8) ≡ false = ne_eqb (length (frame_text f)) 8 (λ e. omega (arith, e, l)) in
    let b : (length (frame_text f) == 3) ≡ false = ne_eqb (length (frame_text f)) 3 (λ e. omega (arith, e, l)) in
    rw (a, b) refl

front_word : (xs rest : List ℕ) → 0 < length xs → Without 32 xs → next_word (32 ∷ xs ++ 32 ∷ rest) ≡ (xs, 32 ∷ rest)
front_word [] rest h free = absurd (omega (arith, h))
front_word (b ∷ bs) rest h free = word_front b bs rest free

last_word : (xs : List ℕ) → 0 < length xs → Without 32 xs → next_word (32 ∷ xs) ≡ (xs, [])
last_word [] h free = absurd (omega (arith, h))
last_word (b ∷ bs) h free = word_last b bs free

some_frame : (f : CanFrame) → 0 < length (frame_text f)
unfolding frame_text
some_frame f = omega arith

no_middle : (a c : Bool) → (a && false && c) ≡ false
no_middle true c = refl
no_middle false c = refl

not_shown : (name : List ℕ) (f : CanFrame) → IsName name → begins_shown (behind name f) ≡ false
not_shown name f n =
    let w = front_word name (frame_text f) n.some (printable_without 32 name (omega arith) n.printable) in
    let v = last_word (frame_text f) (some_frame f) (frame_without 32 f (omega arith)) in
    let by_name : (x : List ℕ × List ℕ) → Bool = λ x. is_some (iface_of x.0) && is_id (next_word x.1).0 && is_bracket (next_word (next_word x.1).1).0 in
    let by_digits : (x : List ℕ × List ℕ) → Bool = λ x. is_some (iface_of name) && is_id x.0 && is_bracket (next_word x.1).0 in
    ap by_name w ∙ ap by_digits v ∙ ap (λ b. is_some (iface_of name) && b && is_bracket (next_word []).0) (no_id f) ∙ no_middle (is_some (iface_of name)) (is_bracket (next_word []).0)

-- so it is read as it is alone
same_parts : (text word rest xs ys : List ℕ) → cut_at 41 text ≡ Some (word, rest) → cut_at 46 word ≡ Some (xs, ys) → (length ys == 6) ≡ true → begins_shown rest ≡ false → stamped_line text ≡ timed_line text
unfolding stamped_line timed_line
same_parts text word rest xs ys a b l d = rw (a, b, same_time xs ys l, d) refl

same_line : (time : ℕ) (name : List ℕ) (f : CanFrame) → IsName name → stamped_line (stamp time ++ 41 ∷ behind name f) ≡ timed_line (stamp time ++ 41 ∷ behind name f)
same_line time name f n =
    let l : (length (micros time) == 6) ≡ true = ap (λ k. k == 6) (length-digits 10 6 (time % 1000000)) in
    same_parts (stamp time ++ 41 ∷ behind name f) (stamp time) (behind name f) (seconds time) (micros time)
    (cut_front 41 (stamp time) (behind name f) (stamp_without 41 time (omega arith)))
    (cut_front 46 (seconds time) (micros time) (digits_without 46 10 (seconds_width (time / 1000000)) (time / 1000000) (omega arith))) l (not_shown name f n)

as_alone : (line text : List ℕ) → line ≡ 40 ∷ text → trimmed line ≡ 40 ∷ text → stamped_line text ≡ timed_line text → line_as (Some Timed) line ≡ log_line line
unfolding line_as log_line
as_alone line text e t s = rw t (s ∙ sym (ap log_line e))

-- what `written_lines_are_read_back` says
abbrev pub LinesAreReadAlone : Type 0
LinesAreReadAlone = (time : ℕ) (name : List ℕ) (iface : Iface) (f : CanFrame) → time < 2 ^ 64 → iface_of name ≡ Some iface → IsFrame f
    → log_line (log_text time iface f) ≡ Some (Frame (Some time) iface f)

pub read_in_form : LinesAreReadAlone → LinesAreReadInForm
read_in_form alone time name iface f t e h =
    let n = name_is name iface e in
    let line : List ℕ = 40 ∷ (stamp time ++ 41 ∷ behind name f) in
    let free : Without 13 name = printable_without 13 name (omega arith) n.0.printable in
    let is = line_is time name iface f n.1 in
    let back : log_line line ≡ Some (Frame (Some time) iface f) = ap log_line (sym is) ∙ alone time name iface f t e h in
    let same : line_as (Some Timed) line ≡ log_line line = as_alone line (stamp time ++ 41 ∷ behind name f) refl (trimmed_is time name f free) (same_line time name f n.0) in
    ap (λ ys. line_as (Some Timed) ys) is ∙ same ∙ back
