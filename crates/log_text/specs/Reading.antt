-- The meaning of a line in a log whose lines have a form: that of candump -L, (SECONDS.MICROS) IFACE ID#HEX, or that of a screen, IFACE ID [N] B0 B1
-- .., with a time in front of it or not. None if it begins as a frame of the log's form, but continues differently.
use Rattle.std.specs.Prelude.{ℕ, ◌+◌, ◌*◌, ◌/◌, ◌^◌, List, [], ◌∷◌, length, drop, Bool, false, ◌&&◌, ◌||◌, Option, Some, None, ◌==◌, nat_lt, nat_le, if◌then◌else◌, is_some}
use Rattle.text_digits.specs.Numerals.{◌>>=◌, is_between, numeral_from}
use Rattle.log_fields.specs.Fields.{cut_at, spaces_in, next_word}
use Rattle.log_fields.specs.Iface.{iface_of}
use Rattle.log_text.specs.Screen.{count_of, bytes_in}
use Rattle.log_text.specs.Line.{behind_time}
use Rattle.log_fields.specs.declared.iface.Iface.{Iface}
use Rattle.log_text.specs.declared.line.LogLine.{LogLine}
use Rattle.log_text.specs.declared.line.LogLine.TheVariants.{Frame, Passed}
use Rattle.log_text.specs.declared.reading.Form.{Form}
use Rattle.log_text.specs.declared.reading.Form.TheVariants.{Timed, Untimed}

-- a line without a carriage return at its end
abbrev pub before_return : List ℕ → List ℕ
before_return line = elim (cut_at 13 line) [ None ↦ line | Some p ↦ if length p.1 == 0 then p.0 else line ]

-- a line without that and without blanks at its front
abbrev pub trimmed : List ℕ → List ℕ
trimmed line = let bare = before_return line in drop (spaces_in bare) bare

-- a bracket and a digit
abbrev pub begins_timed : List ℕ → Bool
begins_timed (a ∷ b ∷ bs) = a == 40 && is_between 48 57 b
begins_timed (a ∷ []) = false
begins_timed [] = false

-- a word that begins with a square bracket
abbrev pub is_bracket : List ℕ → Bool
is_bracket [] = false
is_bracket (b ∷ bs) = b == 91

-- eight or three digits of an identifier
abbrev pub is_id : List ℕ → Bool
is_id word = (length word == 8 || length word == 3) && is_some (numeral_from 16 0 word)

-- the name of an interface, an identifier, and a square bracket
abbrev pub begins_shown : List ℕ → Bool
begins_shown text =
    let name = next_word text in
    let digits = next_word name.1 in
    is_some (iface_of name.0) && is_id digits.0 && is_bracket (next_word digits.1).0

-- the form of a line, if it has one
abbrev pub form_of : List ℕ → Option Form
form_of line = if begins_timed (trimmed line) then Some Timed else if begins_shown (trimmed line) then Some Untimed else None

-- the microseconds that the digits behind the point write: six digits, or nine, of which the last three are dropped
unfoldable pub micros_of : List ℕ → Option ℕ
micros_of word = do
  n ← numeral_from 10 0 word
  if length word == 6 then Some n else if length word == 9 then Some (n / 1000) else None

unfoldable pub stamp_of : (seconds fraction : List ℕ) → Option ℕ
stamp_of seconds fraction = if length seconds == 0 then None else (do
  s ← numeral_from 10 0 seconds
  m ← micros_of fraction
  if nat_lt (s * 1000000 + m) (2 ^ 64) then Some (s * 1000000 + m) else None)

-- the data without its bytes as text, which follow in quotes
abbrev pub before_quote : List ℕ → List ℕ
before_quote text = elim (cut_at 39 text) [ None ↦ text | Some p ↦ p.0 ]

-- two digits in square brackets, as those of a CAN FD frame
abbrev pub is_long_count : List ℕ → Bool
is_long_count (a ∷ c ∷ d ∷ b ∷ []) = a == 91 && b == 93 && is_between 48 57 c && is_between 48 57 d
is_long_count word = false

-- the data of a remote frame, which are words
abbrev pub is_remote : List ℕ → Bool
is_remote [] = false
is_remote (b ∷ bs) = b == 114

-- the text behind an identifier of eight digits: above 29 bits it is an error frame's
unfoldable pub long_shown : Option ℕ → Iface → (id : ℕ) → List ℕ → Option LogLine
long_shown time iface id text =
    let count = next_word text in
    if nat_le (2 ^ 29) id || is_long_count count.0 then Some Passed else (do
      n ← count_of count.0
      if is_remote (next_word count.1).0 then Some Passed else (do
        bytes ← bytes_in n (before_quote count.1)
        Some (Frame time iface (record { id = id; bytes = bytes }))))

-- the interface, the identifier, how many bytes, and the bytes
unfoldable pub shown_line : Option ℕ → List ℕ → Option LogLine
shown_line time text =
    let name = next_word text in
    let digits = next_word name.1 in
    do
      iface ← iface_of name.0
      id ← numeral_from 16 0 digits.0
      if length digits.0 == 3 then Some Passed else long_shown time iface id digits.1

-- the text behind the bracket of a time
unfoldable pub stamped_line : List ℕ → Option LogLine
stamped_line text = do
  stamp ← cut_at 41 text
  halves ← cut_at 46 stamp.0
  time ← stamp_of halves.0 halves.1
  if begins_shown stamp.1 then shown_line (Some time) stamp.1 else behind_time time stamp.1

-- a line that begins with a bracket, in a log of times
abbrev pub timed_as : List ℕ → Option LogLine
timed_as [] = Some Passed
timed_as (b ∷ text) = if b == 40 then stamped_line text else Some Passed

-- a line that begins as a frame, in a log without times
abbrev pub untimed_as : List ℕ → Option LogLine
untimed_as text = if begins_shown text then shown_line None text else Some Passed

-- any other line is passed over, and so is each line while the log has no form yet
unfoldable pub line_as : Option Form → List ℕ → Option LogLine
line_as None line = Some Passed
line_as (Some Timed) line = timed_as (trimmed line)
line_as (Some Untimed) line = untimed_as (trimmed line)
