-- What a line of a log shows, in the form (SECONDS.MICROS) IFACE ID#HEX. None is not a log line.
use Rattle.std.specs.Prelude.{ℕ, ◌^◌, List, [], ◌∷◌, length, Bool, true, false, ◌&&◌, ◌||◌, Option, Some, None, ◌==◌, nat_le, if◌then◌else◌, unwrap_or}
use Rattle.text_digits.specs.Numerals.{◌>>=◌, numeral_from}
use Rattle.log_text.specs.Digits.{data_of}
use Rattle.log_fields.specs.Fields.{cut_at, next_word}
use Rattle.log_fields.specs.Iface.{iface_of}
use Rattle.log_fields.specs.Time.{time_of}
use Rattle.log_text.specs.Screen.{screen_frame}
use Rattle.log_fields.specs.declared.iface.Iface.{Iface}
use Rattle.log_text.specs.declared.line.LogLine.{LogLine}
use Rattle.log_text.specs.declared.line.LogLine.TheVariants.{Frame, Passed}

-- R, T or nothing: whether the frame was received or sent
abbrev pub is_mark : List ℕ → Bool
is_mark [] = true
is_mark (b ∷ []) = b == 82 || b == 84
is_mark (a ∷ b ∷ bs) = false

-- nothing but such a word follows
abbrev pub is_ended : List ℕ → Bool
is_ended text = is_mark (next_word text).0 && length (next_word (next_word text).1).0 == 0

-- the data of a remote frame, R, or of a CAN FD frame, #
abbrev pub is_other : List ℕ → Bool
is_other [] = false
is_other (b ∷ bs) = b == 82 || b == 35

-- an identifier of eight digits: above 29 bits it is an error frame's
unfoldable pub long_frame : ℕ → Iface → (digits shown : List ℕ) → Option LogLine
long_frame time iface digits shown = do
  id ← numeral_from 16 0 digits
  if is_other shown || nat_le (2 ^ 29) id then Some Passed else (do
    frame ← data_of id shown
    Some (Frame (Some time) iface frame))

-- an identifier of three digits, which has 11 bits
abbrev pub short_frame : List ℕ → Option LogLine
short_frame digits = do
  id ← numeral_from 16 0 digits
  Some Passed

-- the frame of a line, by the digits of its identifier
abbrev pub frame_by : ℕ → Iface → (digits shown : List ℕ) → Option LogLine
frame_by time iface digits shown = if length digits == 3 then short_frame digits else if length digits == 8 then long_frame time iface digits shown else None

-- the identifier and the data
unfoldable pub frame_line : ℕ → Iface → List ℕ → Option LogLine
frame_line time iface word = do
  parts ← cut_at 35 word
  frame_by time iface parts.0 parts.1

-- the interface, the frame, and what may follow them
unfoldable pub behind_time : ℕ → List ℕ → Option LogLine
behind_time time text = do
  iface ← iface_of (next_word text).0
  if is_ended (next_word (next_word text).1).1 then frame_line time iface (next_word (next_word text).1).0 else None

unfoldable pub timed_line : List ℕ → Option LogLine
timed_line text = do
  stamp ← cut_at 41 text
  halves ← cut_at 46 stamp.0
  time ← time_of halves.0 halves.1
  behind_time time stamp.1

-- a line that doesn't begin with a time is passed over, unless it is one of a screen that shows a frame
abbrev pub other_line : List ℕ → LogLine
other_line line = unwrap_or (screen_frame line) Passed

unfoldable pub log_line : List ℕ → Option LogLine
log_line [] = Some (other_line [])
log_line (b ∷ text) = if b == 40 then timed_line text else Some (other_line (b ∷ text))
