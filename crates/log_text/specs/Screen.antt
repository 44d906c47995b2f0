-- What a line shows in the form that candump shows on a screen, IFACE ID [N] B0 B1 .., which has no time.
use Rattle.std.specs.Prelude.{ℕ, zero, suc, ◌-◌, ◌^◌, List, [], ◌∷◌, length, Option, Some, None, ◌==◌, ◌&&◌, nat_le, if◌then◌else◌}
use Rattle.text_digits.specs.Numerals.{◌>>=◌, is_between, numeral_from, pair_of}
use Rattle.log_fields.specs.Fields.{next_word}
use Rattle.log_fields.specs.Iface.{iface_of}
use Rattle.log_text.specs.declared.line.LogLine.{LogLine}
use Rattle.log_text.specs.declared.line.LogLine.TheVariants.{Frame}

-- a digit up to 8 in square brackets
abbrev pub count_of : List ℕ → Option ℕ
count_of (a ∷ d ∷ b ∷ []) = if a == 91 && b == 93 && is_between 48 56 d then Some (d - 48) else None
count_of word = None

abbrev pub byte_of : List ℕ → Option ℕ
byte_of (a ∷ b ∷ []) = pair_of a b
byte_of word = None

-- so many words of two digits, and nothing behind them
unfoldable pub bytes_in : ℕ → List ℕ → Option (List ℕ)
bytes_in zero text = if length (next_word text).0 == 0 then Some [] else None
bytes_in (suc n) text = do
  byte ← byte_of (next_word text).0
  others ← bytes_in n (next_word text).1
  Some (byte ∷ others)

-- the interface, the identifier, how many bytes, and the bytes
unfoldable pub screen_frame : List ℕ → Option LogLine
screen_frame line =
    let name = next_word line in
    let digits = next_word name.1 in
    let brackets = next_word digits.1 in
    do
      iface ← iface_of name.0
      id ← if length digits.0 == 8 then numeral_from 16 0 digits.0 else None
      count ← if nat_le (2 ^ 29) id then None else count_of brackets.0
      bytes ← bytes_in count brackets.1
      Some (Frame None iface (record { id = id; bytes = bytes }))
