-- Lines of words, and the escaping of a message's text in them.
use Rattle.std.specs.Prelude.{ℕ, List, [], ◌∷◌, ◌++◌, flat_map, codes, Bool, ◌&&◌, not, ◌==◌, nat_lt, if◌then◌else◌}
use Rattle.std.specs.Fmt.{decimal}
use Rattle.text_digits.specs.Digits.{digits}

-- printable ASCII, and no backslash
abbrev pub is_plain : ℕ → Bool
is_plain b = not (nat_lt b 32) && nat_lt b 127 && not (b == 92)

-- a byte is shown as it is, or as \x and two hexadecimal digits
abbrev pub shown_byte : ℕ → List ℕ
shown_byte b = if is_plain b then b ∷ [] else codes "\\x" ++ digits 16 2 b

abbrev pub escaped : List ℕ → List ℕ
escaped text = flat_map shown_byte text

-- a message whose length isn't one of its form
abbrev pub wrong_length : ℕ → List ℕ
wrong_length n = codes "wrong length: " ++ decimal n
