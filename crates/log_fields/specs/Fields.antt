-- Fields of a line: the text between marks and spaces.
use Rattle.std.specs.Prelude.{ℕ, ◌+◌, List, [], ◌∷◌, length, take, drop, Option, Some, None, ◌==◌, if◌then◌else◌, option_map, unwrap_or}
use Rattle.text_digits.specs.Numerals.{◌>>=◌}

-- the place of the first byte of this value, from 0
abbrev pub place_of : ℕ → List ℕ → Option ℕ
place_of wanted [] = None
place_of wanted (b ∷ bs) = if b == wanted then Some 0 else option_map (λ at. at + 1) (place_of wanted bs)

-- the text before and behind it
abbrev pub cut_at : ℕ → List ℕ → Option (List ℕ × List ℕ)
cut_at wanted text = do
  at ← place_of wanted text
  Some (take at text, drop (at + 1) text)

-- how many spaces are at the front
abbrev pub spaces_in : List ℕ → ℕ
spaces_in [] = 0
spaces_in (b ∷ bs) = if b == 32 then spaces_in bs + 1 else 0

-- the length of the first word: up to the first space, or to the end
abbrev pub word_len : List ℕ → ℕ
word_len text = unwrap_or (place_of 32 text) (length text)

-- the first word, which is empty if there is none, and the text behind it
abbrev pub next_word : List ℕ → List ℕ × List ℕ
next_word text =
    let trimmed = drop (spaces_in text) text in
    (take (word_len trimmed) trimmed, drop (word_len trimmed) trimmed)
