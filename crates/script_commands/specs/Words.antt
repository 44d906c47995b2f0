-- Words of a line, and the numbers that words write.
use Rattle.std.specs.Prelude.{ℕ, ◌+◌, List, [], ◌∷◌, ◌++◌, length, Bool, true, ◌&&◌, ◌||◌, Option, Some, None, nat_lt, ◌==◌, if◌then◌else◌, option_map, map}
use Rattle.std.specs.Borrow.{Bor}
use Rattle.text_digits.specs.Numerals.{numeral_from}

-- each byte is below 128
abbrev pub is_ascii : List ℕ → Bool
is_ascii [] = true
is_ascii (b ∷ bs) = nat_lt b 128 && is_ascii bs

-- what references point to
abbrev pub texts : List (Bor (List ℕ)) → List (List ℕ)
texts words = map (λ w. w.now) words

-- the word, if it has a byte
abbrev pub some_word : List ℕ → List (List ℕ)
some_word [] = []
some_word (b ∷ bs) = (b ∷ bs) ∷ []

-- the words of a line that continues with these bytes, after the front of a word
abbrev pub words_from : List ℕ → List ℕ → List (List ℕ)
words_from word [] = some_word word
words_from word (b ∷ bs) = if b == 32 then some_word word ++ words_from [] bs else words_from (word ++ b ∷ []) bs

-- the words between spaces
abbrev pub words_of : List ℕ → List (List ℕ)
words_of line = words_from [] line

-- a decimal number below 2 ^ 64
unfoldable pub decimal_word : List ℕ → Option ℕ
decimal_word word = if length word == 0 then None else numeral_from 10 0 word

-- a hexadecimal number of at most so many digits
unfoldable pub hex_word : ℕ → List ℕ → Option ℕ
hex_word most word = if length word == 0 || nat_lt most (length word) then None else numeral_from 16 0 word

-- the place of the first point, from 0
abbrev pub dot_in : List ℕ → Option ℕ
dot_in [] = None
dot_in (b ∷ bs) = if b == 46 then Some 0 else option_map (λ at. at + 1) (dot_in bs)
