-- What a message means in words, behind its line.
use Rattle.std.specs.Prelude.{ℕ, List, ◌++◌, flat_map, codes}

-- a line of words, indented by two blanks
abbrev pub words_line : List ℕ → List ℕ
words_line line = codes "  " ++ line ++ codes "\n"

unfoldable pub words_lines : List (List ℕ) → List ℕ
words_lines lines = flat_map words_line lines
