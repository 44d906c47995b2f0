-- What a message means in words, as a member of its JSON object: an array of a text for each line.
use Rattle.std.specs.Prelude.{ℕ, List, [], ◌∷◌, map, true, codes}
use Rattle.log_lines.specs.Objects.{Named, array_of, member_text}
use Rattle.serde_json.specs.Data.{Data, string}

abbrev pub explained_array : List (List ℕ) → Data
explained_array lines = array_of (map string lines)

-- with these members behind that one, if there are lines
abbrev pub with_explained : List (List ℕ) → List Named → List Named
with_explained [] rest = rest
with_explained (l ∷ ls) rest = (codes "explained", explained_array (l ∷ ls)) ∷ rest

abbrev pub explained_text : List (List ℕ) → List ℕ
explained_text [] = []
explained_text (l ∷ ls) = member_text true (codes "explained") (explained_array (l ∷ ls))
