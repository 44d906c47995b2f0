-- Fields of text, each ended by an asterisk.
use Rattle.std.specs.Prelude.{ℕ, List, [], ◌∷◌, ◌++◌, ◌==◌, if◌then◌else◌}
use Rattle.log_reports.specs.Padding.{is_filled}

-- the text behind the last asterisk is a field too, unless it is padding or empty
abbrev pub last_field : List ℕ → List (List ℕ)
last_field field = if is_filled field then [] else field ∷ []

-- the fields of a text that continues with these bytes, after the front of a field
abbrev pub fields_from : List ℕ → List ℕ → List (List ℕ)
fields_from field [] = last_field field
fields_from field (b ∷ bs) = if b == 42 then field ∷ fields_from [] bs else fields_from (field ++ b ∷ []) bs

abbrev pub fields_of : List ℕ → List (List ℕ)
fields_of text = fields_from [] text
