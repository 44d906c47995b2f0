-- The lines of an identification.
use Rattle.std.specs.Prelude.{ℕ, ◌+◌, List, [], ◌∷◌, ◌++◌, length, codes, ◌==◌, if◌then◌else◌}
use Rattle.std.specs.Fmt.{decimal}
use Rattle.log_reports.specs.Lines.{escaped, wrong_length}
use Rattle.log_reports.specs.Fields.{fields_of}
use Rattle.log_reports.specs.Naming.{field_name}
use Rattle.log_reports.specs.declared.naming.Kind.{Kind}
use Rattle.log_reports.specs.declared.naming.Kind.TheVariants.{Software}

-- a colon, and behind it the text, if there is one
abbrev pub behind_colon : List ℕ → List ℕ
behind_colon [] = codes ":"
behind_colon (b ∷ bs) = codes ": " ++ escaped (b ∷ bs)

abbrev pub field_line : Kind → ℕ → List ℕ → List ℕ
field_line kind n field = field_name kind n ++ behind_colon field

-- the lines of fields; the first field has this number
abbrev pub field_lines : Kind → ℕ → List (List ℕ) → List (List ℕ)
field_lines kind n [] = []
field_lines kind n (f ∷ fs) = field_line kind n f ∷ field_lines kind (n + 1) fs

-- a line for each field
abbrev pub lines_of : Kind → List (List ℕ) → List (List ℕ)
lines_of kind [] = codes "no text" ∷ []
lines_of kind (f ∷ fs) = field_lines kind 1 (f ∷ fs)

abbrev pub identification : Kind → List ℕ → List (List ℕ)
identification kind text = lines_of kind (fields_of text)

-- how many fields there are, if these are others than were announced
abbrev pub found_text : (announced found : ℕ) → List ℕ
found_text n m = if n == m then [] else codes ", but there are " ++ decimal m

abbrev pub count_line : (announced found : ℕ) → List ℕ
count_line n m = codes "software fields: " ++ decimal n ++ found_text n m

-- the first byte announces how many fields there are
abbrev pub software_identification : List ℕ → List (List ℕ)
software_identification [] = wrong_length 0 ∷ []
software_identification (n ∷ text) = count_line n (length (fields_of text)) ∷ field_lines Software 1 (fields_of text)
