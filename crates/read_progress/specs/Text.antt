-- The text about the bytes read so far.
use Rattle.std.specs.Prelude.{ℕ, ◌/◌, List, ◌++◌, codes}
use Rattle.std.specs.Fmt.{decimal}

-- both in megabytes, from the beginning of the line
abbrev pub progress_text : (done size : ℕ) → List ℕ
progress_text done size = codes "\rread " ++ decimal (done / 1000000) ++ codes " of " ++ decimal (size / 1000000) ++ codes " MB"
