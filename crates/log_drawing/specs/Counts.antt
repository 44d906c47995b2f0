-- The counts of a log.
use Rattle.std.specs.Prelude.{ℕ, ◌+◌, ◌-◌, ◌^◌, min, List, ◌++◌, codes, ◌==◌, if◌then◌else◌}
use Rattle.std.specs.Fmt.{decimal}
use Rattle.log_drawing.specs.declared.counts.Counts.{Counts}

-- nothing was counted
abbrev pub no_counts : Counts
no_counts = record { lines = 0; passed = 0; wrong = 0; frames = 0; drawn = 0; elsewhere = 0 }

-- one more, within 64 bits
abbrev pub more : ℕ → ℕ
more n = min (n + 1) (2 ^ 64 - 1)

abbrev pub lines_text : Counts → List ℕ
lines_text c = codes "lines " ++ decimal c.lines ++ codes " passed " ++ decimal c.passed ++ codes " wrong " ++ decimal c.wrong

abbrev pub frames_text : Counts → List ℕ
frames_text c = codes " frames " ++ decimal c.frames ++ codes " drawn " ++ decimal c.drawn

-- the last words: whether nothing was drawn
abbrev pub rest_text : Counts → List ℕ
rest_text c = if c.drawn == 0 then codes " elsewhere " ++ decimal c.elsewhere ++ codes ": no frame is drawn" else codes " elsewhere " ++ decimal c.elsewhere

-- each number behind its name
abbrev pub counts_text : Counts → List ℕ
counts_text c = lines_text c ++ frames_text c ++ rest_text c
