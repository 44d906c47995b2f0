-- What a log draws, line by line, up to its fault.
use Rattle.std.specs.Prelude.{ℕ, ◌+◌, List, [], ◌∷◌, ◌++◌, Option, Some, None, if◌then◌else◌}
use Rattle.text_lines.specs.Lines.{lines_of}
use Rattle.line_faults.specs.declared.fault.Fault.{Fault}
use Rattle.line_runs.specs.Limits.{above, log_limits}
use Rattle.log_drawing.specs.Packets.{closing}
use Rattle.log_drawing.specs.Picture.{Step, first_picture, is_ended, line_seen}
use Rattle.log_drawing.specs.declared.counts.Counts.{Counts}
use Rattle.log_drawing.specs.declared.options.Options.{Options}
use Rattle.log_drawing.specs.declared.picture.Picture.{Picture}

-- the drawing, the lines on standard error, what was counted, and the fault with its line, if there is one
pub record Outcome : Type 0 where
  pub text : List ℕ
  pub errors : List ℕ
  pub counts : Counts
  pub fault : Option (ℕ × Fault)

-- nothing is read behind it: the packets that are open are drawn
abbrev pub closed : Picture → Option (ℕ × Fault) → Outcome
closed s fault = record { text = closing s.packets; errors = []; counts = s.counts; fault = fault }

-- the output of a line, and then the rest
abbrev pub told : Step → Outcome → Outcome
told step rest = record { text = step.text ++ rest.text; errors = step.errors ++ rest.errors; counts = rest.counts; fault = rest.fault }

-- unless the line ends the drawing
abbrev pub then_rest : Options → Step → (Picture → Outcome) → Outcome
then_rest options step rest = told step (if is_ended options step.left then closed step.left None else rest step.left)

-- line n, which is above the limits or within them
abbrev pub by_limits : Options → Picture → ℕ → List ℕ → (Picture → Outcome) → Option Fault → Outcome
by_limits options s n line rest None = then_rest options (line_seen options s n line) rest
by_limits options s n line rest (Some fault) = closed s (Some (n, fault))

unfoldable pub outcome_from : Options → Picture → ℕ → List (List ℕ) → Outcome
outcome_from options s n [] = closed s None
outcome_from options s n (line ∷ lines) = by_limits options s n line (λ t. outcome_from options t (n + 1) lines) (above log_limits n line)

abbrev pub outcome : Options → List ℕ → Outcome
outcome options log = outcome_from options (first_picture options) 1 (lines_of log)
