-- A line whose telling is shown on an empty sheet.
use Rattle.std.proofs.Common.{◌≡◌, ℕ, List, [], ◌++◌, Option, Result, Ok, Err, sym, ◌∙◌, ap}
use Rattle.segment_law.specs.Segment.{Segment}
use Rattle.line_faults.specs.declared.fault.LineError.{LineError}
use Rattle.line_faults.specs.declared.fault.LineError.TheVariants as errors
use Rattle.line_runs.specs.Outcome as lines
use Rattle.line_runs.specs.declared.running.Told.{Told}
use Rattle.line_runs.specs.declared.running.Told.TheVariants.{Answered, NoMemory}
use Rattle.bus_script.specs.Telling.{Telling}
use Rattle.bus_script.specs.Script.{Step, shown_by, told_by, Obeyed}

pub was_told : (view : Telling → List ℕ) (r : Result Told LineError) (new : Option Segment) (old text : List ℕ) (step : Step) → old ≡ [] → Obeyed view r new old text step → lines.Obeyed r new text (shown_by view step)
was_told view (Ok Answered) new old text step z o =
    let shown : text ≡ view (told_by step) = o.1 ∙ ap (λ x. x ++ view (told_by step)) z in
    ap (shown_by view) o.0 ∙ ap (λ (x : List ℕ). Ok (new, x)) (sym shown)
was_told view (Ok NoMemory) new old text step z o = tt
was_told view (Err (errors.Fault f)) new old text step z o = ap (shown_by view) o
was_told view (Err errors.OutOfMemory) new old text step z o = tt
