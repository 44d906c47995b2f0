-- How the next line of an input is taken.
use Rattle.std.specs.Prelude.{◌≡◌, ℕ, ◌+◌, ◌≤◌, Bool, true, false, List, [], Option, Some, None, Result, Ok, Err, IfSome}
use Rattle.std.specs.Io.KnownBytes.{Appends, Keeps, append_known}
use Rattle.text_lines.specs.Known.{Known, IsFront}
use Rattle.text_lines.specs.Lines.{lines_of}
use Rattle.line_faults.specs.declared.ending.Cause.{Cause}
use Rattle.line_faults.specs.declared.ending.Cause.TheVariants as causes
use Rattle.line_runs.specs.Outcome.{Steps, Outcome, outcome_from, left_from}
use Rattle.line_runs.specs.Ending.{EndedByCause, KeptByCause}
use Rattle.line_runs.specs.declared.limits.Limits.{Limits}
use Rattle.line_runs.specs.declared.taking.Run.{Run}

-- what lines lead to: their outcome, and the state that they leave
pub record Future (S : Type 0) : Type 0 where
  pub told : Outcome
  pub left : S

-- the lines that a run has before it, from a state
abbrev pub further : {S : Type 0} → Limits → Steps S → S → ℕ → List (List ℕ) → Future S
further m step s n lines = record { told = outcome_from m step s n lines; left = left_from m step s n lines }

-- from known bytes a, now b: what the rest leads to completes what the whole leads to
pub record GoesOn {S : Type 0} (a b : Option (List ℕ)) (rest whole : Future S) : Type 0 where
  pub text : Appends a (append_known b rest.told.text) whole.told.text
  pub fault : rest.told.fault ≡ whole.told.fault
  pub left : rest.left ≡ whole.left

-- a cause that ends a run, which leaves a state
abbrev pub StoppedBy : {S : Type 0} → (S → S → Type 0) → ℕ → Cause → (state : S) → (a b : Option (List ℕ)) → Future S → Type 0
StoppedBy kept n cause state a b whole = EndedByCause n cause a b whole.told × KeptByCause kept cause state whole.left

-- unless a line found no memory
abbrev pub Unless : (old new : Run) → Type 0 → Type 0
Unless old new P = new.memory_refused ≡ false → (old.memory_refused ≡ false) × P

-- why a line that is there wasn't obeyed, or its output not written
abbrev pub Stops : {S : Type 0} → Cause → Steps S → (S → S → Type 0) → (s t : S) → List ℕ → (a b : Option (List ℕ)) → Type 0
Stops (causes.Fault f) step kept s t line a b = (step s line ≡ Err f) × kept s t × Keeps a b
Stops causes.ReadFailed step kept s t line a b = ⊥
Stops causes.OutOfMemory step kept s t line a b = Keeps a b
Stops causes.WriteFailed step kept s t line a b = (p : List ℕ) × (step s line ≡ Ok (t, p)) × IsFront a b p

-- a line was obeyed: from state s to t, and its output written from a to b
abbrev pub Obeys : {S : Type 0} → Result (Unit {0}) Cause → Steps S → (S → S → Type 0) → (s t : S) → (old new : Run) → List ℕ → (a b : Option (List ℕ)) → Type 0
Obeys (Ok done) step kept s t old new line a b = (new.number ≡ old.number + 1) × Unless old new ((p : List ℕ) × (step s line ≡ Ok (t, p)) × Appends a b p)
Obeys (Err cause) step kept s t old new line a b = (new.number ≡ old.number) × Unless old new (Stops cause step kept s t line a b)

-- what came of it once its output was flushed, if that was needed: there was a line, unless the flush failed
abbrev pub IsFlushedAfter : Result (Unit {0}) Cause → Result Bool Cause → Type 0
IsFlushedAfter (Err cause) after = after ≡ Err cause
IsFlushedAfter (Ok done) (Ok is_line) = is_line ≡ true
IsFlushedAfter (Ok done) (Err cause) = cause ≡ causes.WriteFailed

-- nothing was obeyed or written
abbrev pub IsAsBefore : {S : Type 0} → (s t : S) → (old new : Run) → (a b : Option (List ℕ)) → Type 0
IsAsBefore s t old new a b = (t ≡ s) × (new.number ≡ old.number) × (new.memory_refused ≡ old.memory_refused) × Keeps a b

-- the next line of a reader was taken, or there was none: the reader's bytes were ra and are rb, and the writer's were a and are b
abbrev pub Takes : {S : Type 0} → Result Bool Cause → Limits → Steps S → (S → S → Type 0) → (s t : S) → (old new : Run) → (ra rb a b : Option (List ℕ)) → Type 0
Takes (Ok true) m step kept s t old new ra rb a b =
    (new.number ≡ old.number + 1) × (old.number ≤ m.lines)
    × Known ra rb (λ all rest. Unless old new (GoesOn a b (further m step t new.number (lines_of rest)) (further m step s old.number (lines_of all))))
Takes (Ok false) m step kept s t old new ra rb a b = IfSome ra (λ all. lines_of all ≡ []) × IsAsBefore s t old new a b
Takes (Err cause) m step kept s t old new ra rb a b = IfSome ra (λ all. Unless old new (StoppedBy kept new.number cause t a b (further m step s old.number (lines_of all))))

-- in the text, from a to b, and in the log, from c to d
abbrev pub TakesBoth : {S : Type 0} → Result Bool Cause → Limits → (in_text in_log : Steps S) → (S → S → Type 0) → (s t : S) → (old new : Run) → (ra rb a b c d : Option (List ℕ)) → Type 0
TakesBoth result m in_text in_log kept s t old new ra rb a b c d = Takes result m in_text kept s t old new ra rb a b × Takes result m in_log kept s t old new ra rb c d

-- or it is still there
abbrev pub TakesHeld : {S : Type 0} → Option (Result Bool Cause) → Limits → (in_text in_log : Steps S) → (S → S → Type 0) → (s t : S) → (old new : Run) → (ra rb a b c d : Option (List ℕ)) → Type 0
TakesHeld None m in_text in_log kept s t old new ra rb a b c d = Keeps ra rb × IsAsBefore s t old new a b × IsAsBefore s t old new c d
TakesHeld (Some taken) m in_text in_log kept s t old new ra rb a b c d = TakesBoth taken m in_text in_log kept s t old new ra rb a b c d
