-- The lines of a log, and then its end.
use Rattle.std.proofs.Common.{◌≡◌, inl, inr, ℕ, List, ◌++◌, Option, Some, None, Bool, true, false, refl, sym, ◌∙◌, ap, append_assoc, subst, IfSome}
use Rattle.std.specs.Io.KnownBytes.{Appends, append_known}
use Rattle.text_lines.specs.Known.{IsFront}
use Rattle.line_faults.specs.declared.ending.Cause.{Cause}
use Rattle.line_faults.specs.declared.ending.Cause.TheVariants as causes
use Rattle.line_faults.specs.declared.ending.ScriptFault.{ScriptFault}
use Rattle.line_faults.specs.declared.fault.Fault.{Fault}
use Rattle.line_runs.specs.Outcome as lines
use Rattle.line_runs.specs.Ending as runs
use Rattle.line_runs.specs.Limits.{log_limits}
use Rattle.line_runs.specs.declared.limits.Limits.{Limits}
use Rattle.line_runs.specs.declared.running.Ran.{Ran}
use Rattle.line_runs.proofs.Written.{front_then}
use Rattle.bus_decode.specs.Listening.{Listening}
use Rattle.bus_decode.specs.Outcome.{Reading, told_by, Outcome, last_outcome, then_end, first_listening, outcome}
use Rattle.bus_decode.specs.Ending.{CountedBy, CountedByCause, Ended, EndsRun}
use Rattle.bus_decode.specs.declared.counts.Counts.{Counts}
use Rattle.bus_decode.specs.declared.options.Options.{Options}
use Rattle.bus_decode.specs.declared.running.Decoded.{Decoded}

appends_two : (a b c : Option (List ℕ)) (p t : List ℕ) → Appends a b p → Appends b c t → Appends a c (p ++ t)
appends_two None b c p t h k = tt
appends_two (Some x) None c p t h k = absurd h
appends_two (Some x) (Some y) None p t h k = k
appends_two (Some x) (Some y) (Some z) p t h k = k ∙ ap (λ v. v ++ t) h ∙ append_assoc x p t

front_two : (a b c : Option (List ℕ)) (p t : List ℕ) → Appends a b p → IsFront b c t → IsFront a c (p ++ t)
front_two a b c p t h k = (k.0, appends_two a b (append_known c k.0) p t h k.1)

-- the end is read after the lines
ended_by : (f : Option ScriptFault) (counts of_log : Counts) (a b c : Option (List ℕ)) (p t : List ℕ) → Appends a b p → runs.EndedBy f b c record { text = t; fault = None } × CountedBy f counts of_log
    → runs.EndedBy f a c record { text = p ++ t; fault = None } × CountedBy f counts of_log
ended_by None counts of_log a b c p t h e = ((appends_two a b c p t h e.0.0, refl), e.1)
ended_by (Some f) counts of_log a b c p t h e = by f.line f.cause e
  where
    by : (n : ℕ) (cause : Cause) → runs.EndedByCause n cause b c record { text = t; fault = None } × CountedByCause cause counts of_log
        → runs.EndedByCause n cause a c record { text = p ++ t; fault = None } × CountedByCause cause counts of_log
    by n (causes.Fault fault) w = ((appends_two a b c p t h w.0.0, w.0.1), w.1)
    by n causes.ReadFailed w = (front_two a b c p t h w.0, tt)
    by n causes.OutOfMemory w = (front_two a b c p t h w.0, tt)
    by n causes.WriteFailed w = (front_two a b c p t h w.0, tt)

all_read : (options : Options) (o : lines.Outcome) (s left : Reading) (d : Decoded) (a b c : Option (List ℕ)) → s ≡ left → Appends a b o.text × (o.fault ≡ None)
    → Ended d b c (last_outcome options (s.1.0.0, s.1.1)) → Ended d a c (then_end options o left.1)
all_read options o s left d a b c same w e =
    let first : Ended d a c (then_end options o s.1) = rw w.1 (ended_by d.fault d.counts (last_outcome options (s.1.0.0, s.1.1)).counts a b c o.text (last_outcome options (s.1.0.0, s.1.1)).told.text w.0 e) in
    subst (λ (l : Reading). Ended d a c (then_end options o l.1)) same first

-- a front of what the lines print is one of all
front_of_lines : (options : Options) (told : List ℕ) (fault : Option (ℕ × Fault)) (s : Listening) (a b : Option (List ℕ)) → IsFront a b told
    → IsFront a b (then_end options record { text = told; fault = fault } s).told.text
front_of_lines options told None s a b h = front_then a b told _ h
front_of_lines options told (Some f) s a b h = h

stopped : (options : Options) (o : lines.Outcome) (s left : Reading) (n : ℕ) (cause : Cause) (a b : Option (List ℕ)) → runs.EndedByCause n cause a b o
    → runs.KeptByCause (λ (before after : Reading). after.1.1 ≡ before.1.1) cause s left → Ended record { counts = s.1.1; fault = Some record { line = n; cause = cause } } a b (then_end options o left.1)
stopped options o s left n (causes.Fault f) a b w k =
    rw w.1 ((w.0, refl), elim k [ inl e ↦ ap (λ (l : Reading). l.1.1) e | inr e ↦ e ])
stopped options o s left n causes.ReadFailed a b w k = (front_of_lines options o.text o.fault left.1 a b w, tt)
stopped options o s left n causes.OutOfMemory a b w k = (front_of_lines options o.text o.fault left.1 a b w, tt)
stopped options o s left n causes.WriteFailed a b w k = (front_of_lines options o.text o.fault left.1 a b w, tt)

-- no line may find no memory
none_refused : (refused : Bool) → (refused ≡ true → ⊥) → refused ≡ false
none_refused true h = absurd (h refl)
none_refused false h = refl

abbrev Kept : (before after : Reading) → Type 0
Kept before after = after.1.1 ≡ before.1.1

at_end : (known : Option (List ℕ)) (options : Options) (o : List ℕ → lines.Outcome) (s : Reading) (left : List ℕ → Reading) (ran : Ran) (d : Decoded) (a b c : Option (List ℕ)) → (ran.memory_refused ≡ true → ⊥)
    → IfSome known (λ log. runs.Ended ran a b (o log)) → IfSome known (λ log. runs.Left ran s (left log)) → IfSome known (λ log. runs.Kept Kept ran s (left log))
    → EndsRun ran.fault d options (s.1.0.0, s.1.1) b c → IfSome known (λ log. Ended d a c (then_end options (o log) (left log).1))
at_end None options o s left ran d a b c none e l k w = tt
at_end (Some log) options o s left ran d a b c none e l k w = by ran.fault (e r) (l r) (k r) w
  where
    r : ran.memory_refused ≡ false
    r = none_refused ran.memory_refused none

    by : (f : Option ScriptFault) → runs.EndedBy f a b (o log) → (f ≡ None → s ≡ left log) → runs.KeptBy Kept f s (left log) → EndsRun f d options (s.1.0.0, s.1.1) b c
        → Ended d a c (then_end options (o log) (left log).1)
    by None p q x y = all_read options (o log) s (left log) d a b c (q refl) p y
    by (Some f) p q x y =
        rw (y.0, sym y.1) (stopped options (o log) s (left log) f.line f.cause a b p x)

pub ends : (known : Option (List ℕ)) (options : Options) (m : Limits) (first s : Reading) (ran : Ran) (d : Decoded) (a b c : Option (List ℕ)) → m ≡ log_limits → first ≡ (options, first_listening options) → (ran.memory_refused ≡ true → ⊥)
    → IfSome known (λ log. runs.Ended ran a b (lines.outcome m told_by first log)) → IfSome known (λ log. runs.Left ran s (lines.left m told_by first log)) → IfSome known (λ log. runs.Kept Kept ran s (lines.left m told_by first log))
    → EndsRun ran.fault d options (s.1.0.0, s.1.1) b c → IfSome known (λ log. Ended d a c (outcome options log))
ends known options m first s ran d a b c is starts none e l k w =
    at_end known options (lines.outcome log_limits told_by (options, first_listening options)) s (lines.left log_limits told_by (options, first_listening options)) ran d a b c none
    (rw (is, starts) at e) (rw (is, starts) at l) (rw (is, starts) at k) w
