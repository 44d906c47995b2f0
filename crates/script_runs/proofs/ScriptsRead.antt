-- A script that is read on by a line: what the rest sets up from the plan so far is what all of it sets up.
use Rattle.std.proofs.Common.{◌≡◌, ℕ, ◌+◌, List, [], ◌∷◌, Option, Some, None, Ok, Err, refl, sym, ◌∙◌, ap, IfSome, true, false, ◌++◌, append_assoc, Result, subst}
use Rattle.std.proofs.lemmas.List.{append-nil}
use Rattle.text_lines.specs.Known.{Known}
use Rattle.text_lines.specs.Lines.{lines_of}
use Rattle.line_runs.specs.Limits.{script_limits, above, unless_above, IsAbove, Read}
use Rattle.line_runs.specs.declared.limits.Limits.{Limits}
use Rattle.line_faults.specs.Ending.{cause_of}
use Rattle.line_faults.specs.declared.ending.Cause.{Cause}
use Rattle.line_faults.specs.declared.ending.Cause.TheVariants as causes
use Rattle.line_faults.specs.declared.fault.Fault.{Fault}
use Rattle.line_faults.specs.declared.fault.LineError.{LineError}
use Rattle.line_faults.specs.declared.fault.LineError.TheVariants as errors
use Rattle.script_runs.specs.Reading.{Grammar, Planned, planned_by, planned_from, then_rest, fault_at, numbered_line, Done, Begins, Grows, EachGrows, IsRead}

pub all_of : (a b : List ℕ) → b ≡ a → Begins a b
all_of a b e = ([], e ∙ sym (append-nil a))

begins_both : (a b c : List ℕ) → Begins a b → Begins b c → Begins a c
begins_both a b c p q = (p.0 ++ q.0, q.1 ∙ ap (λ v. v ++ q.0) p.1 ∙ append_assoc a p.0 q.0)

begins_as : (a b c d : List ℕ) → b ≡ a → c ≡ d → Begins a c → Begins b d
begins_as a b c d e f h = (h.0, sym f ∙ h.1 ∙ ap (λ v. v ++ h.0) (sym e))

numbers : (P : Type 0) (g : Grammar P) → EachGrows P g → (p : P) (n : ℕ) (text : List ℕ) → Grows g.text p (numbered_line g p n text)
numbers P g grows p n text = by (above script_limits n text)
  where
    by : (wrong : Option Fault) → Grows g.text p (unless_above wrong (g.step p text))
    by None = grows p text
    by (Some f) = tt

begins_rest : (P : Type 0) (text : P → List ℕ) (p : P) (n : ℕ) (s : Result P Fault) (rest : P → Planned P) → Grows text p s → ((q : P) → Begins (text q) (text (rest q).plan)) → Begins (text p) (text (then_rest p n s rest).plan)
begins_rest P text p n (Ok q) rest h k = begins_both (text p) (text q) (text (rest q).plan) h (k q)
begins_rest P text p n (Err f) rest h k = all_of (text p) (text p) refl

-- what is printed so far begins what is printed in all
begins_all : (P : Type 0) (g : Grammar P) → EachGrows P g → (p : P) (n : ℕ) (texts : List (List ℕ)) → Begins (g.text p) (g.text (planned_from g p n texts).plan)
unfolding planned_from
begins_all P g grows p n [] = all_of (g.text p) (g.text p) refl
begins_all P g grows p n (line ∷ lines) = begins_rest P g.text p n (numbered_line g p n line) (λ (r : P). planned_from g r (n + 1) lines) (numbers P g grows p n line) (λ (q : P). begins_all P g grows q (n + 1) lines)

-- a line within the limits
numbered : (P : Type 0) (g : Grammar P) (p : P) (n : ℕ) (line : List ℕ) (step : Result P Fault) → above script_limits n line ≡ None → g.step p line ≡ step → numbered_line g p n line ≡ step
numbered P g p n line step w e = rw (w, e) refl

-- a line that was obeyed
line_done : (P : Type 0) (g : Grammar P) (p q : P) (n : ℕ) (line : List ℕ) (lines : List (List ℕ)) → numbered_line g p n line ≡ Ok q → planned_from g p n (line ∷ lines) ≡ planned_from g q (n + 1) lines
unfolding planned_from
line_done P g p q n line lines e = ap (λ (s : Result P Fault). then_rest p n s (λ (r : P). planned_from g r (n + 1) lines)) e

-- a line with a fault
line_fails : (P : Type 0) (g : Grammar P) (p : P) (n : ℕ) (f : Fault) (line : List ℕ) (lines : List (List ℕ)) → numbered_line g p n line ≡ Err f → planned_from g p n (line ∷ lines) ≡ record { plan = p; fault = Some (n, f) }
unfolding planned_from
line_fails P g p n f line lines e = ap (λ (s : Result P Fault). then_rest p n s (λ (r : P). planned_from g r (n + 1) lines)) e

-- the loop's invariant: of what was read, ra is all and rb is left, and what the rest sets up from p is what all sets up from the first
-- plan
abbrev pub Inv : {P : Type 0} → Grammar P → (first : P) → Option (List ℕ) → Option (List ℕ) → P → ℕ → Type 0
Inv g first ra rb p n = Known ra rb (λ all rest. planned_by g first all ≡ planned_from g p n (lines_of rest))

pub at_start : (P : Type 0) (g : Grammar P) (first : P) (ra : Option (List ℕ)) → Inv g first ra ra first 1
at_start P g first None = tt
at_start P g first (Some all) = refl

ended : (P : Type 0) (g : Grammar P) (first p : P) (n : ℕ) (all rest : List ℕ) → planned_by g first all ≡ planned_from g p n (lines_of rest) → lines_of rest ≡ [] → planned_by g first all ≡ record { plan = p; fault = fault_at n (g.ends p) }
unfolding planned_from
ended P g first p n all rest inv reads = inv ∙ ap (planned_from g p n) reads

-- the script's end, where nothing is wrong with it
pub at_end : (P : Type 0) (g : Grammar P) (first : P) (ra rb rc : Option (List ℕ)) (line : List ℕ) (p : P) (n : ℕ) → Inv g first ra rb p n → Read script_limits n (Ok false) line rb rc → g.ends p ≡ None → IfSome ra (λ script. IsRead g.text (Ok tt) p (planned_by g first script))
at_end P g first None rb rc line p n inv reads o = tt
at_end P g first (Some all) None rc line p n inv reads o = absurd inv
at_end P g first (Some all) (Some rest) None line p n inv reads o = absurd reads
at_end P g first (Some all) (Some rest) (Some left) line p n inv reads o =
    let e : planned_by g first all ≡ record { plan = p; fault = fault_at n (g.ends p) } = ended P g first p n all rest inv reads in
    (sym (ap (λ (x : Planned P). x.plan) e), ap (λ (x : Planned P). x.fault) e ∙ ap (fault_at n) o)

-- and where something is
pub at_wrong_end : (P : Type 0) (g : Grammar P) (first : P) (ra rb rc : Option (List ℕ)) (line : List ℕ) (p : P) (n : ℕ) (f : Fault) → Inv g first ra rb p n → Read script_limits n (Ok false) line rb rc → g.ends p ≡ Some f
    → IfSome ra (λ script. IsRead g.text (Err record { line = n; cause = causes.Fault f }) p (planned_by g first script))
at_wrong_end P g first None rb rc line p n f inv reads o = tt
at_wrong_end P g first (Some all) None rc line p n f inv reads o = absurd inv
at_wrong_end P g first (Some all) (Some rest) None line p n f inv reads o = absurd reads
at_wrong_end P g first (Some all) (Some rest) (Some left) line p n f inv reads o =
    let e : planned_by g first all ≡ record { plan = p; fault = fault_at n (g.ends p) } = ended P g first p n all rest inv reads in
    (sym (ap (λ (x : Planned P). g.text x.plan) e), ap (λ (x : Planned P). x.fault) e ∙ ap (fault_at n) o)

-- the next line has this fault
abbrev Faulty : {P : Type 0} → Grammar P → P → ℕ → Fault → List ℕ → Type 0
Faulty g p n f rest = (line : List ℕ) × (lines : List (List ℕ)) × (lines_of rest ≡ line ∷ lines) × (numbered_line g p n line ≡ Err f)

faulty_above : (P : Type 0) (g : Grammar P) (rb : Option (List ℕ)) (p : P) (n : ℕ) (f : Fault) → IfSome rb (IsAbove script_limits n f) → IfSome rb (Faulty g p n f)
faulty_above P g None p n f h = tt
faulty_above P g (Some rest) p n f h = (h.0, h.1, h.2, ap (λ (wrong : Option Fault). unless_above wrong (g.step p h.0)) h.3)

faulty_line : (P : Type 0) (g : Grammar P) (rb rc : Option (List ℕ)) (line : List ℕ) (p : P) (n : ℕ) (f : Fault) → Read script_limits n (Ok true) line rb rc → g.step p line ≡ Err f → IfSome rb (Faulty g p n f)
faulty_line P g None rc line p n f reads e = tt
faulty_line P g (Some rest) None line p n f reads e = absurd reads.1
faulty_line P g (Some rest) (Some left) line p n f reads e = (line, lines_of left, reads.1, numbered P g p n line (Err f) reads.0 e)

-- and ends the reading; q prints what p prints
at_fault : (P : Type 0) (g : Grammar P) (first : P) (ra rb : Option (List ℕ)) (p q : P) (n : ℕ) (f : Fault) → Inv g first ra rb p n → IfSome rb (Faulty g p n f) → g.text q ≡ g.text p
    → IfSome ra (λ script. IsRead g.text (Err record { line = n; cause = causes.Fault f }) q (planned_by g first script))
at_fault P g first None rb p q n f inv next same = tt
at_fault P g first (Some all) None p q n f inv next same = absurd inv
at_fault P g first (Some all) (Some rest) p q n f inv next same =
    let e : planned_by g first all ≡ record { plan = p; fault = Some (n, f) } = inv ∙ ap (planned_from g p n) next.2 ∙ line_fails P g p n f next.0 next.1 next.3 in
    (same ∙ sym (ap (λ (x : Planned P). g.text x.plan) e), ap (λ (x : Planned P). x.fault) e)

pub at_line : (P : Type 0) (g : Grammar P) (first : P) (ra rb rc : Option (List ℕ)) (line : List ℕ) (p q : P) (n : ℕ) → Inv g first ra rb p n → Read script_limits n (Ok true) line rb rc → g.step p line ≡ Ok q → Inv g first ra rc q (n + 1)
at_line P g first None rb rc line p q n inv reads done = tt
at_line P g first (Some all) None rc line p q n inv reads done = absurd inv
at_line P g first (Some all) (Some rest) None line p q n inv reads done = absurd reads.1
at_line P g first (Some all) (Some rest) (Some left) line p q n inv reads done = inv ∙ ap (planned_from g p n) reads.1 ∙ line_done P g p q n line (lines_of left) (numbered P g p n line (Ok q) reads.0 done)

-- what is printed so far
at_front : (P : Type 0) (g : Grammar P) → EachGrows P g → (first : P) (ra rb : Option (List ℕ)) (p q : P) (n : ℕ) → Inv g first ra rb p n → g.text q ≡ g.text p → IfSome ra (λ script. Begins (g.text q) (g.text (planned_by g first script).plan))
at_front P g grows first None rb p q n inv same = tt
at_front P g grows first (Some all) None p q n inv same = absurd inv
at_front P g grows first (Some all) (Some rest) p q n inv same =
    let e : g.text (planned_from g p n (lines_of rest)).plan ≡ g.text (planned_by g first all).plan = sym (ap (λ (x : Planned P). g.text x.plan) inv) in
    begins_as (g.text p) (g.text q) _ _ same e (begins_all P g grows p n (lines_of rest))

-- no line was read
pub at_no_line : (P : Type 0) (g : Grammar P) → EachGrows P g → (first : P) (ra rb rc : Option (List ℕ)) (line : List ℕ) (p : P) (n : ℕ) (cause : Cause) (m : Limits) → m ≡ script_limits → Inv g first ra rb p n → Read m n (Err cause) line rb rc
    → IfSome ra (λ script. IsRead g.text (Err record { line = n; cause = cause }) p (planned_by g first script))
at_no_line P g grows first ra rb rc line p n (causes.Fault f) m e inv reads = at_fault P g first ra rb p p n f inv (faulty_above P g rb p n f (subst (λ (k : Limits). IfSome rb (IsAbove k n f)) e reads)) refl
at_no_line P g grows first ra rb rc line p n causes.ReadFailed m e inv reads = at_front P g grows first ra rb p p n inv refl
at_no_line P g grows first ra rb rc line p n causes.OutOfMemory m e inv reads = at_front P g grows first ra rb p p n inv refl
at_no_line P g grows first ra rb rc line p n causes.WriteFailed m e inv reads = absurd reads

-- at a line that ends the reading
pub at_error : (P : Type 0) (g : Grammar P) → EachGrows P g → (first : P) (ra rb rc : Option (List ℕ)) (line : List ℕ) (p q : P) (n : ℕ) (error : LineError) → Inv g first ra rb p n → Read script_limits n (Ok true) line rb rc
    → Done g.text (Err error) p q (g.step p line) → IfSome ra (λ script. IsRead g.text (Err record { line = n; cause = cause_of error }) q (planned_by g first script))
at_error P g grows first ra rb rc line p q n errors.OutOfMemory inv reads o = at_front P g grows first ra rb p q n inv o
at_error P g grows first ra rb rc line p q n (errors.Fault f) inv reads o = at_fault P g first ra rb p q n f inv (faulty_line P g rb rc line p n f reads o.0) o.1
