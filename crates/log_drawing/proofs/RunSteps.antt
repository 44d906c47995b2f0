-- A log that goes on by a line.
use Rattle.std.proofs.Common.{◌≡◌, ℕ, ◌+◌, List, [], ◌∷◌, ◌++◌, Option, Some, None, Result, Ok, Err, true, false, refl, sym, ◌∙◌, ap, subst, cond, Bool, IfSome}
use Rattle.std.proofs.lemmas.List.{append-nil}
use Rattle.std.specs.Io.KnownBytes.{Appends, append_known}
use Rattle.text_lines.specs.Known.{Known, IsFront}
use Rattle.text_lines.specs.Lines.{lines_of}
use Rattle.text_lines.proofs.Known.{front_none, appends_more, appends_front}
use Rattle.line_faults.specs.declared.ending.Cause.{Cause}
use Rattle.line_faults.specs.declared.ending.Cause.TheVariants as causes
use Rattle.line_faults.specs.declared.fault.Fault.{Fault}
use Rattle.line_runs.specs.Limits.{above, IsAbove, Read, log_limits}
use Rattle.line_runs.specs.declared.limits.Limits.{Limits}
use Rattle.log_drawing.specs.Packets.{closing}
use Rattle.log_drawing.specs.Picture.{Step, is_ended, line_seen}
use Rattle.log_drawing.specs.Outcome.{Outcome, closed, told, then_rest, outcome_from, outcome}
use Rattle.log_drawing.specs.Ending.{is_of_log, WrittenBy, WrittenAs, SaysBy, Says, Stopped, Ended}
use Rattle.log_drawing.specs.declared.options.Options.{Options}
use Rattle.log_drawing.specs.declared.picture.Picture.{Picture}
use Rattle.log_drawing.specs.declared.running.Drawn.{Drawn}

-- all of a text is a front of it
pub front_all : (a b : Option (List ℕ)) (text : List ℕ) → Appends a b text → IsFront a b text
front_all None b text h = ([], tt)
front_all (Some s) None text h = absurd h
front_all (Some s) (Some t) text h = ([], append-nil t ∙ h)

-- from known bytes a, now b: what the rest tells completes what all tells; likewise from e, now f
pub record GoesOn (a b e f : Option (List ℕ)) (rest whole : Outcome) : Type 0 where
  pub text : Appends a (append_known b rest.text) whole.text
  pub errors : Appends e (append_known f rest.errors) whole.errors
  pub counts : rest.counts ≡ whole.counts
  pub fault : rest.fault ≡ whole.fault

appends_start : (a : Option (List ℕ)) (all : List ℕ) → Appends a (append_known a all) all
appends_start None all = tt
appends_start (Some s) all = refl

pub nothing : (b : Bool) (a : Option (List ℕ)) → WrittenBy b a a []
nothing true None = tt
nothing true (Some s) = sym (append-nil s)
nothing false a = front_none a []

-- of what was left so much was written: it is of all
written_more : (w : Bool) (a b c : Option (List ℕ)) (rest whole : List ℕ) → Appends a (append_known b rest) whole → WrittenBy w b c rest → WrittenBy w a c whole
written_more true None b c rest whole p q = tt
written_more true (Some s) None c rest whole p q = absurd p
written_more true (Some s) (Some t) None rest whole p q = absurd q
written_more true (Some s) (Some t) (Some u) rest whole p q = q ∙ p
written_more false None b c rest whole p q = (q.0, tt)
written_more false (Some s) None c rest whole p q = absurd p
written_more false (Some s) (Some t) None rest whole p q = absurd q.1
written_more false (Some s) (Some t) (Some u) rest whole p q = (q.0, q.1 ∙ p)

says_more : (w : Bool) (d : Drawn) (rest whole : Outcome) → rest.counts ≡ whole.counts → rest.fault ≡ whole.fault → SaysBy w d rest → SaysBy w d whole
says_more true d rest whole c f q = (q.0 ∙ c, q.1 ∙ f)
says_more false d rest whole c f q = tt

-- whatever came of the rest came of the whole
ended_more : (d : Drawn) (a b c e f h : Option (List ℕ)) (rest whole : Outcome) → GoesOn a b e f rest whole → Ended d b c f h rest → Ended d a c e h whole
ended_more d a b c e f h rest whole w x = record {
  text = written_more (is_of_log d.fault) a b c rest.text whole.text w.text x.text;
  errors = written_more (is_of_log d.fault) e f h rest.errors whole.errors w.errors x.errors;
  told = says_more (is_of_log d.fault) d rest whole w.counts w.fault x.told;
}

-- the loop's invariant: of what was read, ra is all and rb is left; of what was written, a and e were there, and b and f are there now
abbrev pub Inv : Options → Option (List ℕ) → Option (List ℕ) → (a b e f : Option (List ℕ)) → Picture → ℕ → Type 0
Inv options ra rb a b e f s n = Known ra rb (λ all rest. GoesOn a b e f (outcome_from options s n (lines_of rest)) (outcome options all))

-- what came of what was left
abbrev pub EndedHere : Options → Option (List ℕ) → Drawn → (b c f h : Option (List ℕ)) → Picture → ℕ → Type 0
EndedHere options rb d b c f h s n = IfSome rb (λ rest. Ended d b c f h (outcome_from options s n (lines_of rest)))

pub ended_all : (options : Options) (ra rb a b c e f h : Option (List ℕ)) (s : Picture) (n : ℕ) (d : Drawn) → Inv options ra rb a b e f s n → EndedHere options rb d b c f h s n
    → IfSome ra (λ log. Ended d a c e h (outcome options log))
ended_all options None rb a b c e f h s n d inv x = tt
ended_all options (Some all) None a b c e f h s n d inv x = absurd inv
ended_all options (Some all) (Some rest) a b c e f h s n d inv x = ended_more d a b c e f h (outcome_from options s n (lines_of rest)) (outcome options all) inv x

-- a line within the limits
stepped : (options : Options) (s : Picture) (n : ℕ) (line : List ℕ) (lines : List (List ℕ)) → above log_limits n line ≡ None
    → outcome_from options s n (line ∷ lines) ≡ then_rest options (line_seen options s n line) (λ t. outcome_from options t (n + 1) lines)
unfolding outcome_from
stepped options s n line lines w = rw w refl

-- one above them
faulty : (options : Options) (s : Picture) (n : ℕ) (fault : Fault) (line : List ℕ) (lines : List (List ℕ)) → above log_limits n line ≡ Some fault → outcome_from options s n (line ∷ lines) ≡ closed s (Some (n, fault))
unfolding outcome_from
faulty options s n fault line lines w = rw w refl

no_line : (options : Options) (s : Picture) (n : ℕ) → outcome_from options s n [] ≡ closed s None
unfolding outcome_from
no_line options s n = refl

-- what is open is drawn at the end of the log
pub at_end : (options : Options) (rb rc : Option (List ℕ)) (line : List ℕ) (b c f : Option (List ℕ)) (s : Picture) (n : ℕ) (d : Drawn) → Read log_limits n (Ok false) line rb rc
    → WrittenAs d b c (closing s.packets) → Says d (closed s None) → EndedHere options rb d b c f f s n
at_end options None rc line b c f s n d reads written says = tt
at_end options (Some rest) None line b c f s n d reads written says = absurd reads
at_end options (Some rest) (Some left) line b c f s n d reads written says =
    let x : Ended d b c f f (closed s None) = record { text = written; errors = nothing (is_of_log d.fault) f; told = says } in
    subst (λ o. Ended d b c f f o) (sym (ap (outcome_from options s n) reads ∙ no_line options s n)) x

-- nothing more was written, and why is no fault of a line
front : (w : Bool) (a : Option (List ℕ)) (text : List ℕ) → w ≡ false → WrittenBy w a a text
front true a text e = let bad : true ≡ false = e in cc
front false a text e = front_none a text

unsaid : (w : Bool) (d : Drawn) (o : Outcome) → w ≡ false → SaysBy w d o
unsaid true d o e = let bad : true ≡ false = e in cc
unsaid false d o e = tt

fails : (d : Drawn) (b f : Option (List ℕ)) (o : Outcome) → is_of_log d.fault ≡ false → Ended d b b f f o
fails d b f o e = record { text = front (is_of_log d.fault) b o.text e; errors = front (is_of_log d.fault) f o.errors e; told = unsaid (is_of_log d.fault) d o e }

fails_moved : (d : Drawn) (b c f : Option (List ℕ)) (o : Outcome) → (is_of_log d.fault ≡ false) × (b ≡ c) → Ended d b c f f o
fails_moved d b c f o e = subst (λ x. Ended d b x f f o) e.1 (fails d b f o e.0)

pub at_failure : (options : Options) (rb b f : Option (List ℕ)) (s : Picture) (n : ℕ) (d : Drawn) → is_of_log d.fault ≡ false → EndedHere options rb d b b f f s n
at_failure options None b f s n d e = tt
at_failure options (Some rest) b f s n d e = fails d b f (outcome_from options s n (lines_of rest)) e

-- the same where the writer is where it was
failed_there : (options : Options) (rb b c f : Option (List ℕ)) (s : Picture) (n : ℕ) (d : Drawn) → (is_of_log d.fault ≡ false) × (b ≡ c) → EndedHere options rb d b c f f s n
failed_there options None b c f s n d e = tt
failed_there options (Some rest) b c f s n d e = fails_moved d b c f (outcome_from options s n (lines_of rest)) e

at_long : (options : Options) (rb b c f : Option (List ℕ)) (s : Picture) (n : ℕ) (d : Drawn) (fault : Fault) → IfSome rb (IsAbove log_limits n fault)
    → WrittenAs d b c (closing s.packets) → Says d (closed s (Some (n, fault))) → EndedHere options rb d b c f f s n
at_long options None b c f s n d fault next written says = tt
at_long options (Some rest) b c f s n d fault next written says =
    let x : Ended d b c f f (closed s (Some (n, fault))) = record { text = written; errors = nothing (is_of_log d.fault) f; told = says } in
    subst (λ o. Ended d b c f f o) (sym (ap (outcome_from options s n) next.2 ∙ faulty options s n fault next.0 next.1 next.3)) x

-- and at a line that isn't read, for its fault; nothing is written where the reader failed or memory was refused
pub at_no_line : (options : Options) (rb rc : Option (List ℕ)) (line : List ℕ) (b c f : Option (List ℕ)) (s : Picture) (n : ℕ) (d : Drawn) (cause : Cause) → Read log_limits n (Err cause) line rb rc
    → Stopped cause d b c s n → EndedHere options rb d b c f f s n
at_no_line options rb rc line b c f s n d (causes.Fault fault) reads stopped = at_long options rb b c f s n d fault reads stopped.0 stopped.1
at_no_line options rb rc line b c f s n d causes.ReadFailed reads stopped = failed_there options rb b c f s n d stopped
at_no_line options rb rc line b c f s n d causes.OutOfMemory reads stopped = failed_there options rb b c f s n d stopped
at_no_line options rb rc line b c f s n d causes.WriteFailed reads stopped = absurd reads

-- a line was read that is within the limits
abbrev pub IsLine : ℕ → List ℕ → Option (List ℕ) → Option (List ℕ) → Type 0
IsLine n line rb rc = Read log_limits n (Ok true) line rb rc

-- what was left begins with it
here : (options : Options) (rest left line : List ℕ) (s : Picture) (n : ℕ) (step : Step) → above log_limits n line ≡ None → lines_of rest ≡ line ∷ lines_of left → line_seen options s n line ≡ step
    → outcome_from options s n (lines_of rest) ≡ then_rest options step (λ t. outcome_from options t (n + 1) (lines_of left))
here options rest left line s n step within lines seen =
    ap (outcome_from options s n) lines ∙ stepped options s n line (lines_of left) within ∙ ap (λ (x : Step). then_rest options x (λ t. outcome_from options t (n + 1) (lines_of left))) seen

front_more : (b c : Option (List ℕ)) (text rest : List ℕ) → IsFront b c text → IsFront b c (text ++ rest)
front_more b c text rest h = (h.0 ++ rest, appends_front b b c h.0 text rest (text ++ rest) h.1 (appends_start b (text ++ rest)))

-- fronts of what it tells were written
pub at_write : (options : Options) (rb rc : Option (List ℕ)) (line : List ℕ) (b c f h : Option (List ℕ)) (s : Picture) (n : ℕ) (d : Drawn) (step : Step) → IsLine n line rb rc → line_seen options s n line ≡ step
    → is_of_log d.fault ≡ false → IsFront b c step.text → IsFront f h step.errors → EndedHere options rb d b c f h s n
at_write options None rc line b c f h s n d step reads seen e text errors = tt
at_write options (Some rest) None line b c f h s n d step reads seen e text errors = absurd reads.1
at_write options (Some rest) (Some left) line b c f h s n d step reads seen e text errors =
    let behind : Outcome = cond (is_ended options step.left) (closed step.left None) (outcome_from options step.left (n + 1) (lines_of left)) in
    let x : Ended d b c f h (told step behind) = record {
      text = subst (λ w. WrittenBy w b c (step.text ++ behind.text)) (sym e) (front_more b c step.text behind.text text);
      errors = subst (λ w. WrittenBy w f h (step.errors ++ behind.errors)) (sym e) (front_more f h step.errors behind.errors errors);
      told = unsaid (is_of_log d.fault) d (told step behind) e;
    } in
    subst (λ o. Ended d b c f h o) (sym (here options rest left line s n step reads.0 reads.1 seen)) x

-- it was told, and more comes
goes_on : (a b c e f h : Option (List ℕ)) (step : Step) (rest whole : Outcome) → Appends b c step.text → Appends f h step.errors → GoesOn a b e f (told step rest) whole → GoesOn a c e h rest whole
goes_on a b c e f h step rest whole p q w = record {
  text = appends_more a b c step.text rest.text whole.text p w.text;
  errors = appends_more e f h step.errors rest.errors whole.errors q w.errors;
  counts = w.counts;
  fault = w.fault;
}

pub at_next : (options : Options) (ra rb rc : Option (List ℕ)) (line : List ℕ) (a b c e f h : Option (List ℕ)) (s : Picture) (n : ℕ) (step : Step) → Inv options ra rb a b e f s n → IsLine n line rb rc
    → line_seen options s n line ≡ step → is_ended options step.left ≡ false → Appends b c step.text → Appends f h step.errors → Inv options ra rc a c e h step.left (n + 1)
at_next options None rb rc line a b c e f h s n step inv reads seen ended p q = tt
at_next options (Some all) None rc line a b c e f h s n step inv reads seen ended p q = absurd inv
at_next options (Some all) (Some rest) None line a b c e f h s n step inv reads seen ended p q = absurd reads.1
at_next options (Some all) (Some rest) (Some left) line a b c e f h s n step inv reads seen ended p q =
    let next : Outcome = outcome_from options step.left (n + 1) (lines_of left) in
    let o : outcome_from options s n (lines_of rest) ≡ told step next = here options rest left line s n step reads.0 reads.1 seen ∙ ap (λ (w : Bool). told step (cond w (closed step.left None) next)) ended in
    goes_on a b c e f h step next (outcome options all) p q (subst (λ x. GoesOn a b e f x (outcome options all)) o inv)

-- it was told, and ends the drawing
ended_there : (d : Drawn) (b c g f h : Option (List ℕ)) (step : Step) → Appends b c step.text → Appends f h step.errors → WrittenAs d c g (closing step.left.packets) → Says d (closed step.left None)
    → Ended d b g f h (told step (closed step.left None))
ended_there d b c g f h step p q written says =
    let last : Outcome = closed step.left None in
    let w : GoesOn b c f h last (told step last) = record {
      text = appends_more b b c step.text last.text (step.text ++ last.text) p (appends_start b (step.text ++ last.text));
      errors = appends_more f f h step.errors last.errors (step.errors ++ last.errors) q (appends_start f (step.errors ++ last.errors));
      counts = refl;
      fault = refl;
    } in
    ended_more d b c g f h h last (told step last) w record { text = written; errors = nothing (is_of_log d.fault) h; told = says }

pub at_wrong : (options : Options) (rb rc : Option (List ℕ)) (line : List ℕ) (b c g f h : Option (List ℕ)) (s : Picture) (n : ℕ) (d : Drawn) (step : Step) → IsLine n line rb rc → line_seen options s n line ≡ step
    → is_ended options step.left ≡ true → Appends b c step.text → Appends f h step.errors → WrittenAs d c g (closing step.left.packets) → Says d (closed step.left None) → EndedHere options rb d b g f h s n
at_wrong options None rc line b c g f h s n d step reads seen ended p q written says = tt
at_wrong options (Some rest) None line b c g f h s n d step reads seen ended p q written says = absurd reads.1
at_wrong options (Some rest) (Some left) line b c g f h s n d step reads seen ended p q written says =
    let next : Outcome = outcome_from options step.left (n + 1) (lines_of left) in
    let o : outcome_from options s n (lines_of rest) ≡ told step (closed step.left None) = here options rest left line s n step reads.0 reads.1 seen ∙ ap (λ (w : Bool). told step (cond w (closed step.left None) next)) ended in
    subst (λ x. Ended d b g f h x) (sym o) (ended_there d b c g f h step p q written says)

-- what was read, by its value, within the limits of a log
pub reads : (m : Limits) (n : ℕ) (r : Result Bool Cause) (line : List ℕ) (old new : Option (List ℕ)) → m ≡ log_limits → Read m n r line old new → Read log_limits n r line old new
reads m n r line old new e h = subst (λ (k : Limits). Read k n r line old new) e h

pub reads_as : (m : Limits) (n : ℕ) (is_line as_known : Bool) (line : List ℕ) (old new : Option (List ℕ)) → m ≡ log_limits → is_line ≡ as_known → Read m n (Ok is_line) line old new → Read log_limits n (Ok as_known) line old new
reads_as m n is_line as_known line old new e k h = subst (λ (b : Bool). Read log_limits n (Ok b) line old new) k (reads m n (Ok is_line) line old new e h)

-- a step by its parts
pub was_seen : (step : Step) (left : Picture) (text errors : List ℕ) → left ≡ step.left → text ≡ step.text → errors ≡ step.errors → step ≡ record { left = left; text = text; errors = errors }
was_seen step left text errors a b e = rw (a, b, e) refl
