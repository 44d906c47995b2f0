-- A run that goes on by a line.
use Rattle.std.proofs.Common.{◌≡◌, ◌⊎◌, inl, inr, ℕ, ◌+◌, ◌≤◌, List, [], ◌∷◌, ◌++◌, Option, Some, None, Result, Ok, Err, true, false, refl, sym, ◌∙◌, ap, subst, Bool, IfSome}
use Rattle.std.specs.Io.KnownBytes.{Appends, Keeps, append_known}
use Rattle.text_lines.specs.Known.{Known, IsFront}
use Rattle.text_lines.proofs.Known.{appends_keeps}
use Rattle.text_lines.specs.Lines.{lines_of}
use Rattle.line_faults.specs.declared.ending.Cause.{Cause}
use Rattle.line_faults.specs.declared.ending.Cause.TheVariants as causes
use Rattle.line_faults.specs.declared.fault.Fault.{Fault}
use Rattle.line_runs.specs.Limits.{above, unless_above, Read}
use Rattle.line_runs.specs.Outcome.{Steps, numbered_line, then_rest, outcome_from, outcome, state_after, left_from, left}
use Rattle.line_runs.specs.Ending.{Ended, Left}
use Rattle.line_runs.specs.Taking.{Future, further, GoesOn, StoppedBy, Unless, Stops, Obeys, IsFlushedAfter, IsAsBefore, Takes}
use Rattle.line_runs.specs.declared.limits.Limits.{Limits}
use Rattle.line_runs.specs.declared.taking.Run.{Run}
use Rattle.line_runs.proofs.Written.{keeps_same, keeps_both, keeps_appends, keeps_none, keeps_front, kept_front, front_kept, appends_then, front_then, appends_none}

module _ (S : Type 0) where
  -- What goes on

  goes_kept : (a b c : Option (List ℕ)) (rest whole : Future S) → GoesOn a b rest whole → Keeps b c → GoesOn a c rest whole
  goes_kept a b c rest whole w k = record { text = by a b c w.text k; fault = w.fault; left = w.left }
    where
      by : (x y z : Option (List ℕ)) → Appends x (append_known y rest.told.text) whole.told.text → Keeps y z → Appends x (append_known z rest.told.text) whole.told.text
      by None y z h j = tt
      by (Some s) None z h j = absurd h
      by (Some s) (Some t) None h j = absurd j
      by (Some s) (Some t) (Some u) h j = ap (λ v. v ++ rest.told.text) j ∙ h

  goes_before : (a b c : Option (List ℕ)) (rest whole : Future S) → Keeps a b → GoesOn b c rest whole → GoesOn a c rest whole
  goes_before a b c rest whole k w = record { text = keeps_appends a b (append_known c rest.told.text) whole.told.text k w.text; fault = w.fault; left = w.left }

  goes_front : (a b : Option (List ℕ)) (rest whole : Future S) → GoesOn a b rest whole → IsFront a b whole.told.text
  goes_front a b rest whole w = (rest.told.text, w.text)

  -- What ends a run

  module _ (kept : S → S → Type 0) where
    stopped_before : (n : ℕ) (cause : Cause) (t : S) (a b c : Option (List ℕ)) (o : Future S) → Keeps a b → StoppedBy kept n cause t b c o → StoppedBy kept n cause t a c o
    stopped_before n (causes.Fault f) t a b c o k e = ((keeps_appends a b c o.told.text k e.0.0, e.0.1), e.1)
    stopped_before n causes.ReadFailed t a b c o k e = (front_kept a b c o.told.text k e.0, tt)
    stopped_before n causes.OutOfMemory t a b c o k e = (front_kept a b c o.told.text k e.0, tt)
    stopped_before n causes.WriteFailed t a b c o k e = (front_kept a b c o.told.text k e.0, tt)

    stopped_kept : (n : ℕ) (cause : Cause) (t : S) (a b c : Option (List ℕ)) (o : Future S) → StoppedBy kept n cause t a b o → Keeps b c → StoppedBy kept n cause t a c o
    stopped_kept n (causes.Fault f) t a b c o e k = ((appends_keeps a b c o.told.text e.0.0 k, e.0.1), e.1)
    stopped_kept n causes.ReadFailed t a b c o e k = (kept_front a b c o.told.text e.0 k, tt)
    stopped_kept n causes.OutOfMemory t a b c o e k = (kept_front a b c o.told.text e.0 k, tt)
    stopped_kept n causes.WriteFailed t a b c o e k = (kept_front a b c o.told.text e.0 k, tt)

    module _ (m : Limits) (step : Steps S) where
      -- A line and those behind it

      numbered : (s : S) (n : ℕ) (line : List ℕ) (r : Result (S × List ℕ) Fault) → above m n line ≡ None → step s line ≡ r → numbered_line m step s n line ≡ r
      numbered s n line r w e = rw (w, e) refl

      first_told : (s : S) (n : ℕ) (line : List ℕ) (lines : List (List ℕ)) → outcome_from m step s n (line ∷ lines) ≡ then_rest n (numbered_line m step s n line) (λ (u : S). outcome_from m step u (n + 1) lines)
      unfolding outcome_from
      first_told s n line lines = refl

      first_left : (s : S) (n : ℕ) (line : List ℕ) (lines : List (List ℕ)) → left_from m step s n (line ∷ lines) ≡ state_after (numbered_line m step s n line) s (λ (u : S). left_from m step u (n + 1) lines)
      unfolding left_from
      first_left s n line lines = refl

      abbrev After : S → ℕ → List (List ℕ) → Result (S × List ℕ) Fault → Future S
      After s n lines r = record { told = then_rest n r (λ (u : S). outcome_from m step u (n + 1) lines); left = state_after r s (λ (u : S). left_from m step u (n + 1) lines) }

      first_line : (s : S) (n : ℕ) (line : List ℕ) (lines : List (List ℕ)) (r : Result (S × List ℕ) Fault) → numbered_line m step s n line ≡ r → After s n lines r ≡ further m step s n (line ∷ lines)
      first_line s n line lines r e = rw (first_told s n line lines, first_left s n line lines, e) refl

      line_done : (s t : S) (n : ℕ) (p line : List ℕ) (lines : List (List ℕ)) (a b : Option (List ℕ)) → above m n line ≡ None → step s line ≡ Ok (t, p) → Appends a b p
          → GoesOn a b (further m step t (n + 1) lines) (further m step s n (line ∷ lines))
      line_done s t n p line lines a b w e written =
          subst (λ x. GoesOn a b (further m step t (n + 1) lines) x) (first_line s n line lines (Ok (t, p)) (numbered s n line (Ok (t, p)) w e))
          record { text = appends_then a b p (outcome_from m step t (n + 1) lines).text written; fault = refl; left = refl }

      fault_stops : (s t : S) (n : ℕ) (line : List ℕ) (lines : List (List ℕ)) (f : Fault) (a b : Option (List ℕ)) → numbered_line m step s n line ≡ Err f → (t ≡ s) ⊎ kept s t → Keeps a b
          → StoppedBy kept n (causes.Fault f) t a b (further m step s n (line ∷ lines))
      fault_stops s t n line lines f a b e k same =
          subst (λ x. StoppedBy kept n (causes.Fault f) t a b x) (first_line s n line lines (Err f) e) ((keeps_none a b same, refl), k)

      line_stops : (cause : Cause) (s t : S) (n : ℕ) (line : List ℕ) (lines : List (List ℕ)) (a b : Option (List ℕ)) → above m n line ≡ None → Stops cause step kept s t line a b
          → StoppedBy kept n cause t a b (further m step s n (line ∷ lines))
      line_stops (causes.Fault f) s t n line lines a b w o = fault_stops s t n line lines f a b (numbered s n line (Err f) w o.0) (inr o.1) o.2
      line_stops causes.ReadFailed s t n line lines a b w o = absurd o
      line_stops causes.OutOfMemory s t n line lines a b w o = (keeps_front a b _ o, tt)
      line_stops causes.WriteFailed s t n line lines a b w o = (
        subst (λ (x : Future S). IsFront a b x.told.text) (first_line s n line lines (Ok (t, o.0)) (numbered s n line (Ok (t, o.0)) w o.1))
            (front_then a b o.0 (outcome_from m step t (n + 1) lines).text o.2),
        tt,
      )

      -- The next line of a reader

      taken_line : (done : Unit {0}) (s t : S) (old new : Run) (line : List ℕ) (ra rb a b : Option (List ℕ)) → old.number ≤ m.lines → Read m old.number (Ok true) line ra rb
          → Obeys (Ok done) step kept s t old new line a b → Takes (Ok true) m step kept s t old new ra rb a b
      taken_line done s t old new line None rb a b few reads o = (o.0, few, tt)
      taken_line done s t old new line (Some all) None a b few reads o = absurd reads.1
      taken_line done s t old new line (Some all) (Some rest) a b few reads o = (
        o.0,
        few,
        λ r.
            let d = o.1 r in
            (d.0, rw (o.0, reads.1) (line_done s t old.number d.1.0 line (lines_of rest) a b reads.0 d.1.1 d.1.2)),
      )

      failed_line : (s t : S) (old new : Run) (line : List ℕ) (cause : Cause) (ra rb a b : Option (List ℕ)) → Read m old.number (Ok true) line ra rb
          → Obeys (Err cause) step kept s t old new line a b → Takes (Err cause) m step kept s t old new ra rb a b
      failed_line s t old new line cause None rb a b reads o = tt
      failed_line s t old new line cause (Some all) None a b reads o = absurd reads.1
      failed_line s t old new line cause (Some all) (Some rest) a b reads o = λ r.
          let d = o.1 r in
          (d.0, rw (o.0, reads.1) (line_stops cause s t old.number line (lines_of rest) a b reads.0 d.1))

      -- and then flushed, or not
      flushed_line : (s t : S) (old new : Run) (ra rb a b c : Option (List ℕ)) → Takes (Ok true) m step kept s t old new ra rb a b → Keeps b c → Takes (Ok true) m step kept s t old new ra rb a c
      flushed_line s t old new None rb a b c w k = (w.0, w.1, tt)
      flushed_line s t old new (Some all) None a b c w k = absurd w.2
      flushed_line s t old new (Some all) (Some rest) a b c w k = (w.0, w.1, λ r. ((w.2 r).0, goes_kept a b c _ _ (w.2 r).1 k))

      unflushed_line : (s t : S) (old new : Run) (ra rb a b c : Option (List ℕ)) → Takes (Ok true) m step kept s t old new ra rb a b → Keeps b c
          → Takes (Err causes.WriteFailed) m step kept s t old new ra rb a c
      unflushed_line s t old new None rb a b c w k = tt
      unflushed_line s t old new (Some all) None a b c w k = absurd w.2
      unflushed_line s t old new (Some all) (Some rest) a b c w k = λ r. ((w.2 r).0, (kept_front a b c _ (goes_front a b _ _ (w.2 r).1) k, tt))

      stopped_line : (s t : S) (old new : Run) (cause : Cause) (ra rb a b c : Option (List ℕ)) → Takes (Err cause) m step kept s t old new ra rb a b → Keeps b c → Takes (Err cause) m step kept s t old new ra rb a c
      stopped_line s t old new cause None rb a b c w k = tt
      stopped_line s t old new cause (Some all) rb a b c w k = λ r. ((w r).0, stopped_kept new.number cause t a b c _ (w r).1 k)

      -- a flush changes neither its number nor whether a line found no memory
      flushed_run : (obeyed : Result (Unit {0}) Cause) (s t : S) (old new flushed : Run) (line : List ℕ) (a b : Option (List ℕ)) → (flushed.number ≡ new.number) × (flushed.memory_refused ≡ new.memory_refused)
          → Obeys obeyed step kept s t old new line a b → Obeys obeyed step kept s t old flushed line a b
      flushed_run (Ok done) s t old new flushed line a b e o = (e.0 ∙ o.0, λ r. o.1 (sym e.1 ∙ r))
      flushed_run (Err cause) s t old new flushed line a b e o = (e.0 ∙ o.0, λ r. o.1 (sym e.1 ∙ r))

      after_line : (obeyed : Result (Unit {0}) Cause) (after : Result Bool Cause) (s t : S) (old new : Run) (line : List ℕ) (ra rb a b c : Option (List ℕ)) → old.number ≤ m.lines
          → Read m old.number (Ok true) line ra rb → Obeys obeyed step kept s t old new line a b → IsFlushedAfter obeyed after → Keeps b c → Takes after m step kept s t old new ra rb a c
      after_line (Err cause) after s t old new line ra rb a b c few reads o f k =
          subst (λ x. Takes x m step kept s t old new ra rb a c) (sym f) (stopped_line s t old new cause ra rb a b c (failed_line s t old new line cause ra rb a b reads o) k)
      after_line (Ok done) (Ok is_line) s t old new line ra rb a b c few reads o f k =
          subst (λ (x : Bool). Takes (Ok x) m step kept s t old new ra rb a c) (sym f) (flushed_line s t old new ra rb a b c (taken_line done s t old new line ra rb a b few reads o) k)
      after_line (Ok done) (Err cause) s t old new line ra rb a b c few reads o f k =
          subst (λ (x : Cause). Takes (Err x) m step kept s t old new ra rb a c) (sym f) (unflushed_line s t old new ra rb a b c (taken_line done s t old new line ra rb a b few reads o) k)

      pub line_taken : (obeyed : Result (Unit {0}) Cause) (after : Result Bool Cause) (s t : S) (old new flushed : Run) (line : List ℕ) (ra rb a b c : Option (List ℕ)) → (flushed.number ≡ new.number) × (flushed.memory_refused ≡ new.memory_refused)
          → old.number ≤ m.lines → Read m old.number (Ok true) line ra rb → Obeys obeyed step kept s t old new line a b → IsFlushedAfter obeyed after → Keeps b c → Takes after m step kept s t old flushed ra rb a c
      line_taken obeyed after s t old new flushed line ra rb a b c e few reads o f k =
          after_line obeyed after s t old flushed line ra rb a b c few reads (flushed_run obeyed s t old new flushed line a b e o) f k

      -- no line was read
      pub not_read : (s : S) (run : Run) (line : List ℕ) (cause : Cause) (ra rb a : Option (List ℕ)) → Read m run.number (Err cause) line ra rb → Takes (Err cause) m step kept s s run run ra rb a a
      not_read s run line cause None rb a reads = tt
      not_read s run line (causes.Fault f) (Some all) rb a reads = λ r.
          (r, rw reads.2 (fault_stops s s run.number reads.0 reads.1 f a a (ap (λ (wrong : Option Fault). unless_above wrong (step s reads.0)) reads.3) (inl refl) (keeps_same a)))
      not_read s run line causes.ReadFailed (Some all) rb a reads = λ r. (r, (keeps_front a a _ (keeps_same a), tt))
      not_read s run line causes.OutOfMemory (Some all) rb a reads = λ r. (r, (keeps_front a a _ (keeps_same a), tt))
      not_read s run line causes.WriteFailed (Some all) rb a reads = absurd reads

      pub unread : (s : S) (run : Run) (ra rb a : Option (List ℕ)) → Takes (Err causes.ReadFailed) m step kept s s run run ra rb a a
      unread s run None rb a = tt
      unread s run (Some all) rb a = λ r. (r, (keeps_front a a _ (keeps_same a), tt))

      -- A line that isn't taken where it lies, and then copied

      next_line : (s u t : S) (old mid new : Run) (ra rb rc a b c d : Option (List ℕ)) → Keeps ra rb → IsAsBefore s u old mid a b → Keeps b c
          → Takes (Ok true) m step kept u t mid new rb rc c d → Takes (Ok true) m step kept s t old new ra rc a d
      next_line s u t old mid new ra rb rc a b c d q o k w = (w.0 ∙ ap (λ n. n + 1) o.1, subst (λ n. n ≤ m.lines) o.1 w.1, by ra rb rc q w.2)
        where
          by : (x y z : Option (List ℕ)) → Keeps x y
              → Known y z (λ all rest. Unless mid new (GoesOn c d (further m step t new.number (lines_of rest)) (further m step u mid.number (lines_of all))))
              → Known x z (λ all rest. Unless old new (GoesOn a d (further m step t new.number (lines_of rest)) (further m step s old.number (lines_of all))))
          by None y z h v = tt
          by (Some all) None z h v = absurd h
          by (Some all) (Some rest) None h v = absurd v
          by (Some all) (Some rest) (Some behind) h v = λ r.
              let g : GoesOn c d (further m step t new.number (lines_of behind)) (further m step s old.number (lines_of all)) = rw (sym o.0, sym o.1, sym h) (v r).1 in
              (sym o.2 ∙ (v r).0, goes_before a c d _ _ (keeps_both a b c o.3 k) g)

      next_end : (s u t : S) (old mid new : Run) (ra rb rc a b c d : Option (List ℕ)) → Keeps ra rb → IsAsBefore s u old mid a b → Keeps b c
          → Takes (Ok false) m step kept u t mid new rb rc c d → Takes (Ok false) m step kept s t old new ra rc a d
      next_end s u t old mid new ra rb rc a b c d q o k w =
          (by ra rb q w.0, (w.1.0 ∙ o.0, w.1.1 ∙ o.1, w.1.2 ∙ o.2, keeps_both a c d (keeps_both a b c o.3 k) w.1.3))
        where
          by : (x y : Option (List ℕ)) → Keeps x y → IfSome y (λ all. lines_of all ≡ []) → IfSome x (λ all. lines_of all ≡ [])
          by None y h e = tt
          by (Some all) None h e = absurd h
          by (Some all) (Some rest) h e = subst (λ l. lines_of l ≡ []) h e

      next_cause : (s u t : S) (old mid new : Run) (cause : Cause) (ra rb rc a b c d : Option (List ℕ)) → Keeps ra rb → IsAsBefore s u old mid a b → Keeps b c
          → Takes (Err cause) m step kept u t mid new rb rc c d → Takes (Err cause) m step kept s t old new ra rc a d
      next_cause s u t old mid new cause ra rb rc a b c d q o k w = by ra rb q w
        where
          by : (x y : Option (List ℕ)) → Keeps x y → IfSome y (λ all. Unless mid new (StoppedBy kept new.number cause t c d (further m step u mid.number (lines_of all))))
              → IfSome x (λ all. Unless old new (StoppedBy kept new.number cause t a d (further m step s old.number (lines_of all))))
          by None y h v = tt
          by (Some all) None h v = absurd h
          by (Some all) (Some rest) h v = λ r.
              let e : StoppedBy kept new.number cause t c d (further m step s old.number (lines_of all)) = rw (sym o.0, sym o.1, sym h) (v r).1 in
              (sym o.2 ∙ (v r).0, stopped_before new.number cause t a c d _ (keeps_both a b c o.3 k) e)

      pub next_taken : (s u t : S) (old mid new : Run) (x : Result Bool Cause) (ra rb rc a b c d : Option (List ℕ)) → Keeps ra rb → IsAsBefore s u old mid a b → Keeps b c
          → Takes x m step kept u t mid new rb rc c d → Takes x m step kept s t old new ra rc a d
      next_taken s u t old mid new (Ok true) ra rb rc a b c d q o k w = next_line s u t old mid new ra rb rc a b c d q o k w
      next_taken s u t old mid new (Ok false) ra rb rc a b c d q o k w = next_end s u t old mid new ra rb rc a b c d q o k w
      next_taken s u t old mid new (Err cause) ra rb rc a b c d q o k w = next_cause s u t old mid new cause ra rb rc a b c d q o k w

      pub next_unwritten : (s u : S) (old mid : Run) (ra rb a b c : Option (List ℕ)) → Keeps ra rb → IsAsBefore s u old mid a b → Keeps b c
          → Takes (Err causes.WriteFailed) m step kept s u old mid ra rb a c
      next_unwritten s u old mid None rb a b c q o k = tt
      next_unwritten s u old mid (Some all) rb a b c q o k = λ r. (sym o.2 ∙ r, (keeps_front a c _ (keeps_both a b c o.3 k), tt))

      pub next_as : (is_line as_known : Bool) (s t : S) (old new : Run) (ra rb a b : Option (List ℕ)) → is_line ≡ as_known → Takes (Ok is_line) m step kept s t old new ra rb a b
          → Takes (Ok as_known) m step kept s t old new ra rb a b
      next_as is_line as_known s t old new ra rb a b e w = subst (λ x. Takes (Ok x) m step kept s t old new ra rb a b) e w

      -- An input, line by line

      -- the loop's invariant: of what was read, ra is all and rb is left; of what was written, a was there and b is there now
      abbrev pub Inv : (first s : S) → Run → (ra rb a b : Option (List ℕ)) → Type 0
      Inv first s run ra rb a b = Known ra rb (λ all rest. run.memory_refused ≡ false → GoesOn a b (further m step s run.number (lines_of rest)) (further m step first 1 (lines_of all)))

      -- with no line left
      no_told : (s : S) (n : ℕ) → outcome_from m step s n [] ≡ record { text = []; fault = None }
      unfolding outcome_from
      no_told s n = refl

      no_left : (s : S) (n : ℕ) → left_from m step s n [] ≡ s
      unfolding left_from
      no_left s n = refl

      abbrev pub EndsAll : (t : S) → (refused : Bool) → (ra a b : Option (List ℕ)) → (first : S) → Type 0
      EndsAll t refused ra a b first = IfSome ra (λ input. refused ≡ false → GoesOn a b (record { told = record { text = []; fault = None }; left = t }) (further m step first 1 (lines_of input)))

      pub at_end : (first s t : S) (old new : Run) (ra rb rc a b c d : Option (List ℕ)) → Inv first s old ra rb a b → Takes (Ok false) m step kept s t old new rb rc b c
          → Keeps c d → EndsAll t new.memory_refused ra a d first
      at_end first s t old new None rb rc a b c d inv w k = tt
      at_end first s t old new (Some all) None rc a b c d inv w k = absurd inv
      at_end first s t old new (Some all) (Some rest) rc a b c d inv w k = λ r.
          let none : further m step s old.number (lines_of rest) ≡ record { told = record { text = []; fault = None }; left = t } = rw (w.0, no_told s old.number, no_left s old.number, w.1.0) refl in
          goes_kept a b d _ _ (subst (λ o. GoesOn a b o (further m step first 1 (lines_of all))) none (inv (sym w.1.2 ∙ r))) (keeps_both b c d w.1.3 k)

      pub ended_all : (t : S) (refused : Bool) (ra a b : Option (List ℕ)) (first : S) → EndsAll t refused ra a b first
          → IfSome ra (λ input. Ended record { fault = None; memory_refused = refused } a b (outcome m step first input))
      ended_all t refused None a b first e = tt
      ended_all t refused (Some all) a b first e = λ r. (appends_none a b _ (e r).text, sym (e r).fault)

      pub left_all : (t : S) (refused : Bool) (ra a b : Option (List ℕ)) (first : S) → EndsAll t refused ra a b first
          → IfSome ra (λ input. Left record { fault = None; memory_refused = refused } t (left m step first input))
      left_all t refused None a b first e = tt
      left_all t refused (Some all) a b first e = λ r f. (e r).left
