-- What was written in two parts is their texts, one behind the other.
use Rattle.std.proofs.Common.{◌≡◌, ℕ, List, [], ◌++◌, Bool, false, Option, Some, None, Result, Ok, Err, refl, sym, ◌∙◌, ap, append_assoc, subst, inl, inr, IfSome, IfOk}
use Rattle.std.proofs.lemmas.List.{append-nil}
use Rattle.std.specs.Io.KnownBytes.{Appends}
use Rattle.text_lines.specs.Known.{IsFront}
use Rattle.line_faults.specs.declared.ending.Cause.{Cause}
use Rattle.line_faults.specs.declared.ending.Cause.TheVariants as causes
use Rattle.line_faults.specs.declared.ending.ScriptFault.{ScriptFault}
use Rattle.script_runs.specs.Reading.{Planned, Begins, IsRead, IsCut}
use Rattle.script_runs.specs.Ending.{EndedBy, EndedByCause, IsRefusedTold, IsRunTold, lost_fault}
use Rattle.script_runs.specs.declared.ending.LiveRan.{LiveRan}
use Rattle.script_runs.specs.declared.ending.Lost.{Lost}
use Rattle.script_runs.specs.declared.ending.Lost.TheVariants as losts
use Rattle.script_runs.specs.declared.ending.LiveFault.TheVariants as faults
use Rattle.script_runs.specs.declared.ending.Told.{Told}
use Rattle.script_runs.proofs.ScriptsRead.{all_of}

appends_both : (a b c : Option (List ℕ)) (x y : List ℕ) → Appends a b x → Appends b c y → Appends a c (x ++ y)
appends_both None b c x y p q = tt
appends_both (Some s) None c x y p q = absurd p
appends_both (Some s) (Some t) None x y p q = q
appends_both (Some s) (Some t) (Some u) x y p q = q ∙ ap (λ v. v ++ y) p ∙ append_assoc s x y

-- a front of the beginning is one of the whole
front_begins : (a b : Option (List ℕ)) (x y : List ℕ) → Begins x y → IsFront a b x → IsFront a b y
front_begins None b x y k h = ([], tt)
front_begins (Some s) None x y k h = absurd h.1
front_begins (Some s) (Some t) x y k h = (h.0 ++ k.0, sym (append_assoc t h.0 k.0) ∙ ap (λ v. v ++ k.0) h.1 ∙ append_assoc s x k.0 ∙ ap (λ v. s ++ v) (sym k.1))

front_of_all : (a b : Option (List ℕ)) (x : List ℕ) → Appends a b x → IsFront a b x
front_of_all None b x h = ([], tt)
front_of_all (Some s) None x h = absurd h
front_of_all (Some s) (Some t) x h = ([], append-nil t ∙ h)

front_behind : (a b c : Option (List ℕ)) (x y : List ℕ) → Appends a b x → IsFront b c y → IsFront a c (x ++ y)
front_behind None b c x y h k = ([], tt)
front_behind (Some s) None c x y h k = absurd h
front_behind (Some s) (Some t) None x y h k = absurd k.1
front_behind (Some s) (Some t) (Some u) x y h k = (k.0, k.1 ∙ ap (λ v. v ++ y) h ∙ append_assoc s x y)

-- what was printed of refused lines begins all that is printed of them
cut_begins : (P : Type 0) (text : P → List ℕ) (n : ℕ) (cause : Cause) (p : P) (q : Planned P) → IsCut text n cause p q → Begins (text p) (text q.plan)
cut_begins P text n (causes.Fault f) p q h = all_of (text p) (text q.plan) (sym h.0)
cut_begins P text n causes.ReadFailed p q h = h
cut_begins P text n causes.OutOfMemory p q h = h
cut_begins P text n causes.WriteFailed p q h = absurd h

read_begins : (P : Type 0) (text : P → List ℕ) (r : Result (Unit {0}) ScriptFault) (p : P) (q : Planned P) → IsRead text r p q → Begins (text p) (text q.plan)
read_begins P text (Ok u) p q h = all_of (text p) (text q.plan) (sym (ap text h.0))
read_begins P text (Err f) p q h = cut_begins P text f.line f.cause p q h

abbrev pub Coming : Type 0 → Type 1
Coming P = P → Bool → List ℕ → Type 0

-- the text of refused lines couldn't be written
at_first_write : (P : Type 0) (text : P → List ℕ) (CameTo : Coming P) (planned : List ℕ → Planned P) (ra a b : Option (List ℕ)) (r : Result (Unit {0}) ScriptFault) (p : P) → IfSome ra (λ script. IsRead text r p (planned script)) → IsFront a b (text p)
    → IfSome ra (λ script. EndedBy text CameTo record { fault = Some (faults.Script record { line = 0; cause = causes.WriteFailed }); ran_out = false } a b (planned script))
at_first_write P text CameTo planned None a b r p read x = tt
at_first_write P text CameTo planned (Some all) a b r p read x = inl (front_begins a b (text p) (text (planned all).plan) (read_begins P text r p (planned all) read) x)

cut : (P : Type 0) (text : P → List ℕ) (CameTo : Coming P) (n : ℕ) (cause : Cause) (a b : Option (List ℕ)) (p : P) (q : Planned P) → IsCut text n cause p q → Appends a b (text p) → EndedByCause text CameTo n cause a b q
cut P text CameTo n (causes.Fault f) a b p q h x = (subst (λ (t : List ℕ). Appends a b t) h.0 x, h.1)
cut P text CameTo n causes.ReadFailed a b p q h x = front_begins a b (text p) (text q.plan) h (front_of_all a b (text p) x)
cut P text CameTo n causes.OutOfMemory a b p q h x = front_begins a b (text p) (text q.plan) h (front_of_all a b (text p) x)
cut P text CameTo n causes.WriteFailed a b p q h x = absurd h

-- the reading ended by a fault
at_cut : (P : Type 0) (text : P → List ℕ) (CameTo : Coming P) (planned : List ℕ → Planned P) (ra a b : Option (List ℕ)) (p : P) (f : ScriptFault) → IfSome ra (λ script. IsRead text (Err f) p (planned script)) → Appends a b (text p)
    → IfSome ra (λ script. EndedBy text CameTo record { fault = Some (faults.Script record { line = f.line; cause = f.cause }); ran_out = false } a b (planned script))
at_cut P text CameTo planned None a b p f read x = tt
at_cut P text CameTo planned (Some all) a b p f read x = cut P text CameTo f.line f.cause a b p (planned all) read x

planned_text : (P : Type 0) (text : P → List ℕ) (a b : Option (List ℕ)) (p : P) (q : Planned P) → p ≡ q.plan → Appends a b (text p) → Appends a b (text q.plan)
planned_text P text a b p q e x = subst (λ (t : List ℕ). Appends a b t) (ap text e) x

-- the threads left no text
at_lost : (P : Type 0) (text : P → List ℕ) (CameTo : Coming P) (planned : List ℕ → Planned P) (ra a b : Option (List ℕ)) (p : P) (lost : Lost) → IfSome ra (λ script. IsRead text (Ok tt) p (planned script)) → Appends a b (text p)
    → IfSome ra (λ script. EndedBy text CameTo record { fault = Some (lost_fault lost); ran_out = false } a b (planned script))
at_lost P text CameTo planned None a b p lost read x = tt
at_lost P text CameTo planned (Some all) a b p losts.OutOfMemory read x = front_of_all a b (text (planned all).plan) (planned_text P text a b p (planned all) read.0 x)
at_lost P text CameTo planned (Some all) a b p losts.NotThisSegment read x = (planned_text P text a b p (planned all) read.0 x, read.1)

-- their text couldn't be written
at_second_write : (P : Type 0) (text : P → List ℕ) (CameTo : Coming P) (planned : List ℕ → Planned P) (ra a b c : Option (List ℕ)) (p : P) (end : List ℕ) (ran_out : Bool) → IfSome ra (λ script. IsRead text (Ok tt) p (planned script)) → CameTo p ran_out end → Appends a b (text p) → IsFront b c end
    → IfSome ra (λ script. EndedBy text CameTo record { fault = Some (faults.Script record { line = 0; cause = causes.WriteFailed }); ran_out = false } a c (planned script))
at_second_write P text CameTo planned None a b c p end ran_out read came x y = tt
at_second_write P text CameTo planned (Some all) a b c p end ran_out read came x y =
    inr (ran_out, text (planned all).plan ++ end, (read.1, (end, subst (λ (q : P). CameTo q ran_out end) read.0 came, refl)), front_behind a b c (text (planned all).plan) end (planned_text P text a b p (planned all) read.0 x) y)

-- all was written
at_done : (P : Type 0) (text : P → List ℕ) (CameTo : Coming P) (planned : List ℕ → Planned P) (ra a b c : Option (List ℕ)) (p : P) (end : List ℕ) (ran_out : Bool) → IfSome ra (λ script. IsRead text (Ok tt) p (planned script)) → CameTo p ran_out end → Appends a b (text p) → Appends b c end
    → IfSome ra (λ script. EndedBy text CameTo record { fault = None; ran_out = ran_out } a c (planned script))
at_done P text CameTo planned None a b c p end ran_out read came x y = tt
at_done P text CameTo planned (Some all) a b c p end ran_out read came x y =
    (text (planned all).plan ++ end, (read.1, (end, subst (λ (q : P). CameTo q ran_out end) read.0 came, refl)), appends_both a b c (text (planned all).plan) end (planned_text P text a b p (planned all) read.0 x) y)

-- how the run ended, by another name
ends_so : (P : Type 0) (text : P → List ℕ) (CameTo : Coming P) (planned : List ℕ → Planned P) (ra a b : Option (List ℕ)) (ran same : LiveRan) → ran ≡ same → IfSome ra (λ script. EndedBy text CameTo same a b (planned script))
    → IfSome ra (λ script. EndedBy text CameTo ran a b (planned script))
ends_so P text CameTo planned ra a b ran same e ends = subst (λ (r : LiveRan). IfSome ra (λ script. EndedBy text CameTo r a b (planned script))) (sym e) ends

read_so : (P : Type 0) (text : P → List ℕ) (planned : List ℕ → Planned P) (ra : Option (List ℕ)) (p : P) (read same : Result (Unit {0}) ScriptFault) → read ≡ same → IfSome ra (λ script. IsRead text read p (planned script))
    → IfSome ra (λ script. IsRead text same p (planned script))
read_so P text planned ra p read same e is_read = subst (λ (r : Result (Unit {0}) ScriptFault). IfSome ra (λ script. IsRead text r p (planned script))) e is_read

-- the run ended once the refused lines were told
pub at_refused : (P : Type 0) (text : P → List ℕ) (CameTo : Coming P) (planned : List ℕ → Planned P) (ra a b : Option (List ℕ)) (read : Result (Unit {0}) ScriptFault) (p : P) (refused : List ℕ) (ran : LiveRan)
    → IfSome ra (λ script. IsRead text read p (planned script)) → refused ≡ text p → IsRefusedTold read a b refused (Some ran) → IfSome ra (λ script. EndedBy text CameTo ran a b (planned script))
at_refused P text CameTo planned ra a b read p refused ran is_read is_text (inl h) =
    ends_so P text CameTo planned ra a b ran _ h.0 (at_first_write P text CameTo planned ra a b read p is_read (subst (λ (t : List ℕ). IsFront a b t) is_text h.1))
at_refused P text CameTo planned ra a b read p refused ran is_read is_text (inr h) =
    ends_so P text CameTo planned ra a b ran _ h.2 (at_cut P text CameTo planned ra a b p h.0 (read_so P text planned ra p read (Err h.0) h.1 is_read) (subst (λ (t : List ℕ). Appends a b t) is_text h.3))

-- the refused lines were told, and the threads ran
pub at_run : (P : Type 0) (text : P → List ℕ) (CameTo : Coming P) (planned : List ℕ → Planned P) (ra a b c : Option (List ℕ)) (read : Result (Unit {0}) ScriptFault) (p : P) (refused : List ℕ) (told : Result Told Lost) (ran : LiveRan)
    → IfSome ra (λ script. IsRead text read p (planned script)) → refused ≡ text p → IsRefusedTold read a b refused None → IfOk told (λ t. CameTo p t.ran_out t.text.items) → IsRunTold told b c ran
    → IfSome ra (λ script. EndedBy text CameTo ran a c (planned script))
at_run P text CameTo planned ra a b c read p refused (Ok told) ran is_read is_text first came (inl h) =
    ends_so P text CameTo planned ra a c ran _ h.0 (at_done P text CameTo planned ra a b c p told.text.items told.ran_out (read_so P text planned ra p read (Ok tt) first.0 is_read) came (subst (λ (t : List ℕ). Appends a b t) is_text first.1) h.1)
at_run P text CameTo planned ra a b c read p refused (Ok told) ran is_read is_text first came (inr h) =
    ends_so P text CameTo planned ra a c ran _ h.0 (at_second_write P text CameTo planned ra a b c p told.text.items told.ran_out (read_so P text planned ra p read (Ok tt) first.0 is_read) came (subst (λ (t : List ℕ). Appends a b t) is_text first.1) h.1)
at_run P text CameTo planned ra a b c read p refused (Err lost) ran is_read is_text first came h =
    subst (λ (d : Option (List ℕ)). IfSome ra (λ script. EndedBy text CameTo ran a d (planned script))) (sym h.1)
    (ends_so P text CameTo planned ra a b ran _ h.0 (at_lost P text CameTo planned ra a b p lost (read_so P text planned ra p read (Ok tt) first.0 is_read) (subst (λ (t : List ℕ). Appends a b t) is_text first.1)))
