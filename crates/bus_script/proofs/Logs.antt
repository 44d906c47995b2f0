-- Frames in a log and in a text, and a drive that logs them turn by turn.
use Rattle.std.proofs.Common.{◌≡◌, ◌≢◌, ◌≤◌, ◌<◌, ◌+◌, ◌-◌, ◌^◌, ℕ, zero, suc, min, List, [], ◌∷◌, ◌++◌, map, Option, Some, None, Ok, refl, sym, ◌∙◌, ap, subst, append_assoc, arith, unwrap_or}
use Rattle.std.specs.List.{flat_map, zip}
use Rattle.std.proofs.lemmas.List.{append-nil}
use Rattle.std.proofs.lemmas.Grind.{flat_map-append}
use Rattle.bus_frame.specs.Frames.{CanFrame}
use Rattle.pgn_ids.specs.declared.address.Address.{Address}
use Rattle.segment_law.specs.Segment.{Segment}
use Rattle.segment_law.specs.Calls.{events_of}
use Rattle.segment_law.specs.Record.{Record}
use Rattle.segment_law.specs.Drive.{Driven, driven, end_of, events_in}
use Rattle.segment_law.specs.declared.end.DriveEnd.{DriveEnd}
use Rattle.segment_law.specs.declared.end.DriveEnd.TheVariants as end
use Rattle.segment_law.specs.declared.reply.Reply.{Reply}
use Rattle.segment_core.specs.Drives.{IsDriven}
use Rattle.drive_course.specs.declared.driven.Driven as ran
use Rattle.script_text.specs.Replies.{event_line, event_lines, drove_line}
use Rattle.bus_script.specs.Telling.{Telling, log_line, log_at, put_at, without_frames, frames_alone}
use Rattle.bus_script.specs.Turns.{turn_times, turns_log}
use Rattle.bus_script.specs.Script.{Step, told_by, told_of, frames_put, drove, Obeyed}
use Rattle.bus_script.specs.Driving.{told_at, HasDriven}
use Rattle.bus_script.specs.declared.parted.Parted.{Parted}
use Rattle.line_runs.specs.declared.running.Told.{Told}
use Rattle.bus_script.proofs.Splits.{before, IsFair, split_more, split_end, one_most, one_fair}

abbrev pub all_at : ℕ → List CanFrame → List ℕ
all_at now frames = map (λ (frame : CanFrame). now) frames

zip_more : (now : ℕ) (fs gs : List CanFrame) (ts : List ℕ) → zip (all_at now fs ++ ts) (fs ++ gs) ≡ zip (all_at now fs) fs ++ zip ts gs
zip_more now [] gs ts = refl
zip_more now (f ∷ fs) gs ts = ap (λ (ps : List (ℕ × CanFrame)). (now, f) ∷ ps) (zip_more now fs gs ts)

log_same : (now : ℕ) (fs : List CanFrame) → flat_map put_at (zip (all_at now fs) fs) ≡ log_at now fs
log_same now [] = refl
log_same now (f ∷ fs) = ap (λ l. log_line now f ++ l) (log_same now fs)

log_more : (now : ℕ) (fs gs : List CanFrame) (ts : List ℕ) → flat_map put_at (zip (all_at now fs ++ ts) (fs ++ gs)) ≡ log_at now fs ++ flat_map put_at (zip ts gs)
log_more now fs gs ts =
    ap (flat_map put_at) (zip_more now fs gs ts)
    ∙ flat_map-append put_at (zip (all_at now fs) fs) (zip ts gs)
    ∙ ap (λ l. l ++ flat_map put_at (zip ts gs)) (log_same now fs)

events_more : (xs ys : Record) → event_lines (events_in (xs ++ ys)) ≡ event_lines (events_in xs) ++ event_lines (events_in ys)
events_more [] ys = refl
events_more (x ∷ xs) ys =
    flat_map-append event_line (events_of x.1) (events_in (xs ++ ys))
    ∙ ap (λ l. event_lines (events_of x.1) ++ l) (events_more xs ys)
    ∙ sym (append_assoc (event_lines (events_of x.1)) (event_lines (events_in xs)) (event_lines (events_in ys)))
    ∙ ap (λ l. l ++ event_lines (events_in ys)) (sym (flat_map-append event_line (events_of x.1) (events_in xs)))

-- a drive that hasn't ended
fair_none : (o : Option DriveEnd) → IsFair o → unwrap_or o end.Turns ≡ end.Turns → o ≡ None
fair_none None f e = refl
fair_none (Some end.Turns) f e = absurd f
fair_none (Some end.Idle) f e = let bad : end.Idle ≡ end.Turns = e in cc
fair_none (Some (end.Refused c)) f e = let bad : end.Refused c ≡ end.Turns = e in cc
fair_none (Some end.OutOfMemory) f e = let bad : end.OutOfMemory ≡ end.Turns = e in cc

ended_some : (o : Option DriveEnd) → unwrap_or o end.Turns ≢ end.Turns → (c : DriveEnd) × (o ≡ Some c)
ended_some None h = absurd (h refl)
ended_some (Some c) h = (c, refl)

-- a step was told
abbrev pub IsTold : (Telling → List ℕ) → Option Segment → (old text : List ℕ) → Step → Type 0
IsTold view new old text step = (step ≡ Ok (new, told_by step)) × (text ≡ old ++ view (told_by step))

-- how a drive that was told ended
pub was_driven : (view : Telling → List ℕ) (fin : DriveEnd) (told : Told) (new : Option Segment) (old text : List ℕ) (step : Step) → told ≡ told_at fin → (fin ≢ end.OutOfMemory → IsTold view new old text step)
    → Obeyed view (Ok told) new old text step
was_driven view end.Turns told new old text step e h = subst (λ t. Obeyed view (Ok t) new old text step) (sym e) (h (λ q. cc))
was_driven view end.Idle told new old text step e h = subst (λ t. Obeyed view (Ok t) new old text step) (sym e) (h (λ q. cc))
was_driven view (end.Refused c) told new old text step e h = subst (λ t. Obeyed view (Ok t) new old text step) (sym e) (h (λ q. cc))
was_driven view end.OutOfMemory told new old text step e h = subst (λ t. Obeyed view (Ok t) new old text step) (sym e) tt

-- one turn: its frames and events are told, and all were put at its clock
pub was_turn : (d : Driven) (seg : Segment) (old page : Parted) (done : ran.Driven) (now : ℕ) (frames : List CanFrame) → IsDriven d seg done → now ≡ seg.now → frames ≡ done.frames
    → page.log.items ≡ old.log.items ++ log_at now frames → page.below.items ≡ old.below.items ++ event_lines done.events
    → HasDriven d (log_at seg.now d.frames) seg old page (done.turns, done.end)
was_turn d seg old page done now frames h clock shown log below =
    let all : frames ≡ d.frames = shown ∙ h.frames in
    record {
      segment = h.segment;
      turns = h.turns;
      ended = h.end;
      logged = log ∙ (λ i. old.log.items ++ log_at (clock i) (all i));
      told = below ∙ ap (λ es. old.below.items ++ event_lines es) h.events;
    }

-- the loop's invariant: what was done so far, and then what the rest of the turns does, is what all of them do
pub record Goes (from to : Address) (n k made : ℕ) (s t : Segment) (old page : Parted) : Type 0 where
  pub most : made + k ≤ n
  pub text : page.text.items ≡ old.text.items
  pub segment : (driven t from to k).segment ≡ (driven s from to n).segment
  pub turns : made + (driven t from to k).turns ≡ (driven s from to n).turns
  pub ended : end_of (driven t from to k) ≡ end_of (driven s from to n)
  pub logged : page.log.items ++ turns_log k from to t ≡ old.log.items ++ turns_log n from to s
  pub told : page.below.items ++ event_lines (events_in (driven t from to k).calls) ≡ old.below.items ++ event_lines (events_in (driven s from to n).calls)

pub goes_start : (from to : Address) (n : ℕ) (s : Segment) (page : Parted) → Goes from to n n 0 s s page page
goes_start from to n s page = record { most = omega arith; text = refl; segment = refl; turns = omega arith; ended = refl; logged = refl; told = refl }

-- with no turn left
pub goes_done : (from to : Address) (n k made : ℕ) (s t : Segment) (old page : Parted) → k ≡ 0 → Goes from to n k made s t old page
    → HasDriven (driven s from to n) (turns_log n from to s) t old page (made, end.Turns)
unfolding driven
goes_done from to n k made s t old page z goes =
    let g : Goes from to n 0 made s t old page = subst (λ j. Goes from to n j made s t old page) z goes in
    let turns : made + 0 ≡ (driven s from to n).turns = g.turns in
    record {
      segment = g.segment;
      turns = omega (arith, turns);
      ended = g.ended;
      logged = sym (append-nil page.log.items) ∙ g.logged;
      told = sym (append-nil page.below.items) ∙ g.told;
    }

-- the log of a turn behind which others come, and of one that ends the drive
log_on : (from to : Address) (m : ℕ) (t u : Segment) → u ≡ (driven t from to 1).segment → (driven t from to 1).ended ≡ None
    → turns_log (suc m) from to t ≡ log_at u.now (driven t from to 1).frames ++ turns_log m from to u
log_on from to m t u s e =
    let d : Driven = driven t from to 1 in
    let a : turn_times (suc m) from to t ≡ all_at d.segment.now d.frames ++ turn_times m from to d.segment =
    ap (λ (o : Option DriveEnd). all_at d.segment.now d.frames ++ elim o as (λ (_ : Option DriveEnd). List ℕ) [ None ↦ turn_times m from to d.segment | Some cause ↦ [] ]) e in
    let b : (driven t from to (suc m)).frames ≡ d.frames ++ (driven d.segment from to m).frames = ap (λ (x : Driven). x.frames) (split_more from to m t e) in
    let c : turns_log (suc m) from to t ≡ flat_map put_at (zip (all_at d.segment.now d.frames ++ turn_times m from to d.segment) (d.frames ++ (driven d.segment from to m).frames)) = λ i. flat_map put_at (zip (a i) (b i)) in
    c ∙ log_more d.segment.now d.frames (driven d.segment from to m).frames (turn_times m from to d.segment)
    ∙ ap (λ (v : Segment). log_at v.now d.frames ++ turns_log m from to v) (sym s)

log_end : (from to : Address) (m : ℕ) (t u : Segment) (c : DriveEnd) → u ≡ (driven t from to 1).segment → (driven t from to 1).ended ≡ Some c
    → turns_log (suc m) from to t ≡ log_at u.now (driven t from to 1).frames
log_end from to m t u c s e =
    let d : Driven = driven t from to 1 in
    let a : turn_times (suc m) from to t ≡ all_at d.segment.now d.frames =
    ap (λ (o : Option DriveEnd). all_at d.segment.now d.frames ++ elim o as (λ (_ : Option DriveEnd). List ℕ) [ None ↦ turn_times m from to d.segment | Some cause ↦ [] ]) e
    ∙ append-nil (all_at d.segment.now d.frames) in
    let b : (driven t from to (suc m)).frames ≡ d.frames = ap (λ (x : Driven). x.frames) (split_end from to m t c e) in
    let f : turns_log (suc m) from to t ≡ flat_map put_at (zip (all_at d.segment.now d.frames) d.frames) = λ i. flat_map put_at (zip (a i) (b i)) in
    f ∙ log_same d.segment.now d.frames ∙ ap (λ (v : Segment). log_at v.now d.frames) (sym s)

-- a count that can't pass its type
no_cut : (made put n : ℕ) → made + put ≤ n → n < 2 ^ 64 → min (made + put) (2 ^ 64 - 1) ≡ made + put
no_cut made put n h l = omega (arith, h, l)

-- after a turn
on_by : (from to : Address) (n m made put : ℕ) (s t u : Segment) (old page after : Parted) (fin : DriveEnd) → Goes from to n (suc m) made s t old page → n < 2 ^ 64 → after.text.items ≡ page.text.items
    → HasDriven (driven t from to 1) (log_at u.now (driven t from to 1).frames) u page after (put, fin) → fin ≡ end.Turns
    → Goes from to n m (min (made + put) (2 ^ 64 - 1)) s u old after
on_by from to n m made put s t u old page after fin g l same x stays =
    let d : Driven = driven t from to 1 in
    let e : d.ended ≡ None = fair_none d.ended (one_fair from to t) (sym x.ended ∙ stays) in
    let w : driven t from to (suc m) ≡ before d (driven u from to m) = split_more from to m t e ∙ ap (λ (v : Segment). before d (driven v from to m)) (sym x.segment) in
    let most = g.most in
    let one : d.turns ≤ 1 = one_most from to t in
    let put_is : put ≡ d.turns = x.turns in
    let all : made + (driven t from to (suc m)).turns ≡ (driven s from to n).turns = g.turns in
    let sum : (driven t from to (suc m)).turns ≡ d.turns + (driven u from to m).turns = ap (λ (y : Driven). y.turns) w in
    let fits : made + put ≤ n = omega (arith, most, one, put_is) in
    subst (λ j. Goes from to n m j s u old after) (sym (no_cut made put n fits l)) record {
      most = omega (arith, most, one, put_is);
      text = same ∙ g.text;
      segment = sym (ap (λ (y : Driven). y.segment) w) ∙ g.segment;
      turns = omega (arith, all, sum, put_is);
      ended = sym (ap end_of w) ∙ g.ended;
      logged = ap (λ x. x ++ turns_log m from to u) x.logged ∙ append_assoc page.log.items (log_at u.now d.frames) (turns_log m from to u)
          ∙ ap (λ x. page.log.items ++ x) (sym (log_on from to m t u x.segment e)) ∙ g.logged;
      told = ap (λ x. x ++ event_lines (events_in (driven u from to m).calls)) x.told
          ∙ append_assoc page.below.items (event_lines (events_in d.calls)) (event_lines (events_in (driven u from to m).calls))
          ∙ ap (λ x. page.below.items ++ x) (sym (events_more d.calls (driven u from to m).calls) ∙ ap (λ (y : Driven). event_lines (events_in y.calls)) (sym w)) ∙ g.told;
    }

-- after a turn that ended the drive
end_by : (from to : Address) (n m made put : ℕ) (s t u : Segment) (old page after : Parted) (fin : DriveEnd) → Goes from to n (suc m) made s t old page → n < 2 ^ 64
    → HasDriven (driven t from to 1) (log_at u.now (driven t from to 1).frames) u page after (put, fin) → fin ≢ end.Turns
    → HasDriven (driven s from to n) (turns_log n from to s) u old after (min (made + put) (2 ^ 64 - 1), fin)
end_by from to n m made put s t u old page after fin g l x stops =
    let d : Driven = driven t from to 1 in
    let c : (c : DriveEnd) × (d.ended ≡ Some c) = ended_some d.ended (λ q. stops (x.ended ∙ q)) in
    let w : driven t from to (suc m) ≡ d = split_end from to m t c.0 c.1 in
    let most = g.most in
    let one : d.turns ≤ 1 = one_most from to t in
    let put_is : put ≡ d.turns = x.turns in
    let all : made + (driven t from to (suc m)).turns ≡ (driven s from to n).turns = g.turns in
    let sum : (driven t from to (suc m)).turns ≡ d.turns = ap (λ (y : Driven). y.turns) w in
    let fits : made + put ≤ n = omega (arith, most, one, put_is) in
    let total : made + put ≡ (driven s from to n).turns = omega (arith, all, sum, put_is) in
    record {
      segment = x.segment ∙ sym (ap (λ (y : Driven). y.segment) w) ∙ g.segment;
      turns = no_cut made put n fits l ∙ total;
      ended = x.ended ∙ sym (ap end_of w) ∙ g.ended;
      logged = x.logged ∙ ap (λ x. page.log.items ++ x) (sym (log_end from to m t u c.0 x.segment c.1)) ∙ g.logged;
      told = x.told ∙ ap (λ (y : Driven). page.below.items ++ event_lines (events_in y.calls)) (sym w) ∙ g.told;
    }

-- the same of any number of turns left above 0

pub goes_on_by : (from to : Address) (n k made put : ℕ) (s t u : Segment) (old page after : Parted) (fin : DriveEnd) → 0 < k → Goes from to n k made s t old page → n < 2 ^ 64 → after.text.items ≡ page.text.items
    → (fin ≢ end.OutOfMemory → HasDriven (driven t from to 1) (log_at u.now (driven t from to 1).frames) u page after (put, fin)) → fin ≡ end.Turns
    → Goes from to n (k - 1) (min (made + put) (2 ^ 64 - 1)) s u old after
goes_on_by from to n zero made put s t u old page after fin h g l same has stays = absurd (omega (arith, h))
goes_on_by from to n (suc m) made put s t u old page after fin h g l same has stays =
    let e : m ≡ suc m - 1 = omega arith in
    let found : fin ≢ end.OutOfMemory = λ q. (let bad : end.Turns ≡ end.OutOfMemory = sym stays ∙ q in cc) in
    subst (λ j. Goes from to n j (min (made + put) (2 ^ 64 - 1)) s u old after) e (on_by from to n m made put s t u old page after fin g l same (has found) stays)

pub goes_end_by : (from to : Address) (n k made put : ℕ) (s t u : Segment) (old page after : Parted) (fin : DriveEnd) → 0 < k → Goes from to n k made s t old page → n < 2 ^ 64
    → HasDriven (driven t from to 1) (log_at u.now (driven t from to 1).frames) u page after (put, fin) → fin ≢ end.Turns
    → HasDriven (driven s from to n) (turns_log n from to s) u old after (min (made + put) (2 ^ 64 - 1), fin)
goes_end_by from to n zero made put s t u old page after fin h g l x stops = absurd (omega (arith, h))
goes_end_by from to n (suc m) made put s t u old page after fin h g l x stops = end_by from to n m made put s t u old page after fin g l x stops

-- the whole drive, turn by turn: its line, and below it its events
pub text_driven : (from to : Address) (n : ℕ) (s u : Segment) (begun made : Parted) (old text : List ℕ) (put : ℕ) (fin : DriveEnd) (told : Told) (x y : List ℕ)
    → begun.text.items ≡ old → begun.below.items ≡ [] → made.text.items ≡ begun.text.items
    → (fin ≢ end.OutOfMemory → HasDriven (driven s from to n) (turns_log n from to s) u begun made (put, fin))
    → x ≡ made.text.items ++ drove_line put fin → y ≡ made.below.items → text ≡ x ++ y → told ≡ told_at fin
    → Obeyed without_frames (Ok told) (Some u) old text (drove s from to n)
text_driven from to n s u begun made old text put fin told x y start below same has lined under ends e =
    was_driven without_frames fin told (Some u) old text (drove s from to n) e (λ found.
    let h = has found in
    let d : Driven = driven s from to n in
    let events : List ℕ = event_lines (events_in d.calls) in
    let is_line : List ℕ = drove_line d.turns (end_of d) in
    let to_step : Segment → Step = λ v. Ok (Some v, told_by (drove s from to n)) in
    let stays : made.text.items ≡ old = same ∙ start in
    let turns : put ≡ d.turns = h.turns in
    let ended : fin ≡ end_of d = h.ended in
    let a : x ≡ old ++ is_line = lined ∙ (λ i. stays i ++ drove_line (turns i) (ended i)) in
    let b : y ≡ events = under ∙ h.told ∙ ap (λ l. l ++ events) below in
    (ap to_step (sym h.segment), ends ∙ (λ i. a i ++ b i) ∙ append_assoc old is_line events))

-- and its log
pub log_driven : (from to : Address) (n : ℕ) (s u : Segment) (begun made : Parted) (old log : List ℕ) (put : ℕ) (fin : DriveEnd) (told : Told)
    → begun.log.items ≡ old
    → (fin ≢ end.OutOfMemory → HasDriven (driven s from to n) (turns_log n from to s) u begun made (put, fin))
    → log ≡ made.log.items → told ≡ told_at fin
    → Obeyed frames_alone (Ok told) (Some u) old log (drove s from to n)
log_driven from to n s u begun made old log put fin told start has logs e =
    was_driven frames_alone fin told (Some u) old log (drove s from to n) e (λ found.
    let h = has found in
    let to_step : Segment → Step = λ v. Ok (Some v, told_by (drove s from to n)) in
    (ap to_step (sym h.segment), logs ∙ h.logged ∙ ap (λ l. l ++ turns_log n from to s) start))

-- a call's frame, at the tick of the call
pub same_time : (now : ℕ) (put : Option CanFrame) (reply : Reply) → log_at now (frames_put put reply) ≡ frames_alone (told_of now put reply)
same_time now put reply = sym (log_same now (frames_put put reply))
