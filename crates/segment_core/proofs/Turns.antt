-- The loops of a drive, step by step.
use Rattle.std.proofs.Common.{◌≡◌, ℕ, zero, suc, ◌+◌, ◌-◌, ◌<◌, ◌≤◌, Bool, true, false, cond, ◌&&◌, nat_lt, List, [], ◌∷◌, ◌++◌, length, map, drop, get_or, Option, Some, None, Ok, Err, refl, sym, ap, ◌∙◌, subst, arith, drop-cons}
use Rattle.std.proofs.lemmas.List.{length-map}
use Rattle.std.specs.Prelude.{slice_get, is_some, unwrap_or}
use Rattle.std.proofs.lemmas.Bool.{lt-ltb}
use Rattle.bus_frame.specs.Frames.{CanFrame}
use Rattle.pgn_ids.specs.declared.address.Address.{Address}
use Rattle.message_events.specs.declared.event.Event.{Event}
use Rattle.station_core.specs.Station.{Station, new_station}
use Rattle.segment_law.specs.Segment.{Segment, place_of, station_at, waiting_at}
use Rattle.segment_law.specs.Record.{Record, StandsAt}
use Rattle.segment_law.specs.Drive.{Driven, end_by, goes_on, makes, puts, pumps, has_queued, turn_puts, takes, last_take, takes_all, all_take, turn, turns_from, not_driven, driven}
use Rattle.segment_law.specs.declared.call.Call.TheVariants.{Take}
use Rattle.segment_law.specs.declared.end.DriveEnd.{DriveEnd}
use Rattle.segment_law.specs.declared.end.DriveEnd.TheVariants as end
use Rattle.segment_law.specs.declared.refusal.Refusal.{Refusal}
use Rattle.segment_law.specs.declared.refusal.Refusal.TheVariants as refusal
use Rattle.segment_law.proofs.Records.{stands_on}
use Rattle.drive_course.specs.Joined.{joined}
use Rattle.segment_state.specs.Followed.{addresses_of}
use Rattle.segment_core.specs.Drives.{IsDriven, IsBegun, IsShown, GoesOn, HasGone, HasTaken, stop_end}
use Rattle.drive_course.specs.declared.driven.Driven as ran
use Rattle.segment_state.specs.declared.stop.Stop.{Stop}
use Rattle.segment_state.specs.declared.stop.Stop.TheVariants.{Refused, OutOfMemory}
use Rattle.segment_core.proofs.Drives.{goes, stays, takes_stay, turns_stay, on_refl, on_trans, on_goes, on_takes, on_last, on_takes_all, on_all_take, on_turns}
use Rattle.segment_core.proofs.Steps.{stays_stopped, gone_on, last_shown}
use Rattle.segment_core.proofs.Sweeps.{Stands, Turning, each_takes, Sweeping, Taking}

-- A station takes all

pub taking_goes : (a : Address) (before : Segment) (was : List CanFrame) (were : List (List Event)) (left k : ℕ) (seg next : Segment) (put more : List CanFrame) (parts others : List (List Event)) → Taking a before was were left k seg put parts → HasTaken a seg next
    → ((start : Segment) (d : Driven) → IsShown None start d seg put (joined parts) → IsShown None start (makes d (Take a true)) next more (joined others)) → Taking a before was were left (k + 1) next more others
taking_goes a before was were left k seg next put more parts others t taken each =
    let one : suc (waiting_at next a) ≡ waiting_at seg a = omega (arith, taken.waits) in
    record {
      waits = omega (arith, taken.waits, t.waits);
      followed = taken.followed;
      addresses = taken.addresses ∙ t.addresses;
      steps = λ start d h.
          let s : Stands start (takes (waiting_at seg a) a) (takes (waiting_at before a) a d) seg put (joined parts) = t.steps start d h in
          record { at = makes s.at (Take a true); shown = each start s.at s.shown; on = ap (λ (n : ℕ). takes n a s.at) one ∙ s.on };
    }

-- the last Take is refused, which changes nothing
pub taking_ends : (a : Address) (before : Segment) (was : List CanFrame) (were : List (List Event)) (left k : ℕ) (seg : Segment) (put : List CanFrame) (parts : List (List Event)) → Taking a before was were left k seg put parts → left ≤ k
    → (start : Segment) (d : Driven) → IsShown None start d before was (joined were) → IsShown None start (takes_all a d) seg put (joined parts)
taking_ends a before was were left k seg put parts t le start d h =
    let s : Stands start (takes (waiting_at seg a) a) (takes (waiting_at before a) a d) seg put (joined parts) = t.steps start d h in
    let none : waiting_at seg a ≡ 0 = omega (arith, t.waits) in
    let x : Driven = takes (waiting_at d.segment a) a d in
    let same : s.at ≡ x = sym (ap (λ (n : ℕ). takes n a s.at) none) ∙ s.on ∙ ap (λ (g : Segment). takes (waiting_at g a) a d) h.segment in
    let shown : IsShown None start x seg put (joined parts) = subst (λ (y : Driven). IsShown None start y seg put (joined parts)) same s.shown in
    gone_on start x (last_take a) seg put (joined parts) (Ok tt) shown.end (last_shown start x seg put (joined parts) a shown none)

pub taking_stops : (a : Address) (before : Segment) (was : List CanFrame) (were : List (List Event)) (left k : ℕ) (seg next : Segment) (put more : List CanFrame) (parts others : List (List Event)) (stop : Stop) → Taking a before was were left k seg put parts → k < left
    → ((start : Segment) (d : Driven) → IsShown None start d seg put (joined parts) → HasGone start (makes d (Take a true)) next more (joined others) (Err stop))
    → (start : Segment) (d : Driven) → IsShown None start d before was (joined were) → HasGone start (takes_all a d) next more (joined others) (Err stop)
taking_stops a before was were left k seg next put more parts others stop t lt each start d h =
    let s : Stands start (takes (waiting_at seg a) a) (takes (waiting_at before a) a d) seg put (joined parts) = t.steps start d h in
    let m : ℕ = waiting_at seg a - 1 in
    let one : waiting_at seg a ≡ suc m = omega (arith, t.waits) in
    let x : Driven = takes (waiting_at d.segment a) a d in
    let y : Driven = makes s.at (Take a true) in
    let here : HasGone start (takes m a y) next more (joined others) (Err stop) = stays_stopped start y (takes m a y) next more (joined others) stop (each start s.at s.shown) (λ end e. takes_stay m a y end e) (on_takes m a y) in
    let same : takes m a y ≡ x = sym (ap (λ (n : ℕ). takes n a s.at) one) ∙ s.on ∙ ap (λ (g : Segment). takes (waiting_at g a) a d) h.segment in
    let all : HasGone start x next more (joined others) (Err stop) = subst (λ (z : Driven). HasGone start z next more (joined others) (Err stop)) same here in
    stays_stopped start x (takes_all a d) next more (joined others) stop all (λ end e. stays x (last_take a) end e) (on_goes x (last_take a) (on_last a))

-- Every station takes all

all_each : (stations : List Station) (d : Driven) → all_take stations d ≡ each_takes (map (λ (s : Station). s.address) stations) d
all_each [] d = refl
all_each (st ∷ stations) d = all_each stations (goes_on d (takes_all st.address))

each_stay : (addresses : List Address) (d : Driven) (end : DriveEnd) → d.ended ≡ Some end → each_takes addresses d ≡ d
each_stay [] d end e = refl
each_stay (a ∷ addresses) d end e = ap (each_takes addresses) (stays d (takes_all a) end e) ∙ each_stay addresses d end e

on_each : (addresses : List Address) (d : Driven) → GoesOn d (each_takes addresses d)
on_each [] d = on_refl d
on_each (a ∷ addresses) d =
    let x : Driven = goes_on d (takes_all a) in
    on_trans d x (each_takes addresses x) (on_goes d (takes_all a) (on_takes_all a)) (on_each addresses x)

pub sweeping_begins : (from to : Address) (before : Segment) (was : List CanFrame) (were : List (List Event)) (count : ℕ) (seg : Segment) (put : List CanFrame) (parts : List (List Event)) → length seg.stations ≡ count
    → ((start : Segment) (d : Driven) → IsShown None start d before was (joined were) → IsShown None start (turn_puts from to d) seg put (joined parts)) → Sweeping from to before was were count 0 seg put parts
sweeping_begins from to before was were count seg put parts e each = record {
  stations = e;
  steps = λ start d h.
      let x : Driven = turn_puts from to d in
      let shown : IsShown None start x seg put (joined parts) = each start d h in
      let same : each_takes (addresses_of seg) x ≡ turn from to d =
      ap (λ (s : Segment). each_takes (addresses_of s) x) shown.segment ∙ sym (all_each x.segment.stations x) ∙ sym (goes x (λ y. all_take y.segment.stations y) shown.end) in
      record { at = x; shown = shown; on = same };
}

-- the first of the stations that are left
first_takes : (addresses : List Address) (place : ℕ) (a : Address) (d : Driven) → place < length addresses → a ≡ get_or addresses place a → d.ended ≡ None → each_takes (drop place addresses) d ≡ each_takes (drop (place + 1) addresses) (takes_all a d)
first_takes addresses place a d lt e none =
    let next : suc place ≡ place + 1 = omega arith in
    ap (λ (xs : List Address). each_takes xs d) (drop-cons addresses place a lt)
    ∙ (λ i. each_takes (drop (next i) addresses) (goes_on d (takes_all (sym e i))))
    ∙ ap (each_takes (drop (place + 1) addresses)) (goes d (takes_all a) none)

pub sweeping_goes : (from to : Address) (before : Segment) (was : List CanFrame) (were : List (List Event)) (count place : ℕ) (seg next : Segment) (put more : List CanFrame) (parts others : List (List Event)) (a : Address) → Sweeping from to before was were count place seg put parts → place < count
    → a ≡ get_or (addresses_of seg) place a → addresses_of next ≡ addresses_of seg
    → ((start : Segment) (d : Driven) → IsShown None start d seg put (joined parts) → IsShown None start (takes_all a d) next more (joined others)) → Sweeping from to before was were count (place + 1) next more others
sweeping_goes from to before was were count place seg next put more parts others a w lt e same each =
    let address : Station → Address = λ s. s.address in
    let here : place < length (addresses_of seg) = omega (arith, length-map seg.stations address, w.stations) in
    record {
      stations = sym (length-map next.stations address) ∙ ap (λ (xs : List Address). length xs) same ∙ length-map seg.stations address ∙ w.stations;
      steps = λ start d h.
          let s : Stands start (each_takes (drop place (addresses_of seg))) (turn from to d) seg put (joined parts) = w.steps start d h in
          let on : each_takes (drop (place + 1) (addresses_of next)) (takes_all a s.at) ≡ turn from to d =
          ap (λ (xs : List Address). each_takes (drop (place + 1) xs) (takes_all a s.at)) same ∙ sym (first_takes (addresses_of seg) place a s.at here e s.shown.end) ∙ s.on in
          record { at = takes_all a s.at; shown = each start s.at s.shown; on = on };
    }

pub sweeping_ends : (from to : Address) (before : Segment) (was : List CanFrame) (were : List (List Event)) (count place : ℕ) (seg : Segment) (put : List CanFrame) (parts : List (List Event)) → Sweeping from to before was were count place seg put parts → count ≤ place
    → (start : Segment) (d : Driven) → IsShown None start d before was (joined were) → IsShown None start (turn from to d) seg put (joined parts)
sweeping_ends from to before was were count place seg put parts w le start d h =
    let address : Station → Address = λ s. s.address in
    let s : Stands start (each_takes (drop place (addresses_of seg))) (turn from to d) seg put (joined parts) = w.steps start d h in
    let past : drop place (addresses_of seg) ≡ [] = none_left (addresses_of seg) place (omega (arith, length-map seg.stations address, w.stations)) in
    let same : s.at ≡ turn from to d = sym (ap (λ (xs : List Address). each_takes xs s.at) past) ∙ s.on in
    subst (λ (x : Driven). IsShown None start x seg put (joined parts)) same s.shown
  where
    none_left : (xs : List Address) (n : ℕ) → length xs ≤ n → drop n xs ≡ []
    none_left [] zero le = refl
    none_left [] (suc n) le = refl
    none_left (x ∷ xs) zero le = absurd (omega arith)
    none_left (x ∷ xs) (suc n) le = none_left xs n (omega arith)

pub sweeping_stops : (from to : Address) (before : Segment) (was : List CanFrame) (were : List (List Event)) (count place : ℕ) (seg next : Segment) (put more : List CanFrame) (parts others : List (List Event)) (a : Address) (stop : Stop) → Sweeping from to before was were count place seg put parts → place < count
    → a ≡ get_or (addresses_of seg) place a
    → ((start : Segment) (d : Driven) → IsShown None start d seg put (joined parts) → HasGone start (takes_all a d) next more (joined others) (Err stop))
    → (start : Segment) (d : Driven) → IsShown None start d before was (joined were) → HasGone start (turn from to d) next more (joined others) (Err stop)
sweeping_stops from to before was were count place seg next put more parts others a stop w lt e each start d h =
    let address : Station → Address = λ s. s.address in
    let here : place < length (addresses_of seg) = omega (arith, length-map seg.stations address, w.stations) in
    let s : Stands start (each_takes (drop place (addresses_of seg))) (turn from to d) seg put (joined parts) = w.steps start d h in
    let rest : List Address = drop (place + 1) (addresses_of seg) in
    let y : Driven = takes_all a s.at in
    let gone : HasGone start (each_takes rest y) next more (joined others) (Err stop) = stays_stopped start y (each_takes rest y) next more (joined others) stop (each start s.at s.shown) (λ end is. each_stay rest y end is) (on_each rest y) in
    subst (λ (x : Driven). HasGone start x next more (joined others) (Err stop)) (sym (first_takes (addresses_of seg) place a s.at here e s.shown.end) ∙ s.on) gone

-- the frame isn't put
pub turn_stops : (from to : Address) (start : Segment) (d : Driven) (next : Segment) (more : List CanFrame) (told : List Event) (stop : Stop) → HasGone start (turn_puts from to d) next more told (Err stop) → HasGone start (turn from to d) next more told (Err stop)
turn_stops from to start d next more told stop h =
    let x : Driven = turn_puts from to d in
    stays_stopped start x (turn from to d) next more told stop h (λ end e. stays x (λ y. all_take y.segment.stations y) end e) (on_goes x (λ y. all_take y.segment.stations y) (λ y. on_all_take y.segment.stations y))

-- A frame is put

has_queued_is : (seg : Segment) (a : Address) → has_queued seg a ≡ nat_lt 0 (length (station_at seg a).queue)
has_queued_is seg a = by (place_of seg a)
  where
    by : (o : Option ℕ) → is_some o && nat_lt 0 (length (unwrap_or (elim o as (λ (_ : Option ℕ). Option Station) [ None ↦ None | Some i ↦ slice_get seg.stations i ]) (new_station a)).queue) ≡ nat_lt 0 (length (unwrap_or (elim o as (λ (_ : Option ℕ). Option Station) [ None ↦ None | Some i ↦ slice_get seg.stations i ]) (new_station a)).queue)
    by None = refl
    by (Some i) = refl

pub puts_which : (from to : Address) (seg : Segment) (d : Driven) (a b : Bool) → seg ≡ d.segment → a ≡ nat_lt 0 (length (station_at seg from).queue) → b ≡ nat_lt 0 (length (station_at seg to).queue) → turn_puts from to d ≡ cond a (puts d from) (cond b (puts d to) (puts (pumps from to d) from))
puts_which from to seg d a b same here there =
    let first : has_queued d.segment from ≡ a = ap (λ (s : Segment). has_queued s from) (sym same) ∙ has_queued_is seg from ∙ sym here in
    let second : has_queued d.segment to ≡ b = ap (λ (s : Segment). has_queued s to) (sym same) ∙ has_queued_is seg to ∙ sym there in
    λ i. cond (first i) (puts d from) (cond (second i) (puts d to) (puts (pumps from to d) from))

none_queued : (n : ℕ) → n ≤ 0 → nat_lt 0 n ≡ false
none_queued zero le = refl
none_queued (suc n) le = absurd (omega arith)

pub puts_from_it : (from to : Address) (seg : Segment) (d : Driven) (n : ℕ) → seg ≡ d.segment → n ≡ length (station_at seg from).queue → 0 < n → turn_puts from to d ≡ puts d from
puts_from_it from to seg d n same queue lt = puts_which from to seg d true (nat_lt 0 (length (station_at seg to).queue)) same (sym (lt-ltb 0 n lt) ∙ ap (nat_lt 0) queue) refl

pub puts_answer : (from to : Address) (seg : Segment) (d : Driven) (n m : ℕ) → seg ≡ d.segment → n ≡ length (station_at seg from).queue → n ≤ 0 → m ≡ length (station_at seg to).queue → 0 < m → turn_puts from to d ≡ puts d to
puts_answer from to seg d n m same queue le other lt = puts_which from to seg d false true same (sym (none_queued n le) ∙ ap (nat_lt 0) queue) (sym (lt-ltb 0 m lt) ∙ ap (nat_lt 0) other)

pub puts_pumped : (from to : Address) (seg : Segment) (d : Driven) (n m : ℕ) → seg ≡ d.segment → n ≡ length (station_at seg from).queue → n ≤ 0 → m ≡ length (station_at seg to).queue → m ≤ 0 → turn_puts from to d ≡ puts (pumps from to d) from
puts_pumped from to seg d n m same queue le other none = puts_which from to seg d false false same (sym (none_queued n le) ∙ ap (nat_lt 0) queue) (sym (none_queued m none) ∙ ap (nat_lt 0) other)

-- Turn by turn

pub turning_begins : (start : Segment) (from to : Address) (turns : ℕ) (put : List CanFrame) (parts : List (List Event)) → put ≡ [] → parts ≡ [] → Turning start from to turns 0 start put parts
unfolding driven
turning_begins start from to turns put parts none nothing =
    let all : turns - 0 ≡ turns = omega arith in
    record {
      at = not_driven start;
      shown = shown_is;
      on = ap (λ (n : ℕ). turns_from n from to (not_driven start)) all;
    }
  where
    shown_is : IsShown None start (not_driven start) start put (joined parts)
    shown_is = record { segment = refl; frames = none; events = ap joined nothing; end = refl; turns = refl; transmits = refl; fit = refl; replies = refl; state = refl }

pub turning_goes : (start : Segment) (from to : Address) (turns k : ℕ) (seg next : Segment) (put more : List CanFrame) (parts others : List (List Event)) → Turning start from to turns k seg put parts → k < turns
    → ((d : Driven) → IsShown None start d seg put (joined parts) → IsShown None start (turn from to d) next more (joined others)) → Turning start from to turns (k + 1) next more others
turning_goes start from to turns k seg next put more parts others t lt each =
    let one : suc (turns - (k + 1)) ≡ turns - k = omega arith in
    let m : ℕ = turns - (k + 1) in
    record {
      at = turn from to t.at;
      shown = each t.at t.shown;
      on = ap (turns_from m from to) (sym (goes t.at (turn from to) t.shown.end)) ∙ ap (λ (n : ℕ). turns_from n from to t.at) one ∙ t.on;
    }

pub turning_ends : (start : Segment) (from to : Address) (turns k : ℕ) (seg : Segment) (put : List CanFrame) (parts : List (List Event)) → Turning start from to turns k seg put parts → turns ≤ k → IsShown None start (driven start from to turns) seg put (joined parts)
turning_ends start from to turns k seg put parts t le =
    let none : turns - k ≡ 0 = omega arith in
    subst (λ (x : Driven). IsShown None start x seg put (joined parts)) (sym (ap (λ (n : ℕ). turns_from n from to t.at) none) ∙ t.on) t.shown

pub turning_stops : (start : Segment) (from to : Address) (turns k : ℕ) (seg next : Segment) (put more : List CanFrame) (parts others : List (List Event)) (stop : Stop) → Turning start from to turns k seg put parts → k < turns
    → ((d : Driven) → IsShown None start d seg put (joined parts) → HasGone start (turn from to d) next more (joined others) (Err stop)) → HasGone start (driven start from to turns) next more (joined others) (Err stop)
turning_stops start from to turns k seg next put more parts others stop t lt each =
    let m : ℕ = turns - (k + 1) in
    let one : suc m ≡ turns - k = omega arith in
    let y : Driven = turn from to t.at in
    let gone : HasGone start (turns_from m from to y) next more (joined others) (Err stop) = stays_stopped start y (turns_from m from to y) next more (joined others) stop (each t.at t.shown) (λ end e. turns_stay m from to y end e) (on_turns m from to y) in
    let same : turns_from m from to y ≡ driven start from to turns = ap (turns_from m from to) (sym (goes t.at (turn from to) t.shown.end)) ∙ ap (λ (n : ℕ). turns_from n from to t.at) one ∙ t.on in
    subst (λ (x : Driven). HasGone start x next more (joined others) (Err stop)) same gone

-- What a drive answers

pub record Answered (put : List CanFrame) (told : List Event) (ended : DriveEnd) (done : ran.Driven) : Type 0 where
  pub turns : done.turns ≡ length put
  pub frames : done.frames ≡ put
  pub events : done.events ≡ told
  pub end : done.end ≡ ended

shown_done : (start : Segment) (d : Driven) (seg : Segment) (put : List CanFrame) (told : List Event) (done : ran.Driven) (ended : Option DriveEnd) → IsShown ended start d seg put told → Answered put told (unwrap_or ended end.Turns) done → IsDriven d seg done
shown_done start d seg put told done ended h a = record {
  turns = a.turns ∙ ap (λ (fs : List CanFrame). length fs) h.frames ∙ sym h.turns;
  frames = a.frames ∙ h.frames;
  events = a.events ∙ h.events;
  end = a.end ∙ ap (λ (o : Option DriveEnd). unwrap_or o end.Turns) (sym h.end);
  segment = h.segment;
}

shown_stands : (start : Segment) (d : Driven) (seg : Segment) (put : List CanFrame) (told : List Event) (ended : Option DriveEnd) → IsShown ended start d seg put told → (addresses : List Address) (steps : Record) → StandsAt addresses steps start → StandsAt addresses (steps ++ d.calls) seg
shown_stands start d seg put told ended h addresses steps s =
    subst (λ (x : Segment). StandsAt addresses (steps ++ d.calls) x) (h.state ∙ sym h.segment) (stands_on addresses steps d.calls start s h.fit h.replies)

refused_ends : (cause : Refusal) → end_by cause ≡ end.OutOfMemory → ⊥
refused_ends refusal.NothingToSend e = cc
refused_ends cause e = cc

-- what the clauses of a drive say
pub record IsAnswered (start : Segment) (d : Driven) (seg : Segment) (done : ran.Driven) : Type 0 where
  pub done_is : (done.end ≡ end.OutOfMemory → ⊥) → IsDriven d seg done
  pub begun_is : done.end ≡ end.OutOfMemory → IsBegun d start seg done
  pub stands_is : (addresses : List Address) (steps : Record) → StandsAt addresses steps start → (done.end ≡ end.OutOfMemory → ⊥) → StandsAt addresses (steps ++ d.calls) seg

pub all_turns : (start : Segment) (d : Driven) (seg : Segment) (put : List CanFrame) (told : List Event) (done : ran.Driven) → IsShown None start d seg put told → Answered put told end.Turns done → IsAnswered start d seg done
all_turns start d seg put told done h a = record {
  done_is = λ _. shown_done start d seg put told done None h a;
  begun_is = λ e. let no : end.Turns ≡ end.OutOfMemory = sym a.end ∙ e in absurd cc;
  stands_is = λ addresses steps s _. shown_stands start d seg put told None h addresses steps s;
}

pub drive_stops : (start : Segment) (d : Driven) (seg : Segment) (put : List CanFrame) (told : List Event) (done : ran.Driven) (stop : Stop) → HasGone start d seg put told (Err stop) → Answered put told (stop_end stop) done → IsAnswered start d seg done
drive_stops start d seg put told done (Refused cause) h a = record {
  done_is = λ _. shown_done start d seg put told done (Some (end_by cause)) h a;
  begun_is = λ e. absurd (refused_ends cause (sym a.end ∙ e));
  stands_is = λ addresses steps s _. shown_stands start d seg put told (Some (end_by cause)) h addresses steps s;
}
drive_stops start d seg put told done OutOfMemory h a = record {
  done_is = λ not. absurd (not a.end);
  begun_is = λ _. record {
    made = h.made.calls;
    next = (h.call, h.on.reply);
    rest = h.on.rest;
    later = h.on.later;
    calls = h.on.calls;
    not_refused = h.not_refused;
    frames = ap (λ (fs : List CanFrame). fs ++ h.on.later) (a.frames ∙ h.shown.frames) ∙ h.on.frames;
    transmits = a.frames ∙ h.shown.frames ∙ h.shown.transmits;
    turns = a.turns ∙ ap (λ (fs : List CanFrame). length fs) (sym a.frames);
    events = a.events ∙ h.shown.events;
    segment = h.shown.segment ∙ sym h.shown.state;
    stands = shown_stands start h.made seg put told None h.shown;
  };
  stands_is = λ addresses steps s not. absurd (not a.end);
}
