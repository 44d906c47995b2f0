-- Every station sees the bus in order, call by call.
use Rattle.std.proofs.Common.{◌≡◌, ◌≢◌, ℕ, zero, suc, ◌+◌, ◌-◌, ◌<◌, ◌≤◌, max, Bool, true, false, cond, ◌==◌, ◌&&◌, List, [], ◌∷◌, ◌++◌, length, get_or, set, drop, replicate, Option, Some, None, refl, sym, ◌∙◌, ap, ⊎_elim, arith, length-set, length-append, get_or-set_same, get_or-set_other, append_assoc}
use Rattle.std.specs.Prelude.{IsTrue, is_some, nat_le, slice_get}
use Rattle.std.proofs.lemmas.List.{append-nil, length_push, length-replicate, get_or-replicate, drop-append-le, drop-drop, set_past}
use Rattle.std.proofs.lemmas.Option.{slice_get_past, slice_get_within, same_Some}
use Rattle.std.proofs.lemmas.Bool.{false≢true, cases_eq, cases_lt, le-leb, leb-true, eq-eqb, ne_eqb, and_right}
use Rattle.bus_frame.specs.Frames.{CanFrame}
use Rattle.bus_order.specs.Bus.{Bus, Cursor, start, new_bus, lowest, bus_len, cursor_at, frame_at, next_frame, frame_again, waiting, is_full, put, taken, passed, released}
use Rattle.bus_order.specs.Kept.{IsSound, IsCursorWithin}
use Rattle.bus_order.specs.Calls.{BusCall, after_call, after}
use Rattle.bus_order.specs.Calls.BusCall.{Put, Next, Again, Skip, Release}
use Rattle.bus_order.specs.Seen.{put_by, history, seen_by, seen_of, seen}
use Rattle.bus_order.specs.Order.{HoldsLastOf, SeesInOrder}
use Rattle.bus_order.proofs.Steps.{sound_new, sound_put, sound_moved, sound_released, released_len, read_held, read_within}
use Rattle.bus_order.proofs.Cursors.{lowest_each}
use Rattle.bus_order.proofs.Lists.{slice_get-drop, slice_get-left, slice_get-right, slice_get-replicate_none}

-- a bus, beside all frames put on it
record Follows (bus : Bus) (all : List CanFrame) : Type 0 where
  pub sound : IsSound bus
  pub last : HoldsLastOf all bus

-- no frame is past the newest
pub frame_past : (bus : Bus) (place : ℕ) → bus_len bus < place → frame_at bus place ≡ None
frame_past bus place past =
    let none : slice_get bus.kept (place - bus.first) ≡ None = slice_get_past bus.kept (place - bus.first) (omega arith) in
    rw none (either (nat_le bus.first place))
  where
    either : (b : Bool) → cond {A = Option CanFrame} b None None ≡ None
    either true = refl
    either false = refl

frame_within : (bus : Bus) (place : ℕ) → is_some (frame_at bus place) ≡ true → place ≤ bus_len bus
frame_within bus place some =
    ⊎_elim
    (λ (past : bus_len bus < place).
    let none : is_some (frame_at bus place) ≡ false = ap is_some (frame_past bus place past) in
    absurd cc)
    (λ (le : place ≤ bus_len bus). le)
    (cases_lt (bus_len bus) place)

-- a frame that is kept is the one put at its place
frame_put : (bus : Bus) (all : List CanFrame) (place : ℕ) → Follows bus all → bus.first ≤ place → frame_at bus place ≡ slice_get all (place - 1)
frame_put bus all place f from =
    let t : nat_le bus.first place ≡ true = le-leb bus.first place from in
    let one : 0 < bus.first = f.sound.from_one in
    rw (t, f.last.kept) (slice_get-drop (bus.first - 1) all (place - bus.first) (place - 1) (omega arith))

-- a cursor moves, where there is one
sound_set : (bus : Bus) (j : ℕ) (to : Cursor) → IsSound bus → (j < length bus.cursors → ((cursor_at bus j).place ≤ to.place) × (to.place ≤ bus_len bus)) → (IsTrue to.repeatable → 0 < to.place) → IsSound (record bus { cursors = set bus.cursors j to })
sound_set bus j to s fits repeats =
    ⊎_elim
    (λ (h : j < length bus.cursors). let p : ((cursor_at bus j).place ≤ to.place) × (to.place ≤ bus_len bus) = fits h in sound_moved bus j to s h p.0 p.1 repeats)
    (λ (past : length bus.cursors ≤ j). rw (set_past bus.cursors j to past) s)
    (cases_lt j (length bus.cursors))

follows_put : (bus : Bus) (all : List CanFrame) (frame : CanFrame) → Follows bus all → is_full bus ≡ false → Follows (put bus frame) (all ++ frame ∷ [])
follows_put bus all frame f room =
    let within : bus.first - 1 ≤ length all = omega (arith, f.last.len, f.sound.from_one) in
    record {
      sound = sound_put bus frame f.sound room;
      last = record {
        len = omega (arith, f.last.len, f.sound.from_one, length_push bus.kept frame, length_push all frame);
        kept = rw (drop-append-le (bus.first - 1) all (frame ∷ []) within) (ap (λ kept. kept ++ frame ∷ []) f.last.kept);
      };
    }

follows_taken : (bus : Bus) (all : List CanFrame) (j : ℕ) → Follows bus all → is_some (next_frame bus j) ≡ true → Follows (taken bus j) all
follows_taken bus all j f some =
    record {
      sound = sound_set bus j (record { place = (cursor_at bus j).place + 1; repeatable = true }) f.sound (λ h. (omega arith, frame_within bus ((cursor_at bus j).place + 1) some)) (λ r. omega arith);
      last = record { len = f.last.len; kept = f.last.kept };
    }

follows_passed : (bus : Bus) (all : List CanFrame) (j n : ℕ) → Follows bus all → nat_le n (waiting bus j) ≡ true → Follows (passed bus j n) all
follows_passed bus all j n f few =
    let le : n ≤ waiting bus j = leb-true n (waiting bus j) few in
    record {
      sound = sound_set bus j (record { place = (cursor_at bus j).place + n; repeatable = false }) f.sound
          (λ h. let w : (cursor_at bus j).place ≤ bus_len bus = read_within bus j (cursor_at bus j) f.sound h refl in (omega arith, omega arith))
          (λ r. cc);
      last = record { len = f.last.len; kept = f.last.kept };
    }

follows_released : (bus : Bus) (all : List CanFrame) → Follows bus all → Follows (released bus) all
follows_released bus all f =
    let sum : (bus.first - 1) + (max 1 (lowest bus.cursors) - bus.first) ≡ max 1 (lowest bus.cursors) - 1 = omega (arith, f.sound.held, f.sound.from_one) in
    record {
      sound = sound_released bus f.sound;
      last = record {
        len = released_len bus f.sound ∙ f.last.len;
        kept = ap (drop (max 1 (lowest bus.cursors) - bus.first)) f.last.kept ∙ (drop-drop (max 1 (lowest bus.cursors) - bus.first) (bus.first - 1) all ∙ ap (λ n. drop n all) sum);
      };
    }

follows_call : (call : BusCall) (bus : Bus) (all : List CanFrame) → Follows bus all → Follows (after_call bus call) (all ++ put_by bus call)
follows_call (Put frame) bus all f = put_case (is_full bus) refl
  where
    put_case : (b : Bool) → is_full bus ≡ b → Follows (cond b bus (put bus frame)) (all ++ cond b [] (frame ∷ []))
    put_case true e = rw (append-nil all) f
    put_case false e = follows_put bus all frame f e
follows_call (Next j) bus all f = next_case (is_some (next_frame bus j)) refl
  where
    next_case : (b : Bool) → is_some (next_frame bus j) ≡ b → Follows (cond b (taken bus j) bus) (all ++ [])
    next_case true e = rw (append-nil all) (follows_taken bus all j f e)
    next_case false e = rw (append-nil all) f
follows_call (Again j) bus all f = rw (append-nil all) f
follows_call (Skip j n) bus all f = skip_case (nat_le n (waiting bus j)) refl
  where
    skip_case : (b : Bool) → nat_le n (waiting bus j) ≡ b → Follows (cond b (passed bus j n) bus) (all ++ [])
    skip_case true e = rw (append-nil all) (follows_passed bus all j n f e)
    skip_case false e = rw (append-nil all) f
follows_call Release bus all f = rw (append-nil all) (follows_released bus all f)

follows_after : (calls : List BusCall) (bus : Bus) (all : List CanFrame) → Follows bus all → Follows (after bus calls) (all ++ history bus calls)
follows_after [] bus all f = rw (append-nil all) f
follows_after (call ∷ calls) bus all f =
    rw (← append_assoc all (put_by bus call) (history (after_call bus call) calls))
    (follows_after calls (after_call bus call) (all ++ put_by bus call) (follows_call call bus all f))

follows_new : (stations : ℕ) → Follows (new_bus stations) []
follows_new stations = record { sound = sound_new stations; last = record { len = refl; kept = refl } }

pub holds_last : (stations : ℕ) (calls : List BusCall) → HoldsLastOf (history (new_bus stations) calls) (after (new_bus stations) calls)
holds_last stations calls =
    let f : Follows (after (new_bus stations) calls) (history (new_bus stations) calls) = follows_after calls (new_bus stations) [] (follows_new stations) in
    f.last

-- a frame was taken last
record LastTaken (seen : List (Option CanFrame)) : Type 0 where
  pub frame : CanFrame
  pub here : slice_get seen (length seen - 1) ≡ Some (Some frame)

-- a station beside what it saw
record Sees (bus : Bus) (all : List CanFrame) (i : ℕ) (seen : List (Option CanFrame)) : Type 0 where
  pub follows : Follows bus all
  pub here : i < length bus.cursors
  pub place : (cursor_at bus i).place ≡ length seen
  pub taken : (k : ℕ) (frame : CanFrame) → slice_get seen k ≡ Some (Some frame) → slice_get all k ≡ Some frame
  pub last : IsTrue (cursor_at bus i).repeatable → LastTaken seen

-- frames are put, and cursors stay
sees_put : (bus : Bus) (all : List CanFrame) (i : ℕ) (seen : List (Option CanFrame)) (frame : CanFrame) → Sees bus all i seen → is_full bus ≡ false → Sees (put bus frame) (all ++ frame ∷ []) i seen
sees_put bus all i seen frame s room = record {
  follows = follows_put bus all frame s.follows room;
  here = s.here;
  place = s.place;
  taken = taken;
  last = s.last;
}
  where
    taken : (k : ℕ) (f : CanFrame) → slice_get seen k ≡ Some (Some f) → slice_get (all ++ frame ∷ []) k ≡ Some f
    taken k f e =
        let was : slice_get all k ≡ Some f = s.taken k f e in
        slice_get-left all (frame ∷ []) k (slice_get_within all k f was) ∙ was

-- another station's cursor moves
sees_other : (bus : Bus) (all : List CanFrame) (i j : ℕ) (to : Cursor) (seen : List (Option CanFrame)) → Sees bus all i seen → i ≢ j → Follows (record bus { cursors = set bus.cursors j to }) all → Sees (record bus { cursors = set bus.cursors j to }) all i seen
sees_other bus all i j to seen s ne f =
    let same : get_or (set bus.cursors j to) i start ≡ get_or bus.cursors i start = get_or-set_other bus.cursors j i to start ne in
    record {
      follows = f;
      here = omega (arith, s.here, length-set bus.cursors j to);
      place = ap (λ (c : Cursor). c.place) same ∙ s.place;
      taken = s.taken;
      last = λ r. s.last (sym (ap (λ (c : Cursor). c.repeatable) same) ∙ r);
    }

-- the frame behind a cursor is the one put behind what its station saw
next_put : (bus : Bus) (all : List CanFrame) (i : ℕ) (seen : List (Option CanFrame)) → Sees bus all i seen → next_frame bus i ≡ slice_get all (length seen)
next_put bus all i seen s =
    let from : bus.first ≤ (cursor_at bus i).place + 1 = read_held bus i (cursor_at bus i) s.follows.sound s.here refl in
    let behind : (cursor_at bus i).place + 1 - 1 ≡ length seen = omega (arith, s.place) in
    frame_put bus all ((cursor_at bus i).place + 1) s.follows from ∙ ap (slice_get all) behind

-- a list of one
the_only : (frame f : CanFrame) (m : ℕ) → slice_get (Some frame ∷ []) m ≡ Some (Some f) → (m ≡ 0) × (frame ≡ f)
the_only frame f zero e = (refl, same_Some frame f (same_Some (Some frame) (Some f) e))
the_only frame f (suc m) e = cc

-- a station takes the next frame
sees_taken : (bus : Bus) (all : List CanFrame) (i : ℕ) (seen : List (Option CanFrame)) (frame : CanFrame) → Sees bus all i seen → next_frame bus i ≡ Some frame → Sees (taken bus i) all i (seen ++ Some frame ∷ [])
sees_taken bus all i seen frame s e = record {
  follows = follows_taken bus all i s.follows (ap is_some e);
  here = omega (arith, s.here, length-set bus.cursors i to);
  place = ap (λ (c : Cursor). c.place) there ∙ omega (arith, s.place, length_push seen (Some frame));
  taken = taken_at;
  last = λ r. record { frame = frame; here = slice_get-right seen (Some frame ∷ []) (length (seen ++ Some frame ∷ []) - 1) 0 (omega (arith, length_push seen (Some frame))) };
}
  where
    to : Cursor
    to = record { place = (cursor_at bus i).place + 1; repeatable = true }

    there : get_or (set bus.cursors i to) i start ≡ to
    there = get_or-set_same bus.cursors i to start s.here

    put_there : slice_get all (length seen) ≡ Some frame
    put_there = sym (next_put bus all i seen s) ∙ e

    taken_at : (k : ℕ) (f : CanFrame) → slice_get (seen ++ Some frame ∷ []) k ≡ Some (Some f) → slice_get all k ≡ Some f
    taken_at k f h =
        ⊎_elim
        (λ (lt : k < length seen). s.taken k f (sym (slice_get-left seen (Some frame ∷ []) k lt) ∙ h))
        (λ (ge : length seen ≤ k).
        let o : (k - length seen ≡ 0) × (frame ≡ f) = the_only frame f (k - length seen) (sym (slice_get-right seen (Some frame ∷ []) k (k - length seen) (omega arith)) ∙ h) in
        let at : k ≡ length seen = omega (arith, o.0) in
        ap (slice_get all) at ∙ (put_there ∙ ap (λ x. Some x) o.1))
        (cases_lt k (length seen))

-- a station passes over frames
sees_passed : (bus : Bus) (all : List CanFrame) (i n : ℕ) (seen : List (Option CanFrame)) → Sees bus all i seen → nat_le n (waiting bus i) ≡ true → Sees (passed bus i n) all i (seen ++ replicate n None)
sees_passed bus all i n seen s few = record {
  follows = follows_passed bus all i n s.follows few;
  here = omega (arith, s.here, length-set bus.cursors i to);
  place = ap (λ (c : Cursor). c.place) there ∙ omega (arith, s.place, length-append seen (replicate n None), length-replicate {A = Option CanFrame} n None);
  taken = taken_at;
  last = λ r. absurd (false≢true (sym (ap (λ (c : Cursor). c.repeatable) there) ∙ r));
}
  where
    to : Cursor
    to = record { place = (cursor_at bus i).place + n; repeatable = false }

    there : get_or (set bus.cursors i to) i start ≡ to
    there = get_or-set_same bus.cursors i to start s.here

    taken_at : (k : ℕ) (f : CanFrame) → slice_get (seen ++ replicate n None) k ≡ Some (Some f) → slice_get all k ≡ Some f
    taken_at k f h =
        ⊎_elim
        (λ (lt : k < length seen). s.taken k f (sym (slice_get-left seen (replicate n None) k lt) ∙ h))
        (λ (ge : length seen ≤ k). absurd (slice_get-replicate_none n (k - length seen) f (sym (slice_get-right seen (replicate n None) k (k - length seen) (omega arith)) ∙ h)))
        (cases_lt k (length seen))

same_either : (b : Bool) → cond {A = List (Option CanFrame)} b [] [] ≡ []
same_either true = refl
same_either false = refl

sees_call : (call : BusCall) (bus : Bus) (all : List CanFrame) (i : ℕ) (seen : List (Option CanFrame)) → Sees bus all i seen → Sees (after_call bus call) (all ++ put_by bus call) i (seen ++ seen_by i bus call)
sees_call (Put frame) bus all i seen s = put_case (is_full bus) refl
  where
    put_case : (b : Bool) → is_full bus ≡ b → Sees (cond b bus (put bus frame)) (all ++ cond b [] (frame ∷ [])) i (seen ++ [])
    put_case true e = rw (append-nil all, append-nil seen) s
    put_case false e = rw (append-nil seen) (sees_put bus all i seen frame s e)
sees_call (Next j) bus all i seen s = next_case (next_frame bus j) refl
  where
    next_case : (o : Option CanFrame) → next_frame bus j ≡ o → Sees (cond (is_some o) (taken bus j) bus) (all ++ []) i (seen ++ cond (j == i) (seen_of o) [])
    next_case None e = rw (append-nil all, same_either (j == i), append-nil seen) s
    next_case (Some frame) e =
        ⊎_elim
        (λ (at : j ≡ i). rw (eq-eqb j i at, append-nil all, at) (sees_taken bus all i seen frame s (rw (← at) e)))
        (λ (ne : j ≡ i → ⊥). rw (ne_eqb j i ne, append-nil all, append-nil seen) (sees_other bus all i j (record { place = (cursor_at bus j).place + 1; repeatable = true }) seen s (λ q. ne (sym q)) (follows_taken bus all j s.follows (ap is_some e))))
        (cases_eq j i)
sees_call (Again j) bus all i seen s = rw (append-nil all, append-nil seen) s
sees_call (Skip j n) bus all i seen s = skip_case (nat_le n (waiting bus j)) refl
  where
    skip_case : (b : Bool) → nat_le n (waiting bus j) ≡ b → Sees (cond b (passed bus j n) bus) (all ++ []) i (seen ++ cond (j == i && b) (replicate n None) [])
    skip_case false e = rw (append-nil all, and_right (j == i) false refl, append-nil seen) s
    skip_case true e =
        ⊎_elim
        (λ (at : j ≡ i). rw (eq-eqb j i at, append-nil all, at) (sees_passed bus all i n seen s (rw (← at) e)))
        (λ (ne : j ≡ i → ⊥). rw (ne_eqb j i ne, append-nil all, append-nil seen) (sees_other bus all i j (record { place = (cursor_at bus j).place + n; repeatable = false }) seen s (λ q. ne (sym q)) (follows_passed bus all j n s.follows e)))
        (cases_eq j i)
sees_call Release bus all i seen s = rw (append-nil all, append-nil seen) (record {
  follows = follows_released bus all s.follows;
  here = s.here;
  place = s.place;
  taken = s.taken;
  last = s.last;
})

sees_after : (calls : List BusCall) (bus : Bus) (all : List CanFrame) (i : ℕ) (before : List (Option CanFrame)) → Sees bus all i before → Sees (after bus calls) (all ++ history bus calls) i (before ++ seen i bus calls)
sees_after [] bus all i before s = rw (append-nil all, append-nil before) s
sees_after (call ∷ calls) bus all i before s =
    rw (← append_assoc all (put_by bus call) (history (after_call bus call) calls), ← append_assoc before (seen_by i bus call) (seen i (after_call bus call) calls))
    (sees_after calls (after_call bus call) (all ++ put_by bus call) i (before ++ seen_by i bus call) (sees_call call bus all i before s))

sees_new : (stations i : ℕ) → i < stations → Sees (new_bus stations) [] i []
sees_new stations i h =
    let at : cursor_at (new_bus stations) i ≡ start = get_or-replicate stations i start start h in
    record {
      follows = follows_new stations;
      here = omega (arith, length-replicate stations start);
      place = ap (λ (c : Cursor). c.place) at;
      taken = λ k f e. cc;
      last = λ r. absurd (false≢true (sym (ap (λ (c : Cursor). c.repeatable) at) ∙ r));
    }

-- what a station saw up to now says what it takes and repeats next
in_order : (bus : Bus) (all : List CanFrame) (i : ℕ) (seen : List (Option CanFrame)) → Sees bus all i seen → SeesInOrder all bus i seen
in_order bus all i seen s = record {
  place = s.place;
  within = within;
  taken = s.taken;
  next = next_put bus all i seen s;
  again = again;
}
  where
    within : length seen ≤ length all
    within = omega (arith, s.place, s.follows.last.len, read_within bus i (cursor_at bus i) s.follows.sound s.here refl)

    again : (frame : CanFrame) → frame_again bus i ≡ Some frame → (0 < length seen) × (slice_get seen (length seen - 1) ≡ Some (Some frame))
    again frame e = again_case (cursor_at bus i).repeatable refl e
      where
        again_case : (b : Bool) → (cursor_at bus i).repeatable ≡ b → cond b (frame_at bus (cursor_at bus i).place) None ≡ Some frame → (0 < length seen) × (slice_get seen (length seen - 1) ≡ Some (Some frame))
        again_case false r h = cc
        again_case true r h =
            let w : IsCursorWithin (bus_len bus) (cursor_at bus i) = s.follows.sound.cursors i start s.here in
            let some : 0 < (cursor_at bus i).place = w.repeats r in
            let from : bus.first ≤ (cursor_at bus i).place = omega (arith, s.follows.sound.held, lowest_each bus.cursors i start s.here) in
            let l : LastTaken seen = s.last r in
            let was : slice_get all (length seen - 1) ≡ Some l.frame = s.taken (length seen - 1) l.frame l.here in
            let at : frame_at bus (cursor_at bus i).place ≡ slice_get all ((cursor_at bus i).place - 1) = frame_put bus all (cursor_at bus i).place s.follows from in
            let same : l.frame ≡ frame = same_Some l.frame frame (sym was ∙ (ap (λ n. slice_get all (n - 1)) (sym s.place) ∙ (sym at ∙ h))) in
            (omega (arith, s.place), l.here ∙ ap (λ f. Some (Some f)) same)

pub sees_in_order : (stations : ℕ) (calls : List BusCall) (i : ℕ) → i < stations → SeesInOrder (history (new_bus stations) calls) (after (new_bus stations) calls) i (seen i (new_bus stations) calls)
sees_in_order stations calls i h =
    in_order (after (new_bus stations) calls) (history (new_bus stations) calls) i (seen i (new_bus stations) calls) (sees_after calls (new_bus stations) [] i [] (sees_new stations i h))
