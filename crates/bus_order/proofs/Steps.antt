-- What holds of every log, kept by each call.
use Rattle.std.proofs.Common.{◌≡◌, ℕ, zero, ◌+◌, ◌-◌, ◌^◌, ◌<◌, ◌≤◌, max, true, false, List, [], ◌∷◌, length, set, refl, arith, length-drop}
use Rattle.std.specs.Prelude.{All, IsSome, IsTrue, nat_le}
use Rattle.std.proofs.lemmas.List.Elements.{All-set, All-replicate, All-weaker}
use Rattle.std.proofs.lemmas.Option.{slice_get-get_or}
use Rattle.std.proofs.lemmas.List.{length_push}
use Rattle.std.proofs.lemmas.Bool.{le-leb}
use Rattle.std.proofs.lemmas.Bool.Decides.{nat_tests}
use Rattle.bus_frame.specs.Frames.{CanFrame}
use Rattle.bus_order.specs.Bus.{Bus, Cursor, start, lowest, kept_limit, new_bus, bus_len, cursor_at, frame_at, frame_again, is_full, put, released}
use Rattle.bus_order.specs.Kept.{HoldsAhead, IsCursorWithin, IsSound}
use Rattle.bus_order.proofs.Cursors.{lowest_each, lowest_moved}

-- a frame from the first kept place to the newest is there
frame_kept : (bus : Bus) (place : ℕ) → bus.first ≤ place → place ≤ bus_len bus → 0 < bus.first → IsSome (frame_at bus place)
frame_kept bus place from upto one =
    let t : nat_le bus.first place ≡ true = le-leb bus.first place from in
    let nothing : CanFrame = record { id = 0; bytes = [] } in
    rw (t, slice_get-get_or bus.kept (place - bus.first) nothing (omega arith)) refl

-- what is kept is ahead of every station
pub sound_holds : (bus : Bus) → IsSound bus → HoldsAhead bus
sound_holds bus s = record { takes = takes; repeats = repeats }
  where
    takes : (i place : ℕ) → i < length bus.cursors → (cursor_at bus i).place < place → place ≤ bus_len bus → IsSome (frame_at bus place)
    takes i place h past upto =
        frame_kept bus place (omega (arith, s.held, lowest_each bus.cursors i start h)) upto s.from_one

    repeats : (i : ℕ) → i < length bus.cursors → IsTrue (cursor_at bus i).repeatable → IsSome (frame_again bus i)
    repeats i h r =
        let c : IsCursorWithin (bus_len bus) (cursor_at bus i) = s.cursors i start h in
        let some : 0 < (cursor_at bus i).place = c.repeats r in
        rw r (frame_kept bus (cursor_at bus i).place (omega (arith, s.held, lowest_each bus.cursors i start h)) c.within s.from_one)

-- cursors that were within the frames put are within them where more are put
still_within : (m n : ℕ) (cursors : List Cursor) → m ≤ n → All (IsCursorWithin m) cursors → All (IsCursorWithin n) cursors
still_within m n cursors le h =
    All-weaker (IsCursorWithin m) (IsCursorWithin n) (λ c w. record { within = omega (arith, w.within); repeats = w.repeats }) cursors h

pub sound_new : (stations : ℕ) → IsSound (new_bus stations)
sound_new stations = record {
  from_one = omega arith;
  room = omega arith;
  fits = omega arith;
  held = omega arith;
  cursors = All-replicate (IsCursorWithin 0) stations start (record { within = omega arith; repeats = λ r. cc });
}

-- a bus that isn't full has room for one more frame, and a place
not_full : (bus : Bus) → is_full bus ≡ false → (length bus.kept < kept_limit) × (bus_len bus + 1 < 2 ^ 64)
not_full bus room = (grind (arith, nat_tests), grind (arith, nat_tests))

pub sound_put : (bus : Bus) (frame : CanFrame) → IsSound bus → is_full bus ≡ false → IsSound (put bus frame)
sound_put bus frame s room =
    let n : (length bus.kept < kept_limit) × (bus_len bus + 1 < 2 ^ 64) = not_full bus room in
    let more : length (put bus frame).kept ≡ length bus.kept + 1 = length_push bus.kept frame in
    record {
      from_one = s.from_one;
      room = omega arith;
      fits = omega (arith, s.from_one);
      held = s.held;
      cursors = still_within (bus_len bus) (bus_len (put bus frame)) bus.cursors (omega arith) s.cursors;
    }

-- a cursor moves on, to a place where a frame was put
pub sound_moved : (bus : Bus) (i : ℕ) (to : Cursor) → IsSound bus → i < length bus.cursors → (cursor_at bus i).place ≤ to.place → to.place ≤ bus_len bus → (IsTrue to.repeatable → 0 < to.place) → IsSound (record bus { cursors = set bus.cursors i to })
sound_moved bus i to s h on within repeats = record {
  from_one = s.from_one;
  room = s.room;
  fits = s.fits;
  held = omega (arith, s.held, lowest_moved bus.cursors i to h on);
  cursors = All-set (IsCursorWithin (bus_len bus)) bus.cursors i to (record { within = within; repeats = repeats }) s.cursors;
}

-- the lowest cursor is not past the newest frame
pub lowest_within : (len : ℕ) (cursors : List Cursor) → All (IsCursorWithin len) cursors → lowest cursors ≤ len
lowest_within len [] each = omega arith
lowest_within len (c ∷ cs) each =
    let h : IsCursorWithin len c = each zero start (omega arith) in
    omega (arith, h.within, lowest_each (c ∷ cs) zero start (omega arith))

-- dropping frames from the front leaves their places to the others
pub released_len : (bus : Bus) → IsSound bus → bus_len (released bus) ≡ bus_len bus
released_len bus s =
    omega (arith, s.held, s.from_one, lowest_within (bus_len bus) bus.cursors s.cursors, length-drop (max 1 (lowest bus.cursors) - bus.first) bus.kept)

pub sound_released : (bus : Bus) → IsSound bus → IsSound (released bus)
sound_released bus s =
    let len : bus_len (released bus) ≡ bus_len bus = released_len bus s in
    record {
      from_one = omega arith;
      room = omega (arith, s.room, length-drop (max 1 (lowest bus.cursors) - bus.first) bus.kept);
      fits = omega (arith, s.fits);
      held = omega arith;
      cursors = still_within (bus_len bus) (bus_len (released bus)) bus.cursors (omega arith) s.cursors;
    }

-- a cursor that was read stands at a frame that was put,
pub read_within : (bus : Bus) (i : ℕ) (c : Cursor) → IsSound bus → i < length bus.cursors → c ≡ cursor_at bus i → c.place ≤ bus_len bus
read_within bus i c s h e =
    let w : IsCursorWithin (bus_len bus) (cursor_at bus i) = s.cursors i start h in
    rw e w.within

-- at the first kept one or after it, or right before it,
pub read_held : (bus : Bus) (i : ℕ) (c : Cursor) → IsSound bus → i < length bus.cursors → c ≡ cursor_at bus i → bus.first ≤ c.place + 1
read_held bus i c s h e =
    rw e (omega (arith, s.held, lowest_each bus.cursors i start h))

-- and at a kept one where it can be repeated
pub read_repeats : (bus : Bus) (i : ℕ) (c : Cursor) → IsSound bus → i < length bus.cursors → c ≡ cursor_at bus i → IsTrue c.repeatable → IsSome (frame_at bus c.place)
read_repeats bus i c s h e r =
    let w : IsCursorWithin (bus_len bus) (cursor_at bus i) = s.cursors i start h in
    let some : 0 < (cursor_at bus i).place = w.repeats (rw e at r) in
    rw e (frame_kept bus (cursor_at bus i).place (omega (arith, s.held, lowest_each bus.cursors i start h)) w.within s.from_one)

-- the same of a log that is seen as the bus
pub log_moved : (log bus : Bus) (i : ℕ) (to : Cursor) → log ≡ bus → IsSound log → i < length bus.cursors → (cursor_at bus i).place ≤ to.place → to.place ≤ bus_len bus → (IsTrue to.repeatable → 0 < to.place) → IsSound (record log { cursors = set log.cursors i to })
log_moved log bus i to e s h on within repeats =
    sound_moved log i to s (rw e h) (rw e on) (rw e within) repeats
