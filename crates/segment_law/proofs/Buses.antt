-- A bus whose cursors move on and whose frames are released.
use Rattle.std.proofs.Common.{◌≡◌, ℕ, zero, suc, ◌+◌, ◌-◌, ◌<◌, ◌≤◌, true, false, ◌∷◌, length, set, replicate, Some, None, refl, ◌∙◌, arith, length-set, ⊎_elim}
use Rattle.std.specs.Prelude.{IsTrue, nat_lt}
use Rattle.std.proofs.lemmas.List.{length-replicate}
use Rattle.std.proofs.lemmas.Bool.{cases_lt, ltb-false}
use Rattle.bus_frame.specs.Frames.{CanFrame}
use Rattle.bus_order.specs.Bus.{Bus, Cursor, start, new_bus, lowest, bus_len, cursor_at, frame_at, next_frame, waiting, is_full, put, taken, passed, released}
use Rattle.bus_order.proofs.Order.{frame_past}
use Rattle.bus_order.proofs.Steps.{sound_new, sound_put, sound_moved, sound_released, read_within}
use Rattle.segment_law.specs.Reached.{IsFitBus}

pub frame_within : (bus : Bus) (place : ℕ) (f : CanFrame) → frame_at bus place ≡ Some f → place ≤ bus_len bus
frame_within bus place f some =
    ⊎_elim
    (λ (past : bus_len bus < place). let none : frame_at bus place ≡ None = frame_past bus place past in absurd cc)
    (λ (le : place ≤ bus_len bus). le)
    (cases_lt (bus_len bus) place)

-- a cursor moves on
moved_fits : (n : ℕ) (bus : Bus) (i : ℕ) (to : Cursor) → IsFitBus n bus → i < n → (cursor_at bus i).place ≤ to.place → to.place ≤ bus_len bus → (IsTrue to.repeatable → 0 < to.place) → IsFitBus n (released (record bus { cursors = set bus.cursors i to }))
moved_fits n bus i to h here on within repeats =
    let there : i < length bus.cursors = omega (arith, h.cursors) in
    record {
      sound = sound_released (record bus { cursors = set bus.cursors i to }) (sound_moved bus i to h.sound there on within repeats);
      cursors = length-set bus.cursors i to ∙ h.cursors;
      released = refl;
    }

pub taken_fits : (n : ℕ) (bus : Bus) (i : ℕ) (f : CanFrame) → IsFitBus n bus → i < n → next_frame bus i ≡ Some f → IsFitBus n (released (taken bus i))
taken_fits n bus i f h here next =
    moved_fits n bus i (record { place = (cursor_at bus i).place + 1; repeatable = true }) h here (omega arith) (frame_within bus ((cursor_at bus i).place + 1) f next) (λ _. omega arith)

pub passed_fits : (n : ℕ) (bus : Bus) (i k : ℕ) → IsFitBus n bus → i < n → nat_lt (waiting bus i) k ≡ false → IsFitBus n (released (passed bus i k))
passed_fits n bus i k h here few =
    let le : k ≤ waiting bus i = ltb-false (waiting bus i) k few in
    let w : (cursor_at bus i).place ≤ bus_len bus = read_within bus i (cursor_at bus i) h.sound (omega (arith, h.cursors)) refl in
    moved_fits n bus i (record { place = (cursor_at bus i).place + k; repeatable = false }) h here (omega arith) (omega arith) (λ r. absurd cc)

pub put_fits : (n : ℕ) (bus : Bus) (f : CanFrame) → IsFitBus n bus → is_full bus ≡ false → IsFitBus n (put bus f)
put_fits n bus f h room = record { sound = sound_put bus f h.sound room; cursors = h.cursors; released = h.released }

lowest_new : (n : ℕ) → lowest (replicate n start) ≡ 0
lowest_new zero = refl
lowest_new (suc n) = from_none n
  where
    from_none : (n : ℕ) → lowest (start ∷ replicate n start) ≡ 0
    from_none zero = refl
    from_none (suc n) = from_none n

pub new_fits : (n : ℕ) → IsFitBus n (new_bus n)
new_fits n = record { sound = sound_new n; cursors = length-replicate n start; released = rw (lowest_new n) refl }
