-- Stations that are level, and the bus after a frame was put and all of them took it.
use Rattle.std.proofs.Common.{◌≡◌, ℕ, ◌+◌, ◌-◌, ◌<◌, ◌++◌, max, Bool, true, false, ◌&&◌, ◌==◌, List, [], ◌∷◌, length, drop, replicate, set, count_by, refl, ap, ◌∙◌, subst, arith}
use Rattle.std.specs.Prelude.{not, Some, slice_get}
use Rattle.std.proofs.lemmas.Bool.{eqb-true, eq-eqb, le-leb}
use Rattle.std.proofs.lemmas.List.{length_push}
use Rattle.bus_frame.specs.Frames.{CanFrame}
use Rattle.bus_order.specs.Bus.{Bus, Cursor, lowest, bus_len, frame_at, is_full, put}
use Rattle.bus_order.specs.Kept.{IsSound}
use Rattle.bus_order.specs.Rear.{IsRear}
use Rattle.bus_order.specs.Abreast.{are_abreast, are_level, passed_first}
use Rattle.bus_order.proofs.Steps.{sound_put}
use Rattle.bus_order.proofs.Abreast.{both, lowest_same, rear_same_place, passed_all, passed_sound}

pub record Level (bus : Bus) : Type 0 where
  pub newest : lowest bus.cursors ≡ bus_len bus
  pub abreast : (count_by (λ c. c.place == lowest bus.cursors) bus.cursors == length bus.cursors) ≡ true
  pub alone : length bus.kept ≡ 1
  pub room : is_full bus ≡ false

not_true : (b : Bool) → not b ≡ true → b ≡ false
not_true false e = refl
not_true true e = absurd cc

pub stand_level : (bus : Bus) → are_level bus ≡ true → Level bus
stand_level bus e =
    let one : Bool = lowest bus.cursors == bus_len bus in
    let two : Bool = count_by (λ c. c.place == lowest bus.cursors) bus.cursors == length bus.cursors in
    let three : Bool = length bus.kept == 1 in
    let a : ((one && two && three) ≡ true) × (not (is_full bus) ≡ true) = both (one && two && three) (not (is_full bus)) e in
    let b : ((one && two) ≡ true) × (three ≡ true) = both (one && two) three a.0 in
    let c : (one ≡ true) × (two ≡ true) = both one two b.0 in
    record {
      newest = eqb-true (lowest bus.cursors) (bus_len bus) c.0;
      abreast = c.1;
      alone = eqb-true (length bus.kept) 1 b.1;
      room = not_true (is_full bus) a.1;
    }

-- a frame that is put then waits for each of them
pub level_abreast : (bus : Bus) (frame : CanFrame) → are_level bus ≡ true → 0 < bus.first → are_abreast (put bus frame) ≡ true
level_abreast bus frame e from_one =
    let l : Level bus = stand_level bus e in
    let more : length (put bus frame).kept ≡ length bus.kept + 1 = length_push bus.kept frame in
    let next : lowest bus.cursors + 1 ≡ bus_len (put bus frame) = omega (arith, l.newest, l.alone) in
    ap (λ (b : Bool). b && (count_by (λ c. c.place == lowest bus.cursors) bus.cursors == length bus.cursors)) (eq-eqb (lowest bus.cursors + 1) (bus_len (put bus frame)) next) ∙ l.abreast

some_cursor : (cursors : List Cursor) → 0 < lowest cursors → 0 < length cursors
some_cursor [] lt = absurd (omega arith)
some_cursor (c ∷ cs) lt = omega arith

level_some : (bus : Bus) → IsSound bus → are_level bus ≡ true → 0 < length bus.cursors
level_some bus s e =
    let l : Level bus = stand_level bus e in
    some_cursor bus.cursors (omega (arith, l.newest, l.alone, s.from_one))

pub level_sound : (bus : Bus) (frame : CanFrame) → IsSound bus → are_level bus ≡ true → IsSound (put bus frame)
level_sound bus frame s e = sound_put bus frame s (stand_level bus e).room

-- and is the newest
pub newest_put : (bus : Bus) (frame : CanFrame) → 0 < bus.first → frame_at (put bus frame) (bus_len (put bus frame)) ≡ Some frame
newest_put bus frame from_one =
    let more : length (put bus frame).kept ≡ length bus.kept + 1 = length_push bus.kept frame in
    let at : bus_len (put bus frame) - bus.first ≡ length bus.kept = omega arith in
    rw (le-leb bus.first (bus_len (put bus frame)) (omega arith), at) (last_pushed bus.kept)
  where
    last_pushed : (kept : List CanFrame) → slice_get (kept ++ frame ∷ []) (length kept) ≡ Some frame
    last_pushed [] = refl
    last_pushed (x ∷ xs) = last_pushed xs

alone_kept : (kept : List CanFrame) (frame : CanFrame) → length kept ≡ 1 → drop 1 (kept ++ frame ∷ []) ≡ frame ∷ []
alone_kept [] frame e = absurd (omega arith)
alone_kept (x ∷ []) frame e = refl
alone_kept (x ∷ y ∷ xs) frame e = absurd (omega arith)

-- where all take it, it takes the place of the newest
abbrev pub replaced : Bus → CanFrame → Bus
replaced bus frame = record { first = bus.first + 1; kept = frame ∷ []; cursors = replicate (length bus.cursors) (record { place = bus.first + 1; repeatable = true }) }

pub replaced_is : (bus : Bus) (frame : CanFrame) → IsSound bus → are_level bus ≡ true → passed_first (length bus.cursors) (put bus frame) ≡ replaced bus frame
replaced_is bus frame s e =
    let l : Level bus = stand_level bus e in
    let n : ℕ = length bus.cursors in
    let at : lowest bus.cursors ≡ bus.first = omega (arith, l.newest, l.alone, s.from_one) in
    let some : 0 < n = level_some bus s e in
    let to : Cursor = record { place = lowest bus.cursors + 1; repeatable = true } in
    let from : max 1 (lowest (replicate n to)) ≡ bus.first + 1 = omega (arith, lowest_same to n some, at) in
    let one : max 1 (lowest (replicate n to)) - bus.first ≡ 1 = omega (arith, from) in
    passed_all n (put bus frame) (level_sound bus frame s e) (level_abreast bus frame e s.from_one) refl some
    ∙ (λ i. record { first = from i; kept = drop (one i) (bus.kept ++ frame ∷ []); cursors = replicate n to })
    ∙ (λ i. record { first = bus.first + 1; kept = alone_kept bus.kept frame l.alone i; cursors = replicate n (record { place = at i + 1; repeatable = true }) })

pub sound_replaced : (bus : Bus) (frame : CanFrame) → IsSound bus → are_level bus ≡ true → IsSound (replaced bus frame)
sound_replaced bus frame s e =
    let l : Level bus = stand_level bus e in
    subst IsSound (replaced_is bus frame s e) (passed_sound (length bus.cursors) (put bus frame) (level_sound bus frame s e) (level_abreast bus frame e s.from_one) (omega arith))

pub rear_replaced : (bus : Bus) (frame : CanFrame) (place count : ℕ) → IsSound bus → are_level bus ≡ true → place ≡ bus.first + 1 → count ≡ length bus.cursors → IsRear (record { place = place; count = count }) (replaced bus frame).cursors
rear_replaced bus frame place count s e at many =
    rw (at, many) (rear_same_place (record { place = bus.first + 1; repeatable = true }) (length bus.cursors) (level_some bus s e))

-- the frame that alone is kept is another one then
pub alone_set : (kept : List CanFrame) (frame : CanFrame) → length kept ≡ 1 → set kept 0 frame ≡ frame ∷ []
alone_set [] frame e = absurd (omega arith)
alone_set (x ∷ []) frame e = refl
alone_set (x ∷ y ∷ xs) frame e = absurd (omega arith)
