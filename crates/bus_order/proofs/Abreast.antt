-- Stations that are abreast, and the bus after the first of them took a frame.
use Rattle.std.proofs.Common.{◌≡◌, ◌≢◌, ℕ, zero, suc, ◌+◌, ◌-◌, ◌<◌, ◌≤◌, max, min, Bool, true, false, cond, ◌&&◌, ◌==◌, List, [], ◌∷◌, length, drop, get_or, set, replicate, count_by, refl, sym, ap, ◌∙◌, ⊎_elim, arith, length-set, get_or-set_same, get_or-set_other}
use Rattle.std.specs.Prelude.{IsTrue}
use Rattle.std.proofs.lemmas.List.{length-replicate, get_or-replicate, drop-drop, same_lists}
use Rattle.std.proofs.lemmas.List.Elements.{All-replicate}
use Rattle.std.proofs.lemmas.List.Sums.{sum_by-cons, count_by-le-length}
use Rattle.std.proofs.lemmas.Bool.{cases_eq, eqb-true, eq-eqb, le-leb}
use Rattle.bus_frame.specs.Frames.{CanFrame}
use Rattle.bus_order.specs.Bus.{Bus, Cursor, start, lowest, bus_len, cursor_at, frame_at, next_frame, waiting, taken, released}
use Rattle.bus_order.specs.Kept.{IsCursorWithin, IsSound}
use Rattle.bus_order.specs.Rear.{IsRear}
use Rattle.bus_order.specs.Abreast.{are_abreast, passed_first}
use Rattle.bus_order.proofs.Cursors.{lowest_from, standing, lowest_moved}
use Rattle.bus_order.proofs.Lists.{slice_get-drop}
use Rattle.bus_order.proofs.Steps.{sound_moved, sound_released, released_len, lowest_within}

-- All stand at one place

pub both : (x y : Bool) → (x && y) ≡ true → (x ≡ true) × (y ≡ true)
both true y e = (refl, e)
both false y e = absurd cc

all_stand : (p : Cursor → Bool) (xs : List Cursor) → count_by p xs ≡ length xs → (i : ℕ) (d : Cursor) → i < length xs → p (get_or xs i d) ≡ true
all_stand p [] e i d lt = absurd (omega arith)
all_stand p (x ∷ xs) e i d lt = by (p x) refl (λ all k. all_stand p xs all k d) i lt
  where
    n : count_by p (x ∷ xs) ≡ cond (p x) 1 0 + count_by p xs
    n = sum_by-cons (λ c. cond (p c) 1 0) x xs

    by : (b : Bool) → p x ≡ b → (count_by p xs ≡ length xs → (k : ℕ) → k < length xs → p (get_or xs k d) ≡ true) → (i : ℕ) → i < length (x ∷ xs) → p (get_or (x ∷ xs) i d) ≡ true
    by false is rest i lt =
        let m : count_by p (x ∷ xs) ≡ 0 + count_by p xs = n ∙ ap (λ (b : Bool). cond {A = ℕ} b 1 0 + count_by p xs) is in
        absurd (omega (arith, e, count_by-le-length p xs))
    by true is rest zero lt = is
    by true is rest (suc k) lt =
        let m : count_by p (x ∷ xs) ≡ 1 + count_by p xs = n ∙ ap (λ (b : Bool). cond {A = ℕ} b 1 0 + count_by p xs) is in
        rest (omega (arith, e)) k (omega arith)

-- what holds of stations that are abreast
pub record Abreast (bus : Bus) : Type 0 where
  pub newest : lowest bus.cursors + 1 ≡ bus_len bus
  pub each : (i : ℕ) → i < length bus.cursors → (cursor_at bus i).place ≡ lowest bus.cursors

pub stand_abreast : (bus : Bus) → are_abreast bus ≡ true → Abreast bus
stand_abreast bus e =
    let parts : ((lowest bus.cursors + 1 == bus_len bus) ≡ true) × ((count_by (λ c. c.place == lowest bus.cursors) bus.cursors == length bus.cursors) ≡ true) = both (lowest bus.cursors + 1 == bus_len bus) (count_by (λ c. c.place == lowest bus.cursors) bus.cursors == length bus.cursors) e in
    record {
      newest = eqb-true (lowest bus.cursors + 1) (bus_len bus) parts.0;
      each = λ i lt. eqb-true (cursor_at bus i).place (lowest bus.cursors) (all_stand (λ c. c.place == lowest bus.cursors) bus.cursors (eqb-true (count_by (λ c. c.place == lowest bus.cursors) bus.cursors) (length bus.cursors) parts.1) i start lt);
    }

-- just one frame waits for each of them
pub one_waits : (bus : Bus) → are_abreast bus ≡ true → (i : ℕ) → i < length bus.cursors → waiting bus i ≡ 1
one_waits bus e i lt =
    let a : Abreast bus = stand_abreast bus e in
    omega (arith, a.newest, a.each i lt)

-- The first of them take it

abbrev newest_taken : Bus → Cursor
newest_taken bus = record { place = lowest bus.cursors + 1; repeatable = true }

pub passed_cursors : (n : ℕ) (bus : Bus) → length (passed_first n bus).cursors ≡ length bus.cursors
passed_cursors zero bus = refl
passed_cursors (suc n) bus = length-set (passed_first n bus).cursors n _ ∙ passed_cursors n bus

-- the cursors of the others stay
pub passed_others : (n : ℕ) (bus : Bus) (k : ℕ) (d : Cursor) → n ≤ k → get_or (passed_first n bus).cursors k d ≡ get_or bus.cursors k d
passed_others zero bus k d le = refl
passed_others (suc n) bus k d le = get_or-set_other (passed_first n bus).cursors n k _ d (λ e. absurd (omega arith)) ∙ passed_others n bus k d (omega arith)

-- where the next of them stands
passed_next : (n : ℕ) (bus : Bus) → Abreast bus → n < length bus.cursors → (cursor_at (passed_first n bus) n).place ≡ lowest bus.cursors
passed_next n bus a lt = ap (λ (c : Cursor). c.place) (passed_others n bus n start (omega arith)) ∙ a.each n lt

passed_taken : (n : ℕ) (bus : Bus) (k : ℕ) (d : Cursor) → Abreast bus → n ≤ length bus.cursors → k < n → get_or (passed_first n bus).cursors k d ≡ newest_taken bus
passed_taken zero bus k d a le lt = absurd (omega arith)
passed_taken (suc n) bus k d a le lt =
    ⊎_elim
    (λ (e : k ≡ n).
    ap (λ m. get_or (passed_first (suc n) bus).cursors m d) e
    ∙ get_or-set_same (passed_first n bus).cursors n (record { place = (cursor_at (passed_first n bus) n).place + 1; repeatable = true }) d (omega (arith, passed_cursors n bus))
    ∙ ap (λ m. record { place = m + 1; repeatable = true }) (passed_next n bus a (omega arith)))
    (λ (ne : k ≢ n). get_or-set_other (passed_first n bus).cursors n k _ d ne ∙ passed_taken n bus k d a (omega arith) (omega arith))
    (cases_eq k n)

-- The bus then

pub record Passed (n : ℕ) (bus : Bus) : Type 0 where
  pub sound : IsSound (passed_first n bus)
  pub len : bus_len (passed_first n bus) ≡ bus_len bus
  pub first : bus.first ≤ (passed_first n bus).first
  pub low : (passed_first n bus).first ≤ bus_len bus
  pub kept : (passed_first n bus).kept ≡ drop ((passed_first n bus).first - bus.first) bus.kept

low_first : (bus : Bus) → IsSound bus → Abreast bus → bus.first ≤ bus_len bus
low_first bus s a = omega (arith, s.held, a.newest)

pub passed_is : (n : ℕ) (bus : Bus) → IsSound bus → Abreast bus → n ≤ length bus.cursors → Passed n bus
passed_is zero bus s a le =
    let none : bus.first - bus.first ≡ 0 = omega arith in
    record { sound = s; len = refl; first = omega arith; low = low_first bus s a; kept = sym (ap (λ k. drop k bus.kept) none) }
passed_is (suc n) bus s a le =
    let p : Passed n bus = passed_is n bus s a (omega arith) in
    let b : Bus = passed_first n bus in
    let here : n < length b.cursors = omega (arith, passed_cursors n bus) in
    let at : (cursor_at b n).place ≡ lowest bus.cursors = passed_next n bus a (omega arith) in
    let to : Cursor = record { place = (cursor_at b n).place + 1; repeatable = true } in
    let moved : IsSound (taken b n) = sound_moved b n to p.sound here (omega arith) (omega (arith, p.len, a.newest)) (λ _. omega arith) in
    let up : lowest b.cursors ≤ lowest (set b.cursors n to) = lowest_moved b.cursors n to here (omega arith) in
    let from : ℕ = max 1 (lowest (set b.cursors n to)) in
    let on : b.first ≤ from = omega (arith, p.sound.held) in
    let sum : (b.first - bus.first) + (from - b.first) ≡ from - bus.first = omega (arith, p.first) in
    let out : IsSound (released (taken b n)) = sound_released (taken b n) moved in
    record {
      sound = out;
      len = released_len (taken b n) moved ∙ p.len;
      first = omega (arith, p.first);
      low = omega (arith, low_first bus s a, s.from_one, p.len, lowest_within (bus_len (taken b n)) (taken b n).cursors moved.cursors);
      kept = ap (drop (from - b.first)) p.kept ∙ drop-drop (from - b.first) (b.first - bus.first) bus.kept ∙ ap (λ k. drop k bus.kept) sum;
    }

-- All of them take it

lowest_from_same : (c : Cursor) (n : ℕ) → lowest_from c.place (replicate n c) ≡ c.place
lowest_from_same c zero = refl
lowest_from_same c (suc n) = ap (λ m. lowest_from m (replicate n c)) (min_same c.place) ∙ lowest_from_same c n
  where
    min_same : (m : ℕ) → min m m ≡ m
    min_same m = omega arith

-- where all stand at one place, that is the lowest,
pub lowest_same : (c : Cursor) (n : ℕ) → 0 < n → lowest (replicate n c) ≡ c.place
lowest_same c zero lt = absurd (omega arith)
lowest_same c (suc n) lt = lowest_from_same c n

-- and all of them stand there
pub rear_same_place : (c : Cursor) (n : ℕ) → 0 < n → IsRear (record { place = c.place; count = n }) (replicate n c)
rear_same_place c n lt = record { place = sym (lowest_same c n lt); count = sym (standing_same n) }
  where
    at : (c.place == c.place) ≡ true
    at = eq-eqb c.place c.place refl

    standing_same : (n : ℕ) → standing c.place (replicate n c) ≡ n
    standing_same zero = refl
    standing_same (suc n) =
        let one : standing c.place (replicate (suc n) c) ≡ 1 + standing c.place (replicate n c) =
        sum_by-cons (λ (x : Cursor). cond (x.place == c.place) 1 0) c (replicate n c) ∙ ap (λ (b : Bool). cond {A = ℕ} b 1 0 + standing c.place (replicate n c)) at in
        omega (arith, standing_same n)

pub sound_brought : (bus : Bus) (to : Cursor) → IsSound bus → 0 < length bus.cursors → lowest bus.cursors ≤ to.place → to.place ≤ bus_len bus → (IsTrue to.repeatable → 0 < to.place) → IsSound (record bus { cursors = replicate (length bus.cursors) to })
sound_brought bus to s some on within repeats = record {
  from_one = s.from_one;
  room = s.room;
  fits = s.fits;
  held = omega (arith, s.held, lowest_same to (length bus.cursors) some);
  cursors = All-replicate (IsCursorWithin (bus_len bus)) (length bus.cursors) to (record { within = within; repeats = repeats });
}

-- the same of a log that is seen as the bus
pub log_brought : (log bus : Bus) (to : Cursor) → log ≡ bus → IsSound log → 0 < length bus.cursors → lowest bus.cursors ≤ to.place → to.place ≤ bus_len bus → (IsTrue to.repeatable → 0 < to.place) → IsSound (record log { cursors = replicate (length log.cursors) to })
log_brought log bus to e s some on within repeats = sound_brought log to s (rw e some) (rw e on) (rw e within) repeats

pub log_rear : (log bus : Bus) (to : Cursor) (place count : ℕ) → log ≡ bus → 0 < length bus.cursors → place ≡ to.place → count ≡ length bus.cursors → IsRear (record { place = place; count = count }) (replicate (length log.cursors) to)
log_rear log bus to place count e some at many =
    let here : 0 < length log.cursors = rw e some in
    rw (at, many, ← e) (rear_same_place to (length log.cursors) here)

all_taken : (bus : Bus) → Abreast bus → (passed_first (length bus.cursors) bus).cursors ≡ replicate (length bus.cursors) (newest_taken bus)
all_taken bus a =
    same_lists (passed_first (length bus.cursors) bus).cursors (replicate (length bus.cursors) (newest_taken bus)) (passed_cursors (length bus.cursors) bus ∙ sym (length-replicate (length bus.cursors) (newest_taken bus)))
    (λ k d lt.
    let here : k < length bus.cursors = omega (arith, passed_cursors (length bus.cursors) bus) in
    passed_taken (length bus.cursors) bus k d a (omega arith) here ∙ sym (get_or-replicate (length bus.cursors) k (newest_taken bus) d here))

pub passed_all : (n : ℕ) (bus : Bus) → IsSound bus → are_abreast bus ≡ true → n ≡ length bus.cursors → 0 < n → passed_first n bus ≡ released (record bus { cursors = replicate n (newest_taken bus) })
passed_all zero bus s e is some = absurd (omega arith)
passed_all (suc n) bus s e is some =
    let a : Abreast bus = stand_abreast bus e in
    let p : Passed (suc n) bus = passed_is (suc n) bus s a (omega arith) in
    let all : (passed_first (suc n) bus).cursors ≡ replicate (suc n) (newest_taken bus) = ap (λ m. (passed_first m bus).cursors) is ∙ all_taken bus a ∙ ap (λ m. replicate m (newest_taken bus)) (sym is) in
    (λ i. record { first = max 1 (lowest (passed_first (suc n) bus).cursors); kept = p.kept i; cursors = (passed_first (suc n) bus).cursors })
    ∙ (λ i. record { first = max 1 (lowest (all i)); kept = drop (max 1 (lowest (all i)) - bus.first) bus.kept; cursors = all i })

-- The frame that they take

-- dropping frames leaves the others at their places
frame_dropped : (bus : Bus) (from place : ℕ) (cursors : List Cursor) → bus.first ≤ from → from ≤ place → frame_at (record { first = from; kept = drop (from - bus.first) bus.kept; cursors = cursors }) place ≡ frame_at bus place
frame_dropped bus from place cursors le here =
    rw (le-leb from place here, le-leb bus.first place (omega arith)) (slice_get-drop (from - bus.first) bus.kept (place - from) (place - bus.first) (omega arith))

-- the newest is the next frame for each of those that are left
pub passed_newest : (n : ℕ) (bus : Bus) → IsSound bus → are_abreast bus ≡ true → n < length bus.cursors → next_frame (passed_first n bus) n ≡ frame_at bus (bus_len bus)
passed_newest n bus s e lt =
    let a : Abreast bus = stand_abreast bus e in
    let p : Passed n bus = passed_is n bus s a (omega arith) in
    let b : Bus = passed_first n bus in
    let place : (cursor_at b n).place + 1 ≡ bus_len bus = ap (λ m. m + 1) (passed_next n bus a lt) ∙ a.newest in
    ap (frame_at b) place
    ∙ ap (λ (kept : List CanFrame). frame_at (record { first = b.first; kept = kept; cursors = b.cursors }) (bus_len bus)) p.kept
    ∙ frame_dropped bus b.first (bus_len bus) b.cursors p.first p.low

-- and waits for them alone
pub passed_waits : (n : ℕ) (bus : Bus) → IsSound bus → are_abreast bus ≡ true → n < length bus.cursors → waiting (passed_first n bus) n ≡ 1
passed_waits n bus s e lt =
    let a : Abreast bus = stand_abreast bus e in
    let p : Passed n bus = passed_is n bus s a (omega arith) in
    omega (arith, p.len, passed_next n bus a lt, a.newest)

pub passed_sound : (n : ℕ) (bus : Bus) → IsSound bus → are_abreast bus ≡ true → n ≤ length bus.cursors → IsSound (passed_first n bus)
passed_sound n bus s e le =
    let p : Passed n bus = passed_is n bus s (stand_abreast bus e) le in
    p.sound
