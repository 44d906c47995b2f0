-- What is on the bus past a cursor, and what its station may take again.
use Rattle.std.proofs.Common.{◌≡◌, ◌≢◌, ℕ, zero, suc, ◌+◌, ◌-◌, ◌<◌, ◌≤◌, max, true, false, cond, List, [], ◌∷◌, ◌++◌, length, drop, set, Option, Some, None, refl, sym, ap, ◌∙◌, arith, le-leb, leb-true, drop-drop, length-drop, length-set, get_or-set_same, get_or-set_other}
use Rattle.std.specs.Prelude.{IsTrue, nat_le, slice_get}
use Rattle.std.proofs.lemmas.List.{drop-append-le}
use Rattle.std.proofs.lemmas.Option.{none-some}
use Rattle.bus_frame.specs.Frames.{CanFrame}
use Rattle.bus_order.specs.Bus.{Bus, Cursor, start, lowest, bus_len, cursor_at, frame_at, next_frame, frame_again, waiting, put, taken, passed, released}
use Rattle.bus_order.specs.Kept.{IsSound, IsCursorWithin}
use Rattle.bus_order.proofs.Cursors.{lowest_each}
use Rattle.bus_order.proofs.Lists.{slice_get-drop, slice_get-left, slice_get-right}
use Rattle.bus_order.proofs.Steps.{sound_moved}
use Rattle.record_law.proofs.Tests.{on_test}

abbrev pub ahead_of : Bus → ℕ → List CanFrame
ahead_of b i = drop ((cursor_at b i).place + 1 - b.first) b.kept

abbrev again_at : Bus → Cursor → Option CanFrame
again_at b c = cond c.repeatable (frame_at b c.place) None

drop_front : {A : Type 0} (xs : List A) (n : ℕ) (x : A) → slice_get xs n ≡ Some x → drop n xs ≡ x ∷ drop (n + 1) xs
drop_front [] n x h = absurd (cc)
drop_front (y ∷ ys) zero x h = cc
drop_front (y ∷ ys) (suc n) x h = let e : suc n + 1 ≡ suc (n + 1) = omega arith in rw e (drop_front ys n x h)

-- the cursor of each station
record IsCursor (b : Bus) (c : Cursor) : Type 0 where
  kept : max 1 (lowest b.cursors) ≤ max 1 c.place
  held : b.first ≤ max 1 (lowest b.cursors)
  within : c.place ≤ bus_len b
  taken : c.repeatable ≡ true → 0 < c.place

is_cursor : (b : Bus) (i : ℕ) → IsSound b → i < length b.cursors → IsCursor b (cursor_at b i)
is_cursor b i s l =
    let w : IsCursorWithin (bus_len b) (cursor_at b i) = s.cursors i start l in
    record { kept = omega (arith, lowest_each b.cursors i start l); held = s.held; within = w.within; taken = w.repeats }

released_ahead : (b : Bus) (i : ℕ) → IsSound b → i < length b.cursors → ahead_of (released b) i ≡ ahead_of b i
released_ahead b i s l =
    let c : IsCursor b (cursor_at b i) = is_cursor b i s l in
    let e : max 1 (lowest b.cursors) - b.first + ((cursor_at b i).place + 1 - max 1 (lowest b.cursors)) ≡ (cursor_at b i).place + 1 - b.first = omega (arith, c.kept, c.held) in
    drop-drop ((cursor_at b i).place + 1 - max 1 (lowest b.cursors)) (max 1 (lowest b.cursors) - b.first) b.kept ∙ ap (λ m. drop m b.kept) e

released_again : (b : Bus) (i : ℕ) → IsSound b → i < length b.cursors → frame_again (released b) i ≡ frame_again b i
released_again b i s l =
    on_test (λ t. (cursor_at b i).repeatable ≡ t → cond t (frame_at (released b) (cursor_at b i).place) None ≡ cond t (frame_at b (cursor_at b i).place) None) (cursor_at b i).repeatable
    (λ _ q.
    let c : IsCursor b (cursor_at b i) = is_cursor b i s l in
    let p : 0 < (cursor_at b i).place = c.taken q in
    let low : max 1 (lowest b.cursors) ≤ (cursor_at b i).place = omega (arith, c.kept) in
    let first : b.first ≤ (cursor_at b i).place = omega (arith, c.held) in
    rw (le-leb (max 1 (lowest b.cursors)) (cursor_at b i).place low, le-leb b.first (cursor_at b i).place first)
    (slice_get-drop (max 1 (lowest b.cursors) - b.first) b.kept ((cursor_at b i).place - max 1 (lowest b.cursors)) ((cursor_at b i).place - b.first) (omega (arith, c.held))))
    (λ _ q. refl) refl

-- a cursor moves on
module _ (b : Bus) (i : ℕ) (to : Cursor) (s : IsSound b) (l : i < length b.cursors) (on : (cursor_at b i).place ≤ to.place) (within : to.place ≤ bus_len b) (repeats : IsTrue to.repeatable → 0 < to.place) where
  abbrev moved : Bus
  moved = record b { cursors = set b.cursors i to }

  sound : IsSound moved
  sound = sound_moved b i to s l on within repeats

  there : (j : ℕ) → j < length b.cursors → j < length moved.cursors
  there j h = omega (arith, length-set b.cursors i to)

  at_here : cursor_at moved i ≡ to
  at_here = get_or-set_same b.cursors i to start l

  moved_ahead : ahead_of (released moved) i ≡ drop (to.place + 1 - b.first) b.kept
  moved_ahead = released_ahead moved i sound (there i l) ∙ ap (λ (c : Cursor). drop (c.place + 1 - b.first) b.kept) at_here

  moved_again : frame_again (released moved) i ≡ again_at b to
  moved_again = released_again moved i sound (there i l) ∙ ap (again_at b) at_here

  moved_ahead_else : (j : ℕ) → j < length b.cursors → j ≢ i → ahead_of (released moved) j ≡ ahead_of b j
  moved_ahead_else j h n = released_ahead moved j sound (there j h) ∙ ap (λ (c : Cursor). drop (c.place + 1 - b.first) b.kept) (get_or-set_other b.cursors i j to start n)

  moved_again_else : (j : ℕ) → j < length b.cursors → j ≢ i → frame_again (released moved) j ≡ frame_again b j
  moved_again_else j h n = released_again moved j sound (there j h) ∙ ap (again_at b) (get_or-set_other b.cursors i j to start n)

frame_there : (b : Bus) (place : ℕ) (f : CanFrame) → frame_at b place ≡ Some f → (b.first ≤ place) × (slice_get b.kept (place - b.first) ≡ Some f)
frame_there b place f e =
    on_test (λ t. nat_le b.first place ≡ t → cond {A = Option CanFrame} t (slice_get b.kept (place - b.first)) None ≡ Some f → (b.first ≤ place) × (slice_get b.kept (place - b.first) ≡ Some f)) (nat_le b.first place)
    (λ _ t q. (leb-true b.first place t, q))
    (λ _ t q. absurd (none-some f q)) refl e

-- the next frame is taken
pub record IsTaken (b : Bus) (i : ℕ) (f : CanFrame) : Type 0 where
  pub rest : List CanFrame
  pub before : ahead_of b i ≡ f ∷ rest
  pub ahead : ahead_of (released (taken b i)) i ≡ rest
  pub again : frame_again (released (taken b i)) i ≡ Some f

module _ (b : Bus) (i : ℕ) (f : CanFrame) (s : IsSound b) (l : i < length b.cursors) (next : next_frame b i ≡ Some f) (within : (cursor_at b i).place + 1 ≤ bus_len b) where
  abbrev next_cursor : Cursor
  next_cursor = record { place = (cursor_at b i).place + 1; repeatable = true }

  pub taken_here : IsTaken b i f
  taken_here =
      let t : (b.first ≤ (cursor_at b i).place + 1) × (slice_get b.kept ((cursor_at b i).place + 1 - b.first) ≡ Some f) = frame_there b ((cursor_at b i).place + 1) f next in
      let on : (cursor_at b i).place + 1 + 1 - b.first ≡ (cursor_at b i).place + 1 - b.first + 1 = omega (arith, t.0) in
      record {
        rest = drop ((cursor_at b i).place + 1 - b.first + 1) b.kept;
        before = drop_front b.kept ((cursor_at b i).place + 1 - b.first) f t.1;
        ahead = moved_ahead b i next_cursor s l (omega arith) within (λ _. omega arith) ∙ ap (λ m. drop m b.kept) on;
        again = moved_again b i next_cursor s l (omega arith) within (λ _. omega arith) ∙ next;
      }

  pub taken_ahead_else : (j : ℕ) → j < length b.cursors → j ≢ i → ahead_of (released (taken b i)) j ≡ ahead_of b j
  taken_ahead_else = moved_ahead_else b i next_cursor s l (omega arith) within (λ _. omega arith)

  pub taken_again_else : (j : ℕ) → j < length b.cursors → j ≢ i → frame_again (released (taken b i)) j ≡ frame_again b j
  taken_again_else = moved_again_else b i next_cursor s l (omega arith) within (λ _. omega arith)

-- frames are passed over
module _ (b : Bus) (i n : ℕ) (s : IsSound b) (l : i < length b.cursors) (few : n ≤ waiting b i) where
  abbrev far_cursor : Cursor
  far_cursor = record { place = (cursor_at b i).place + n; repeatable = false }

  within : (cursor_at b i).place + n ≤ bus_len b
  within = let c : IsCursor b (cursor_at b i) = is_cursor b i s l in omega (arith, c.within)

  pub passed_ahead : ahead_of (released (passed b i n)) i ≡ drop n (ahead_of b i)
  passed_ahead =
      let c : IsCursor b (cursor_at b i) = is_cursor b i s l in
      let e : (cursor_at b i).place + n + 1 - b.first ≡ (cursor_at b i).place + 1 - b.first + n = omega (arith, c.kept, c.held) in
      moved_ahead b i far_cursor s l (omega arith) within (λ r. absurd cc) ∙ ap (λ m. drop m b.kept) e ∙ sym (drop-drop n ((cursor_at b i).place + 1 - b.first) b.kept)

  pub passed_again : frame_again (released (passed b i n)) i ≡ None
  passed_again = moved_again b i far_cursor s l (omega arith) within (λ r. absurd cc)

  pub passed_long : n ≤ length (ahead_of b i)
  passed_long =
      let c : IsCursor b (cursor_at b i) = is_cursor b i s l in
      omega (arith, c.kept, c.held, c.within, s.from_one, length-drop ((cursor_at b i).place + 1 - b.first) b.kept)

  pub passed_ahead_else : (j : ℕ) → j < length b.cursors → j ≢ i → ahead_of (released (passed b i n)) j ≡ ahead_of b j
  passed_ahead_else = moved_ahead_else b i far_cursor s l (omega arith) within (λ r. absurd cc)

  pub passed_again_else : (j : ℕ) → j < length b.cursors → j ≢ i → frame_again (released (passed b i n)) j ≡ frame_again b j
  passed_again_else = moved_again_else b i far_cursor s l (omega arith) within (λ r. absurd cc)

-- a frame is put
module _ (b : Bus) (i : ℕ) (f : CanFrame) (s : IsSound b) (l : i < length b.cursors) where
  pub put_ahead : ahead_of (put b f) i ≡ ahead_of b i ++ f ∷ []
  put_ahead =
      let c : IsCursor b (cursor_at b i) = is_cursor b i s l in
      drop-append-le ((cursor_at b i).place + 1 - b.first) b.kept (f ∷ []) (omega (arith, c.within, s.from_one))

  pub put_again : frame_again (put b f) i ≡ frame_again b i
  put_again =
      on_test (λ t. (cursor_at b i).repeatable ≡ t → cond t (frame_at (put b f) (cursor_at b i).place) None ≡ cond t (frame_at b (cursor_at b i).place) None) (cursor_at b i).repeatable
      (λ _ q.
      let c : IsCursor b (cursor_at b i) = is_cursor b i s l in
      let p : 0 < (cursor_at b i).place = c.taken q in
      ap (λ o. cond (nat_le b.first (cursor_at b i).place) o None) (slice_get-left b.kept (f ∷ []) ((cursor_at b i).place - b.first) (omega (arith, c.within, c.kept, c.held, s.from_one))))
      (λ _ q. refl) refl

  -- a station that waited for none takes it next
  pub put_next : waiting b i ≡ 0 → next_frame (put b f) i ≡ Some f
  put_next none =
      let c : IsCursor b (cursor_at b i) = is_cursor b i s l in
      let first : b.first ≤ (cursor_at b i).place + 1 = omega (arith, none, c.within, s.from_one) in
      let last : (cursor_at b i).place + 1 - b.first ≡ length b.kept + 0 = omega (arith, none, c.within, s.from_one) in
      rw (le-leb b.first ((cursor_at b i).place + 1) first) (slice_get-right b.kept (f ∷ []) ((cursor_at b i).place + 1 - b.first) 0 last)
