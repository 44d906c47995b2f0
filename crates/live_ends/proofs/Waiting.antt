-- Whatever marks or names one, the places of those that are marked wait to be named, each of them once.
use Rattle.std.proofs.Common.{◌≡◌, ℕ, zero, suc, ◌+◌, ◌<◌, ◌≤◌, ◌==◌, nat_lt, Bool, true, false, cond, List, ◌∷◌, ◌++◌, length, map, set, get_or, Option, Some, None, refl, sym, ◌∙◌, ap, subst, arith, []}
use Rattle.std.proofs.lemmas.Bool.{false≢true}
use Rattle.std.proofs.lemmas.Bool.Decides.{nat_tests}
use Rattle.std.proofs.lemmas.List.{get_or_default, length-map, length_push, length-set, get_or-map, map-append, map-set, set-get_or}
use Rattle.std.proofs.Math.Seq.{map-set_same}
use Rattle.live_ends.specs.Places.{times}
use Rattle.live_ends.specs.Waiting.{count_marked, Wait, Waits, Marks}
use Rattle.live_ends.proofs.Preparing.{times_append}
use Rattle.live_record.proofs.Equal.{apart, together}

abbrev bit : Bool → ℕ
bit b = cond {A = ℕ} b 1 0

count_within : (ms : List Bool) → count_marked ms ≤ length ms
count_within [] = omega arith
count_within (true ∷ ms) = omega (arith, count_within ms)
count_within (false ∷ ms) = omega (arith, count_within ms)

pub marked_within : (ms : List Bool) (k : ℕ) → get_or ms k false ≡ true → k < length ms
marked_within [] k e = absurd (false≢true e)
marked_within (m ∷ ms) zero e = omega arith
marked_within (m ∷ ms) (suc k) e = omega (arith, marked_within ms k e)

-- one that isn't marked leaves room for its place
count_room : (ms : List Bool) (k : ℕ) → k < length ms → get_or ms k false ≡ false → count_marked ms < length ms
count_room [] k l e = absurd (omega arith)
count_room (m ∷ ms) zero l e = let b : bit m ≡ 0 = rw e refl in omega (arith, count_within ms, b)
count_room (true ∷ ms) (suc k) l e = omega (arith, count_room ms k (omega arith) e)
count_room (false ∷ ms) (suc k) l e = omega (arith, count_room ms k (omega arith) e)

count_on : (ms : List Bool) (k : ℕ) → k < length ms → get_or ms k false ≡ false → count_marked (set ms k true) ≡ count_marked ms + 1
count_on [] k l e = absurd (omega arith)
count_on (m ∷ ms) zero l e = let b : bit m ≡ 0 = rw e refl in omega (arith, b)
count_on (m ∷ ms) (suc k) l e = omega (arith, count_on ms k (omega arith) e)

count_off : (ms : List Bool) (k : ℕ) → get_or ms k false ≡ true → count_marked (set ms k false) + 1 ≡ count_marked ms
count_off [] k e = absurd (false≢true e)
count_off (m ∷ ms) zero e = let b : bit m ≡ 1 = rw e refl in omega (arith, b)
count_off (m ∷ ms) (suc k) e = omega (arith, count_off ms k e)

count_push : (ms : List Bool) → count_marked (ms ++ false ∷ []) ≡ count_marked ms
count_push [] = refl
count_push (m ∷ ms) = omega (arith, count_push ms)

get_push : (ms : List Bool) (k : ℕ) → get_or (ms ++ false ∷ []) k false ≡ get_or ms k false
get_push [] zero = refl
get_push [] (suc k) = refl
get_push (m ∷ ms) zero = refl
get_push (m ∷ ms) (suc k) = get_push ms k

own : (a b : ℕ) → a ≡ b → bit (a == b) ≡ 1
own a b e = let t : (a == b) ≡ true = together a b e in rw t refl

other : (a b : ℕ) → (a ≡ b → ⊥) → bit (a == b) ≡ 0
other a b n = let f : (a == b) ≡ false = apart a b n in rw f refl

next_eq : (a b : ℕ) → (suc a == suc b) ≡ (a == b)
next_eq a b = grind (arith, nat_tests)

next : (a b : ℕ) → bit (suc a == suc b) ≡ bit (a == b)
next a b = ap bit (next_eq a b)

mark_on : (ms : List Bool) (k j : ℕ) → k < length ms → get_or ms k false ≡ false → bit (get_or (set ms k true) j false) ≡ bit (get_or ms j false) + bit (k == j)
mark_on [] k j l e = absurd (omega arith)
mark_on (m ∷ ms) zero zero l e = let b : bit m ≡ 0 = rw e refl in let s = own 0 0 refl in omega (arith, b, s)
mark_on (m ∷ ms) zero (suc j) l e = let s = other 0 (suc j) (λ q. omega (arith, q)) in omega (arith, s)
mark_on (m ∷ ms) (suc k) zero l e = let s = other (suc k) 0 (λ q. omega (arith, q)) in omega (arith, s)
mark_on (m ∷ ms) (suc k) (suc j) l e = omega (arith, mark_on ms k j (omega arith) e, next k j)

mark_off : (ms : List Bool) (k j : ℕ) → get_or ms k false ≡ true → bit (get_or (set ms k false) j false) + bit (k == j) ≡ bit (get_or ms j false)
mark_off [] k j e = absurd (false≢true e)
mark_off (m ∷ ms) zero zero e = let b : bit m ≡ 1 = rw e refl in let s = own 0 0 refl in omega (arith, b, s)
mark_off (m ∷ ms) zero (suc j) e = let s = other 0 (suc j) (λ q. omega (arith, q)) in omega (arith, s)
mark_off (m ∷ ms) (suc k) zero e = let s = other (suc k) 0 (λ q. omega (arith, q)) in omega (arith, s)
mark_off (m ∷ ms) (suc k) (suc j) e = omega (arith, mark_off ms k j e, next k j)

pub wait_none : Wait [] []
wait_none = record { once = λ k. refl; count = refl }

pub wait_push : (ms : List Bool) (w : List ℕ) → Wait ms w → Wait (ms ++ false ∷ []) w
wait_push ms w h = record { once = λ k. h.once k ∙ sym (ap bit (get_push ms k)); count = h.count ∙ sym (count_push ms) }

-- there is room for one more
pub wait_room : (ms : List Bool) (w : List ℕ) (k : ℕ) → k < length ms → get_or ms k false ≡ false → Wait ms w → length w < length ms
wait_room ms w k l e h = omega (arith, h.count, count_room ms k l e)

pub wait_within : (ms : List Bool) (w : List ℕ) → Wait ms w → length w ≤ length ms
wait_within ms w h = omega (arith, h.count, count_within ms)

pub wait_more : (ms : List Bool) (w : List ℕ) (k : ℕ) → k < length ms → get_or ms k false ≡ false → Wait ms w → Wait (set ms k true) (w ++ k ∷ [])
wait_more ms w k l e h = record {
  once = λ j. omega (arith, times_append j w k, h.once j, mark_on ms k j l e);
  count = omega (arith, length_push w k, h.count, count_on ms k l e);
}

head_marked : (b : Bool) (n : ℕ) → 1 + n ≡ bit b → b ≡ true
head_marked true n e = refl
head_marked false n e = absurd (omega (arith, e))

-- the first that waits is marked
pub wait_first : (ms : List Bool) (k : ℕ) (w : List ℕ) → Wait ms (k ∷ w) → get_or ms k false ≡ true
wait_first ms k w h = head_marked (get_or ms k false) (times k w) (omega (arith, h.once k, own k k refl))

pub wait_less : (ms : List Bool) (k : ℕ) (w : List ℕ) → Wait ms (k ∷ w) → Wait (set ms k false) w
wait_less ms k w h = record {
  once = λ j. omega (arith, h.once j, mark_off ms k j (wait_first ms k w h));
  count = omega (arith, h.count, count_off ms k (wait_first ms k w h));
}

unmarked : (b : Bool) → 0 ≡ bit b → b ≡ false
unmarked true e = absurd (omega (arith, e))
unmarked false e = refl

-- without one that waits none is marked
pub wait_end : (ms : List Bool) (k : ℕ) → Wait ms [] → get_or ms k false ≡ false
wait_end ms k h = unmarked (get_or ms k false) (h.once k)

-- what is told of a place that changes
pub marks_at : (b : Bool) (ms : List Bool) (k : ℕ) (m : Bool) (o : Option ℕ) → o ≡ cond b (Some k) None → k < length ms → (b ≡ true → (get_or ms k false ≡ false) × (m ≡ true)) → (b ≡ false → m ≡ get_or ms k false) → Marks o ms (set ms k m)
marks_at true ms k m o e l f g = subst (λ (u : Option ℕ). Marks u ms (set ms k m)) (sym e) (l, (f refl).0, ap (set ms k) (f refl).1)
marks_at false ms k m o e l f g = subst (λ (u : Option ℕ). Marks u ms (set ms k m)) (sym e) (ap (set ms k) (g refl) ∙ set-get_or ms k false)

-- the same of a list by one of whose items, before and after, the mark is known
pub marks_in : {X : Type 0} (f : X → Bool) (b : Bool) (xs : List X) (k : ℕ) (x y : X) (o : Option ℕ) → o ≡ cond b (Some k) None → k < length xs → x ≡ get_or xs k x → (b ≡ true → (f x ≡ false) × (f y ≡ true)) → (b ≡ false → f y ≡ f x) → Marks o (map f xs) (map f (set xs k y))
marks_in f b xs k x y o e l is first again =
    let at : get_or (map f xs) k false ≡ f x = get_or-map f xs k x false l ∙ sym (ap f is) in
    subst (λ (ms : List Bool). Marks o (map f xs) ms) (sym (map-set f xs k y))
    (marks_at b (map f xs) k (f y) o e (omega (arith, l, length-map xs f)) (λ t. (at ∙ (first t).0, (first t).1)) (λ t. again t ∙ sym at))

pub waits_new : {X : Type 0} (f : X → Bool) (xs : List X) (w : List ℕ) (room : ℕ) → xs ≡ [] → w ≡ [] → Waits f xs w room
waits_new f xs w room e d = rw (e, d) (wait_none, omega arith)

-- the marks are the same
pub waits_same : {X : Type 0} (f : X → Bool) (xs ys : List X) (w : List ℕ) (room : ℕ) → map f ys ≡ map f xs → Waits f xs w room → Waits f ys w room
waits_same f xs ys w room e h = let n : length ys ≡ length xs = sym (length-map ys f) ∙ ap (λ (ms : List Bool). length ms) e ∙ length-map xs f in (subst (λ (ms : List Bool). Wait ms w) (sym e) h.0, omega (arith, n, h.1))

-- one is another one, with the same mark
pub waits_set : {X : Type 0} (f : X → Bool) (xs : List X) (k : ℕ) (x y : X) (w : List ℕ) (room : ℕ) → f y ≡ f (get_or xs k x) → Waits f xs w room → Waits f (set xs k y) w room
waits_set f xs k x y w room e h = waits_same f xs (set xs k y) w room (map-set_same f xs k y x e) h

pub waits_push : {X : Type 0} (f : X → Bool) (xs : List X) (x : X) (w : List ℕ) (room : ℕ) → f x ≡ false → length xs + 1 ≤ room → Waits f xs w room → Waits f (xs ++ x ∷ []) w room
waits_push f xs x w room e l h =
    let more : map f (xs ++ x ∷ []) ≡ map f xs ++ false ∷ [] = map-append f xs (x ∷ []) ∙ ap (λ (m : Bool). map f xs ++ m ∷ []) e in
    (subst (λ (ms : List Bool). Wait ms w) (sym more) (wait_push (map f xs) w h.0), omega (arith, l, length_push xs x))

-- one was told of, and waits now
pub waits_told : {X : Type 0} (f : X → Bool) (xs ys : List X) (k : ℕ) (w : List ℕ) (room : ℕ) → Marks (Some k) (map f xs) (map f ys) → Waits f xs w room → Waits f ys (w ++ k ∷ []) room
waits_told f xs ys k w room m h =
    let n : length ys ≡ length xs = sym (length-map ys f) ∙ ap (λ (ms : List Bool). length ms) m.2 ∙ length-set (map f xs) k true ∙ length-map xs f in
    (subst (λ (ms : List Bool). Wait ms (w ++ k ∷ [])) (sym m.2) (wait_more (map f xs) w k m.0 m.1 h.0), omega (arith, n, h.1))

-- and there is room for it
pub waits_room : {X : Type 0} (f : X → Bool) (xs : List X) (ns : List Bool) (k : ℕ) (w : List ℕ) (room : ℕ) → Marks (Some k) (map f xs) ns → Waits f xs w room → length w < room
waits_room f xs ns k w room m h = omega (arith, wait_room (map f xs) w k m.0 m.1 h.0, length-map xs f, h.1)

pub waits_within : {X : Type 0} (f : X → Bool) (xs : List X) (w : List ℕ) (room : ℕ) → Waits f xs w room → length w ≤ length xs
waits_within f xs w room h = omega (arith, wait_within (map f xs) w h.0, length-map xs f)

-- the first that waits is marked, and is there
pub waits_first : {X : Type 0} (f : X → Bool) (xs : List X) (k : ℕ) (w : List ℕ) (room : ℕ) → Waits f xs (k ∷ w) room → (k < length xs) × ((x : X) → f (get_or xs k x) ≡ true)
waits_first f xs k w room h =
    let t = wait_first (map f xs) k w h.0 in
    let l : k < length xs = omega (arith, marked_within (map f xs) k t, length-map xs f) in
    (l, λ x. sym (get_or-map f xs k x false l) ∙ t)

-- it was named
pub waits_less : {X : Type 0} (f : X → Bool) (xs : List X) (k : ℕ) (y : X) (w : List ℕ) (room : ℕ) → f y ≡ false → Waits f xs (k ∷ w) room → Waits f (set xs k y) w room
waits_less f xs k y w room e h =
    let off : map f (set xs k y) ≡ set (map f xs) k false = map-set f xs k y ∙ ap (set (map f xs) k) e in
    (subst (λ (ms : List Bool). Wait ms w) (sym off) (wait_less (map f xs) k w h.0), omega (arith, length-set xs k y, h.1))

pub waits_end : {X : Type 0} (f : X → Bool) (xs : List X) (w : List ℕ) (room : ℕ) → w ≡ [] → Waits f xs w room → (k : ℕ) (x : X) → k < length xs → f (get_or xs k x) ≡ false
waits_end f xs w room e h k x l = sym (get_or-map f xs k x false l) ∙ wait_end (map f xs) k (subst (λ (u : List ℕ). Wait (map f xs) u) e h.0)

pub not_below : (n : ℕ) → nat_lt n n ≡ false
not_below n = grind (arith, nat_tests)

-- an item that is read at its place is there with any other value for those beyond the end
pub at_default : {X : Type 0} (xs : List X) (k : ℕ) (x y : X) → k < length xs → x ≡ get_or xs k x → x ≡ get_or xs k y
at_default xs k x y l e = e ∙ get_or_default xs k x y l
