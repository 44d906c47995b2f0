-- What a note does to the seats.
use Rattle.std.proofs.Common.{◌≡◌, ℕ, zero, ◌+◌, ◌-◌, ◌<◌, ◌≤◌, ◌==◌, suc, Bool, true, false, cond, List, ◌∷◌, ◌++◌, length, set, get_or, Option, Some, refl, sym, ◌∙◌, ap, subst, arith, append-nil, append_assoc, length-append, []}
use Rattle.tp_wire.specs.declared.outcome.Outcome.{Outcome}
use Rattle.tp_wire.specs.declared.outcome.Outcome.TheVariants.{Acknowledged}
use Rattle.pgn_ids.specs.declared.address.Address.{Address}
use Rattle.segment_rings.specs.declared.words.Note.{Note}
use Rattle.live_record.specs.declared.owed.Owed.{Owed}
use Rattle.segment_rings.specs.Views.{SeatView, with_note, noted_after, free_after}
use Rattle.message_events.specs.declared.event.Event.{Event}
use Rattle.message_events.specs.declared.event.Event.TheVariants as event
use Rattle.live_record.specs.Record.{is_of, find_owed, without_owed, note_found, notes_of, owed_by, notes_at, owed_after}
use Rattle.live_ends.specs.Ends.{IdsFrom, HaveRoom, note_seat, note_all, OwedWithin}
use Rattle.live_record.proofs.Equal.{apart, together}

notes_of_one : (c d : ℕ) (x : Note) → length (notes_of c ((d, x) ∷ [])) ≡ cond (d == c) 1 0
notes_of_one c d x = elim (d == c) as (λ v. length (cond v (x ∷ []) []) ≡ cond v 1 0) [ true ↦ refl | false ↦ refl ]

settled_at : (b : Bool) (c : ℕ) (w : Owed) (ws rest : List Owed) (r : Option Owed) (o : Outcome) → owed_by c ws ≡ owed_by c rest + length (notes_of c (note_found r o))
    → owed_by c (w ∷ ws) ≡ owed_by c (cond b ws (w ∷ rest)) + length (notes_of c (note_found (cond b (Some w) r) o))
settled_at true c w ws rest r o h = omega (arith, notes_of_one c w.client (record { ticket = w.ticket; to = w.to; number = w.number; outcome = o }))
settled_at false c w ws rest r o h = omega arith

-- an outcome takes its message from what is owed, and makes a note of it
pub owed_settled : (c : ℕ) (ws : List Owed) (f t : Address) (n : ℕ) (o : Outcome)
    → owed_by c ws ≡ owed_by c (without_owed ws f t n) + length (notes_of c (note_found (find_owed ws f t n) o))
owed_settled c [] f t n o = refl
owed_settled c (w ∷ ws) f t n o = settled_at (is_of f t n w) c w ws (without_owed ws f t n) (find_owed ws f t n) o (owed_settled c ws f t n o)

within_at : (b : Bool) (k : ℕ) (w v : Owed) (r : Option Owed) → w.client < k → (r ≡ Some v → v.client < k) → cond b (Some w) r ≡ Some v → v.client < k
within_at true k w v r h i e = let same : w ≡ v = cc in subst (λ (x : Owed). x.client < k) same h
within_at false k w v r h i e = i e

pub find_within : (k : ℕ) (ws : List Owed) (f t : Address) (n : ℕ) (v : Owed) → OwedWithin k ws → find_owed ws f t n ≡ Some v → v.client < k
find_within k [] f t n v h e = absurd cc
find_within k (w ∷ ws) f t n v h e = within_at (is_of f t n w) k w v (find_owed ws f t n) h.0 (find_within k ws f t n v h.1) e

without_within_at : (b : Bool) (k : ℕ) (w : Owed) (ws rest : List Owed) → w.client < k → OwedWithin k ws → OwedWithin k rest → OwedWithin k (cond b ws (w ∷ rest))
without_within_at true k w ws rest h i j = i
without_within_at false k w ws rest h i j = (h, j)

pub without_within : (k : ℕ) (ws : List Owed) (f t : Address) (n : ℕ) → OwedWithin k ws → OwedWithin k (without_owed ws f t n)
without_within k [] f t n h = tt
without_within k (w ∷ ws) f t n h = without_within_at (is_of f t n w) k w ws (without_owed ws f t n) h.0 h.1 (without_within k ws f t n h.1)

-- a client that is found is owed something
pub has_owed : (ws : List Owed) (f t : Address) (n : ℕ) (v : Owed) → find_owed ws f t n ≡ Some v → 0 < owed_by v.client ws
has_owed ws f t n v e =
    let k = v.client in
    let o = Acknowledged in
    let h = owed_settled k ws f t n o in
    let same : (k == k) ≡ true = together k k refl in
    let one : length (notes_of k (note_found (Some v) o)) ≡ 1 = notes_of_one k k _ ∙ rw same refl in
    let r : length (notes_of k (note_found (find_owed ws f t n) o)) ≡ 1 = rw e one in
    omega (arith, h, r)

pub id_at : (n i : ℕ) (ss : List SeatView) (d : SeatView) → IdsFrom n ss → i < length ss → (get_or ss i d).id ≡ n + i
id_at n i [] d h l = absurd (omega arith)
id_at n zero (s ∷ ss) d h l = omega (arith, h.0)
id_at n (suc i) (s ∷ ss) d h l = let e = id_at (n + 1) i ss d h.1 (omega arith) in omega arith

pub free_at : (ws : List Owed) (i : ℕ) (ss : List SeatView) (d : SeatView) → HaveRoom ws ss → i < length ss → owed_by (get_or ss i d).id ws ≤ (get_or ss i d).free
free_at ws i [] d h l = absurd (omega arith)
free_at ws zero (s ∷ ss) d h l = h.0
free_at ws (suc i) (s ∷ ss) d h l = free_at ws i ss d h.2 (omega arith)

pub spare_at : (ws : List Owed) (i : ℕ) (ss : List SeatView) (d : SeatView) → HaveRoom ws ss → i < length ss → owed_by (get_or ss i d).id ws ≤ (get_or ss i d).spare
spare_at ws i [] d h l = absurd (omega arith)
spare_at ws zero (s ∷ ss) d h l = h.1
spare_at ws (suc i) (s ∷ ss) d h l = spare_at ws i ss d h.2 (omega arith)

-- what goes into a client's ring, where the client isn't gone

pub noted_none : (b : Bool) (xs : List Note) → noted_after b xs [] ≡ xs
noted_none true xs = append-nil xs
noted_none false xs = refl

free_none : (b : Bool) (n : ℕ) → free_after b n 0 ≡ n
free_none true n = omega arith
free_none false n = refl

noted_append : (b : Bool) (xs ys zs : List Note) → noted_after b xs (ys ++ zs) ≡ noted_after b (noted_after b xs ys) zs
noted_append true xs ys zs = sym (append_assoc xs ys zs)
noted_append false xs ys zs = refl

free_append : (b : Bool) (n k m : ℕ) → free_after b n (k + m) ≡ free_after b (free_after b n k) m
free_append true n k m = omega arith
free_append false n k m = refl

free_within : (b : Bool) (n k v w : ℕ) → w ≡ v + k → w ≤ n → v ≤ free_after b n k
free_within true n k v w e l = omega arith
free_within false n k v w e l = omega arith

note_seat_none : (s : SeatView) → note_seat [] s ≡ s
note_seat_none s =
    let k = append-nil s.kept in
    let a = noted_none s.active s.noted in
    let f = free_none s.active s.free in
    let p : s.spare - 0 ≡ s.spare = omega arith in
    ap (λ (n : List Note). record s { kept = n; noted = noted_after s.active s.noted []; free = free_after s.active s.free 0; spare = s.spare - 0 }) k
    ∙ ap (λ (n : List Note). record s { noted = n; free = free_after s.active s.free 0; spare = s.spare - 0 }) a
    ∙ ap (λ (n : ℕ). record s { free = n; spare = s.spare - 0 }) f
    ∙ ap (λ (n : ℕ). record s { spare = n }) p

pub note_all_none : (ss : List SeatView) → note_all [] ss ≡ ss
note_all_none [] = refl
note_all_none (s ∷ ss) = let a = note_seat_none s in let b = note_all_none ss in cc

notes_of-append_at : (b : Bool) (y : Note) (xs ys zs : List Note) → xs ≡ ys ++ zs → cond b (y ∷ xs) xs ≡ cond b (y ∷ ys) ys ++ zs
notes_of-append_at true y xs ys zs e = ap (λ l. y ∷ l) e
notes_of-append_at false y xs ys zs e = e

pub notes_of-append : (c : ℕ) (xs ys : List (ℕ × Note)) → notes_of c (xs ++ ys) ≡ notes_of c xs ++ notes_of c ys
notes_of-append c [] ys = refl
notes_of-append c (x ∷ xs) ys = notes_of-append_at (x.0 == c) x.1 (notes_of c (xs ++ ys)) (notes_of c xs) (notes_of c ys) (notes_of-append c xs ys)

note_seat-append : (xs ys : List (ℕ × Note)) (s : SeatView) → note_seat (xs ++ ys) s ≡ note_seat ys (note_seat xs s)
note_seat-append xs ys s =
    let e = notes_of-append s.id xs ys in
    let k : s.kept ++ notes_of s.id (xs ++ ys) ≡ (s.kept ++ notes_of s.id xs) ++ notes_of s.id ys = rw e (sym (append_assoc s.kept (notes_of s.id xs) (notes_of s.id ys))) in
    let a : noted_after s.active s.noted (notes_of s.id (xs ++ ys)) ≡ noted_after s.active (noted_after s.active s.noted (notes_of s.id xs)) (notes_of s.id ys) = rw e (noted_append s.active s.noted (notes_of s.id xs) (notes_of s.id ys)) in
    let l : length (notes_of s.id (xs ++ ys)) ≡ length (notes_of s.id xs) + length (notes_of s.id ys) = rw e (length-append (notes_of s.id xs) (notes_of s.id ys)) in
    let f : free_after s.active s.free (length (notes_of s.id (xs ++ ys))) ≡ free_after s.active (free_after s.active s.free (length (notes_of s.id xs))) (length (notes_of s.id ys)) = rw l (free_append s.active s.free (length (notes_of s.id xs)) (length (notes_of s.id ys))) in
    let p : s.spare - length (notes_of s.id (xs ++ ys)) ≡ s.spare - length (notes_of s.id xs) - length (notes_of s.id ys) = omega arith in
    cc

pub note_all-append : (xs ys : List (ℕ × Note)) (ss : List SeatView) → note_all (xs ++ ys) ss ≡ note_all ys (note_all xs ss)
note_all-append xs ys [] = refl
note_all-append xs ys (s ∷ ss) = let a = note_seat-append xs ys s in let b = note_all-append xs ys ss in cc

pub length-note_all : (ns : List (ℕ × Note)) (ss : List SeatView) → length (note_all ns ss) ≡ length ss
length-note_all ns [] = refl
length-note_all ns (s ∷ ss) = ap suc (length-note_all ns ss)

pub ids-note_all : (n : ℕ) (ns : List (ℕ × Note)) (ss : List SeatView) → IdsFrom n ss → IdsFrom n (note_all ns ss)
ids-note_all n ns [] h = tt
ids-note_all n ns (s ∷ ss) h = (h.0, ids-note_all (n + 1) ns ss h.1)

pub room-note_all : (ns : List (ℕ × Note)) (ws vs : List Owed) (ss : List SeatView) → ((c : ℕ) → owed_by c ws ≡ owed_by c vs + length (notes_of c ns)) → HaveRoom ws ss → HaveRoom vs (note_all ns ss)
room-note_all ns ws vs [] h r = tt
room-note_all ns ws vs (s ∷ ss) h r = (free_within s.active s.free (length (notes_of s.id ns)) (owed_by s.id vs) (owed_by s.id ws) (h s.id) r.0, omega (arith, h s.id, r.1), room-note_all ns ws vs ss h r.2)

-- a note of client c leaves the seats past c as they are
note_all_later : (c n : ℕ) (x : Note) (ss : List SeatView) → c < n → IdsFrom n ss → note_all ((c, x) ∷ []) ss ≡ ss
note_all_later c n x [] l h = refl
note_all_later c n x (s ∷ ss) l h =
    let b = note_all_later c (n + 1) x ss (omega arith) h.1 in
    let e : (c == s.id) ≡ false = apart c s.id (omega (arith, h.0)) in
    let a : note_seat ((c, x) ∷ []) s ≡ s = rw e (note_seat_none s) in
    cc

note_seat_own : (c : ℕ) (x : Note) (s : SeatView) → s.id ≡ c → note_seat ((c, x) ∷ []) s ≡ with_note s x
note_seat_own c x s h = let e : (c == s.id) ≡ true = together c s.id (sym h) in rw e refl

-- a note to the seat at i is a note of client n + i to all
pub note_at : (n i c : ℕ) (x : Note) (ss : List SeatView) (d : SeatView) → c ≡ n + i → IdsFrom n ss → i < length ss → set ss i (with_note (get_or ss i d) x) ≡ note_all ((c, x) ∷ []) ss
note_at n i c x [] d e h l = absurd (omega arith)
note_at n zero c x (s ∷ ss) d e h l =
    let a = note_seat_own c x s (omega (arith, h.0)) in
    let b = note_all_later c (n + 1) x ss (omega arith) h.1 in
    cc
note_at n (suc i) c x (s ∷ ss) d e h l =
    let f : (c == s.id) ≡ false = apart c s.id (omega (arith, h.0)) in
    let a : note_seat ((c, x) ∷ []) s ≡ s = rw f (note_seat_none s) in
    let b = note_at (n + 1) i c x ss d (omega arith) h.1 (omega arith) in
    cc

pub owed_after_event : (c : ℕ) (ws : List Owed) (e : Event) → owed_by c ws ≡ owed_by c (owed_after ws e) + length (notes_of c (notes_at ws e))
owed_after_event c ws (event.Given p f t g b) = omega arith
owed_after_event c ws (event.Outcome f t n o) = owed_settled c ws f t n o

pub within_after_event : (k : ℕ) (ws : List Owed) (e : Event) → OwedWithin k ws → OwedWithin k (owed_after ws e)
within_after_event k ws (event.Given p f t g b) h = h
within_after_event k ws (event.Outcome f t n o) h = without_within k ws f t n h

pub owed_by-none : (n c : ℕ) (ws : List Owed) → n ≤ c → OwedWithin n ws → owed_by c ws ≡ 0
owed_by-none n c [] l h = refl
owed_by-none n c (w ∷ ws) l h =
    let e : (w.client == c) ≡ false = apart w.client c (omega (arith, h.0)) in
    let z : cond {A = ℕ} (w.client == c) 1 0 ≡ 0 = rw e refl in
    let r = owed_by-none n c ws l h.1 in
    omega arith

pub within-more : (n : ℕ) (ws : List Owed) → OwedWithin n ws → OwedWithin (n + 1) ws
within-more n [] h = tt
within-more n (w ∷ ws) h = (omega (arith, h.0), within-more n ws h.1)
