-- A station that is marked as quiet has no submission that is seen, whatever changes a mark or a seat.
use Rattle.std.proofs.Common.{◌≡◌, ℕ, zero, suc, ◌+◌, ◌<◌, ◌≤◌, Bool, true, false, List, ◌∷◌, ◌++◌, length, set, get_or, drop, refl, sym, ◌∙◌, ap, subst, inl, inr, arith, []}
use Rattle.std.specs.Prelude.{◌⊎◌}
use Rattle.std.proofs.lemmas.Bool.{false≢true}
use Rattle.std.proofs.lemmas.List.{drop_more}
use Rattle.pgn_ids.specs.declared.address.Address.{Address}
use Rattle.segment_rings.specs.declared.words.Note.{Note}
use Rattle.segment_rings.specs.Views.{SeatView, CutSeat, closed_seat, named_seat}
use Rattle.live_ends.specs.Ends.{note_all, SameSeats, CutSeats}
use Rattle.live_ends.specs.Homes.{IsSilent, AreSilent, AreQuiet, OnlyAt}
use Rattle.live_ends.proofs.Cuts.{AllCut, all_cut}

-- the marks

at_set : (ms : List Bool) (a x : ℕ) (b : Bool) → get_or (set ms a b) x false ≡ true → ((x ≡ a) × (b ≡ true)) ⊎ (get_or ms x false ≡ true)
at_set [] a x b e = inr e
at_set (m ∷ ms) zero zero b e = inl (refl, e)
at_set (m ∷ ms) zero (suc x) b e = inr e
at_set (m ∷ ms) (suc a) zero b e = inr e
at_set (m ∷ ms) (suc a) (suc x) b e = elim (at_set ms a x b e) [ inl h ↦ inl (ap suc h.0, h.1) | inr h ↦ inr h ]

pub marked_off : (ms : List Bool) (a : ℕ) → get_or (set ms a false) a false ≡ false
marked_off [] a = refl
marked_off (m ∷ ms) zero = refl
marked_off (m ∷ ms) (suc a) = marked_off ms a

pub past_off : (ms : List Bool) (a : ℕ) → length ms ≤ a → get_or ms a false ≡ false
past_off [] a l = refl
past_off (m ∷ ms) zero l = absurd (omega (arith, l))
past_off (m ∷ ms) (suc a) l = past_off ms a (omega (arith, l))

pub quiet_marked : (ms : List Bool) (a : ℕ) (b : Bool) (ss : List SeatView) → AreQuiet ms ss → (b ≡ true → AreSilent a ss) → AreQuiet (set ms a b) ss
quiet_marked ms a b [] q h = tt
quiet_marked ms a b (s ∷ ss) q h = (λ e. elim (at_set ms a s.station.0 b e) [ inl p ↦ (h p.1).0 p.0 | inr r ↦ q.0 r ], quiet_marked ms a b ss q.1 (λ t. (h t).1))

pub silent_marked : (ms : List Bool) (a : ℕ) (ss : List SeatView) → get_or ms a false ≡ true → AreQuiet ms ss → AreSilent a ss
silent_marked ms a [] m q = tt
silent_marked ms a (s ∷ ss) m q = (λ e. q.0 (subst (λ (n : ℕ). get_or ms n false ≡ true) (sym e) m), silent_marked ms a ss m q.1)

-- the seats

pub quiet-notes : (ms : List Bool) (ns : List (ℕ × Note)) (ss : List SeatView) → AreQuiet ms ss → AreQuiet ms (note_all ns ss)
quiet-notes ms ns [] q = tt
quiet-notes ms ns (s ∷ ss) q = (q.0, quiet-notes ms ns ss q.1)

pub quiet-set : (ms : List Bool) (k : ℕ) (ss : List SeatView) (t : SeatView) → (get_or ms t.station.0 false ≡ true → IsSilent t) → AreQuiet ms ss → AreQuiet ms (set ss k t)
quiet-set ms k [] t h q = tt
quiet-set ms zero (s ∷ ss) t h q = (h, q.1)
quiet-set ms (suc k) (s ∷ ss) t h q = (q.0, quiet-set ms k ss t h q.1)

pub quiet-push : (ms : List Bool) (ss : List SeatView) (s : SeatView) → s.ahead ≡ [] → AreQuiet ms ss → AreQuiet ms (ss ++ s ∷ [])
quiet-push ms [] s e q = (λ _. inr (ap length e), tt)
quiet-push ms (x ∷ ss) s e q = (q.0, quiet-push ms ss s e q.1)

silent-cut : (s t : SeatView) → CutSeat s t → IsSilent s → IsSilent t
silent-cut s t c (inl e) = inl (c.active ∙ e)
silent-cut s t c (inr e) = inr (ap length c.ahead ∙ e)

quiet-all_cut : (ms : List Bool) (ss ts : List SeatView) → AllCut ss ts → AreQuiet ms ss → AreQuiet ms ts
quiet-all_cut ms [] [] c q = tt
quiet-all_cut ms [] (t ∷ ts) c q = absurd c
quiet-all_cut ms (s ∷ ss) [] c q = absurd c
quiet-all_cut ms (s ∷ ss) (t ∷ ts) c q = (λ e. silent-cut s t c.0 (q.0 (subst (λ (a : Address). get_or ms a.0 false ≡ true) c.0.station e)), quiet-all_cut ms ss ts c.1 q.1)

pub quiet-cut : (ms : List Bool) (ss ts : List SeatView) → CutSeats ss ts → AreQuiet ms ss → AreQuiet ms ts
quiet-cut ms ss ts c q = quiet-all_cut ms ss ts (all_cut ss ts c) q

pub quiet-close : (ms : List Bool) (k : ℕ) (ss : List SeatView) (s : SeatView) → AreQuiet ms ss → AreQuiet ms (set ss k (closed_seat s))
quiet-close ms k ss s q = quiet-set ms k ss (closed_seat s) (λ _. inl refl) q

pub quiet-name : (ms : List Bool) (k : ℕ) (ss : List SeatView) (d : SeatView) → AreQuiet ms ss → AreQuiet ms (set ss k (named_seat (get_or ss k d)))
quiet-name ms k [] d q = tt
quiet-name ms zero (s ∷ ss) d q = (q.0, q.1)
quiet-name ms (suc k) (s ∷ ss) d q = (q.0, quiet-name ms k ss d q.1)

-- one seat alone has changed

same_at : (k : ℕ) (ss ts : List SeatView) (d : SeatView) → SameSeats ss ts → (get_or ts k d).station ≡ (get_or ss k d).station
same_at k [] [] d h = refl
same_at k [] (t ∷ ts) d h = absurd h
same_at k (s ∷ ss) [] d h = absurd h
same_at zero (s ∷ ss) (t ∷ ts) d h = h.0.station
same_at (suc k) (s ∷ ss) (t ∷ ts) d h = same_at k ss ts d h.1

-- one seat of a station that isn't marked has changed
pub quiet-only : (ms : List Bool) (k : ℕ) (ss ts : List SeatView) (d : SeatView) → SameSeats ss ts → OnlyAt k ss ts → get_or ms (get_or ss k d).station.0 false ≡ false → AreQuiet ms ss → AreQuiet ms ts
quiet-only ms k ss ts d same only off q =
    subst (λ (l : List SeatView). AreQuiet ms l) (sym (only d))
    (quiet-set ms k ss (get_or ts k d) (λ on. absurd (false≢true (sym off ∙ ap (λ (a : Address). get_or ms a.0 false) (sym (same_at k ss ts d same)) ∙ on))) q)

-- what is seen of the segment

pub silent_seat : (a k : ℕ) (ss : List SeatView) (d : SeatView) → k < length ss → AreSilent a ss → (get_or ss k d).station.0 ≡ a → IsSilent (get_or ss k d)
silent_seat a k [] d l h e = absurd (omega (arith, l))
silent_seat a zero (s ∷ ss) d l h e = h.0 e
silent_seat a (suc k) (s ∷ ss) d l h e = silent_seat a k ss d (omega (arith, l)) h.1 e

-- one seat more was looked at
pub silent_more : (a i : ℕ) (ss : List SeatView) (s : SeatView) → i < length ss → s ≡ get_or ss i s → (s.station.0 ≡ a → IsSilent s) → AreSilent a (drop (i + 1) ss) → AreSilent a (drop i ss)
silent_more a i ss s l at h rest = subst (λ (ts : List SeatView). AreSilent a ts) (sym (drop_more ss i s l ∙ ap (λ (x : SeatView). x ∷ drop (i + 1) ss) (sym at))) (h, rest)
