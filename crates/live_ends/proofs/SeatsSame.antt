-- Seats and doors of whose rings more is known stay what they were.
use Rattle.std.proofs.Common.{◌≡◌, ℕ, zero, suc, ◌+◌, ◌<◌, List, ◌∷◌, length, set, get_or, refl, ◌∙◌, ap, arith, []}
use Rattle.segment_rings.specs.Views.{SeatView, SameSeat}
use Rattle.live_record.specs.declared.owed.Owed.{Owed}
use Rattle.live_record.specs.Record.{owed_by}
use Rattle.live_ends.specs.Ends.{IdsFrom, HaveRoom, SameSeats}

pub ids-same : (n : ℕ) (ss ts : List SeatView) → SameSeats ss ts → IdsFrom n ss → IdsFrom n ts
ids-same n [] [] s h = tt
ids-same n [] (t ∷ ts) s h = absurd s
ids-same n (x ∷ ss) [] s h = absurd s
ids-same n (x ∷ ss) (t ∷ ts) s h = (s.0.id ∙ h.0, ids-same (n + 1) ss ts s.1 h.1)

pub room-same : (ws : List Owed) (ss ts : List SeatView) → SameSeats ss ts → HaveRoom ws ss → HaveRoom ws ts
room-same ws [] [] s h = tt
room-same ws [] (t ∷ ts) s h = absurd s
room-same ws (x ∷ ss) [] s h = absurd s
room-same ws (x ∷ ss) (t ∷ ts) s h =
    let i : owed_by t.id ws ≡ owed_by x.id ws = ap (λ n. owed_by n ws) s.0.id in
    (omega (arith, i, h.0, s.0.free), omega (arith, i, h.1, s.0.spare), room-same ws ss ts s.1 h.2)

pub length-same : (ss ts : List SeatView) → SameSeats ss ts → length ts ≡ length ss
length-same [] [] s = refl
length-same [] (t ∷ ts) s = absurd s
length-same (x ∷ ss) [] s = absurd s
length-same (x ∷ ss) (t ∷ ts) s = ap suc (length-same ss ts s.1)

pub same_seat-refl : (s : SeatView) → SameSeat s s
same_seat-refl s = record { id = refl; station = refl; active = refl; popped = refl; gone = refl; kept = refl; noted = refl; named = refl; free = omega arith; spare = omega arith }

pub same_seats-refl : (ss : List SeatView) → SameSeats ss ss
same_seats-refl [] = tt
same_seats-refl (s ∷ ss) = (record { id = refl; station = refl; active = refl; popped = refl; gone = refl; kept = refl; noted = refl; named = refl; free = omega arith; spare = omega arith }, same_seats-refl ss)

pub same_seats-trans : (ss ts us : List SeatView) → SameSeats ss ts → SameSeats ts us → SameSeats ss us
same_seats-trans [] [] [] s t = tt
same_seats-trans [] [] (u ∷ us) s t = absurd t
same_seats-trans [] (y ∷ ts) us s t = absurd s
same_seats-trans (x ∷ ss) [] us s t = absurd s
same_seats-trans (x ∷ ss) (y ∷ ts) [] s t = absurd t
same_seats-trans (x ∷ ss) (y ∷ ts) (u ∷ us) s t = (
  record {
    id = t.0.id ∙ s.0.id;
    station = t.0.station ∙ s.0.station;
    active = t.0.active ∙ s.0.active;
    popped = t.0.popped ∙ s.0.popped;
    gone = t.0.gone ∙ s.0.gone;
    kept = t.0.kept ∙ s.0.kept;
    noted = t.0.noted ∙ s.0.noted;
    named = t.0.named ∙ s.0.named;
    free = omega (arith, s.0.free, t.0.free);
    spare = omega (arith, s.0.spare, t.0.spare);
  },
  same_seats-trans ss ts us s.1 t.1,
)

pub same_seats-set : (ss : List SeatView) (i : ℕ) (d t : SeatView) → i < length ss → SameSeat (get_or ss i d) t → SameSeats ss (set ss i t)
same_seats-set [] i d t l s = absurd (omega arith)
same_seats-set (x ∷ ss) zero d t l s = (s, same_seats-refl ss)
same_seats-set (x ∷ ss) (suc i) d t l s = (record { id = refl; station = refl; active = refl; popped = refl; gone = refl; kept = refl; noted = refl; named = refl; free = omega arith; spare = omega arith }, same_seats-set ss i d t (omega arith) s)
