-- Pieces are numbered one after another, and their calls are joined.
use Rattle.std.proofs.Common.{◌≡◌, ℕ, zero, suc, ◌+◌, ◌<◌, List, ◌∷◌, ◌++◌, length, get_or, refl, sym, ◌∙◌, ap, arith, append-nil, append_assoc, []}
use Rattle.stored_calls.specs.declared.stored.Stored.{Stored}
use Rattle.live_record.specs.declared.calls.Piece.{Piece}
use Rattle.live_record.specs.Past.{joined, NumberedAfter}

pub numbered_at : (n k : ℕ) (ps : List Piece) (d : Piece) → k < length ps → NumberedAfter n ps → (get_or ps k d).number ≡ n + k + 1
numbered_at n k [] d l h = absurd (omega arith)
numbered_at n zero (p ∷ ps) d l h = omega (arith, h.0)
numbered_at n (suc k) (p ∷ ps) d l h = let e = numbered_at (n + 1) k ps d (omega arith) h.1 in omega (arith, e)

pub numbered_push : (n : ℕ) (ps : List Piece) (p : Piece) → NumberedAfter n ps → p.number ≡ n + length ps + 1 → NumberedAfter n (ps ++ p ∷ [])
numbered_push n [] p h e = (omega (arith, e), tt)
numbered_push n (q ∷ ps) p h e = (h.0, numbered_push (n + 1) ps p h.1 (omega (arith, e)))

pub joined_append : (ps qs : List Piece) → joined (ps ++ qs) ≡ joined ps ++ joined qs
joined_append [] qs = refl
joined_append (p ∷ ps) qs = ap (λ (xs : List Stored). p.calls.items ++ xs) (joined_append ps qs) ∙ sym (append_assoc p.calls.items (joined ps) (joined qs))

pub joined_push : (ps : List Piece) (p : Piece) → joined (ps ++ p ∷ []) ≡ joined ps ++ p.calls.items
joined_push ps p = joined_append ps (p ∷ []) ∙ ap (λ (xs : List Stored). joined ps ++ xs) (append-nil p.calls.items)
