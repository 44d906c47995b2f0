-- Each place of a call that is kept whole leads to that call, also once more calls are kept.
use Rattle.std.proofs.Common.{◌≡◌, ℕ, zero, suc, ◌+◌, ◌<◌, List, [], ◌∷◌, ◌++◌, length, get_or, map, refl, sym, ◌∙◌, ap, subst, arith}
use Rattle.std.proofs.lemmas.List.{map_push, get_or-map, get_or_append_left, get_or_push, get_or_default, length-map, length_push}
use Rattle.segment_law.specs.declared.call.Call.TheVariants as call
use Rattle.stored_calls.specs.declared.stored.Stored.{Stored}
use Rattle.stored_calls.specs.declared.short.Short.{Short}
use Rattle.stored_calls.specs.declared.short.Short.TheVariants.{Pump, Transmit, Take, TakeAgain, Tick, Fire, Whole}
use Rattle.stored_calls.specs.Lists.{made_of, nobodys, IsPlace, IsWithin, PlacesWithin}

within_one : (n m : ℕ) (s : Short) → n < m + 1 → IsWithin n s → IsWithin m s
within_one n m (Pump station to) l h = tt
within_one n m (Transmit station) l h = tt
within_one n m (Take station room) l h = tt
within_one n m (TakeAgain station room) l h = tt
within_one n m (Tick k) l h = tt
within_one n m (Fire station) l h = tt
within_one n m (Whole at) l h = omega (arith, l, h)

within_more : (n m : ℕ) (ss : List Short) → n < m + 1 → PlacesWithin n ss → PlacesWithin m ss
within_more n m [] l h = tt
within_more n m (s ∷ ss) l h = (within_one n m s l h.0, within_more n m ss l h.1)

within_push : (n : ℕ) (ss : List Short) (s : Short) → PlacesWithin n ss → IsWithin n s → PlacesWithin n (ss ++ s ∷ [])
within_push n [] s h i = (i, tt)
within_push n (r ∷ ss) s h i = (h.0, within_push n ss s h.1 i)

-- a short form that names no place stands behind any
pub within_short : (n : ℕ) (ss : List Short) (s : Short) → PlacesWithin n ss → IsWithin 0 s → PlacesWithin n (ss ++ s ∷ [])
within_short n ss s h i = within_push n ss s h (within_one 0 n s (omega arith) i)

-- and so does the next place, once there is one call more
pub within_whole : (ws us : List Stored) (w : Stored) (ss ts : List Short) (at : ℕ) → us ≡ ws ++ w ∷ [] → ts ≡ ss ++ Whole at ∷ [] → at ≡ length ws → PlacesWithin (length ws) ss
    → PlacesWithin (length us) ts
within_whole ws us w ss ts at kept put e h =
    let one = length_push ws w in
    rw (kept, put, one) (within_push (length ws + 1) ss (Whole at) (within_more (length ws) (length ws + 1) ss (omega arith) h) (omega (arith, e)))

made_one : (ws : List Stored) (w : Stored) (s : Short) → IsWithin (length ws) s → made_of (ws ++ w ∷ []) s ≡ made_of ws s
made_one ws w (Pump station to) h = refl
made_one ws w (Transmit station) h = refl
made_one ws w (Take station room) h = refl
made_one ws w (TakeAgain station room) h = refl
made_one ws w (Tick n) h = refl
made_one ws w (Fire station) h = refl
made_one ws w (Whole at) h = get_or_append_left ws (w ∷ []) (nobodys (call.Tick 0)) at h

made_more : (ws : List Stored) (w : Stored) (ss : List Short) → PlacesWithin (length ws) ss → map (made_of (ws ++ w ∷ [])) ss ≡ map (made_of ws) ss
made_more ws w [] h = refl
made_more ws w (s ∷ ss) h = let a = made_one ws w s h.0 in let b = made_more ws w ss h.1 in cc

-- one call more that is kept whole
pub made_whole : (ws us items : List Stored) (w : Stored) (ss ts : List Short) (at : ℕ) → us ≡ ws ++ w ∷ [] → ts ≡ ss ++ Whole at ∷ [] → at ≡ length ws → PlacesWithin (length ws) ss
    → map (made_of ws) ss ≡ items → map (made_of us) ts ≡ items ++ w ∷ []
made_whole ws us items w ss ts at kept put e h all = rw (kept, put, ← all) (
    map_push (made_of (ws ++ w ∷ [])) ss (Whole at)
    ∙ ap (λ (xs : List Stored). xs ++ made_of (ws ++ w ∷ []) (Whole at) ∷ []) (made_more ws w ss h)
    ∙ ap (λ (v : Stored). map (made_of ws) ss ++ v ∷ []) (get_or_push ws w (nobodys (call.Tick 0)) at (sym e)))

is_place_within : (n place : ℕ) (s : Short) → IsWithin n s → IsPlace place s → place < n
is_place_within n place (Pump station to) h p = absurd p
is_place_within n place (Transmit station) h p = absurd p
is_place_within n place (Take station room) h p = absurd p
is_place_within n place (TakeAgain station room) h p = absurd p
is_place_within n place (Tick k) h p = absurd p
is_place_within n place (Fire station) h p = absurd p
is_place_within n place (Whole at) h p = omega (arith, h, p)

within_at : (n : ℕ) (ss : List Short) (i : ℕ) (d : Short) → PlacesWithin n ss → i < length ss → IsWithin n (get_or ss i d)
within_at n [] i d h l = absurd (omega arith)
within_at n (s ∷ ss) zero d h l = h.0
within_at n (s ∷ ss) (suc i) d h l = within_at n ss i d h.1 (omega arith)

-- the place that stands at i
pub place_within : (n : ℕ) (ss : List Short) (i place : ℕ) (s : Short) → PlacesWithin n ss → i < length ss → s ≡ get_or ss i s → IsPlace place s → place < n
place_within n ss i place s h l e p = is_place_within n place s (subst (λ (v : Short). IsWithin n v) (sym e) (within_at n ss i s h l)) p

made_at_place : (ws : List Stored) (place : ℕ) (s : Short) → IsPlace place s → made_of ws s ≡ get_or ws place (nobodys (call.Tick 0))
made_at_place ws place (Pump station to) p = absurd p
made_at_place ws place (Transmit station) p = absurd p
made_at_place ws place (Take station room) p = absurd p
made_at_place ws place (TakeAgain station room) p = absurd p
made_at_place ws place (Tick k) p = absurd p
made_at_place ws place (Fire station) p = absurd p
made_at_place ws place (Whole at) p = ap (λ (k : ℕ). get_or ws k (nobodys (call.Tick 0))) (sym p)

-- a place among the calls is one among the short forms
pub within_shorts : (ws items : List Stored) (ss : List Short) (i : ℕ) → map (made_of ws) ss ≡ items → i < length items → i < length ss
within_shorts ws items ss i e l = let a = ap (λ (xs : List Stored). length xs) e in let b = length-map ss (made_of ws) in omega (arith, a, b, l)

-- the call at i, by its place
pub whole_at : (ws items : List Stored) (ss : List Short) (i place : ℕ) (s : Short) (w : Stored) → map (made_of ws) ss ≡ items → i < length ss → PlacesWithin (length ws) ss
    → s ≡ get_or ss i s → IsPlace place s → w ≡ get_or ws place w → (x : Stored) → w ≡ get_or items i x
whole_at ws items ss i place s w all l h e p is x =
    let there = place_within (length ws) ss i place s h l e p in
    let made = made_at_place ws place s p ∙ get_or_default ws place (nobodys (call.Tick 0)) w there ∙ sym is in
    sym made ∙ ap (made_of ws) e ∙ sym (get_or-map (made_of ws) ss i s x l) ∙ ap (λ (xs : List Stored). get_or xs i x) all
