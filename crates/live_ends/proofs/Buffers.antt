-- Buffers that are used.
use Rattle.std.proofs.Common.{◌≡◌, ℕ, ◌+◌, ◌≤◌, List, ◌∷◌, ◌++◌, length, ap, ◌∙◌, subst, arith, length-append, []}
use Rattle.pgn_ids.specs.declared.address.Address.{Address}
use Rattle.port_table.specs.declared.port.PortId.{PortId}
use Rattle.message_events.specs.declared.event.Event.{Event}
use Rattle.message_events.specs.declared.event.Event.TheVariants as event
use Rattle.live_ends.specs.Places.{AtLeast, EnoughFor}

pub at_least_push : (n : ℕ) (xs : List ℕ) (y : ℕ) → AtLeast n xs → n ≤ y → AtLeast n (xs ++ y ∷ [])
at_least_push n [] y h l = (l, tt)
at_least_push n (x ∷ xs) y h l = (h.0, at_least_push n xs y h.1 l)

pub at_least_last : (n : ℕ) (xs : List ℕ) (y : ℕ) → AtLeast n (xs ++ y ∷ []) → AtLeast n xs × (n ≤ y)
at_least_last n [] y h = (tt, h.0)
at_least_last n (x ∷ xs) y h = let r = at_least_last n xs y h.1 in ((h.0, r.0), r.1)

pub popped_two : (n : ℕ) (es : List Event) (p : PortId) (f t : Address) (g : ℕ) (b : List ℕ) (all more rest : List ℕ) (x y : ℕ) → all ≡ more ++ x ∷ [] → more ≡ rest ++ y ∷ []
    → EnoughFor n (event.Given p f t g b ∷ es) all → EnoughFor n es rest × ((length b ≤ x) × (length b ≤ y))
popped_two n es p f t g b all more rest x y e d h =
    let a : AtLeast n more × (n ≤ x) = at_least_last n more x (subst (AtLeast n) e h.long) in
    let c : AtLeast n rest × (n ≤ y) = at_least_last n rest y (subst (AtLeast n) d a.0) in
    let l : length all ≡ length rest + 1 + 1 = ap length e ∙ length-append more (x ∷ []) ∙ ap (λ (k : ℕ). k + 1) (ap length d ∙ length-append rest (y ∷ [])) in
    let m : length b ≤ n = h.short.0 in
    (record { enough = omega (arith, h.enough, l); long = c.0; short = h.short.1 }, (omega (arith, m, a.1), omega (arith, m, c.1)))

pub enough-front : (n : ℕ) (e : Event) (es : List Event) (bs : List ℕ) → EnoughFor n (e ∷ es) bs → EnoughFor n (e ∷ []) bs
enough-front n (event.Given p f t g b) es bs h = record { enough = omega (arith, h.enough); long = h.long; short = (h.short.0, tt) }
enough-front n (event.Outcome f t k o) es bs h = record { enough = omega arith; long = h.long; short = (tt, tt) }
