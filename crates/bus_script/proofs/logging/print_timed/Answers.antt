use Rattle.std.proofs.Common.{◌≡◌, ◌⊎◌, inl, inr, List, [], ◌∷◌, ◌++◌, length, refl, sym, ap, ◌∙◌, arith, append-nil, ⊎_elim}
use Rattle.std.specs.Prelude.{flat_map}
use Rattle.std.specs.List.{zip}
use Rattle.bus_script.specs.Telling.{put_at}
use Rattle.bus_script.proofs.logging.print_timed.Goals as goal

zip_none : {A B : Type 0} (xs : List A) (ys : List B) → (length xs ≡ 0) ⊎ (length ys ≡ 0) → zip xs ys ≡ []
zip_none [] ys h = refl
zip_none (x ∷ xs) [] h = refl
zip_none (x ∷ xs) (y ∷ ys) (inl e) = absurd (omega (arith, e))
zip_none (x ∷ xs) (y ∷ ys) (inr e) = absurd (omega (arith, e))

pub returns : goal.returns
returns c = sym (append-nil c.loop-now.log.items)
    ∙ ap (λ xs. c.loop-now.log.items ++ flat_map put_at xs) (sym (zip_none c.loop-now.now-iterator.a.rest.now c.loop-now.now-iterator.b.rest.now (⊎_elim (λ p. inl p.1.0) (λ p. inr p.1.0) c.in-None.ensures.steps)))
    ∙ c.loop-now.invariant
