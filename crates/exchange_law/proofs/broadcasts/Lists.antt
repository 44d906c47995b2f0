-- Lists that are mapped item by item: where one item alone has a test, to set it is to map it and leave the others.
use Rattle.std.proofs.Common.{◌≡◌, ℕ, zero, suc, Bool, true, false, cond, List, [], ◌∷◌, ◌++◌, set, Option, Some, None, refl, sym, ap, ◌∙◌, arith}
use Rattle.std.specs.Prelude.{All, map, slice_get, flat_map}
use Rattle.std.proofs.lemmas.List.Elements.{All-head, All-tail}

pub map_both : {X Y : Type 0} (P : X → Type 0) (g : Y → Y) (h : X → Y) (k : X → Y) → ((x : X) → P x → g (h x) ≡ k x) → (xs : List X) → All P xs → map g (map h xs) ≡ map k xs
map_both P g h k same [] all' = refl
map_both P g h k same (x ∷ xs) all' = (λ i. same x (All-head P x xs all') i ∷ map_both P g h k same xs (All-tail P x xs all') i)

pub flat_both : {X Y Z : Type 0} (P : X → Type 0) (g : Y → List Z) (h : X → Y) (k : X → List Z) → ((x : X) → P x → g (h x) ≡ k x) → (xs : List X) → All P xs → flat_map g (map h xs) ≡ flat_map k xs
flat_both P g h k same [] all' = refl
flat_both P g h k same (x ∷ xs) all' = (λ i. same x (All-head P x xs all') i ++ flat_both P g h k same xs (All-tail P x xs all') i)

pub flat_none : {X Z : Type 0} (xs : List X) → flat_map {A = Z} (λ _. []) xs ≡ []
flat_none [] = refl
flat_none (x ∷ xs) = flat_none xs

module _ {X Y : Type 0} (test : X → Bool) (y : Y) (g : X → Y) where
  pub none_where : (xs : List X) → ((j : ℕ) (x : X) → slice_get xs j ≡ Some x → test x ≡ false) → map g xs ≡ map (λ x. cond (test x) y (g x)) xs
  none_where [] fails = refl
  none_where (x ∷ xs) fails = (λ i. cond (sym (fails 0 x refl) i) y (g x) ∷ none_where xs (λ j z e. fails (suc j) z e) i)

  -- one element has the test
  pub set_where : (xs : List X) (i : ℕ) (z : X) → slice_get xs i ≡ Some z → test z ≡ true → ((j : ℕ) (x : X) → slice_get xs j ≡ Some x → test x ≡ true → j ≡ i) → set (map g xs) i y ≡ map (λ x. cond (test x) y (g x)) xs
  set_where [] i z at is only = refl
  set_where (x ∷ xs) zero z at is only =
      let same : test x ≡ true = ap (λ (o : Option X). elim o as (λ (_ : Option X). Bool) [ None ↦ true | Some w ↦ test w ]) at ∙ is in
      (λ i. cond (sym same i) y (g x) ∷ none_where xs (λ j w e. fails j w e (test w) refl) i)
    where
      fails : (j : ℕ) (w : X) → slice_get xs j ≡ Some w → (b : Bool) → test w ≡ b → b ≡ false
      fails j w e true t = absurd (let z : suc j ≡ 0 = only (suc j) w e t in omega (arith, z))
      fails j w e false t = refl
  set_where (x ∷ xs) (suc i) z at is only =
      let other : test x ≡ false = fails (test x) refl in
      (λ k. cond (sym other k) y (g x) ∷ set_where xs i z at is (λ j w e t. pred (only (suc j) w e t)) k)
    where
      fails : (b : Bool) → test x ≡ b → b ≡ false
      fails true t = absurd (let z : 0 ≡ suc i = only 0 x refl t in omega (arith, z))
      fails false t = refl

      pred : {j : ℕ} → suc j ≡ suc i → j ≡ i
      pred e = omega (arith, e)
