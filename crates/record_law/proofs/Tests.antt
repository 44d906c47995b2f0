-- A goal that hangs on a test or on an option is shown for each value of it.
use Rattle.std.proofs.Common.{◌≡◌, ◌⊎◌, inl, inr, ℕ, ◌==◌, Bool, true, false, cond, not, Option, Some, None, refl, eqb-true}
use Rattle.std.proofs.lemmas.Bool.{eqb-false}

-- a goal by the value of a test in it
pub on_test : (P : Bool → Type 0) (b : Bool) → (b ≡ true → P true) → (b ≡ false → P false) → P b
on_test P true t f = t refl
on_test P false t f = f refl

-- either way
pub either : {A : Type 0} (P : A → Type 0) (b : Bool) (x y : A) → P x → P y → P (cond b x y)
either P true x y h k = h
either P false x y h k = k

pub by_option : {A B : Type 0} (P : B → Type 0) (o : Option A) (x : B) (y : A → B) → P x → ((z : A) → P (y z)) → P (elim o [ None ↦ x | Some z ↦ y z ])
by_option P None x y h k = h
by_option P (Some z) x y h k = k z

-- a test passes whose opposite fails
pub not_fails : (b : Bool) → not b ≡ false → b ≡ true
not_fails true e = refl
not_fails false e = absurd (cc)

pub equal_or_not : (i j : ℕ) → (i ≡ j) ⊎ (i ≡ j → ⊥)
equal_or_not i j = on_test (λ b. (i == j) ≡ b → (i ≡ j) ⊎ (i ≡ j → ⊥)) (i == j) (λ _ e. inl (eqb-true i j e)) (λ _ e. inr (eqb-false i j e)) refl
