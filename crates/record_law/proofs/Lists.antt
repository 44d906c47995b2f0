-- Lists each or some of whose items pass, by recursion on the list, so that what lists are made of shows it item by item.
use Rattle.std.proofs.Common.{◌≡◌, ◌⊎◌, inl, inr, ℕ, zero, suc, ◌-◌, take, ap, ◌∙◌, ◌<◌, Bool, true, cond, List, [], ◌∷◌, ◌++◌, filter, map, length, Some, refl, sym, subst, arith}
use Rattle.std.specs.Prelude.{All, Any, slice_get, slice_index_or}
use Rattle.std.proofs.lemmas.List.Elements.{All-head, All-tail, All-nil, All-cons}
use Rattle.std.proofs.lemmas.Option.{same_Some, none-some}
use Rattle.record_law.proofs.Tests.{on_test}

-- Each item

abbrev pub Each : {A : Type 0} → (A → Type 0) → List A → Type 0
Each P [] = Unit {0}
Each P (x ∷ xs) = P x × Each P xs

pub each_append : {A : Type 0} (P : A → Type 0) (xs ys : List A) → Each P xs → Each P ys → Each P (xs ++ ys)
each_append P [] ys h k = k
each_append P (x ∷ xs) ys h k = (h.0, each_append P xs ys h.1 k)

pub each_filter : {A : Type 0} (P : A → Type 0) (keep : A → Bool) (xs : List A) → Each P xs → Each P (filter keep xs)
each_filter P keep [] h = tt
each_filter P keep (x ∷ xs) h = on_test (λ b. Each P (cond b (x ∷ filter keep xs) (filter keep xs))) (keep x) (λ e. (h.0, each_filter P keep xs h.1)) (λ e. each_filter P keep xs h.1)

-- what is kept passes the test
pub each_kept : {A : Type 0} (P : A → Type 0) (keep : A → Bool) → ((x : A) → keep x ≡ true → P x) → (xs : List A) → Each P (filter keep xs)
each_kept P keep w [] = tt
each_kept P keep w (x ∷ xs) = on_test (λ b. keep x ≡ b → Each P (cond b (x ∷ filter keep xs) (filter keep xs))) (keep x) (λ _ e. (w x e, each_kept P keep w xs)) (λ _ e. each_kept P keep w xs) refl

pub each_map : {A B : Type 0} (P : B → Type 0) (f : A → B) (xs : List A) → Each (λ x. P (f x)) xs → Each P (map f xs)
each_map P f [] h = tt
each_map P f (x ∷ xs) h = (h.0, each_map P f xs h.1)

pub each_weaker : {A : Type 0} (P Q : A → Type 0) → ((x : A) → P x → Q x) → (xs : List A) → Each P xs → Each Q xs
each_weaker P Q w [] h = tt
each_weaker P Q w (x ∷ xs) h = (w x h.0, each_weaker P Q w xs h.1)

pub each_both : {A : Type 0} (P Q R : A → Type 0) → ((x : A) → P x → Q x → R x) → (xs : List A) → Each P xs → Each Q xs → Each R xs
each_both P Q R w [] h k = tt
each_both P Q R w (x ∷ xs) h k = (w x h.0 k.0, each_both P Q R w xs h.1 k.1)

pub each_all : {A : Type 0} (P : A → Type 0) (xs : List A) → Each P xs → All P xs
each_all P [] h = All-nil P
each_all P (x ∷ xs) h = All-cons P x xs h.0 (each_all P xs h.1)

pub all_each : {A : Type 0} (P : A → Type 0) (xs : List A) → All P xs → Each P xs
all_each P [] h = tt
all_each P (x ∷ xs) h = (All-head P x xs h, all_each P xs (All-tail P x xs h))

pub each_of_all : {A : Type 0} (P : A → Type 0) → ((x : A) → P x) → (xs : List A) → Each P xs
each_of_all P w [] = tt
each_of_all P w (x ∷ xs) = (w x, each_of_all P w xs)

pub each_get : {A : Type 0} (P : A → Type 0) (xs : List A) (n : ℕ) (x : A) → slice_get xs n ≡ Some x → Each P xs → P x
each_get P [] n x e h = absurd (none-some x e)
each_get P (y ∷ ys) zero x e h = subst P (same_Some y x e) h.0
each_get P (y ∷ ys) (suc n) x e h = each_get P ys n x e h.1

-- Some item

abbrev pub In : {A : Type 0} → (A → Type 0) → List A → Type 0
In P [] = ⊥
In P (x ∷ xs) = P x ⊎ In P xs

module _ {A : Type 0} (P : A → Type 0) where
  pub in_front : (xs ys : List A) → In P xs → In P (xs ++ ys)
  in_front [] ys h = absurd h
  in_front (x ∷ xs) ys (inl h) = inl h
  in_front (x ∷ xs) ys (inr h) = inr (in_front xs ys h)

  pub in_behind : (xs ys : List A) → In P ys → In P (xs ++ ys)
  in_behind [] ys h = h
  in_behind (x ∷ xs) ys h = inr (in_behind xs ys h)

  pub in_map : {B : Type 0} (f : B → A) (xs : List B) → In (λ x. P (f x)) xs → In P (map f xs)
  in_map f [] h = absurd h
  in_map f (x ∷ xs) (inl h) = inl h
  in_map f (x ∷ xs) (inr h) = inr (in_map f xs h)

  pub in_any : (xs : List A) → In P xs → Any P xs
  in_any [] h = absurd h
  in_any (x ∷ xs) (inl h) = (0, x, omega arith, refl, h)
  in_any (x ∷ xs) (inr h) = let a : Any P xs = in_any xs h in (suc a.0, a.1, omega (arith, a.2), a.3, a.4)

pub in_weaker : {A : Type 0} (P Q : A → Type 0) → ((x : A) → P x → Q x) → (xs : List A) → In P xs → In Q xs
in_weaker P Q w [] h = absurd h
in_weaker P Q w (x ∷ xs) (inl h) = inl (w x h)
in_weaker P Q w (x ∷ xs) (inr h) = inr (in_weaker P Q w xs h)

-- what some item passes and each item fulfils, some item does both
pub in_both : {A : Type 0} (P Q R : A → Type 0) → ((x : A) → P x → Q x → R x) → (xs : List A) → In P xs → Each Q xs → In R xs
in_both P Q R w [] h k = absurd h
in_both P Q R w (x ∷ xs) (inl h) k = inl (w x h k.0)
in_both P Q R w (x ∷ xs) (inr h) k = inr (in_both P Q R w xs h k.1)

-- and what follows of such an item holds
pub in_one : {A : Type 0} (P : A → Type 0) (R : Type 0) → ((x : A) → P x → R) → (xs : List A) → In P xs → R
in_one P R w [] h = absurd h
in_one P R w (x ∷ xs) (inl h) = w x h
in_one P R w (x ∷ xs) (inr h) = in_one P R w xs h

pub any_in : {A : Type 0} (P : A → Type 0) (xs : List A) → Any P xs → In P xs
any_in P xs (k, x, l, e, p) = at xs k l e
  where
    at : (ys : List _) (k : ℕ) → k < length ys → slice_index_or ys k x ≡ x → In P ys
    at [] k l e = absurd (omega (arith, l))
    at (y ∷ ys) zero l e = inl (subst P (sym e) p)
    at (y ∷ ys) (suc k) l e = inr (at ys k (omega (arith, l)) e)

-- the first n items of a list followed by another
pub take_more : (n : ℕ) (xs ys : List ℕ) → take n xs ++ take (n - length (take n xs)) ys ≡ take n (xs ++ ys)
take_more zero xs ys = refl
take_more (suc n) [] ys = let e : suc n - 0 ≡ suc n = omega arith in ap (λ k. take k ys) e
take_more (suc n) (x ∷ xs) ys =
    let e : suc n - suc (length (take n xs)) ≡ n - length (take n xs) = omega arith in
    ap (λ k. x ∷ (take n xs ++ take k ys)) e ∙ ap (λ zs. x ∷ zs) (take_more n xs ys)
