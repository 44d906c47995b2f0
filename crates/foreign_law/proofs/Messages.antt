-- What a station was given stays put together, and apart, when one more call gives a message or none.
use Rattle.std.proofs.Common.{◌≡◌, ◌⊎◌, inl, inr, ℕ, ◌+◌, ◌<◌, ◌≤◌, ◌==◌, cond, List, [], ◌++◌, sym, ap, ◌∙◌, subst, arith, eq-eqb, ne_eqb, ⊎_elim}
use Rattle.std.specs.Prelude.{Contains}
use Rattle.std.proofs.lemmas.List.Elements.{Contains-append_cases}
use Rattle.pgn_ids.specs.declared.address.Address.{Address}
use Rattle.segment_law.specs.Told.{Placed}
use Rattle.foreign_law.specs.Taken.{Seen, Message}
use Rattle.foreign_law.specs.Assembled.{IsAssembled, AreOfOneKind, AreAssembled}
use Rattle.foreign_law.proofs.Later.{AreNext, assembled_on}
use Rattle.foreign_law.proofs.Sessions.{in_none, IsOne}

module _ (a : Address) (n : ℕ) (taken more : List (Placed Seen)) (next : AreNext n taken more) (given : List (Placed Message)) (ended : (g : Placed Message) → Contains given g → g.0 ≤ n) (h : AreAssembled taken given) where
  abbrev all : List (Placed Seen)
  all = taken ++ more

  -- none more
  old_alone : (g : Placed Message) → Contains (given ++ []) g → Contains given g
  old_alone g c = ⊎_elim (λ (old : Contains given g). old) (λ (new : Contains [] g). absurd (in_none g new)) (Contains-append_cases given [] g c)

  with_none : AreAssembled all (given ++ [])
  with_none = record {
    opening = h.opening;
    each = λ g c. assembled_on n taken more next (h.opening g.0) g (ended g (old_alone g c)) (h.each g (old_alone g c));
    apart = λ g k c d same l. h.apart g k (old_alone g c) (old_alone k d) same l;
    one = λ g k c d e. h.one g k (old_alone g c) (old_alone k d) e;
  }

  -- one message more, at one port or several
  module _ (gs : List (Placed Message)) (it : IsOne a n taken more given gs) where
    abbrev opening : ℕ → ℕ
    opening place = cond (place == n + 1) it.opening (h.opening place)

    opening_before : (place : ℕ) → place ≤ n → opening place ≡ h.opening place
    opening_before place l = ap (λ b. cond b it.opening (h.opening place)) (ne_eqb place (n + 1) (λ e. omega (arith, e, l)))

    opening_now : (place : ℕ) → place ≡ n + 1 → opening place ≡ it.opening
    opening_now place e = ap (λ b. cond b it.opening (h.opening place)) (eq-eqb place (n + 1) e)

    new_place : (g : Placed Message) → Contains gs g → g.0 ≡ n + 1
    new_place g c = ap (λ (x : Placed Message). x.0) (it.same g c)

    each_is : (g : Placed Message) → Contains given g ⊎ Contains gs g → IsAssembled all (opening g.0) g
    each_is g (inl old) = subst (λ o. IsAssembled all o g) (sym (opening_before g.0 (ended g old))) (assembled_on n taken more next (h.opening g.0) g (ended g old) (h.each g old))
    each_is g (inr new) = subst (λ o. IsAssembled all o g) (sym (opening_now g.0 (new_place g new))) (subst (λ (x : Placed Message). IsAssembled all it.opening x) (sym (it.same g new)) it.assembled)

    apart_are : (g k : Placed Message) → Contains given g ⊎ Contains gs g → Contains given k ⊎ Contains gs k → AreOfOneKind g.1 k.1 → g.0 < k.0 → g.0 < opening k.0
    apart_are g k (inl c) (inl d) same l = subst (λ o. g.0 < o) (sym (opening_before k.0 (ended k d))) (h.apart g k c d same l)
    apart_are g k (inl c) (inr d) same l = subst (λ o. g.0 < o) (sym (opening_now k.0 (new_place k d)))
        (it.apart g c (subst (λ (x : Placed Message). AreOfOneKind g.1 x.1) (it.same k d) same))
    apart_are g k (inr c) (inl d) same l = absurd (let e : g.0 ≡ n + 1 = new_place g c in let b : k.0 ≤ n = ended k d in omega (arith, e, b, l))
    apart_are g k (inr c) (inr d) same l = absurd (let e : g.0 ≡ n + 1 = new_place g c in let f : k.0 ≡ n + 1 = new_place k d in omega (arith, e, f, l))

    one_is : (g k : Placed Message) → Contains given g ⊎ Contains gs g → Contains given k ⊎ Contains gs k → g.0 ≡ k.0 → g.1 ≡ k.1
    one_is g k (inl c) (inl d) e = h.one g k c d e
    one_is g k (inl c) (inr d) e = absurd (let b : g.0 ≤ n = ended g c in let f : k.0 ≡ n + 1 = new_place k d in omega (arith, b, f, e))
    one_is g k (inr c) (inl d) e = absurd (let b : k.0 ≤ n = ended k d in let f : g.0 ≡ n + 1 = new_place g c in omega (arith, b, f, e))
    one_is g k (inr c) (inr d) e = ap (λ (x : Placed Message). x.1) (it.same g c) ∙ sym (ap (λ (x : Placed Message). x.1) (it.same k d))

    with_one : AreAssembled all (given ++ gs)
    with_one = record {
      opening = opening;
      each = λ g c. each_is g (Contains-append_cases given gs g c);
      apart = λ g k c d same l. apart_are g k (Contains-append_cases given gs g c) (Contains-append_cases given gs k d) same l;
      one = λ g k c d e. one_is g k (Contains-append_cases given gs g c) (Contains-append_cases given gs k d) e;
    }

  pub still_assembled : (gs : List (Placed Message)) → (gs ≡ []) ⊎ IsOne a n taken more given gs → AreAssembled all (given ++ gs)
  still_assembled gs (inl none) = subst (λ xs. AreAssembled all (given ++ xs)) (sym none) with_none
  still_assembled gs (inr it) = with_one gs it

  pub still_ended : (gs : List (Placed Message)) → (gs ≡ []) ⊎ IsOne a n taken more given gs → (g : Placed Message) → Contains (given ++ gs) g → g.0 ≤ n + 1
  still_ended gs gives g c = ⊎_elim (λ (old : Contains given g). let b : g.0 ≤ n = ended g old in omega (arith, b)) (λ (new : Contains gs g). by gives new) (Contains-append_cases given gs g c)
    where
      by : (gs ≡ []) ⊎ IsOne a n taken more given gs → Contains gs g → g.0 ≤ n + 1
      by (inl none) new = absurd (in_none g (subst (λ xs. Contains xs g) none new))
      by (inr it) new = let e : g.0 ≡ n + 1 = new_place gs it g new in omega (arith, e)
