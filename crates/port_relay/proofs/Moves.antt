-- Each move keeps the rule of the line.
use Rattle.std.proofs.Common.{◌≡◌, ◌≢◌, ℕ, zero, suc, ◌+◌, ◌<◌, ◌≤◌, true, false, true≢false, List, [], ◌∷◌, ◌++◌, length, set, sym, refl, ap, ◌∙◌, subst, ⊎_elim, append_assoc, length-append, arith}
use mathlib.Core.Option.{some, some-ne-none}
use lib.ListN.{get_elem?}
use Rattle.crossbeam_channel.specs.Fifo.{Pushes, Pops, Forks, Merges, Learns}
use Rattle.atomic_table.proofs.Lists.{at_set, at_snoc}
use Rattle.segment_rings.specs.declared.words.Delivery.{Delivery}
use Rattle.port_relay.specs.declared.line.TheConstants.{LINE_PLACES}
use Rattle.port_relay.specs.declared.line.Log.{Log}
use Rattle.port_relay.specs.Line.{log, Fits, KeepsOrder}

at_end : (l : List Log) (a b : Log) (j : ℕ) → get_elem? l j ≢ some b → get_elem? (l ++ a ∷ []) j ≡ some b → j ≡ length l
at_end [] a b zero n e = refl
at_end [] a b (suc j) n e = absurd (some-ne-none b (sym e))
at_end (x ∷ xs) a b zero n e = absurd (n e)
at_end (x ∷ xs) a b (suc j) n e = ap suc (at_end xs a b j n e)

abbrev Each : (ℕ → Log → Type 0) → List Log → Type 0
Each F views = (pass : ℕ) (v : Log) → get_elem? views pass ≡ some v → F pass v

each_set : (F : ℕ → Log → Type 0) (views : List Log) (pass : ℕ) (w : Log) → F pass w → ((j : ℕ) (u : Log) → j ≢ pass → get_elem? views j ≡ some u → F j u) → Each F (set views pass w)
each_set F views pass w mine others j u e = ⊎_elim (λ (x : (j ≡ pass) × (w ≡ u)). subst (λ (y : ℕ × Log). F y.0 y.1) (λ i. (sym x.0 i, x.1 i)) mine)
    (λ (x : (j ≢ pass) × (get_elem? views j ≡ some u)). others j u x.0 x.1) (at_set views pass j w u e)

pub begins : KeepsOrder [] (log true true [] [] ∷ [])
begins = (0, 0, [], [], omega arith, refl, each_set (Fits 0 0 [] []) (log true true [] [] ∷ []) 0 (log true true [] []) ((λ _. (refl, refl)), λ _. (refl, refl)) (λ j u other e. absurd (other (at_end [] _ u j (λ x. some-ne-none u (sym x)) e))))

one_more : (items : List Delivery) (x : Delivery) → length items < LINE_PLACES → length (items ++ x ∷ []) ≤ LINE_PLACES
one_more items x few = omega (arith, length-append items (x ∷ []))

pub puts_one : (n pass : ℕ) (v : Log) (x : Delivery) → n ≡ LINE_PLACES → v.puts ≡ true → Pushes KeepsOrder n pass v x (λ w. w ≡ log v.puts v.takes (v.put ++ x ∷ []) v.taken)
puts_one n pass v x places may items views room h at = let w : Log = log v.puts v.takes (v.put ++ x ∷ []) v.taken in let mine = h.6 pass v at in let put = h.2 ++ x ∷ [] in (
  w,
  (
    h.0,
    h.1,
    put,
    h.3,
    one_more items x (omega (arith, room, places)),
    ap (λ l. l ++ x ∷ []) h.5 ∙ append_assoc h.3 items (x ∷ []),
    each_set (Fits h.0 h.1 put h.3) views pass w ((λ _. ((mine.0 may).0, ap (λ l. l ++ x ∷ []) (mine.0 may).1)), mine.1)
        (λ j u other e. ((λ p. absurd (other (((h.6 j u e).0 p).0 ∙ sym (mine.0 may).0))), (h.6 j u e).1)),
  ),
  refl,
)

fewer : (x : Delivery) (items : List Delivery) → length (x ∷ items) ≤ LINE_PLACES → length items ≤ LINE_PLACES
fewer x items few = omega (arith, few)

behind : (put taken items : List Delivery) (x : Delivery) → put ≡ taken ++ x ∷ items → length taken < length put
behind put taken items x e = omega (arith, ap length e, length-append taken (x ∷ items))

pub takes_one : (pass : ℕ) (v : Log) → v.takes ≡ true
    → Pops KeepsOrder pass v (λ x w. (w ≡ log v.puts v.takes v.put (v.taken ++ x ∷ [])) × (v.puts ≡ true → v.takes ≡ true → length v.taken < length v.put))
takes_one pass v may x items views h at = let w : Log = log v.puts v.takes v.put (v.taken ++ x ∷ []) in let mine = h.6 pass v at in let taken = h.3 ++ x ∷ [] in (
  w,
  (
    h.0,
    h.1,
    h.2,
    taken,
    fewer x items h.4,
    h.5 ∙ sym (append_assoc h.3 (x ∷ []) items),
    each_set (Fits h.0 h.1 h.2 taken) views pass w (mine.0, λ _. ((mine.1 may).0, ap (λ l. l ++ x ∷ []) (mine.1 may).1))
        (λ j u other e. ((h.6 j u e).0, λ p. absurd (other (((h.6 j u e).1 p).0 ∙ sym (mine.1 may).0)))),
  ),
  (refl, λ a b. behind v.put v.taken items x ((mine.0 a).1 ∙ h.5 ∙ ap (λ l. l ++ x ∷ items) (sym (mine.1 b).1))),
)

pub forks : (pass : ℕ) (v : Log) → v.puts ≡ true → v.takes ≡ true → Forks KeepsOrder pass v (log true false v.put []) (log false true [] v.taken)
forks pass v a b items views h at = let l : Log = log true false v.put [] in let r : Log = log false true [] v.taken in let mine = h.6 pass v at in let vs : List Log = set views pass l in
    let Old : ℕ → Log → Type 0 = λ j u. (u.puts ≡ true → (j ≡ h.0) × (u.put ≡ h.2)) × (u.takes ≢ true) in
    let old : Each Old vs = each_set Old views pass l ((λ _. mine.0 a), λ p. true≢false (sym p)) (λ j u other e. ((h.6 j u e).0, λ p. other (((h.6 j u e).1 p).0 ∙ sym (mine.1 b).0))) in (
      h.0,
      length vs,
      h.2,
      h.3,
      h.4,
      h.5,
      λ j u e. ⊎_elim (λ x. ((old j u x).0, λ p. absurd ((old j u x).1 p)))
          (λ (is : r ≡ u). ((λ p. absurd (true≢false (sym (ap (λ (y : Log). y.puts) is ∙ p)))), λ p. (at_end vs r u j (λ x. (old j u x).1 p) e, ap (λ (y : Log). y.taken) (sym is) ∙ (mine.1 b).1))) (at_snoc vs r u j e),
    )

pub merges : (pass : ℕ) (v : Log) (other : ℕ) (u : Log) → v.puts ≡ true → u.takes ≡ true → Merges KeepsOrder pass v other u (log true true v.put u.taken) (log false false [] [])
merges pass v other u a b items views h at two at' = let both : Log = log true true v.put u.taken in let mine = h.6 pass v at in let vs : List Log = set views pass both in
    let was : get_elem? views other ≡ some u = ⊎_elim (λ x. absurd (two x.0)) (λ x. x.1) (at_set views pass other both u at') in let theirs = (h.6 other u was).1 b in
    let Now : ℕ → Log → Type 0 = λ j y. j ≢ other → Fits h.0 pass h.2 h.3 j y in
    let now : Each Now vs = each_set Now views pass both (λ _. ((λ _. mine.0 a), λ _. (refl, theirs.1))) (λ j y _ e apart. ((h.6 j y e).0, λ p. absurd (apart (((h.6 j y e).1 p).0 ∙ sym theirs.0)))) in
    (h.0, pass, h.2, h.3, h.4, h.5, each_set (Fits h.0 pass h.2 h.3) vs other (log false false [] []) ((λ p. absurd (true≢false (sym p))), λ p. absurd (true≢false (sym p))) (λ j y apart e. now j y e apart))

pub holds_the_rest : (pass : ℕ) (v : Log) → v.puts ≡ true → v.takes ≡ true → Learns KeepsOrder pass v (λ items. (length items ≤ LINE_PLACES) × (v.put ≡ v.taken ++ items))
holds_the_rest pass v a b items views h at = let mine = h.6 pass v at in (h.4, (mine.0 a).1 ∙ h.5 ∙ ap (λ l. l ++ items) (sym (mine.1 b).1))

pub holds_few : (put taken items : List Delivery) → length items ≤ LINE_PLACES → put ≡ taken ++ items → length put ≤ length taken + LINE_PLACES
holds_few put taken items few e = omega (arith, ap length e, length-append taken items, few)
