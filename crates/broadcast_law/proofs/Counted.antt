-- How the numbers go on, reply by reply: where messages are sent they stay. Where one is given, each is the lower of what it was
-- and of what the choice at this place of the record has, so that it stays within what had been sent at its own reply.
use Rattle.std.proofs.Common.{◌≡◌, ◌⊎◌, inl, inr, ℕ, zero, suc, ◌+◌, ◌<◌, ◌≤◌, List, [], ◌∷◌, ◌++◌, map, length, Some, refl, sym, ap, ◌∙◌, subst, arith, append-nil, append_assoc}
use Rattle.std.specs.Prelude.{min, slice_get}
use Rattle.std.specs.List.{AllZip}
use Rattle.std.proofs.lemmas.List.{map-append}
use Rattle.segment_law.specs.Told.{Message, Placed, AtPort, items_of, places_of}
use Rattle.segment_law.specs.Numbering.{item, IsChoice, IsAfter}
use Rattle.record_law.proofs.Lists.{each_weaker, Each, each_append, each_map, each_of_all}
use Rattle.record_law.proofs.Told.{after_all, after_more, item_more}
use Rattle.broadcast_law.proofs.Numbered.{Giving, at_ports, all_at_ports, messages, Pairs, pairs_rising, IsFit, IsEarly, firsts, all_spread, AreNumbers, all_numbered}
use Rattle.broadcast_law.proofs.Ports.{Distinct}

-- the lower of each two numbers, and the rest of the second list
abbrev lower : List ℕ → List ℕ → List ℕ
lower [] ms = ms
lower (n ∷ ns) [] = []
lower (n ∷ ns) (m ∷ ms) = min n m ∷ lower ns ms

above_lower : (n m : ℕ) (ns ms : List ℕ) → Each (λ x. n < x) ns → Each (λ x. m < x) ms → Each (λ x. min n m < x) (lower ns ms)
above_lower n m [] ms h k = each_weaker (λ x. m < x) (λ x. min n m < x) (λ x l. omega (arith, l)) ms k
above_lower n m (x ∷ ns) [] h k = tt
above_lower n m (x ∷ ns) (y ∷ ms) h k = (omega (arith, h.0, k.0), above_lower n m ns ms h.1 k.1)

lower_rising : (ns ms : List ℕ) → Pairs (λ n m. n < m) ns → Pairs (λ n m. n < m) ms → Pairs (λ n m. n < m) (lower ns ms)
lower_rising [] ms h k = k
lower_rising (n ∷ ns) [] h k = tt
lower_rising (n ∷ ns) (m ∷ ms) h k = (above_lower n m ns ms h.0 k.0, lower_rising ns ms h.1 k.1)

lower_is : (n m : ℕ) → (min n m ≡ n) ⊎ (min n m ≡ m)
lower_is zero m = inl (omega arith)
lower_is (suc n) zero = inr (omega arith)
lower_is (suc n) (suc m) = by (lower_is n m)
  where
    by : (min n m ≡ n) ⊎ (min n m ≡ m) → (min (suc n) (suc m) ≡ suc n) ⊎ (min (suc n) (suc m) ≡ suc m)
    by (inl e) = inl (omega (arith, e))
    by (inr e) = inr (omega (arith, e))

fit_lower : (sent : List Message) (n m : ℕ) (g : Giving) → IsFit sent n g → item sent m ≡ Some g.message → IsFit sent (min n m) g
fit_lower sent n m g h e = record { was_sent = by (lower_is n m); before = omega (arith, h.before) }
  where
    by : (min n m ≡ n) ⊎ (min n m ≡ m) → item sent (min n m) ≡ Some g.message
    by (inl q) = ap (item sent) q ∙ h.was_sent
    by (inr q) = ap (item sent) q ∙ e

item_within : (sent : List Message) (n : ℕ) (m : Message) → item sent n ≡ Some m → n ≤ length sent
item_within sent zero m e = omega arith
item_within sent (suc n) m e = got sent n e
  where
    got : (xs : List Message) (k : ℕ) → slice_get xs k ≡ Some m → suc k ≤ length xs
    got [] k e = absurd (cc)
    got (x ∷ xs) zero e = omega arith
    got (x ∷ xs) (suc k) e = let l : suc k ≤ length xs = got xs k e in omega (arith, l)

lower_fits : (sent : List Message) (new : Giving) (ns ms : List ℕ) (gs : List Giving) → new.count ≡ length sent → AllZip (IsFit sent) ns gs → map (item sent) ms ≡ map Some (messages (gs ++ new ∷ [])) → AllZip (IsFit sent) (lower ns ms) (gs ++ new ∷ [])
lower_fits sent new [] [] [] c h e = absurd (cc)
lower_fits sent new [] (m ∷ []) [] c h e =
    let is : item sent m ≡ Some new.message = cc in
    (record { was_sent = is; before = let l : m ≤ length sent = item_within sent m new.message is in omega (arith, l, c) }, tt)
lower_fits sent new [] (m ∷ k ∷ ms) [] c h e = absurd (cc)
lower_fits sent new [] ms (g ∷ gs) c h e = absurd h
lower_fits sent new (n ∷ ns) ms [] c h e = absurd h
lower_fits sent new (n ∷ ns) [] (g ∷ gs) c h e = absurd (cc)
lower_fits sent new (n ∷ ns) (m ∷ ms) (g ∷ gs) c h e =
    let is : item sent m ≡ Some g.message = cc in
    let rest : map (item sent) ms ≡ map Some (messages (gs ++ new ∷ [])) = cc in
    (fit_lower sent n m g h.0 is, lower_fits sent new ns ms gs c h.1 rest)

-- what was sent

pub early_more : (sends more : List (Placed Message)) (g : Giving) → IsEarly sends g → IsEarly (sends ++ more) g
early_more sends more g h n some l = subst (λ xs. IsAfter (item xs n) g.place) (sym (map-append (λ (x : Placed Message). x.0) sends more)) (after_more (places_of sends) (places_of more) n g.place (h n some l))

pub fits_more : (sent more : List Message) (ns : List ℕ) (gs : List Giving) → AllZip (IsFit sent) ns gs → AllZip (IsFit (sent ++ more)) ns gs
fits_more sent more [] [] h = tt
fits_more sent more [] (g ∷ gs) h = absurd h
fits_more sent more (n ∷ ns) [] h = absurd h
fits_more sent more (n ∷ ns) (g ∷ gs) h = (record { was_sent = item_more sent more n g.message h.0.was_sent; before = h.0.before }, fits_more sent more ns gs h.1)

-- The steps of a record

-- so many steps sent and gave this; the replies that gave something have numbers
pub record Counted (sends : List (Placed Message)) (steps : ℕ) (givens : List (Placed AtPort)) (gs : List Giving) : Type 0 where
  pub told : givens ≡ all_at_ports gs
  pub distinct : Each (λ (g : Giving). Distinct g.ports) gs
  pub early : Each (IsEarly sends) gs
  pub past : Each (λ (x : Placed Message). x.0 ≤ steps) sends
  pub numbers : List ℕ
  pub fits : AllZip (IsFit (items_of sends)) numbers gs
  pub rising : Pairs (λ n m. n < m) numbers

pub counted_none : Counted [] 0 [] []
counted_none = record { told = refl; distinct = tt; early = tt; past = tt; numbers = []; fits = tt; rising = tt }

-- all that a step sends or gives stands at its place
abbrev pub at_step : {A : Type 0} → ℕ → List A → List (Placed A)
at_step {A} steps xs = map (λ (x : A). (1 + steps, x)) xs

pub counted_sent : (sends : List (Placed Message)) (steps : ℕ) (givens : List (Placed AtPort)) (gs : List Giving) (more : List Message) → Counted sends steps givens gs → Counted (sends ++ at_step steps more) (steps + 1) (givens ++ []) gs
counted_sent sends steps givens gs more h = record {
  told = append-nil givens ∙ h.told;
  distinct = h.distinct;
  early = each_weaker (IsEarly sends) (IsEarly (sends ++ at_step steps more)) (early_more sends (at_step steps more)) gs h.early;
  past = each_append (λ (x : Placed Message). x.0 ≤ steps + 1) sends (at_step steps more)
      (each_weaker (λ (x : Placed Message). x.0 ≤ steps) (λ (x : Placed Message). x.0 ≤ steps + 1) (λ x l. omega (arith, l)) sends h.past)
      (each_map (λ (x : Placed Message). x.0 ≤ steps + 1) (λ x. (1 + steps, x)) more (each_of_all (λ x. 1 + steps ≤ steps + 1) (λ x. omega arith) more));
  numbers = h.numbers;
  fits = subst (λ xs. AllZip (IsFit xs) h.numbers gs) (sym (map-append (λ (x : Placed Message). x.1) sends (at_step steps more))) (fits_more (items_of sends) (items_of (at_step steps more)) h.numbers gs h.fits);
  rising = h.rising;
}

abbrev pub giving : ℕ → List ℕ → Message → ℕ → Giving
giving steps ports message count = record { place = 1 + steps; ports = ports; message = message; count = count }

pub all_at_more : (gs : List Giving) (g : Giving) → all_at_ports gs ++ at_ports g ≡ all_at_ports (gs ++ g ∷ [])
all_at_more [] g = sym (append-nil (at_ports g))
all_at_more (h ∷ gs) g = append_assoc (at_ports h) (all_at_ports gs) (at_ports g) ∙ ap (λ xs. at_ports h ++ xs) (all_at_more gs g)

pub counted_given : (sends : List (Placed Message)) (steps : ℕ) (givens : List (Placed AtPort)) (gs : List Giving) (ports : List ℕ) (m : Message) → Counted sends steps givens gs → Distinct ports
    → IsChoice (messages (gs ++ giving steps ports m (length sends) ∷ [])) (items_of sends)
    → Counted (sends ++ []) (steps + 1) (givens ++ at_step {A = AtPort} steps (map (λ k. (k, m)) ports)) (gs ++ giving steps ports m (length sends) ∷ [])
counted_given sends steps givens gs ports m h d (ms, c) = subst (λ xs. Counted xs (steps + 1) (givens ++ at_step {A = AtPort} steps (map (λ k. (k, m)) ports)) (gs ++ new ∷ [])) (sym (append-nil sends)) (record {
  told = (λ i. h.told i ++ each_at ports i) ∙ all_at_more gs new;
  distinct = each_append (λ (g : Giving). Distinct g.ports) gs (new ∷ []) h.distinct (d, tt);
  early = each_append (IsEarly sends) gs (new ∷ []) h.early (λ n some l. after_all sends n (1 + steps) past some l, tt);
  past = each_weaker (λ (x : Placed Message). x.0 ≤ steps) (λ (x : Placed Message). x.0 ≤ steps + 1) (λ x l. omega (arith, l)) sends h.past;
  numbers = lower h.numbers ms;
  fits = lower_fits (items_of sends) new h.numbers ms gs (sym (as_long sends)) h.fits c.items;
  rising = lower_rising h.numbers ms h.rising (pairs_rising ms c.rising);
})
  where
    new : Giving
    new = giving steps ports m (length sends)

    past : Each (λ (x : Placed Message). x.0 < 1 + steps) sends
    past = each_weaker (λ (x : Placed Message). x.0 ≤ steps) (λ (x : Placed Message). x.0 < 1 + steps) (λ x l. omega (arith, l)) sends h.past

    each_at : (ks : List ℕ) → at_step {A = AtPort} steps (map (λ k. (k, m)) ks) ≡ map (λ k. (1 + steps, (k, m))) ks
    each_at [] = refl
    each_at (k ∷ ks) = ap (λ xs. (1 + steps, (k, m)) ∷ xs) (each_at ks)

    as_long : (xs : List (Placed Message)) → length (items_of xs) ≡ length xs
    as_long [] = refl
    as_long (x ∷ xs) = ap (λ n. suc n) (as_long xs)

pub counted_numbers : (sends : List (Placed Message)) (steps : ℕ) (givens : List (Placed AtPort)) (gs : List Giving) → Counted sends steps givens gs → (numbers : List ℕ) × AreNumbers sends givens numbers
counted_numbers sends steps givens gs h =
    (firsts (all_spread h.numbers gs), subst (λ xs. AreNumbers sends xs (firsts (all_spread h.numbers gs))) (sym h.told) (all_numbered sends h.numbers gs h.fits h.rising h.early h.distinct))
