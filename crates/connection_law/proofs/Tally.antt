-- How the numbers of a lane go on, reply by reply: a reply that gives a message adds the number of that message.
use Rattle.std.proofs.Common.{◌≡◌, ℕ, suc, ◌+◌, ◌<◌, ◌≤◌, List, [], ◌∷◌, ◌++◌, map, length, Some, refl, sym, ap, ◌∙◌, subst, arith, append-nil}
use Rattle.std.specs.List.{AllZip}
use Rattle.std.proofs.lemmas.List.{map-append}
use Rattle.segment_law.specs.Told.{Message, Placed, AtPort, items_of}
use Rattle.segment_law.specs.Numbering.{item}
use Rattle.record_law.proofs.Lists.{each_weaker, Each, each_append, each_map, each_of_all}
use Rattle.record_law.proofs.Told.{after_all}
use Rattle.broadcast_law.proofs.Numbered.{Giving, all_at_ports, IsFit, IsEarly}
use Rattle.broadcast_law.proofs.Counted.{at_step, giving, early_more, fits_more, all_at_more}
use Rattle.broadcast_law.proofs.Ports.{Distinct}

fits_one : (sent : List Message) (ns : List ℕ) (gs : List Giving) (n : ℕ) (g : Giving) → AllZip (IsFit sent) ns gs → IsFit sent n g → AllZip (IsFit sent) (ns ++ n ∷ []) (gs ++ g ∷ [])
fits_one sent [] [] n g h k = (k, tt)
fits_one sent [] (f ∷ gs) n g h k = absurd h
fits_one sent (m ∷ ns) [] n g h k = absurd h
fits_one sent (m ∷ ns) (f ∷ gs) n g h k = (h.0, fits_one sent ns gs n g h.1 k)

-- so many steps sent and gave this, under these numbers
pub record Tally (sends : List (Placed Message)) (steps : ℕ) (givens : List (Placed AtPort)) (numbers : List ℕ) (gs : List Giving) : Type 0 where
  pub told : givens ≡ all_at_ports gs
  pub distinct : Each (λ (g : Giving). Distinct g.ports) gs
  pub early : Each (IsEarly sends) gs
  pub past : Each (λ (x : Placed Message). x.0 ≤ steps) sends
  pub fits : AllZip (IsFit (items_of sends)) numbers gs

pub tally_none : Tally [] 0 [] [] []
tally_none = record { told = refl; distinct = tt; early = tt; past = tt; fits = tt }

pub tally_sent : (sends : List (Placed Message)) (steps : ℕ) (givens : List (Placed AtPort)) (numbers : List ℕ) (gs : List Giving) (more : List Message) → Tally sends steps givens numbers gs → Tally (sends ++ at_step steps more) (steps + 1) (givens ++ []) numbers gs
tally_sent sends steps givens numbers gs more h = record {
  told = append-nil givens ∙ h.told;
  distinct = h.distinct;
  early = each_weaker (IsEarly sends) (IsEarly (sends ++ at_step steps more)) (early_more sends (at_step steps more)) gs h.early;
  past = each_append (λ (x : Placed Message). x.0 ≤ steps + 1) sends (at_step steps more)
      (each_weaker (λ (x : Placed Message). x.0 ≤ steps) (λ (x : Placed Message). x.0 ≤ steps + 1) (λ x l. omega (arith, l)) sends h.past)
      (each_map (λ (x : Placed Message). x.0 ≤ steps + 1) (λ x. (1 + steps, x)) more (each_of_all (λ x. 1 + steps ≤ steps + 1) (λ x. omega arith) more));
  fits = subst (λ xs. AllZip (IsFit xs) numbers gs) (sym (map-append (λ (x : Placed Message). x.1) sends (at_step steps more))) (fits_more (items_of sends) (items_of (at_step steps more)) numbers gs h.fits);
}

pub as_long : (xs : List (Placed Message)) → length (items_of xs) ≡ length xs
as_long [] = refl
as_long (x ∷ xs) = ap (λ n. suc n) (as_long xs)

-- a message is given at ports, under a number of what had been sent
pub tally_given : (sends : List (Placed Message)) (steps : ℕ) (givens : List (Placed AtPort)) (numbers : List ℕ) (gs : List Giving) (ports : List ℕ) (m : Message) (n count : ℕ) → Tally sends steps givens numbers gs → Distinct ports → item (items_of sends) n ≡ Some m → n ≤ count → count ≤ length sends
    → Tally (sends ++ []) (steps + 1) (givens ++ at_step {A = AtPort} steps (map (λ k. (k, m)) ports)) (numbers ++ n ∷ []) (gs ++ giving steps ports m count ∷ [])
tally_given sends steps givens numbers gs ports m n count h d e l within = subst (λ xs. Tally xs (steps + 1) (givens ++ at_step {A = AtPort} steps (map (λ k. (k, m)) ports)) (numbers ++ n ∷ []) (gs ++ new ∷ [])) (sym (append-nil sends)) (record {
  told = (λ i. h.told i ++ each_at ports i) ∙ all_at_more gs new;
  distinct = each_append (λ (g : Giving). Distinct g.ports) gs (new ∷ []) h.distinct (d, tt);
  early = each_append (IsEarly sends) gs (new ∷ []) h.early (λ k some c. after_all sends k (1 + steps) past some (omega (arith, c, within)), tt);
  past = each_weaker (λ (x : Placed Message). x.0 ≤ steps) (λ (x : Placed Message). x.0 ≤ steps + 1) (λ x l. omega (arith, l)) sends h.past;
  fits = fits_one (items_of sends) numbers gs n new h.fits (record { was_sent = e; before = l });
})
  where
    new : Giving
    new = giving steps ports m count

    past : Each (λ (x : Placed Message). x.0 < 1 + steps) sends
    past = each_weaker (λ (x : Placed Message). x.0 ≤ steps) (λ (x : Placed Message). x.0 < 1 + steps) (λ x l. omega (arith, l)) sends h.past

    each_at : (ks : List ℕ) → at_step {A = AtPort} steps (map (λ k. (k, m)) ks) ≡ map (λ k. (1 + steps, (k, m))) ks
    each_at [] = refl
    each_at (k ∷ ks) = ap (λ xs. (1 + steps, (k, m)) ∷ xs) (each_at ks)
