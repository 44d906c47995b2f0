-- Numbers of what a station was given over all its ports: one for each reply that gives a message, once for each of its ports.
use Rattle.std.proofs.Common.{◌≡◌, ◌⊎◌, inl, inr, ℕ, zero, suc, ◌+◌, ◌<◌, ◌≤◌, ◌==◌, Bool, cond, List, [], ◌∷◌, ◌++◌, map, filter, Some, refl, sym, ap, ◌∙◌, subst, arith, eqb-true}
use Rattle.std.specs.Prelude.{AllPairs, zip, slice_index_or}
use Rattle.std.specs.List.{AllZip}
use Rattle.std.specs.List.Sorted.{IsStrictlyIncreasing, IsNonDecreasing}
use Rattle.std.proofs.lemmas.Bool.{cases_eq}
use Rattle.std.proofs.lemmas.List.{map-append}
use Rattle.std.proofs.lemmas.List.Kept.{AllPairs-cons, AllPairs-from_increasing}
use Rattle.segment_law.specs.Told.{Message, Placed, AtPort, items_of, places_of}
use Rattle.segment_law.specs.Numbering.{item, IsNumbering, IsAfter, Numbered, part_of}
use Rattle.record_law.proofs.Lists.{Each, each_append, each_map, each_of_all, each_all, all_each, each_weaker}
use Rattle.record_law.proofs.Tests.{on_test}
use Rattle.broadcast_law.proofs.Ports.{Distinct}

-- a reply that gives a message at ports of a station, when so many messages had been sent
pub record Giving : Type 0 where
  pub place : ℕ
  pub ports : List ℕ
  pub message : Message
  pub count : ℕ

abbrev pub at_ports : Giving → List (Placed AtPort)
at_ports g = map (λ k. (g.place, (k, g.message))) g.ports

abbrev pub all_at_ports : List Giving → List (Placed AtPort)
all_at_ports [] = []
all_at_ports (g ∷ gs) = at_ports g ++ all_at_ports gs

abbrev pub messages : List Giving → List Message
messages gs = map (λ (g : Giving). g.message) gs

-- each port with the number of its reply
abbrev pub spread : ℕ → Giving → List Numbered
spread n g = map (λ k. (n, (g.place, (k, g.message)))) g.ports

abbrev pub all_spread : List ℕ → List Giving → List Numbered
all_spread [] gs = []
all_spread (n ∷ ns) [] = []
all_spread (n ∷ ns) (g ∷ gs) = spread n g ++ all_spread ns gs

-- Pairs

abbrev pub Pairs : {A : Type 0} → (A → A → Type 0) → List A → Type 0
Pairs R [] = Unit {0}
Pairs R (x ∷ xs) = Each (R x) xs × Pairs R xs

pub all_pairs : {A : Type 0} (R : A → A → Type 0) (xs : List A) → Pairs R xs → AllPairs R xs
all_pairs R [] h = λ i j d lt within. absurd (omega arith)
all_pairs R (x ∷ xs) h = AllPairs-cons R x xs (each_all (R x) xs h.0) (all_pairs R xs h.1)

pairs_of_all : {A : Type 0} (R : A → A → Type 0) (xs : List A) → AllPairs R xs → Pairs R xs
pairs_of_all R [] h = tt
pairs_of_all R (x ∷ xs) h = (
  all_each (R x) xs (λ k d within. h zero (suc k) d (omega arith) (omega arith)),
  pairs_of_all R xs (λ i j d lt within. h (suc i) (suc j) d (omega arith) (omega arith)),
)

pub pairs_rising : (ns : List ℕ) → IsStrictlyIncreasing ns → Pairs (λ n m. n < m) ns
pairs_rising ns h = pairs_of_all (λ n m. n < m) ns (AllPairs-from_increasing ns h)

pairs_more : {A : Type 0} (R S : A → A → Type 0) → ((x y : A) → R x y → S x y) → (xs : List A) → Pairs R xs → Pairs S xs
pairs_more R S w [] h = tt
pairs_more R S w (x ∷ xs) h = (each_weaker (R x) (S x) (w x) xs h.0, pairs_more R S w xs h.1)

pairs_map : {A B : Type 0} (R : B → B → Type 0) (f : A → B) (xs : List A) → Pairs (λ x y. R (f x) (f y)) xs → Pairs R (map f xs)
pairs_map R f [] h = tt
pairs_map R f (x ∷ xs) h = (each_map (R (f x)) f xs h.0, pairs_map R f xs h.1)

pairs_append : {A : Type 0} (R : A → A → Type 0) (xs ys : List A) → Pairs R xs → Pairs R ys → Each (λ x. Each (R x) ys) xs → Pairs R (xs ++ ys)
pairs_append R [] ys h k e = k
pairs_append R (x ∷ xs) ys h k e = (each_append (R x) xs ys h.0 e.0, pairs_append R xs ys h.1 k e.1)

-- Numbers that are spread

-- of a later reply, or of the same one at another port
abbrev IsApart : Numbered → Numbered → Type 0
IsApart x y = (x.0 < y.0) ⊎ ((x.0 ≡ y.0) × (x.1.0 ≡ y.1.0) × (x.1.1.0 ≡ y.1.1.0 → ⊥))

spread_apart : (n place : ℕ) (m : Message) (ks : List ℕ) → Distinct ks → Pairs IsApart (map (λ k. (n, (place, (k, m)))) ks)
spread_apart n place m [] h = tt
spread_apart n place m (k ∷ ks) h = (
  each_map (IsApart (n, (place, (k, m)))) (λ j. (n, (place, (j, m)))) ks
      (each_weaker (λ j. j ≡ k → ⊥) (λ j. IsApart (n, (place, (k, m))) (n, (place, (j, m)))) (λ j d. inr (refl, refl, λ e. d (sym e))) ks h.0),
  spread_apart n place m ks h.1,
)

each_spread : (P : Numbered → Type 0) (n : ℕ) (g : Giving) → ((k : ℕ) → P (n, (g.place, (k, g.message)))) → Each P (spread n g)
each_spread P n g h = each_map P (λ k. (n, (g.place, (k, g.message)))) g.ports (each_of_all (λ k. P (n, (g.place, (k, g.message)))) h g.ports)

above_spread : (a : ℕ) (ns : List ℕ) (gs : List Giving) → Each (λ n. a < n) ns → Each (λ (x : Numbered). a < x.0) (all_spread ns gs)
above_spread a [] gs h = tt
above_spread a (n ∷ ns) [] h = tt
above_spread a (n ∷ ns) (g ∷ gs) h = each_append (λ (x : Numbered). a < x.0) (spread n g) (all_spread ns gs) (each_spread (λ x. a < x.0) n g (λ k. h.0)) (above_spread a ns gs h.1)

all_apart : (ns : List ℕ) (gs : List Giving) → Pairs (λ n m. n < m) ns → Each (λ (g : Giving). Distinct g.ports) gs → Pairs IsApart (all_spread ns gs)
all_apart [] gs h d = tt
all_apart (n ∷ ns) [] h d = tt
all_apart (n ∷ ns) (g ∷ gs) h d =
    pairs_append IsApart (spread n g) (all_spread ns gs) (spread_apart n g.place g.message g.ports d.0) (all_apart ns gs h.1 d.1)
    (each_spread (λ x. Each (IsApart x) (all_spread ns gs)) n g (λ k.
    each_weaker (λ (y : Numbered). n < y.0) (IsApart (n, (g.place, (k, g.message)))) (λ y l. inl l) (all_spread ns gs) (above_spread n ns gs h.0)))

abbrev IsNumberOf : List (Placed Message) → Numbered → Type 0
IsNumberOf sends x = (item (items_of sends) x.0 ≡ Some x.1.1.1) × IsAfter (item (places_of sends) x.0) x.1.0

-- a number of what was sent, from 1, and no later than the giving
pub record IsFit (sent : List Message) (n : ℕ) (g : Giving) : Type 0 where
  pub was_sent : item sent n ≡ Some g.message
  pub before : n ≤ g.count

-- what had been sent at the giving was sent at earlier places
abbrev pub IsEarly : List (Placed Message) → Giving → Type 0
IsEarly sends g = (n : ℕ) → 0 < n → n ≤ g.count → IsAfter (item (places_of sends) n) g.place

pub above_zero : (sent : List Message) (n : ℕ) (m : Message) → item sent n ≡ Some m → 0 < n
above_zero sent zero m e = absurd (cc)
above_zero sent (suc n) m e = omega arith

all_numbers : (sends : List (Placed Message)) (ns : List ℕ) (gs : List Giving) → AllZip (IsFit (items_of sends)) ns gs → Each (IsEarly sends) gs → Each (IsNumberOf sends) (all_spread ns gs)
all_numbers sends [] [] h e = tt
all_numbers sends [] (g ∷ gs) h e = absurd h
all_numbers sends (n ∷ ns) [] h e = absurd h
all_numbers sends (n ∷ ns) (g ∷ gs) h e =
    each_append (IsNumberOf sends) (spread n g) (all_spread ns gs)
    (each_spread (IsNumberOf sends) n g (λ k. (h.0.was_sent, e.0 n (above_zero (items_of sends) n g.message h.0.was_sent) h.0.before)))
    (all_numbers sends ns gs h.1 e.1)

abbrev pub firsts : List Numbered → List ℕ
firsts xs = map (λ (x : Numbered). x.0) xs

abbrev pub seconds : List Numbered → List (Placed AtPort)
seconds xs = map (λ (x : Numbered). x.1) xs

pub all_seconds : (sent : List Message) (ns : List ℕ) (gs : List Giving) → AllZip (IsFit sent) ns gs → seconds (all_spread ns gs) ≡ all_at_ports gs
all_seconds sent [] [] h = refl
all_seconds sent [] (g ∷ gs) h = absurd h
all_seconds sent (n ∷ ns) [] h = absurd h
all_seconds sent (n ∷ ns) (g ∷ gs) h =
    map-append (λ (x : Numbered). x.1) (spread n g) (all_spread ns gs) ∙ (λ i. at_all g.ports i ++ all_seconds sent ns gs h.1 i)
  where
    at_all : (ks : List ℕ) → seconds (map (λ k. (n, (g.place, (k, g.message)))) ks) ≡ map (λ k. (g.place, (k, g.message))) ks
    at_all [] = refl
    at_all (k ∷ ks) = ap (λ xs. (g.place, (k, g.message)) ∷ xs) (at_all ks)

-- The numbering

abbrev pub at_port : ℕ → List (Placed AtPort) → List (Placed AtPort)
at_port port givens = filter (λ (g : Placed AtPort). g.1.0 == port) givens

abbrev pub given_messages : List (Placed AtPort) → List Message
given_messages givens = map (λ (g : Placed AtPort). g.1.1) givens

-- numbers of these messages at ports, among what was sent
pub record AreNumbers (sends : List (Placed Message)) (givens : List (Placed AtPort)) (numbers : List ℕ) : Type 0 where
  pub never_falls : IsNonDecreasing numbers
  pub items : map (item (items_of sends)) numbers ≡ map Some (given_messages givens)
  pub later : AllZip (λ number place. IsAfter (item (places_of sends) number) place) numbers (places_of givens)
  pub together : AllPairs (λ (g h : Numbered). g.0 ≡ h.0 → g.1.0 ≡ h.1.0) (zip numbers givens)
  pub each_port : (port : ℕ) → IsNumbering (part_of port (zip numbers givens)) (given_messages (at_port port givens)) (items_of sends)

pub zip_both : (xs : List Numbered) → zip (firsts xs) (seconds xs) ≡ xs
zip_both [] = refl
zip_both (x ∷ xs) = ap (λ ys. x ∷ ys) (zip_both xs)

falls_never : (xs : List ℕ) → Pairs (λ n m. n ≤ m) xs → IsNonDecreasing xs
falls_never xs h i j d l within = by (cases_eq i j)
  where
    by : (i ≡ j) ⊎ (i ≡ j → ⊥) → slice_index_or xs i d ≤ slice_index_or xs j d
    by (inl e) = subst (λ k. slice_index_or xs i d ≤ slice_index_or xs k d) e (omega arith)
    by (inr n) = all_pairs (λ n m. n ≤ m) xs h i j d (omega (arith, l, n)) within

rises : (xs : List ℕ) → AllPairs (λ n m. n < m) xs → IsStrictlyIncreasing xs
rises xs h k within = h k (k + 1) 0 (omega arith) within

items_each : (sends : List (Placed Message)) (xs : List Numbered) → Each (IsNumberOf sends) xs → map (item (items_of sends)) (firsts xs) ≡ map Some (given_messages (seconds xs))
items_each sends [] h = refl
items_each sends (x ∷ xs) h = λ i. h.0.0 i ∷ items_each sends xs h.1 i

later_each : (sends : List (Placed Message)) (xs : List Numbered) → Each (IsNumberOf sends) xs → AllZip (λ number place. IsAfter (item (places_of sends) number) place) (firsts xs) (places_of (seconds xs))
later_each sends [] h = tt
later_each sends (x ∷ xs) h = (h.0.1, later_each sends xs h.1)

-- of one port
module _ (port : ℕ) where
  abbrev here : Numbered → Bool
  here x = x.1.1.0 == port

  each_kept : (P : Numbered → Type 0) (xs : List Numbered) → Each P xs → Each (λ x. P x × (x.1.1.0 ≡ port)) (filter here xs)
  each_kept P [] h = tt
  each_kept P (x ∷ xs) h = on_test (λ b. here x ≡ b → Each (λ y. P y × (y.1.1.0 ≡ port)) (cond b (x ∷ filter here xs) (filter here xs))) (here x)
      (λ _ e. ((h.0, eqb-true x.1.1.0 port e), each_kept P xs h.1)) (λ _ e. each_kept P xs h.1) refl

  pairs_kept : (xs : List Numbered) → Pairs IsApart xs → Pairs (λ (x y : Numbered). x.0 < y.0) (filter here xs)
  pairs_kept [] h = tt
  pairs_kept (x ∷ xs) h = on_test (λ b. here x ≡ b → Pairs (λ (x y : Numbered). x.0 < y.0) (cond b (x ∷ filter here xs) (filter here xs))) (here x)
      (λ _ e. (each_weaker (λ y. IsApart x y × (y.1.1.0 ≡ port)) (λ (y : Numbered). x.0 < y.0) (λ y k. below y (eqb-true x.1.1.0 port e) k.1 k.0) (filter here xs) (each_kept (IsApart x) xs h.0), pairs_kept xs h.1))
      (λ _ e. pairs_kept xs h.1) refl
    where
      below : (y : Numbered) → x.1.1.0 ≡ port → y.1.1.0 ≡ port → IsApart x y → x.0 < y.0
      below y e f (inl l) = l
      below y e f (inr (a, b, n)) = absurd (n (e ∙ sym f))

  kept_seconds : (xs : List Numbered) → seconds (filter here xs) ≡ at_port port (seconds xs)
  kept_seconds [] = refl
  kept_seconds (x ∷ xs) = on_test (λ b. seconds (cond b (x ∷ filter here xs) (filter here xs)) ≡ cond b (x.1 ∷ at_port port (seconds xs)) (at_port port (seconds xs))) (here x)
      (λ _. ap (λ ys. x.1 ∷ ys) (kept_seconds xs)) (λ _. kept_seconds xs)

  kept_numbers : (sends : List (Placed Message)) (xs : List Numbered) → Pairs IsApart xs → Each (IsNumberOf sends) xs → IsNumbering (firsts (filter here xs)) (given_messages (at_port port (seconds xs))) (items_of sends)
  kept_numbers sends xs h e = record {
    rising = rises (firsts (filter here xs)) (all_pairs (λ n m. n < m) (firsts (filter here xs)) (pairs_map (λ n m. n < m) (λ (x : Numbered). x.0) (filter here xs) (pairs_kept xs h)));
    items = items_each sends (filter here xs) (each_weaker (λ x. IsNumberOf sends x × (x.1.1.0 ≡ port)) (IsNumberOf sends) (λ x k. k.0) (filter here xs) (each_kept (IsNumberOf sends) xs e)) ∙ ap (λ gs. map Some (given_messages gs)) (kept_seconds xs);
  }

numbers_of_spread : (sends : List (Placed Message)) (xs : List Numbered) → Pairs IsApart xs → Each (IsNumberOf sends) xs → AreNumbers sends (seconds xs) (firsts xs)
numbers_of_spread sends xs h e = record {
  never_falls = falls_never (firsts xs) (pairs_map (λ n m. n ≤ m) (λ (x : Numbered). x.0) xs (pairs_more IsApart (λ (x y : Numbered). x.0 ≤ y.0) no_less xs h));
  items = items_each sends xs e;
  later = later_each sends xs e;
  together = subst (AllPairs (λ (g h : Numbered). g.0 ≡ h.0 → g.1.0 ≡ h.1.0)) (sym (zip_both xs)) (all_pairs (λ (g h : Numbered). g.0 ≡ h.0 → g.1.0 ≡ h.1.0) xs (pairs_more IsApart (λ (g h : Numbered). g.0 ≡ h.0 → g.1.0 ≡ h.1.0) one_reply xs h));
  each_port = λ port. subst (λ ys. IsNumbering (part_of port ys) (given_messages (at_port port (seconds xs))) (items_of sends)) (sym (zip_both xs)) (kept_numbers port sends xs h e);
}
  where
    no_less : (x y : Numbered) → IsApart x y → x.0 ≤ y.0
    no_less x y (inl l) = omega (arith, l)
    no_less x y (inr (a, b, n)) = omega (arith, a)

    one_reply : (x y : Numbered) → IsApart x y → x.0 ≡ y.0 → x.1.0 ≡ y.1.0
    one_reply x y (inl l) e = absurd (omega (arith, l, e))
    one_reply x y (inr (a, b, n)) e = b

-- the numbers of the replies make those of the ports
pub all_numbered : (sends : List (Placed Message)) (ns : List ℕ) (gs : List Giving) → AllZip (IsFit (items_of sends)) ns gs → Pairs (λ n m. n < m) ns → Each (IsEarly sends) gs → Each (λ (g : Giving). Distinct g.ports) gs
    → AreNumbers sends (all_at_ports gs) (firsts (all_spread ns gs))
all_numbered sends ns gs fits rise early distinct =
    subst (λ givens. AreNumbers sends givens (firsts (all_spread ns gs))) (all_seconds (items_of sends) ns gs fits)
    (numbers_of_spread sends (all_spread ns gs) (all_apart ns gs rise distinct) (all_numbers sends ns gs fits early))
