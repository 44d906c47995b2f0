-- What holds of every table holds after a close, a pause and a resume.
use Rattle.std.proofs.Common.{◌≡◌, ℕ, suc, ◌+◌, ◌<◌, ◌≤◌, ◌≢◌, Bool, true, false, cond, not, ◌&&◌, ◌||◌, ◌==◌, List, [], ◌∷◌, ◌++◌, length, map, take, drop, set, get_or, Option, Some, None, is_some, refl, sym, ap, ◌∙◌, subst, arith}
use Rattle.std.specs.Prelude.{find}
use Rattle.std.specs.Bool.{OnFalse}
use Rattle.std.specs.Vec.{vec_len}
use Rattle.std.specs.declared.vec.Vec.{Vec}
use Rattle.std.specs.List.{All, AllPairs, filter, list_any}
use Rattle.std.proofs.lemmas.Bool.{eq-eqb, ne_eqb}
use Rattle.std.proofs.lemmas.List.{length-map, get_or-map, get_or_default}
use Rattle.std.proofs.lemmas.List.Edits.{map_over_more}
use Rattle.std.proofs.lemmas.List.Elements.{All-map, All-weaker, All-filter}
use Rattle.std.proofs.lemmas.List.Filters.{length-filter_both}
use Rattle.std.proofs.lemmas.List.Kept.{AllPairs-filter}
use Rattle.port_table.specs.declared.port.Port.{Port}
use Rattle.port_table.specs.Ports.{Ports, ArePorts, marked, less_port, numbers_of}
use Rattle.port_table.specs.Ports.{has_paused}

marked-number : (number : ℕ) (paused : Bool) (p : Port) → (marked number paused p).number ≡ p.number
marked-number number paused p =
    elim (p.number == number) as (λ b. (cond b (record p { paused = paused }) p).number ≡ p.number) [ true ↦ refl | false ↦ refl ]

marked-here : (number : ℕ) (paused : Bool) (p : Port) → p.number ≡ number → marked number paused p ≡ record p { paused = paused }
marked-here number paused p same = rw (eq-eqb p.number number same) refl

marked-other : (number : ℕ) (paused : Bool) (p : Port) → p.number ≢ number → marked number paused p ≡ p
marked-other number paused p other = rw (ne_eqb p.number number other) refl

-- one more port is marked
mark_more : (number : ℕ) (paused : Bool) (xs ys : List Port) (i : ℕ) (d : Port) → i < length xs → length ys ≡ length xs →
    ys ≡ map (marked number paused) (take i xs) ++ drop i xs →
    set ys i (marked number paused (get_or ys i d)) ≡ map (marked number paused) (take (i + 1) xs) ++ drop (i + 1) xs
mark_more number paused xs ys i d within same so_far =
    map_over_more (marked number paused) xs ys i (get_or ys i d) within so_far (get_or_default ys i d (get_or ys i d) (omega arith))

pub mark_here : (number : ℕ) (paused : Bool) (xs ys : List Port) (i : ℕ) (d : Port) → i < length xs → length ys ≡ length xs →
    ys ≡ map (marked number paused) (take i xs) ++ drop i xs → (get_or ys i d).number ≡ number →
    set ys i (record (get_or ys i d) { paused = paused }) ≡ map (marked number paused) (take (i + 1) xs) ++ drop (i + 1) xs
mark_here number paused xs ys i d within same so_far here =
    ap (λ p. set ys i p) (sym (marked-here number paused (get_or ys i d) here)) ∙ mark_more number paused xs ys i d within same so_far

pub mark_other : (number : ℕ) (paused : Bool) (xs ys : List Port) (i : ℕ) (d : Port) → i < length xs → length ys ≡ length xs →
    ys ≡ map (marked number paused) (take i xs) ++ drop i xs → (get_or ys i d).number ≢ number →
    set ys i (get_or ys i d) ≡ map (marked number paused) (take (i + 1) xs) ++ drop (i + 1) xs
mark_other number paused xs ys i d within same so_far other =
    ap (λ p. set ys i p) (sym (marked-other number paused (get_or ys i d) other)) ∙ mark_more number paused xs ys i d within same so_far

rising-map : (f : Port → Port) → ((p : Port) → (f p).number ≡ p.number) → (ports : List Port) →
    AllPairs (λ p q. p.number < q.number) ports → AllPairs (λ p q. p.number < q.number) (map f ports)
rising-map f same ports rising i j d below within =
    let inside : j < length ports = omega (arith, length-map ports f) in
    let at_i : get_or (map f ports) i d ≡ f (get_or ports i d) = get_or-map f ports i d d (omega arith) in
    let at_j : get_or (map f ports) j d ≡ f (get_or ports j d) = get_or-map f ports j d d inside in
    rw (at_i, at_j) (omega (arith, same (get_or ports i d), same (get_or ports j d), rising i j d below inside))

pub marked_valid : (ports : Ports) (number : ℕ) (paused : Bool) (now : List Port) → now ≡ map (marked number paused) ports.open_ports → ArePorts ports →
    ArePorts (record ports { open_ports = now })
marked_valid ports number paused now e valid =
    let f : Port → Port = marked number paused in
    let is : ArePorts (record ports { open_ports = map f ports.open_ports }) = record {
      few = omega (arith, length-map ports.open_ports f, valid.few);
      rising = rising-map f (marked-number number paused) ports.open_ports valid.rising;
      used = All-map (λ p. p.number ≤ ports.opened) f ports.open_ports
          (All-weaker (λ p. p.number ≤ ports.opened) (λ p. (f p).number ≤ ports.opened) (λ p h. omega (arith, marked-number number paused p, h)) ports.open_ports valid.used);
      opened_fits = valid.opened_fits;
    } in
    subst (λ xs. ArePorts (record ports { open_ports = xs })) (sym e) is

pub less_port_valid : (ports : Ports) (number : ℕ) (left : List Port) → left ≡ less_port number ports.open_ports → ArePorts ports →
    ArePorts (record ports { open_ports = left })
less_port_valid ports number left e valid =
    let stays : Port → Bool = λ p. not (p.number == number) in
    let is : ArePorts (record ports { open_ports = less_port number ports.open_ports }) = record {
      few = omega (arith, length-filter_both stays (λ p. not (stays p)) (λ _. refl) ports.open_ports, valid.few);
      rising = AllPairs-filter (λ p q. p.number < q.number) stays ports.open_ports valid.rising;
      used = All-filter stays (λ p. p.number ≤ ports.opened) ports.open_ports valid.used;
      opened_fits = valid.opened_fits;
    } in
    subst (λ xs. ArePorts (record ports { open_ports = xs })) (sym e) is

-- no port that is left has the number 0
pub less_port_above : (number : ℕ) (ports left : List Port) → left ≡ less_port number ports → All (λ p. 0 < p.number) ports → All (λ p. 0 < p.number) left
less_port_above number ports left e above =
    subst (All (λ p. 0 < p.number)) (sym e) (All-filter (λ p. not (p.number == number)) (λ p. 0 < p.number) ports above)

-- and none that is marked
pub marked_above : (number : ℕ) (paused : Bool) (ports now : List Port) → now ≡ map (marked number paused) ports → All (λ p. 0 < p.number) ports → All (λ p. 0 < p.number) now
marked_above number paused ports now e above =
    let f : Port → Port = marked number paused in
    subst (All (λ p. 0 < p.number)) (sym e)
    (All-map (λ p. 0 < p.number) f ports
    (All-weaker (λ p. 0 < p.number) (λ p. 0 < (f p).number) (λ p h. omega (arith, marked-number number paused p, h)) ports above))

-- a port with this number is open exactly where one goes when it is taken out
abbrev KeptAll : ℕ → List Port → Type 0
KeptAll number ports = (less_port number ports ≡ ports) × (find (λ p. p.number == number) ports ≡ None)

module _ (number : ℕ) where
  fewer : (ports : List Port) → length (less_port number ports) ≤ length ports
  fewer ports = omega (arith, length-filter_both (λ p. not (p.number == number)) (λ p. not (not (p.number == number))) (λ _. refl) ports)

  pub kept_all : (ports : List Port) → length (less_port number ports) ≡ length ports → KeptAll number ports
  kept_all [] e = (refl, refl)
  kept_all (p ∷ ports) e = by (kept_all ports) (p.number == number) e
    where
      by : (length (less_port number ports) ≡ length ports → KeptAll number ports) → (b : Bool) → length (cond (not b) (p ∷ less_port number ports) (less_port number ports)) ≡ suc (length ports)
          → (cond (not b) (p ∷ less_port number ports) (less_port number ports) ≡ p ∷ ports) × (cond b (Some p) (find (λ q. q.number == number) ports) ≡ None)
      by others true e = absurd (omega (arith, e, fewer ports))
      by others false e = let rest = others (omega (arith, e)) in (ap (λ xs. p ∷ xs) rest.0, rest.1)

  pub none_goes : (ports : List Port) → find (λ p. p.number == number) ports ≡ None → less_port number ports ≡ ports
  none_goes [] e = refl
  none_goes (p ∷ ports) e = by (none_goes ports) (p.number == number) e
    where
      by : (find (λ q. q.number == number) ports ≡ None → less_port number ports ≡ ports) → (b : Bool) → cond b (Some p) (find (λ q. q.number == number) ports) ≡ None → cond (not b) (p ∷ less_port number ports) (less_port number ports) ≡ p ∷ ports
      by others true e = absurd (cc)
      by others false e = ap (λ xs. p ∷ xs) (others e)

  pub one_goes : (ports : List Port) → (length (less_port number ports) ≡ length ports → ⊥) → is_some (find (λ p. p.number == number) ports) ≡ true
  one_goes ports fewer = by (find (λ p. p.number == number) ports) refl
    where
      by : (o : Option Port) → find (λ p. p.number == number) ports ≡ o → is_some o ≡ true
      by None e = absurd (fewer (ap (λ xs. length xs) (none_goes ports e)))
      by (Some p) e = refl

-- the same of the vectors that keep them
module _ {Z : Type 0} (before after : Vec Port Z) (number : ℕ) (left : after.items ≡ less_port number before.items) where
  long : (v : Vec Port Z) → length v.items ≡ vec_len v
  long v = omega (arith, v.ok.0)

  pub all_stay : vec_len after ≡ vec_len before → length (less_port number before.items) ≡ length before.items
  all_stay e = sym (ap (λ xs. length xs) left) ∙ long after ∙ e ∙ sym (long before)

  pub as_many : length (less_port number before.items) ≡ length before.items → vec_len after ≡ vec_len before
  as_many e = sym (long after) ∙ ap (λ xs. length xs) left ∙ e ∙ long before

pub numbers_rise : (test : Port → Bool) (ports : List Port) → AllPairs (λ p q. p.number < q.number) ports → AllPairs ◌<◌ (numbers_of test ports)
numbers_rise test ports rising i j d below within =
    let passed : List Port = filter test ports in
    let none : Port = record { number = 0; pgn = 0; max_len = 0; paused = false } in
    let inside : j < length passed = omega (arith, length-map passed (λ (p : Port). p.number)) in
    let at_i : get_or (numbers_of test ports) i d ≡ (get_or passed i none).number = get_or-map (λ (p : Port). p.number) passed i none d (omega arith) in
    let at_j : get_or (numbers_of test ports) j d ≡ (get_or passed j none).number = get_or-map (λ (p : Port). p.number) passed j none d inside in
    rw (at_i, at_j) (AllPairs-filter (λ p q. p.number < q.number) test ports rising i j none below inside)

-- while none is paused, none of a set is
pub none_paused : (test : Port → Bool) (ports : List Port) → has_paused ports ≡ false → list_any (λ p. p.paused && test p) ports ≡ false
none_paused test [] e = refl
none_paused test (p ∷ ports) e = by p.paused (none_paused test ports) e
  where
    by : (b : Bool) → (has_paused ports ≡ false → list_any (λ p. p.paused && test p) ports ≡ false) → (b || has_paused ports) ≡ false → ((b && test p) || list_any (λ p. p.paused && test p) ports) ≡ false
    by true others e = absurd (cc)
    by false others e = others e

pub on_false : {P : Type 0} (b : Bool) → (b ≡ false → P) → OnFalse b P
on_false true h = tt
on_false false h = h refl
