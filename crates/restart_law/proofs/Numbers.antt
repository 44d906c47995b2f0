-- Where a lane stands for a record, what the destination was given has numbers, and the outcomes are true: wherever the record began.
use Rattle.std.proofs.Common.{◌≡◌, ◌⊎◌, inl, inr, ℕ, ◌-◌, ◌<◌, ◌≤◌, true, List, [], ◌∷◌, ◌++◌, map, length, refl, sym, ap, ◌∙◌, subst, arith}
use Rattle.std.specs.Prelude.{Contains, zip}
use Rattle.std.specs.List.{AllZip}
use Rattle.std.proofs.lemmas.List.{map-append}
use Rattle.pgn_ids.specs.declared.address.Address.{Address}
use Rattle.port_table.specs.declared.port.PortId.{PortId}
use Rattle.tp_wire.specs.declared.outcome.Outcome.TheVariants as outcome
use Rattle.segment_law.specs.Headline.{IsOpenedFor, port_of}
use Rattle.segment_law.specs.Numbering.{Numbered}
use Rattle.segment_law.specs.Record.{Record}
use Rattle.segment_law.specs.Segment.{Segment}
use Rattle.segment_law.specs.Told.{Message, Placed, AtPort, items_of, sends, sent, station_givens, outcomes, openings, closings}
use Rattle.record_law.proofs.Lists.{Each, In, each_all, all_each, each_weaker, in_any, any_in, in_weaker}
use Rattle.lane_law.specs.Choice as choice
use Rattle.lane_law.specs.Choice.{IsGiven}
use Rattle.lane_law.specs.Outcome as fate
use Rattle.broadcast_law.proofs.Numbered.{Giving, IsFit, AreNumbers, spread, all_spread, firsts, all_seconds, zip_both, all_numbered, pairs_rising}
use Rattle.connection_law.proofs.Along.{IsBefore, IsTrueAt}
use Rattle.connection_law.proofs.Final.{Machine}
use Rattle.connection_law.proofs.Openings.{Fits, IsOpened, opened_so}
use Rattle.connection_law.proofs.Stood.{Stood}
use Rattle.connection_law.proofs.View.{IsPair, IsTold, Has}
use Rattle.network_law.specs.Between.{Receiver, IsOpenAfter, AreNumbersOf, IsGivenOnce, receiver_at}
use Rattle.network_law.proofs.Carrying.{has_of, of_has}
use Rattle.network_law.proofs.Sentence.{has_either, placed_item}

pub of_numbers : (sends : List (Placed Message)) (givens : List (Placed AtPort)) (numbers : List ℕ) → AreNumbers sends givens numbers → AreNumbersOf (items_of sends) givens numbers
of_numbers sends givens numbers h = record { never_falls = h.never_falls; items = h.items; together = h.together; each_port = h.each_port }

-- What is spread over ports

has_left : {A : Type 0} (xs ys : List A) (x : A) → Has xs x → Has (xs ++ ys) x
has_left [] ys x h = absurd h
has_left (z ∷ xs) ys x (inl e) = inl e
has_left (z ∷ xs) ys x (inr h) = inr (has_left xs ys x h)

has_right : {A : Type 0} (xs ys : List A) (x : A) → Has ys x → Has (xs ++ ys) x
has_right [] ys x h = h
has_right (z ∷ xs) ys x h = inr (has_right xs ys x h)

each_has : {A : Type 0} (P : A → Type 0) (xs : List A) (x : A) → Each P xs → Has xs x → P x
each_has P [] x h k = absurd k
each_has P (y ∷ xs) x h (inl e) = subst P e h.0
each_has P (y ∷ xs) x h (inr k) = each_has P xs x h.1 k

at_ports_of : (n place : ℕ) (m : Message) (ports : List ℕ) (port : ℕ) → Has ports port → Has {A = Numbered} (map (λ k. (n, (place, (k, m)))) ports) (n, (place, (port, m)))
at_ports_of n place m [] port h = absurd h
at_ports_of n place m (k ∷ ks) port (inl e) = inl (λ i. (n, (place, (e i, m))))
at_ports_of n place m (k ∷ ks) port (inr h) = inr (at_ports_of n place m ks port h)

of_one : (n place : ℕ) (m : Message) (ports : List ℕ) (k : ℕ) → Has (firsts (map (λ port. (n, (place, (port, m)))) ports)) k → n ≡ k
of_one n place m [] k h = absurd h
of_one n place m (p ∷ ports) k (inl e) = e
of_one n place m (p ∷ ports) k (inr h) = of_one n place m ports k h

of_spread : (ns : List ℕ) (gs : List Giving) (k : ℕ) → Has (firsts (all_spread ns gs)) k → Has ns k
of_spread [] gs k h = absurd h
of_spread (n ∷ ns) [] k h = absurd h
of_spread (n ∷ ns) (g ∷ gs) k h = by (of_spread ns gs k) (has_either (firsts (spread n g)) (firsts (all_spread ns gs)) k (subst (λ xs. Has xs k) (map-append (λ (x : Numbered). x.0) (spread n g) (all_spread ns gs)) h))
  where
    by : (Has (firsts (all_spread ns gs)) k → Has ns k) → Has (firsts (spread n g)) k ⊎ Has (firsts (all_spread ns gs)) k → Has (n ∷ ns) k
    by rest (inl q) = inl (of_one n g.place g.message g.ports k q)
    by rest (inr q) = inr (rest q)

first_port : (ports : List ℕ) → 0 < length ports → (port : ℕ) × Has ports port
first_port [] l = absurd (omega (arith, l))
first_port (k ∷ ks) l = (k, inl refl)

-- the giving of a number
pub record Found (s d : Address) (steps : Record) (xs : List Numbered) (number : ℕ) : Type 0 where
  pub giving : Giving
  pub fit : IsFit (sent steps s d) number giving
  pub opened : IsOpened s d steps giving
  pub some : 0 < length giving.ports
  pub spread : (port : ℕ) → Has giving.ports port → Has xs (number, (giving.place, (port, giving.message)))

found : (s d : Address) (steps : Record) (ns : List ℕ) (gs : List Giving) (number place : ℕ) → AllZip (IsFit (sent steps s d)) ns gs → Each (IsOpened s d steps) gs → Each (λ (g : Giving). 0 < length g.ports) gs → IsBefore ns gs number place → Found s d steps (all_spread ns gs) number
found s d steps [] gs number later fits opened some h = absurd h
found s d steps (n ∷ ns) [] number later fits opened some h = absurd h
found s d steps (n ∷ ns) (g ∷ gs) number later fits opened some (inl (e, l)) = record {
  giving = g;
  fit = subst (λ k. IsFit (sent steps s d) k g) e fits.0;
  opened = opened.0;
  some = some.0;
  spread = λ port h. subst (λ k. Has (spread n g ++ all_spread ns gs) (k, (g.place, (port, g.message)))) e (has_left (spread n g) (all_spread ns gs) (n, (g.place, (port, g.message))) (at_ports_of n g.place g.message g.ports port h));
}
found s d steps (n ∷ ns) (g ∷ gs) number later fits opened some (inr h) =
    let r : Found s d steps (all_spread ns gs) number = found s d steps ns gs number later fits.1 opened.1 some.1 h in
    record { giving = r.giving; fit = r.fit; opened = r.opened; some = r.some; spread = λ port k. has_right (spread n g) (all_spread ns gs) (number, (r.giving.place, (port, r.giving.message))) (r.spread port k) }

-- A message that was given, in the words of the receiver

module _ (s d : Address) (steps : Record) (numbers : List ℕ) (number : ℕ) (f : Found s d steps (zip numbers (station_givens steps d s d)) number) where
  abbrev to_d : Receiver
  to_d = receiver_at d s steps

  abbrev m : Message
  m = f.giving.message

  abbrev opening : ℕ
  opening = f.opened.opening

  later_than : (os : List (Placed (ℕ × ℕ))) → In (Fits opening m.0 (length m.1)) os → 0 < opening
  later_than [] h = absurd h
  later_than (o ∷ os) (inl k) = omega (arith, k.0)
  later_than (o ∷ os) (inr h) = later_than os h

  abbrev After : Placed (ℕ × ℕ) → Type 0
  After o = (o.0 ≤ opening - 1) × (o.1.0 ≡ m.0) × (length m.1 ≤ o.1.1)

  some_open : (port : ℕ) × IsOpenAfter to_d port (opening - 1) m
  some_open = (let (port, o, c) = f.opened.some in (
    port,
    record {
      opened = in_any After (openings steps (port_of d port)) (in_weaker (Fits opening m.0 (length m.1)) After (λ x k. (omega (arith, k.0), k.1, k.2)) (openings steps (port_of d port)) o);
      not_closed = each_all (λ (x : Placed PortId). opening - 1 < x.0) (closings steps (port_of d port)) (each_weaker (λ (x : Placed PortId). opening < x.0) (λ (x : Placed PortId). opening - 1 < x.0) (λ x l. omega (arith, l)) (closings steps (port_of d port)) c);
    },
  ))

  above : 0 < opening
  above = (let (port, o, c) = f.opened.some in later_than (opened_so s d steps port) o)

  pub given_once : IsGivenOnce (sent steps s d) d to_d numbers number
  given_once = record {
    message = m;
    opening = opening - 1;
    giving = f.giving.place;
    is_sent = f.fit.was_sent;
    in_turn = (let l : opening < f.giving.place = f.opened.turn in omega (arith, l));
    some_open = some_open;
    to_each = λ port h k. at_port port (f.opened.all port
        (in_weaker After (IsOpenedFor (opening, m)) (λ x q. (omega (arith, q.0, above), q.1, q.2)) (openings steps (port_of d port)) (any_in After (openings steps (port_of d port)) h.opened))
        (all_each (λ (c : Placed PortId). f.giving.place < c.0) (closings steps (port_of d port)) k.not_closed));
    to_one = (let (port, k) = first_port f.giving.ports f.some in (port, at_port port k));
  }
    where
      at_port : (port : ℕ) → Has f.giving.ports port → Contains (zip numbers (station_givens steps d s d)) (number, (f.giving.place, (port, m)))
      at_port port k = of_has (zip numbers (station_givens steps d s d)) (number, (f.giving.place, (port, m))) (f.spread port k)

-- Where a lane stands for the record

module _ (c : Machine) (s d : Address) (pair : IsPair s d) (x y : ℕ) (steps : Record) (seg : Segment) (it : Stood c.broadcasts c.laws c.choose s d pair x y steps seg) where
  abbrev ns : List ℕ
  ns = choice.numbers it.lane.stream.given

  abbrev pub numbers_given : List ℕ
  numbers_given = firsts (all_spread ns it.givings)

  pub are_numbers : AreNumbersOf (sent steps s d) (station_givens steps d s d) numbers_given
  are_numbers = of_numbers (sends steps s d) (station_givens steps d s d) numbers_given
      (subst (λ xs. AreNumbers (sends steps s d) xs numbers_given) (sym it.tally.told)
      (all_numbered (sends steps s d) ns it.givings it.tally.fits (pairs_rising ns (c.choose true it.lane it.sim.carries.reached).rising) it.tally.early it.tally.distinct))

  numbered_is : zip numbers_given (station_givens steps d s d) ≡ all_spread ns it.givings
  numbered_is = ap (λ xs. zip numbers_given xs) (it.tally.told ∙ sym (all_seconds (sent steps s d) ns it.givings it.tally.fits)) ∙ zip_both (all_spread ns it.givings)

  pub acknowledged : (number : ℕ) → Has (items_of (outcomes steps s d)) (number, outcome.Acknowledged) → IsGivenOnce (sent steps s d) d (receiver_at d s steps) numbers_given number
  acknowledged number h =
      let at = placed_item (outcomes steps s d) (number, outcome.Acknowledged) h in
      let b : IsBefore ns it.givings number at.0 = each_has (IsTrueAt ns it.givings) (outcomes steps s d) (at.0, (number, outcome.Acknowledged)) it.true_at at.1 refl in
      given_once s d steps numbers_given number (subst (λ xs. Found s d steps xs number) (sym numbered_is) (found s d steps ns it.givings number at.0 it.tally.fits it.kept.all_opened it.some b))

  pub unreachable : (number : ℕ) → Has (items_of (outcomes steps s d)) (number, outcome.Unreachable) → Contains numbers_given number → ⊥
  unreachable number h k =
      let told_it : IsTold it.lane.outcomes (number, outcome.Unreachable) = each_has (IsTold it.lane.outcomes) (items_of (outcomes steps s d)) (number, outcome.Unreachable) it.sim.carries.ended h in
      let none : IsGiven it.lane.stream.given number → ⊥ = each_has (λ (o : fate.Outcome). fate.Says it.lane.stream.given o.number o.fate) it.lane.outcomes (fate.outcome number fate.Unreachable)
      (all_each (λ (o : fate.Outcome). fate.Says it.lane.stream.given o.number o.fate) it.lane.outcomes (c.agree true it.lane it.sim.carries.reached)) told_it in
      none (of_has ns number (of_spread ns it.givings number (has_of numbers_given number k)))
