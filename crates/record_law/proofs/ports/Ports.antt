-- The ports of a station: which are open, and for what.
use Rattle.std.proofs.Common.{◌≡◌, ◌⊎◌, inl, inr, ℕ, ◌≤◌, ◌==◌, Bool, true, false, cond, not, List, [], ◌∷◌, ◌++◌, map, filter, length, refl, sym, ◌∙◌, subst, arith, eqb-true, eq-eqb, ne_eqb, leb-true}
use Rattle.std.specs.Prelude.{nat_le}
use Rattle.std.proofs.lemmas.Bool.{and_parts}
use Rattle.pgn_ids.specs.Address.{global_address}
use Rattle.pgn_ids.specs.declared.address.Address.{Address}
use Rattle.port_table.specs.PortSet.{without_number}
use Rattle.port_table.specs.Ports.{Ports, less_port, marked, receives, ports_for}
use Rattle.port_table.specs.declared.port.Port.{Port}
use Rattle.message_events.specs.declared.event.Event.{Event}
use Rattle.message_events.specs.declared.event.Event.TheVariants as event
use Rattle.record_law.proofs.Lists.{Each, each_kept, each_map, each_weaker, each_both, In, in_front, in_map, in_weaker}
use Rattle.record_law.proofs.Tests.{on_test, either}

-- the port is open, on this PGN and for so many bytes
abbrev pub Opens : (pgn len number : ℕ) → Port → Type 0
Opens pgn len number q = (q.number ≡ number) × (q.pgn ≡ pgn) × (len ≤ q.max_len)

abbrev pub Receives : List Port → (pgn len number : ℕ) → Type 0
Receives qs pgn len number = In (Opens pgn len number) qs

-- each of these ports is
abbrev pub AllReceive : List Port → (pgn len : ℕ) → List ℕ → Type 0
AllReceive qs pgn len set = Each (Receives qs pgn len) set

-- the ports that are found for a message
pub found_receive : (ports : Ports) (pgn len : ℕ) → AllReceive ports.open_ports pgn len (ports_for ports pgn len)
found_receive ports pgn len = by ports.open_ports
  where
    by : (qs : List Port) → AllReceive qs pgn len (map (λ (q : Port). q.number) (filter (receives pgn len) qs))
    by [] = tt
    by (q ∷ qs) =
        let rest : AllReceive (q ∷ qs) pgn len (map (λ (r : Port). r.number) (filter (receives pgn len) qs)) = each_weaker (Receives qs pgn len) (Receives (q ∷ qs) pgn len) (λ k h. inr h) _ (by qs) in
        on_test (λ b. receives pgn len q ≡ b → AllReceive (q ∷ qs) pgn len (map (λ (r : Port). r.number) (cond b (q ∷ filter (receives pgn len) qs) (filter (receives pgn len) qs)))) (receives pgn len q)
        (λ _ e. let h = and_parts (q.pgn == pgn) (nat_le len q.max_len) e in (inl (refl, eqb-true q.pgn pgn h.0, leb-true len q.max_len h.1), rest))
        (λ _ e. rest) refl

-- A further port opens, one is paused or no longer, one closes

pub receive_more : (qs more : List Port) (pgn len : ℕ) (set : List ℕ) → AllReceive qs pgn len set → AllReceive (qs ++ more) pgn len set
receive_more qs more pgn len set h = each_weaker (Receives qs pgn len) (Receives (qs ++ more) pgn len) (λ k r. in_front (Opens pgn len k) qs more r) set h

module _ (number : ℕ) (paused : Bool) where
  -- marking changes nothing else
  marked_as : (P : Port → Type 0) → ((q : Port) (b : Bool) → P q → P (record q { paused = b })) → (q : Port) → P q → P (marked number paused q)
  marked_as P w q h = either P (q.number == number) (record q { paused = paused }) q (w q paused h) h

  pub each_marked : (P : Port → Type 0) → ((q : Port) (b : Bool) → P q → P (record q { paused = b })) → (qs : List Port) → Each P qs → Each P (map (marked number paused) qs)
  each_marked P w qs h = each_map P (marked number paused) qs (each_weaker P (λ (q : Port). P (marked number paused q)) (marked_as P w) qs h)

  pub receive_marked : (qs : List Port) (pgn len : ℕ) (set : List ℕ) → AllReceive qs pgn len set → AllReceive (map (marked number paused) qs) pgn len set
  receive_marked qs pgn len set h = each_weaker (Receives qs pgn len) (Receives (map (marked number paused) qs) pgn len)
      (λ k r. in_map (Opens pgn len k) (marked number paused) qs (in_weaker (Opens pgn len k) (λ (q : Port). Opens pgn len k (marked number paused q)) (marked_as (Opens pgn len k) (λ q b o. o)) qs r)) set h

-- a set lacks a port
abbrev pub Lacks : ℕ → List ℕ → Type 0
Lacks number set = Each (λ k. k ≡ number → ⊥) set

not_true : (b : Bool) → not b ≡ true → b ≡ true → ⊥
not_true true e f = cc
not_true false e f = cc

is_it : (k number : ℕ) → k ≡ number → (k == number) ≡ true
is_it k number e = eq-eqb k number e

pub without_lacks : (number : ℕ) (set : List ℕ) → Lacks number (without_number set number)
without_lacks number set = each_kept (λ k. k ≡ number → ⊥) (λ n. not (n == number)) (λ k e q. not_true (k == number) e (is_it k number q)) set

pub less_lacks : (number : ℕ) (qs : List Port) → Each (λ (q : Port). q.number ≡ number → ⊥) (less_port number qs)
less_lacks number qs = each_kept (λ (q : Port). q.number ≡ number → ⊥) (λ (q : Port). not (q.number == number)) (λ q e s. not_true (q.number == number) e (is_it q.number number s)) qs

-- what the others receive
pub receive_less : (number : ℕ) (qs : List Port) (pgn len : ℕ) (set : List ℕ) → Lacks number set → AllReceive qs pgn len set → AllReceive (less_port number qs) pgn len set
receive_less number qs pgn len set l h = each_both (λ k. k ≡ number → ⊥) (Receives qs pgn len) (Receives (less_port number qs) pgn len) (λ k n r. by k n qs r) set l h
  where
    by : (k : ℕ) → (k ≡ number → ⊥) → (qs : List Port) → Receives qs pgn len k → Receives (less_port number qs) pgn len k
    by k n [] r = absurd r
    by k n (q ∷ qs) (inl o) =
        let other : (q.number == number) ≡ false = ne_eqb q.number number (λ e. n (sym o.0 ∙ e)) in
        subst (λ b. Receives (cond (not b) (q ∷ less_port number qs) (less_port number qs)) pgn len k) (sym other) (inl o)
    by k n (q ∷ qs) (inr r) = either (λ (rs : List Port). Receives rs pgn len k) (not (q.number == number)) (q ∷ less_port number qs) (less_port number qs) (inr (by k n qs r)) (by k n qs r)

-- What events give

-- to a station, or to all
abbrev pub IsToStationOrAll : (station to : Address) → Type 0
IsToStationOrAll station to = (to ≡ station) ⊎ (to.0 ≡ global_address)

-- a message to the station or to all, that is given at an open port of the table, on its PGN and of a length that it takes
abbrev pub IsAllowed : Ports → Event → Type 0
IsAllowed ports (event.Given port from to pgn bytes) = (port.station ≡ ports.station) × IsToStationOrAll port.station to × Receives ports.open_ports pgn (length bytes) port.number
IsAllowed ports (event.Outcome from to number outcome) = Unit {0}

-- a message to the station of its port, or to all
abbrev pub IsAddressed : Event → Type 0
IsAddressed (event.Given port from to pgn bytes) = IsToStationOrAll port.station to
IsAddressed (event.Outcome from to number outcome) = Unit {0}

pub allowed_addressed : (ports : Ports) (e : Event) → IsAllowed ports e → IsAddressed e
allowed_addressed ports (event.Given port from to pgn bytes) h = h.1
allowed_addressed ports (event.Outcome from to number outcome) h = tt

shorter : (qs : List Port) (pgn len less number : ℕ) → less ≤ len → Receives qs pgn len number → Receives qs pgn less number
shorter qs pgn len less number l h = in_weaker (Opens pgn len number) (Opens pgn less number) (λ q o. (o.0, o.1, (let m : len ≤ q.max_len = o.2 in omega (arith, l, m)))) qs h

-- a message that is given at ports of the table
abbrev pub gives_to : (station : Address) → List ℕ → (from to : Address) → (pgn : ℕ) → List ℕ → List Event
gives_to station set from to pgn bytes = map (λ (number : ℕ). event.Given (record { station = station; number = number }) from to pgn bytes) set

pub given_allowed : (ports : Ports) (from to : Address) (field pgn len : ℕ) (bytes set : List ℕ) → IsToStationOrAll ports.station to → field ≡ pgn → length bytes ≤ len → AllReceive ports.open_ports pgn len set → Each (IsAllowed ports) (gives_to ports.station set from to field bytes)
given_allowed ports from to field pgn len bytes [] t e l h = tt
given_allowed ports from to field pgn len bytes (k ∷ set) t e l h = ((refl, t, subst (λ x. Receives ports.open_ports x (length bytes) k) (sym e) (shorter ports.open_ports pgn len (length bytes) k l h.0)), given_allowed ports from to field pgn len bytes set t e l h.1)
