-- The life of a port: what a record has told of its opening and closing, beside the table of its station.
use Rattle.std.proofs.Common.{◌≡◌, inl, ℕ, ◌+◌, ◌<◌, ◌≤◌, ◌==◌, Bool, true, false, cond, List, [], ◌∷◌, ◌++◌, filter_map, length, Some, None, refl, sym, ap, ◌∙◌, subst, arith, eqb-true, append-nil}
use Rattle.std.specs.Prelude.{is_some, find}
use Rattle.std.specs.List.{cons_option}
use Rattle.std.proofs.lemmas.Bool.{and_parts}
use Rattle.pgn_ids.specs.declared.address.Address.{Address}
use Rattle.port_table.specs.Ports.{Ports, with_port, less_port, without_port, with_paused, is_open}
use Rattle.port_table.specs.declared.port.Port.{Port}
use Rattle.port_table.specs.declared.port.PortId.{PortId}
use Rattle.message_events.specs.declared.event.Event.{Event}
use Rattle.message_events.specs.declared.event.Event.TheVariants as event
use Rattle.segment_law.specs.Told.{Message, Placed, same_port, any_given_to}
use Rattle.record_law.proofs.Lists.{Each, each_append, each_filter, each_weaker, In, in_front, in_behind, in_weaker, in_both, in_one}
use Rattle.record_law.proofs.Tests.{on_test}
use Rattle.record_law.proofs.ports.Ports.{Receives, Opens, IsAllowed, each_marked, less_lacks}

-- openings of a port, each with its PGN and length, and closings, as far as the record goes
abbrev pub Openings : Type 0
Openings = List (Placed (ℕ × ℕ))

abbrev pub Closings : Type 0
Closings = List (Placed PortId)

-- a port of the table, as it was opened at or before place n
abbrev pub Opened : (n : ℕ) → Port → Placed (ℕ × ℕ) → Type 0
Opened n q o = (o.0 ≤ n) × (o.1.0 ≡ q.pgn) × (o.1.1 ≡ q.max_len)

abbrev pub IsKnown : (n : ℕ) → Openings → Closings → Port → Type 0
IsKnown n os cs q = (cs ≡ []) × In (Opened n q) os

-- while the port is open, or is still to be opened, it was not closed; and an open one was opened
pub record Lives (number n : ℕ) (os : Openings) (cs : Closings) (ports : Ports) : Type 0 where
  pub here : Each (λ (q : Port). q.number ≡ number → IsKnown n os cs q) ports.open_ports
  pub ahead : ports.opened < number → cs ≡ []

-- each number of the table was used
abbrev pub AreUsed : Ports → Type 0
AreUsed ports = Each (λ (q : Port). q.number ≤ ports.opened) ports.open_ports

-- Numbers

pub used_opened : (ports : Ports) (pgn max_len : ℕ) → AreUsed ports → AreUsed (with_port ports pgn max_len)
used_opened ports pgn max_len h =
    each_append (λ (q : Port). q.number ≤ ports.opened + 1) ports.open_ports _
    (each_weaker (λ (q : Port). q.number ≤ ports.opened) (λ (q : Port). q.number ≤ ports.opened + 1) (λ q l. omega (arith, l)) ports.open_ports h)
    (omega arith, tt)

pub used_closed : (ports : Ports) (number : ℕ) → AreUsed ports → AreUsed (without_port ports number)
used_closed ports number h = each_filter (λ (q : Port). q.number ≤ ports.opened) _ ports.open_ports h

pub used_paused : (ports : Ports) (number : ℕ) (paused : Bool) → AreUsed ports → AreUsed (with_paused ports number paused)
used_paused ports number paused h = each_marked number paused (λ (q : Port). q.number ≤ ports.opened) (λ q b l. l) ports.open_ports h

-- an open port has a number that was used
pub open_used : (ports : Ports) (number : ℕ) → AreUsed ports → is_open ports number ≡ true → number ≤ ports.opened
open_used ports number h e = by ports.open_ports h e
  where
    by : (qs : List Port) → Each (λ (q : Port). q.number ≤ ports.opened) qs → is_some (find (λ (q : Port). q.number == number) qs) ≡ true → number ≤ ports.opened
    by [] u f = absurd (cc)
    by (q ∷ qs) u f = on_test (λ b. (q.number == number) ≡ b → is_some (cond b (Some q) (find (λ (r : Port). r.number == number) qs)) ≡ true → number ≤ ports.opened) (q.number == number)
        (λ _ t _. let l : q.number ≤ ports.opened = u.0 in omega (arith, l, eqb-true q.number number t))
        (λ _ t g. by qs u.1 g) refl f

-- Calls

module _ (number n : ℕ) (os : Openings) (cs : Closings) (ports : Ports) where
  abbrev Known : Openings → Closings → Port → Type 0
  Known xs ys q = q.number ≡ number → IsKnown (n + 1) xs ys q

  later : (q : Port) (more : Openings) → In (Opened n q) os → In (Opened (n + 1) q) (os ++ more)
  later q more h = in_front (Opened (n + 1) q) os more (in_weaker (Opened n q) (Opened (n + 1) q) (λ o k. (let l : o.0 ≤ n = k.0 in omega (arith, l), k.1, k.2)) os h)

  none_more : cs ≡ [] → cs ++ [] ≡ []
  none_more e = append-nil cs ∙ e

  known_later : (more : Openings) (qs : List Port) → Each (λ (q : Port). q.number ≡ number → IsKnown n os cs q) qs → Each (Known (os ++ more) (cs ++ [])) qs
  known_later more qs h = each_weaker (λ (q : Port). q.number ≡ number → IsKnown n os cs q) (Known (os ++ more) (cs ++ [])) (λ q k e. (none_more (k e).0, later q more (k e).1)) qs h

  module _ (h : Lives number n os cs ports) where
    -- the port is not closed
    pub lives_on : (more : Openings) → Lives number (n + 1) (os ++ more) (cs ++ []) ports
    lives_on more = record { here = known_later more ports.open_ports h.here; ahead = λ l. none_more (h.ahead l) }

    pub lives_paused : (k : ℕ) (paused : Bool) → Lives number (n + 1) (os ++ []) (cs ++ []) (with_paused ports k paused)
    lives_paused k paused = record {
      here = each_marked k paused (Known (os ++ []) (cs ++ [])) (λ q b w. w) ports.open_ports (known_later [] ports.open_ports h.here);
      ahead = λ l. none_more (h.ahead l);
    }

    -- a port is opened: this one, if the table's next number is its own
    pub lives_opened : (pgn max_len : ℕ) (more : Openings) → (ports.opened + 1 ≡ number → more ≡ (n + 1, (pgn, max_len)) ∷ []) → Lives number (n + 1) (os ++ more) (cs ++ []) (with_port ports pgn max_len)
    lives_opened pgn max_len more told = record {
      here = each_append (Known (os ++ more) (cs ++ [])) ports.open_ports _ (known_later more ports.open_ports h.here) (new, tt);
      ahead = λ l. none_more (h.ahead (omega (arith, l)));
    }
      where
        new : Known (os ++ more) (cs ++ []) (record { number = ports.opened + 1; pgn = pgn; max_len = max_len; paused = false })
        new e = (
          none_more (h.ahead (omega (arith, e))),
          in_behind (λ (o : Placed (ℕ × ℕ)). (o.0 ≤ n + 1) × (o.1.0 ≡ pgn) × (o.1.1 ≡ max_len)) os more
              (subst (In (λ (o : Placed (ℕ × ℕ)). (o.0 ≤ n + 1) × (o.1.0 ≡ pgn) × (o.1.1 ≡ max_len))) (sym (told e)) (inl (omega arith, refl, refl))),
        )

    -- another port closes
    pub lives_closed : (k : ℕ) → Lives number (n + 1) (os ++ []) (cs ++ []) (without_port ports k)
    lives_closed k = record { here = each_filter (Known (os ++ []) (cs ++ [])) _ ports.open_ports (known_later [] ports.open_ports h.here); ahead = λ l. none_more (h.ahead l) }

  -- the port closes itself
  pub lives_ended : (more : Closings) → number ≤ ports.opened → Lives number (n + 1) (os ++ []) (cs ++ more) (without_port ports number)
  lives_ended more used = record {
    here = each_weaker (λ (q : Port). q.number ≡ number → ⊥) (Known (os ++ []) (cs ++ more)) (λ q no e. absurd (no e)) (less_port number ports.open_ports) (less_lacks number ports.open_ports);
    ahead = λ l. absurd (omega (arith, used, l));
  }

-- nothing was opened
pub lives_first : (number n : ℕ) (a : Address) → Lives number n [] [] (record { station = a; open_ports = []; opened = 0 })
lives_first number n a = record { here = tt; ahead = λ l. refl }

-- What is given

-- a message of the port, opened for it at or before place n and not closed
abbrev pub IsTaken : (n : ℕ) → Openings → Closings → Message → Type 0
IsTaken n os cs m = (cs ≡ []) × In (λ (o : Placed (ℕ × ℕ)). (o.0 ≤ n) × (o.1.0 ≡ m.0) × (length m.1 ≤ o.1.1)) os

module _ (p : PortId) (n : ℕ) (os : Openings) (cs : Closings) (ports : Ports) (life : ports.station.0 ≡ p.station.0 → Lives p.number n os cs ports) where
  taken_by : (pgn : ℕ) (bytes : List ℕ) → Each (λ (q : Port). q.number ≡ p.number → IsKnown n os cs q) ports.open_ports → (number : ℕ) → number ≡ p.number → Receives ports.open_ports pgn (length bytes) number → IsTaken n os cs (pgn, bytes)
  taken_by pgn bytes known number e r = in_one Both (IsTaken n os cs (pgn, bytes)) (λ q b. of_it q b.0 (b.1 (b.0.0 ∙ e))) ports.open_ports
      (in_both (Opens pgn (length bytes) number) (λ (q : Port). q.number ≡ p.number → IsKnown n os cs q) Both (λ q o k. (o, k)) ports.open_ports r known)
    where
      Both : Port → Type 0
      Both q = Opens pgn (length bytes) number q × (q.number ≡ p.number → IsKnown n os cs q)

      of_it : (q : Port) → Opens pgn (length bytes) number q → IsKnown n os cs q → IsTaken n os cs (pgn, bytes)
      of_it q o k = (k.0, in_weaker (Opened n q) (λ (x : Placed (ℕ × ℕ)). (x.0 ≤ n) × (x.1.0 ≡ pgn) × (length bytes ≤ x.1.1)) (λ x t. (t.0, t.1 ∙ o.1, (let l : length bytes ≤ q.max_len = o.2 in omega (arith, t.2, l)))) os k.1)

  pub given_taken : (events : List Event) → Each (IsAllowed ports) events → Each (IsTaken n os cs) (filter_map (any_given_to p) events)
  given_taken [] h = tt
  given_taken (event.Outcome from to number outcome ∷ events) h = given_taken events h.1
  given_taken (event.Given port from to pgn bytes ∷ events) h = on_test (λ b. same_port port p ≡ b → Each (IsTaken n os cs) (cons_option (cond b (Some (pgn, bytes)) None) (filter_map (any_given_to p) events))) (same_port port p)
      (λ _ e.
      let s : ((port.station.0 == p.station.0) ≡ true) × ((port.number == p.number) ≡ true) = and_parts (port.station.0 == p.station.0) (port.number == p.number) e in
      let station : ports.station.0 ≡ p.station.0 = sym (ap (λ (a : Address). a.0) h.0.0) ∙ eqb-true port.station.0 p.station.0 s.0 in
      (taken_by pgn bytes (life station).here port.number (eqb-true port.number p.number s.1) h.0.2, given_taken events h.1))
      (λ _ e. given_taken events h.1) refl
