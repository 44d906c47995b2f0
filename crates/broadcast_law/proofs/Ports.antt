-- Ports have numbers of their own, so a message is told to each of them once. What a reply tells a station is one message.
use Rattle.std.proofs.Common.{◌≡◌, ◌⊎◌, inl, inr, ℕ, ◌+◌, ◌≤◌, ◌==◌, Bool, true, false, not, ◌&&◌, List, [], ◌∷◌, ◌++◌, map, filter, filter_map, refl, sym, ap, ◌∙◌, arith, ne_eqb}
use Rattle.std.proofs.lemmas.Bool.{and_left, and_right}
use Rattle.pgn_ids.specs.declared.address.Address.{Address}
use Rattle.port_table.specs.PortSet.{without_number}
use Rattle.port_table.specs.Ports.{Ports, with_port, without_port, with_paused, marked, ports_for, receives}
use Rattle.port_table.specs.declared.port.Port.{Port}
use Rattle.message_events.specs.declared.event.Event.{Event}
use Rattle.message_events.specs.declared.event.Event.TheVariants as event
use Rattle.segment_law.specs.Told as told
use Rattle.segment_law.specs.Told.{AtPort, is_lane, given_to_station}
use Rattle.record_law.proofs.Lists.{Each, each_append, each_filter, each_map}
use Rattle.record_law.proofs.Tests.{on_test, either}
use Rattle.broadcast_law.proofs.Carried.{all}

-- no number stands twice
abbrev pub Distinct : List ℕ → Type 0
Distinct [] = Unit {0}
Distinct (k ∷ ks) = Each (λ j. j ≡ k → ⊥) ks × Distinct ks

pub distinct_without : (number : ℕ) (ks : List ℕ) → Distinct ks → Distinct (without_number ks number)
distinct_without number ks h = filtered (λ n. not (n == number)) ks h
  where
    filtered : (keep : ℕ → Bool) (ks : List ℕ) → Distinct ks → Distinct (filter keep ks)
    filtered keep [] h = tt
    filtered keep (k ∷ ks) h = either Distinct (keep k) (k ∷ filter keep ks) (filter keep ks) (each_filter (λ j. j ≡ k → ⊥) keep ks h.0, filtered keep ks h.1) (filtered keep ks h.1)

abbrev Apart : List Port → Type 0
Apart [] = Unit {0}
Apart (q ∷ qs) = Each (λ (r : Port). r.number ≡ q.number → ⊥) qs × Apart qs

pub record ArePortsOf (a : Address) (ports : Ports) : Type 0 where
  pub station : ports.station ≡ a
  pub apart : Apart ports.open_ports
  pub used : Each (λ (q : Port). q.number ≤ ports.opened) ports.open_ports

apart_push : (n : ℕ) (qs : List Port) (p : Port) → p.number ≡ n + 1 → Each (λ (q : Port). q.number ≤ n) qs → Apart qs → Apart (qs ++ p ∷ [])
apart_push n [] p e u h = (tt, tt)
apart_push n (q ∷ qs) p e u h = (each_append (λ (r : Port). r.number ≡ q.number → ⊥) qs (p ∷ []) h.0 ((λ x. omega (arith, x, e, u.0)), tt), apart_push n qs p e u.1 h.1)

used_more : (n : ℕ) (qs : List Port) → Each (λ (q : Port). q.number ≤ n) qs → Each (λ (q : Port). q.number ≤ n + 1) qs
used_more n [] h = tt
used_more n (q ∷ qs) h = (omega (arith, h.0), used_more n qs h.1)

apart_filter : (keep : Port → Bool) (qs : List Port) → Apart qs → Apart (filter keep qs)
apart_filter keep [] h = tt
apart_filter keep (q ∷ qs) h = either Apart (keep q) (q ∷ filter keep qs) (filter keep qs) (each_filter (λ (r : Port). r.number ≡ q.number → ⊥) keep qs h.0, apart_filter keep qs h.1) (apart_filter keep qs h.1)

numbers_apart : (qs : List Port) → Apart qs → Distinct (map (λ (q : Port). q.number) qs)
numbers_apart [] h = tt
numbers_apart (q ∷ qs) h = (each_map (λ j. j ≡ q.number → ⊥) (λ (r : Port). r.number) qs h.0, numbers_apart qs h.1)

module _ (number : ℕ) (paused : Bool) where
  marked_number : (q : Port) → (marked number paused q).number ≡ q.number
  marked_number q = either (λ (x : Port). x.number ≡ q.number) (q.number == number) (record q { paused = paused }) q refl refl

  each_marked : (P : ℕ → Type 0) (qs : List Port) → Each (λ (q : Port). P q.number) qs → Each (λ (q : Port). P q.number) (map (marked number paused) qs)
  each_marked P [] h = tt
  each_marked P (q ∷ qs) h = (rw (marked_number q) h.0, each_marked P qs h.1)

  apart_marked : (qs : List Port) → Apart qs → Apart (map (marked number paused) qs)
  apart_marked [] h = tt
  apart_marked (q ∷ qs) h = (each_marked (λ n. n ≡ (marked number paused q).number → ⊥) qs (rw (marked_number q) h.0), apart_marked qs h.1)

module _ (a : Address) (ports : Ports) (h : ArePortsOf a ports) where
  pub ports_opened : (pgn max_len : ℕ) → ArePortsOf a (with_port ports pgn max_len)
  ports_opened pgn max_len =
      let p : Port = record { number = ports.opened + 1; pgn = pgn; max_len = max_len; paused = false } in
      record { station = h.station; apart = apart_push ports.opened ports.open_ports p refl h.used h.apart; used = each_append (λ (q : Port). q.number ≤ ports.opened + 1) ports.open_ports (p ∷ []) (used_more ports.opened ports.open_ports h.used) (omega arith, tt) }

  pub ports_closed : (number : ℕ) → ArePortsOf a (without_port ports number)
  ports_closed number = record { station = h.station; apart = apart_filter _ ports.open_ports h.apart; used = each_filter (λ (q : Port). q.number ≤ ports.opened) _ ports.open_ports h.used }

  pub ports_paused : (number : ℕ) (paused : Bool) → ArePortsOf a (with_paused ports number paused)
  ports_paused number paused = record { station = h.station; apart = apart_marked number paused ports.open_ports h.apart; used = each_marked number paused (λ n. n ≤ ports.opened) ports.open_ports h.used }

  pub set_distinct : (pgn len : ℕ) → Distinct (ports_for ports pgn len)
  set_distinct pgn len = numbers_apart (filter (receives pgn len) ports.open_ports) (apart_filter (receives pgn len) ports.open_ports h.apart)

-- What events tell

-- an event of station a
abbrev pub IsOfPort : Address → Event → Type 0
IsOfPort a (event.Given port from to pgn bytes) = port.station.0 ≡ a.0
IsOfPort a (event.Outcome from to number outcome) = Unit {0}

-- an event that gives nothing of s to all
abbrev pub IsUntold : Address → Event → Type 0
IsUntold s (event.Given port from to pgn bytes) = is_lane s all from to ≡ false
IsUntold s (event.Outcome from to number outcome) = Unit {0}

-- what they give of s to all at the ports of station r, and the first message of it
abbrev pub station_told : (r s : Address) → List Event → List AtPort
station_told r s events = filter_map (given_to_station r s all) events

abbrev pub first_message : List AtPort → List told.Message
first_message [] = []
first_message (x ∷ xs) = x.1 ∷ []

abbrev pub told_to : (r s : Address) → List Event → List told.Message
told_to r s events = first_message (station_told r s events)

pub none_told : (r s : Address) (events : List Event) → Each (IsUntold s) events → station_told r s events ≡ []
none_told r s [] h = refl
none_told r s (event.Given port from to pgn bytes ∷ events) h = rw (and_right (port.station.0 == r.0) (is_lane s all from to) h.0) (none_told r s events h.1)
none_told r s (event.Outcome from to number outcome ∷ events) h = none_told r s events h.1

pub none_elsewhere : (r s a : Address) (events : List Event) → (a.0 ≡ r.0 → ⊥) → Each (IsOfPort a) events → station_told r s events ≡ []
none_elsewhere r s a [] n h = refl
none_elsewhere r s a (event.Given port from to pgn bytes ∷ events) n h =
    rw (and_left (port.station.0 == r.0) (is_lane s all from to) (ne_eqb port.station.0 r.0 (λ x. n (sym h.0 ∙ x)))) (none_elsewhere r s a events n h.1)
none_elsewhere r s a (event.Outcome from to number outcome ∷ events) n h = none_elsewhere r s a events n h.1

-- nothing, or one message at ports that are told apart
pub record IsOneGiving (xs : List AtPort) : Type 0 where
  pub ports : List ℕ
  pub message : told.Message
  pub distinct : Distinct ports
  pub is : xs ≡ map (λ k. (k, message)) ports

pub one_of_none : (xs : List AtPort) → xs ≡ [] → IsOneGiving xs
one_of_none xs e = record { ports = []; message = (0, []); distinct = tt; is = e }

-- a message that is given at ports of a station
abbrev pub gives_to : (station : Address) → List ℕ → (from to : Address) → (pgn : ℕ) → List ℕ → List Event
gives_to station set from to pgn bytes = map (λ (number : ℕ). event.Given (record { station = station; number = number }) from to pgn bytes) set

module _ (station from to : Address) (pgn : ℕ) (bytes : List ℕ) where
  abbrev given : List ℕ → List Event
  given set = gives_to station set from to pgn bytes

  pub given_of_port : (a : Address) (set : List ℕ) → station ≡ a → Each (IsOfPort a) (given set)
  given_of_port a [] e = tt
  given_of_port a (k ∷ set) e = (ap (λ (x : Address). x.0) e, given_of_port a set e)

  pub given_untold : (s : Address) (set : List ℕ) → is_lane s all from to ≡ false → Each (IsUntold s) (given set)
  given_untold s [] e = tt
  given_untold s (k ∷ set) e = (e, given_untold s set e)

  -- a station is told it at all these ports, or not at all
  module _ (r s : Address) where
    abbrev test : Bool
    test = station.0 == r.0 && is_lane s all from to

    all_here : test ≡ true → (set : List ℕ) → station_told r s (given set) ≡ map (λ k. (k, (pgn, bytes))) set
    all_here e [] = refl
    all_here e (k ∷ set) = rw e (ap (λ (xs : List AtPort). (k, (pgn, bytes)) ∷ xs) (all_here e set))

    none_here : test ≡ false → (set : List ℕ) → station_told r s (given set) ≡ []
    none_here e [] = refl
    none_here e (k ∷ set) = rw e (none_here e set)

    pub given_one : (set : List ℕ) → Distinct set → IsOneGiving (station_told r s (given set))
    given_one set d = on_test (λ b. test ≡ b → IsOneGiving (station_told r s (given set))) test
        (λ _ e. record { ports = set; message = (pgn, bytes); distinct = d; is = all_here e set }) (λ _ e. one_of_none _ (none_here e set)) refl

    abbrev IsToldOnce : List ℕ → Type 0
    IsToldOnce set = (told_to r s (given set) ≡ []) ⊎ (told_to r s (given set) ≡ (pgn, bytes) ∷ [])

    pub told_once : (set : List ℕ) → IsToldOnce set
    told_once set = on_test (λ b. test ≡ b → IsToldOnce set) test (λ _ e. first set (all_here e set)) (λ _ e. inl (ap first_message (none_here e set))) refl
      where
        first : (set : List ℕ) → station_told r s (given set) ≡ map (λ k. (k, (pgn, bytes))) set → IsToldOnce set
        first [] e = inl (ap first_message e)
        first (k ∷ set) e = inr (ap first_message e)
