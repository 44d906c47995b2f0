-- What is shown of every call: it gives within the lives of ports, of messages to their station or to all, and leads from
-- stations whose ports a record tells of to such.
use Rattle.std.proofs.Common.{◌≡◌, ◌⊎◌, inl, inr, ℕ, ◌+◌, ◌==◌, Bool, true, false, cond, ◌&&◌, List, [], ◌∷◌, ◌++◌, map, filter_map, set, Some, refl, sym, ap, ◌∙◌, subst, eqb-true, eq-eqb, ne_eqb}
use Rattle.std.specs.Prelude.{slice_get, position}
use Rattle.std.proofs.lemmas.Bool.{and_parts, and_right, eqb-false}
use Rattle.std.proofs.lemmas.Option.{same_Some}
use Rattle.pgn_ids.specs.declared.address.Address.{Address}
use Rattle.port_table.specs.Ports.{Ports, next_id, with_port, without_port, with_paused, is_open}
use Rattle.port_table.specs.declared.port.PortId.{PortId}
use Rattle.message_events.specs.declared.event.Event.{Event}
use Rattle.station_core.specs.Closing.{closed}
use Rattle.station_core.specs.Station.{Station, StationStep}
use Rattle.segment_law.proofs.Reaching.{slice_get_same, slice_get_other}
use Rattle.segment_law.specs.Told.{Message, Placed, same_port, any_given_to}
use Rattle.record_law.proofs.Lists.{Each, each_weaker}
use Rattle.record_law.proofs.Tests.{on_test}
use Rattle.record_law.proofs.ports.Closing.{Closes, closes}
use Rattle.record_law.proofs.ports.Lives.{Openings, Closings, Lives, AreUsed, used_opened, used_closed, used_paused, open_used, lives_on, lives_paused, lives_opened, lives_closed, lives_ended, IsTaken, given_taken}
use Rattle.record_law.proofs.ports.Ports.{receive_more, receive_marked, IsAllowed, IsAddressed, allowed_addressed}
use Rattle.record_law.proofs.ports.Receptions.{IsBound, AreBound}
use Rattle.record_law.proofs.ports.Stations.{Acts}

-- what holds of a station whatever the port is
pub record IsSound (st : Station) : Type 0 where
  pub own : st.ports.station ≡ st.address
  pub used : AreUsed st.ports
  pub sessions : AreBound st.ports st.sessions

-- what one call tells, with its place
abbrev pub placed : {A : Type 0} → ℕ → List A → List (Placed A)
placed n xs = map (λ x. (n, x)) xs

-- no closing
abbrev nothing : List PortId
nothing = []

module _ (p : PortId) where
  -- what the record tells of the port stands beside the table of its station
  abbrev pub HasLife : ℕ → Openings → Closings → Station → Type 0
  HasLife n os cs st = st.address.0 ≡ p.station.0 → Lives p.number n os cs st.ports

  abbrev pub Good : ℕ → Openings → Closings → List Station → Type 0
  Good n os cs stations = (j : ℕ) (st : Station) → slice_get stations j ≡ Some st → IsSound st × HasLife n os cs st

  -- where a call leads that opens and closes so
  pub record Goes (n : ℕ) (os : Openings) (cs : Closings) (opened : List (ℕ × ℕ)) (closed : List PortId) (stations : List Station) (events : List Event) : Type 0 where
    pub next : Good (n + 1) (os ++ placed (n + 1) opened) (cs ++ placed (n + 1) closed) stations
    pub given : Each (λ (m : Message). IsTaken n os cs m × (closed ≡ [])) (filter_map (any_given_to p) events)
    pub addressed : Each IsAddressed events

  module _ (n : ℕ) (os : Openings) (cs : Closings) where
    life_on : (more : Openings) (st : Station) → HasLife n os cs st → HasLife (n + 1) (os ++ more) (cs ++ []) st
    life_on more st h e = lives_on p.number n os cs st.ports (h e) more

    module _ (stations : List Station) (good : Good n os cs stations) where
      -- the stations are as they were
      pub goes_same : Goes n os cs [] [] stations []
      goes_same = record { next = λ j st e. let g : IsSound st × HasLife n os cs st = good j st e in (g.0, life_on [] st g.1); given = tt; addressed = tt }

      module _ (i : ℕ) (st : Station) (at : slice_get stations i ≡ Some st) where
        mine : IsSound st × HasLife n os cs st
        mine = good i st at

        equal_or_not : (j k : ℕ) → (j ≡ k) ⊎ (j ≡ k → ⊥)
        equal_or_not j k = on_test (λ b. (j == k) ≡ b → (j ≡ k) ⊎ (j ≡ k → ⊥)) (j == k) (λ _ e. inl (eqb-true j k e)) (λ _ e. inr (eqb-false j k e)) refl

        -- a station changes, but for its address
        good_set : (new : Station) (xs : Openings) (ys : Closings) → new.address ≡ st.address → IsSound new → HasLife (n + 1) xs ys new
            → ((j : ℕ) (u : Station) → (j ≡ i → ⊥) → slice_get stations j ≡ Some u → HasLife (n + 1) xs ys u) → Good (n + 1) xs ys (set stations i new)
        good_set new xs ys address sound life others j u e = by (equal_or_not j i)
          where
            by : (j ≡ i) ⊎ (j ≡ i → ⊥) → IsSound u × HasLife (n + 1) xs ys u
            by (inl q) =
                let is : new ≡ u = same_Some new u (sym (slice_get_same stations i st new at address) ∙ ap (slice_get (set stations i new)) (sym q) ∙ e) in
                subst (λ (z : Station). IsSound z × HasLife (n + 1) xs ys z) is (sound, life)
            by (inr apart) =
                let before : slice_get stations j ≡ Some u = slice_get_other stations i st new at address j u apart e in
                ((good j u before).0, others j u apart before)

        others_on : (more : Openings) (j : ℕ) (u : Station) → (j ≡ i → ⊥) → slice_get stations j ≡ Some u → HasLife (n + 1) (os ++ more) (cs ++ []) u
        others_on more j u apart e = life_on more u (good j u e).1

        -- its ports stay
        pub goes_acts : (step : StationStep) → Acts st step → Goes n os cs [] [] (set stations i step.station) step.events
        goes_acts step h =
            let new : Station = step.station in
            let sound : IsSound new = record {
              own = ap (λ (x : Ports). x.station) h.ports ∙ mine.0.own ∙ sym h.address;
              used = subst AreUsed (sym h.ports) mine.0.used;
              sessions = subst (λ (x : Ports). AreBound x new.sessions) (sym h.ports) h.sessions;
            } in
            record {
              next = good_set new (os ++ []) (cs ++ []) h.address sound
                  (λ e. subst (Lives p.number (n + 1) (os ++ []) (cs ++ [])) (sym h.ports) (life_on [] st mine.1 (ap (λ (a : Address). a.0) (sym h.address) ∙ e)))
                  (others_on []);
              given = each_weaker (IsTaken n os cs) (λ (m : Message). IsTaken n os cs m × (nothing ≡ [])) (λ m t. (t, refl)) (filter_map (any_given_to p) step.events)
                  (given_taken p n os cs st.ports (λ e. mine.1 (sym (ap (λ (a : Address). a.0) mine.0.own) ∙ e)) step.events h.events);
              addressed = each_weaker (IsAllowed st.ports) IsAddressed (allowed_addressed st.ports) step.events h.events;
            }

        -- a port is opened
        pub goes_opened : (pgn max_len : ℕ) → Goes n os cs (cond (same_port (next_id st.ports) p) ((pgn, max_len) ∷ []) []) [] (set stations i (record st { ports = with_port st.ports pgn max_len })) []
        goes_opened pgn max_len = record {
          next = good_set (record st { ports = with_port st.ports pgn max_len }) (os ++ more) (cs ++ []) refl
              (record {
                own = mine.0.own;
                used = used_opened st.ports pgn max_len mine.0.used;
                sessions = λ q v e. let b : IsBound st.ports q v = mine.0.sessions q v e in
                    record { source = b.source; pgn = b.pgn; size = b.size; state = b.state; set = receive_more st.ports.open_ports _ _ b.size v.0 b.set };
              })
              (λ e. lives_opened p.number n os cs st.ports (mine.1 e) pgn max_len more (told e))
              (others_on more);
          given = tt;
          addressed = tt;
        }
          where
            more : Openings
            more = placed (n + 1) (cond (same_port (next_id st.ports) p) ((pgn, max_len) ∷ []) [])

            told : st.address.0 ≡ p.station.0 → st.ports.opened + 1 ≡ p.number → more ≡ (n + 1, (pgn, max_len)) ∷ []
            told e f =
                let station : (st.ports.station.0 == p.station.0) ≡ true = eq-eqb st.ports.station.0 p.station.0 (ap (λ (a : Address). a.0) mine.0.own ∙ e) in
                let number : (st.ports.opened + 1 == p.number) ≡ true = eq-eqb (st.ports.opened + 1) p.number f in
                λ k. placed (n + 1) (cond (station k && number k) ((pgn, max_len) ∷ []) [])

        -- a port is paused, or no longer
        pub goes_paused : (number : ℕ) (paused : Bool) → Goes n os cs [] [] (set stations i (record st { ports = with_paused st.ports number paused })) []
        goes_paused number paused = record {
          next = good_set (record st { ports = with_paused st.ports number paused }) (os ++ []) (cs ++ []) refl
              (record {
                own = mine.0.own;
                used = used_paused st.ports number paused mine.0.used;
                sessions = λ q v e. let b : IsBound st.ports q v = mine.0.sessions q v e in
                    record { source = b.source; pgn = b.pgn; size = b.size; state = b.state; set = receive_marked number paused st.ports.open_ports _ b.size v.0 b.set };
              })
              (λ e. lives_paused p.number n os cs st.ports (mine.1 e) number paused)
              (others_on []);
          given = tt;
          addressed = tt;
        }

        -- a port is closed, at the place of its station
        pub goes_closed : (port : PortId) → is_open st.ports port.number ≡ true → position (λ (z : Station). z.address.0 == port.station.0) stations ≡ Some i
            → ((j : ℕ) (u : Station) → slice_get stations j ≡ Some u → position (λ (z : Station). z.address.0 == u.address.0) stations ≡ Some j)
            → Goes n os cs [] (cond (same_port port p) (port ∷ []) []) (set stations i (closed st port.number)) []
        goes_closed port is_open_now place places = record {
          next = good_set (closed st port.number) (os ++ []) (cs ++ more) h.address
              (record {
                own = ap (λ (x : Ports). x.station) h.ports ∙ mine.0.own ∙ sym h.address;
                used = subst AreUsed (sym h.ports) (used_closed st.ports port.number mine.0.used);
                sessions = subst (λ (x : Ports). AreBound x (closed st port.number).sessions) (sym h.ports) h.sessions;
              })
              (λ e. subst (Lives p.number (n + 1) (os ++ []) (cs ++ more)) (sym h.ports) (here (mine.1 (ap (λ (a : Address). a.0) (sym h.address) ∙ e)) (equal_or_not port.number p.number)))
              elsewhere;
          given = tt;
          addressed = tt;
        }
          where
            h : Closes port.number st (closed st port.number)
            h = closes st port.number mine.0.sessions

            more : Closings
            more = placed (n + 1) (cond (same_port port p) (port ∷ []) [])

            here : Lives p.number n os cs st.ports → (port.number ≡ p.number) ⊎ (port.number ≡ p.number → ⊥) → Lives p.number (n + 1) (os ++ []) (cs ++ more) (without_port st.ports port.number)
            here l (inl e) = subst (λ k. Lives p.number (n + 1) (os ++ []) (cs ++ more) (without_port st.ports k)) (sym e)
                (lives_ended p.number n os cs st.ports more (open_used st.ports p.number mine.0.used (ap (is_open st.ports) (sym e) ∙ is_open_now)))
            here l (inr apart) =
                let other : same_port port p ≡ false = and_right (port.station.0 == p.station.0) (port.number == p.number) (ne_eqb port.number p.number apart) in
                subst (λ b. Lives p.number (n + 1) (os ++ []) (cs ++ placed (n + 1) (cond b (port ∷ []) [])) (without_port st.ports port.number)) (sym other) (lives_closed p.number n os cs st.ports l port.number)

            elsewhere : (j : ℕ) (u : Station) → (j ≡ i → ⊥) → slice_get stations j ≡ Some u → HasLife (n + 1) (os ++ []) (cs ++ more) u
            elsewhere j u apart e is = on_test (λ b. same_port port p ≡ b → Lives p.number (n + 1) (os ++ []) (cs ++ placed (n + 1) (cond b (port ∷ []) [])) u.ports) (same_port port p)
                (λ _ t.
                let station : port.station.0 ≡ p.station.0 = eqb-true port.station.0 p.station.0 (and_parts (port.station.0 == p.station.0) (port.number == p.number) t).0 in
                let same : Some j ≡ Some i = sym (places j u e) ∙ ap (λ (k : ℕ). position (λ (z : Station). z.address.0 == k) stations) (is ∙ sym station) ∙ place in
                absurd (apart (same_Some j i same)))
                (λ _ t. life_on [] u (good j u e).1 is) refl
