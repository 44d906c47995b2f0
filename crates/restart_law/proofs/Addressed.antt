-- What is given to a station is to it or to all.
use Rattle.std.proofs.Common.{◌≡◌, ◌⊎◌, inl, inr, ℕ, ◌+◌, ◌<◌, ◌==◌, true, cond, ◌&&◌, List, [], ◌∷◌, ◌++◌, map, filter_map, length, Some, None, refl, sym, ap, ◌∙◌, arith, eqb-true}
use Rattle.std.specs.List.{cons_option}
use Rattle.std.proofs.lemmas.Bool.{and_parts}
use Rattle.pgn_ids.specs.Address.{global_address}
use Rattle.pgn_ids.specs.declared.address.Address.{Address}
use Rattle.port_table.specs.declared.port.PortId.{PortId}
use Rattle.message_events.specs.declared.event.Event.{Event}
use Rattle.message_events.specs.declared.event.Event.TheVariants as event
use Rattle.station_core.specs.Station.{Station}
use Rattle.segment_law.specs.Calls.{events_of}
use Rattle.segment_law.specs.Record.{Step, Record}
use Rattle.segment_law.specs.Told.{Placed, AtPort, told_from, is_lane, given_to_station}
use Rattle.record_law.proofs.Lists.{Each, each_append, each_map}
use Rattle.record_law.proofs.Segments.{same_address}
use Rattle.record_law.proofs.Tests.{on_test}
use Rattle.record_law.proofs.ports.Lives.{Openings, Closings}
use Rattle.record_law.proofs.ports.Ports.{IsToStationOrAll, IsAddressed}
use Rattle.record_law.proofs.ports.Records.{AllGo}

module _ (d s x : Address) where
  abbrev pub IsIts : Type 0
  IsIts = (x ≡ d) ⊎ (x.0 ≡ global_address)

  abbrev gives : Step → List AtPort
  gives step = filter_map (given_to_station d s x) (events_of step.1)

  of_given : (port : PortId) (from to : Address) → (port.station.0 == d.0 && is_lane s x from to) ≡ true → IsToStationOrAll port.station to → IsIts
  of_given port from to e h =
      let t = and_parts (port.station.0 == d.0) (is_lane s x from to) e in
      let station : port.station.0 ≡ d.0 = eqb-true port.station.0 d.0 t.0 in
      let goal : x.0 ≡ to.0 = sym (eqb-true to.0 x.0 (and_parts (from.0 == s.0) (to.0 == x.0) t.1).1) in
      by station goal h
    where
      by : port.station.0 ≡ d.0 → x.0 ≡ to.0 → IsToStationOrAll port.station to → IsIts
      by station goal (inl own) = inl (same_address x d (goal ∙ ap (λ (a : Address). a.0) own ∙ station))
      by station goal (inr every) = inr (goal ∙ every)

  its_givens : (events : List Event) → Each IsAddressed events → Each (λ (g : AtPort). IsIts) (filter_map (given_to_station d s x) events)
  its_givens [] h = tt
  its_givens (event.Outcome from to number outcome ∷ events) h = its_givens events h.1
  its_givens (event.Given port from to pgn bytes ∷ events) h = on_test (λ b. (port.station.0 == d.0 && is_lane s x from to) ≡ b → Each (λ (g : AtPort). IsIts) (cons_option (cond b (Some (port.number, (pgn, bytes))) None) (filter_map (given_to_station d s x) events))) (port.station.0 == d.0 && is_lane s x from to)
      (λ _ e. (of_given port from to e h.0, its_givens events h.1))
      (λ _ e. its_givens events h.1) refl

  pub along_all : (p : PortId) (before since : Record) (stations last : List Station) (n place : ℕ) (os : Openings) (cs : Closings) → AllGo p n os cs stations (before ++ since) last → Each (λ (g : Placed AtPort). IsIts) (told_from gives place since)
  along_all p (step ∷ before) since stations last n place os cs go = along_all p before since go.0 last (n + 1) place _ _ go.2
  along_all p [] [] stations last n place os cs go = tt
  along_all p [] (step ∷ since) stations last n place os cs go = each_append (λ (g : Placed AtPort). IsIts) (map (λ (g : AtPort). (place, g)) (gives step)) (told_from gives (place + 1) since)
      (each_map (λ (g : Placed AtPort). IsIts) (λ (g : AtPort). (place, g)) (gives step) (its_givens (events_of step.1) go.1.addressed))
      (along_all p [] since go.0 last (n + 1) (place + 1) _ _ go.2)

  pub of_some : (xs : List (Placed AtPort)) → Each (λ (g : Placed AtPort). IsIts) xs → 0 < length xs → IsIts
  of_some [] h l = absurd (omega (arith, l))
  of_some (g ∷ xs) h l = h.0
