-- The message numbers of a lane that events tell an outcome of.
use Rattle.std.proofs.Common.{◌≡◌, ℕ, ◌==◌, Bool, true, false, cond, ◌&&◌, List, [], ◌∷◌, ◌++◌, Option, Some, None, refl, ap, ◌∙◌, eq-eqb, ne_eqb}
use Rattle.std.specs.Prelude.{map, filter_map}
use Rattle.std.specs.List.{cons_option}
use Rattle.std.proofs.lemmas.Bool.{and_left, and_right}
use Rattle.std.proofs.lemmas.List.{map-append}
use Rattle.std.proofs.lemmas.List.Elements.{filter_map-append}
use Rattle.pgn_ids.specs.declared.address.Address.{Address}
use Rattle.lane_core.specs.declared.step.Ended.{Ended}
use Rattle.message_events.specs.declared.event.Event.{Event}
use Rattle.station_lanes.specs.LaneCalls.{outcome_of}
use Rattle.message_events.specs.declared.event.Event.TheVariants as event
use Rattle.segment_law.specs.Told.{NumberedOutcome, outcome_in, is_lane}
use Rattle.record_law.proofs.outcomes.LaneSteps.{ended_number}

abbrev pub number_of : NumberedOutcome → ℕ
number_of o = o.0

abbrev pub named_in : (s d : Address) → List Event → List ℕ
named_in s d events = map number_of (filter_map (outcome_in s d) events)

-- a message at each of these ports
abbrev pub gives : (station : Address) → List ℕ → (from to : Address) → (pgn : ℕ) → List ℕ → List Event
gives station ports from to pgn bytes = map (λ (number : ℕ). event.Given (record { station = station; number = number }) from to pgn bytes) ports

module _ (s d : Address) where
  pub named_append : (events more : List Event) → named_in s d (events ++ more) ≡ named_in s d events ++ named_in s d more
  named_append events more = ap (map number_of) (filter_map-append (outcome_in s d) events more) ∙ map-append number_of (filter_map (outcome_in s d) events) (filter_map (outcome_in s d) more)

  -- a message that is given is none
  pub named_given : (station : Address) (ports : List ℕ) (from to : Address) (pgn : ℕ) (bytes : List ℕ) → named_in s d (gives station ports from to pgn bytes) ≡ []
  named_given station [] from to pgn bytes = refl
  named_given station (n ∷ ports) from to pgn bytes = named_given station ports from to pgn bytes

  abbrev named_where : Bool → Option Ended → List ℕ
  named_where true o = ended_number o
  named_where false o = []

  abbrev named_if : Ended → Bool → List ℕ
  named_if e b = map number_of (cons_option (cond b (Some (e.number, e.outcome)) None) [])

  by_lane : (from to : Address) (o : Option Ended) (b : Bool) → is_lane s d from to ≡ b → named_in s d (outcome_of from to o) ≡ named_where b o
  by_lane from to None true e = refl
  by_lane from to None false e = refl
  by_lane from to (Some ended) true e = ap (named_if ended) e
  by_lane from to (Some ended) false e = ap (named_if ended) e

  -- an outcome of the lane itself, of another station and to another destination
  pub named_own : (from to : Address) (o : Option Ended) → from.0 ≡ s.0 → to.0 ≡ d.0 → named_in s d (outcome_of from to o) ≡ ended_number o
  named_own from to o f t = by_lane from to o true (λ k. eq-eqb from.0 s.0 f k && eq-eqb to.0 d.0 t k)

  pub named_foreign : (from to : Address) (o : Option Ended) → (from.0 ≡ s.0 → ⊥) → named_in s d (outcome_of from to o) ≡ []
  named_foreign from to o n = by_lane from to o false (and_left (from.0 == s.0) (to.0 == d.0) (ne_eqb from.0 s.0 n))

  pub named_else : (from to : Address) (o : Option Ended) → (to.0 ≡ d.0 → ⊥) → named_in s d (outcome_of from to o) ≡ []
  named_else from to o n = by_lane from to o false (and_right (from.0 == s.0) (to.0 == d.0) (ne_eqb to.0 d.0 n))
