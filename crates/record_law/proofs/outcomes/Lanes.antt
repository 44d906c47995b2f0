-- The steps of the lanes of a station: what each tells of its own messages, and that it tells nothing of another's.
use Rattle.std.proofs.Common.{◌≡◌, ℕ, zero, suc, ◌+◌, ◌==◌, cond, List, [], ◌++◌, Option, Some, None, refl, sym, ap, ◌∙◌, arith, eqb-true, ne_eqb}
use Rattle.std.proofs.lemmas.Bool.{eqb-false}
use Rattle.std.specs.Cmp.{nat_cmp_total, unsigned_tied}
use Rattle.std.specs.FinMap as finmap
use Rattle.std.specs.FinMap.{get-insert}
use Rattle.pgn_ids.specs.declared.address.Address.{Address}
use Rattle.lane_core.specs.Lane.{Lane, new_lane}
use Rattle.lane_core.specs.Step.{nothing_to_do, LaneStep}
use Rattle.lane_core.specs.Overrun.{overrun}
use Rattle.station_lanes.specs.Lanes.{Lanes}
use Rattle.station_lanes.specs.LaneCalls.{stepped_lanes, step_at, outcome_of, lane_to}
use Rattle.station_lanes.specs.LaneReaders.{overrun_lanes, overrun_events}
use Rattle.message_events.specs.declared.event.Event.{Event}
use Rattle.record_law.proofs.Maps.{lane_here}
use Rattle.record_law.proofs.Tests.{on_test}
use Rattle.record_law.proofs.outcomes.Counting.{times, times-append, times-none}
use Rattle.record_law.proofs.outcomes.LaneSteps.{numbers_of, ended_number, Ends, ends_overrun}
use Rattle.record_law.proofs.outcomes.Events.{named_in, named_append, named_own, named_foreign, named_else}

lane_apart : (lanes : Lanes) (to q : ℕ) (lane : Lane) → (q ≡ to → ⊥) → finmap.get (finmap.insert lanes to lane) q ≡ finmap.get lanes q
lane_apart lanes to q lane n = get-insert nat_cmp_total lanes to lane q ∙ ap (λ b. cond b (Some lane) (finmap.get lanes q)) (unsigned_tied q to ∙ ne_eqb q to n)

module _ (a : Address) where
  abbrev lane_or : ℕ → Option Lane → Lane
  lane_or to o = elim o as (λ (_ : Option Lane). Lane) [ None ↦ new_lane a.0 to | Some lane ↦ lane ]

  pub put_here : (lanes : Lanes) (to q : ℕ) (lane : Lane) → q ≡ to → lane_to a (finmap.insert lanes to lane) q ≡ lane
  put_here lanes to q lane e = ap (lane_to a (finmap.insert lanes to lane)) e ∙ ap (lane_or to) (lane_here lanes to lane)

  pub put_apart : (lanes : Lanes) (to q : ℕ) (lane : Lane) → (q ≡ to → ⊥) → lane_to a (finmap.insert lanes to lane) q ≡ lane_to a lanes q
  put_apart lanes to q lane n = ap (lane_or q) (lane_apart lanes to q lane n)

  found_lane : (lanes : Lanes) (to q : ℕ) (lane : Lane) → finmap.get lanes to ≡ Some lane → q ≡ to → lane_to a lanes q ≡ lane
  found_lane lanes to q lane is e = ap (lane_to a lanes) e ∙ ap (lane_or to) is

  -- what a lane has sent, and what of it is pending
  abbrev pub sent_of : Lane → ℕ
  sent_of lane = lane.sent

  abbrev pub waits_of : Lane → List ℕ
  waits_of lane = numbers_of lane.pending

  -- of each lane of station a, each number that was pending still is, or has its outcome told; nothing else is told
  pub record Tells (lanes new : Lanes) (events : List Event) : Type 0 where
    pub sent : (to : ℕ) → sent_of (lane_to a new to) ≡ sent_of (lane_to a lanes to)
    pub own : (s d : Address) → a.0 ≡ s.0 → (n : ℕ) → times n (waits_of (lane_to a lanes d.0)) ≡ times n (waits_of (lane_to a new d.0)) + times n (named_in s d events)
    pub others : (s d : Address) → (a.0 ≡ s.0 → ⊥) → named_in s d events ≡ []

  pub tells_none : (lanes : Lanes) (events : List Event) → ((s d : Address) → named_in s d events ≡ []) → Tells lanes lanes events
  tells_none lanes events none = record {
    sent = λ to. refl;
    own = λ s d e n. let z : times n (named_in s d events) ≡ 0 = times-none n (named_in s d events) (none s d) in omega (arith, z);
    others = λ s d n. none s d;
  }

  pub tells_then : (x y z : Lanes) (events more : List Event) → Tells x y events → Tells y z more → Tells x z (events ++ more)
  tells_then x y z events more h k = record {
    sent = λ to. k.sent to ∙ h.sent to;
    own = λ s d e n.
        let all : times n (named_in s d (events ++ more)) ≡ times n (named_in s d events) + times n (named_in s d more) = ap (times n) (named_append s d events more) ∙ times-append n (named_in s d events) (named_in s d more) in
        let one : times n (waits_of (lane_to a x d.0)) ≡ times n (waits_of (lane_to a y d.0)) + times n (named_in s d events) = h.own s d e n in
        let two : times n (waits_of (lane_to a y d.0)) ≡ times n (waits_of (lane_to a z d.0)) + times n (named_in s d more) = k.own s d e n in
        omega (arith, all, one, two);
    others = λ s d n. named_append s d events more ∙ (λ i. h.others s d n i ++ k.others s d n i);
  }

  -- the lane to a destination makes a step
  tells_put : (lanes : Lanes) (to : Address) (lane : Lane) (step : Lane × LaneStep) → finmap.get lanes to.0 ≡ Some lane → Ends lane step → Tells lanes (finmap.insert lanes to.0 step.0) (outcome_of a to step.1.ended)
  tells_put lanes to lane step is h = record {
    sent = λ q. on_test (λ b. (q == to.0) ≡ b → sent_of (lane_to a new q) ≡ sent_of (lane_to a lanes q)) (q == to.0)
        (λ _ t. let e : q ≡ to.0 = eqb-true q to.0 t in ap sent_of (put_here lanes to.0 q step.0 e) ∙ h.sent ∙ sym (ap sent_of (found_lane lanes to.0 q lane is e)))
        (λ _ f. ap sent_of (put_apart lanes to.0 q step.0 (eqb-false q to.0 f))) refl;
    own = λ s d mine n. on_test (λ b. (d.0 == to.0) ≡ b → times n (waits_of (lane_to a lanes d.0)) ≡ times n (waits_of (lane_to a new d.0)) + times n (named_in s d events)) (d.0 == to.0)
        (λ _ t.
        let e : d.0 ≡ to.0 = eqb-true d.0 to.0 t in
        let before : times n (waits_of (lane_to a lanes d.0)) ≡ times n (numbers_of lane.pending) = ap (λ (l : Lane). times n (waits_of l)) (found_lane lanes to.0 d.0 lane is e) in
        let after : times n (waits_of (lane_to a new d.0)) ≡ times n (numbers_of step.0.pending) = ap (λ (l : Lane). times n (waits_of l)) (put_here lanes to.0 d.0 step.0 e) in
        let told : times n (named_in s d events) ≡ times n (ended_number step.1.ended) = ap (times n) (named_own s d a to step.1.ended mine (sym e)) in
        let each : times n (numbers_of lane.pending) ≡ times n (numbers_of step.0.pending) + times n (ended_number step.1.ended) = h.each n in
        omega (arith, before, after, told, each))
        (λ _ f.
        let apart : d.0 ≡ to.0 → ⊥ = eqb-false d.0 to.0 f in
        let same : times n (waits_of (lane_to a new d.0)) ≡ times n (waits_of (lane_to a lanes d.0)) = ap (λ (l : Lane). times n (waits_of l)) (put_apart lanes to.0 d.0 step.0 apart) in
        let none : times n (named_in s d events) ≡ 0 = times-none n (named_in s d events) (named_else s d a to step.1.ended (λ e. apart (sym e))) in
        omega (arith, same, none)) refl;
    others = λ s d n. named_foreign s d a to step.1.ended n;
  }
    where
      new : Lanes
      new = finmap.insert lanes to.0 step.0

      events : List Event
      events = outcome_of a to step.1.ended

  pub tells_lane : (lanes : Lanes) (to : Address) (step : Lane → Lane × LaneStep) → ((lane : Lane) → finmap.get lanes to.0 ≡ Some lane → Ends lane (step lane)) → Tells lanes (stepped_lanes lanes to.0 step) (outcome_of a to (step_at lanes to.0 step).ended)
  tells_lane lanes to step h = by (finmap.get lanes to.0) refl
    where
      by : (o : Option Lane) → finmap.get lanes to.0 ≡ o → Tells lanes (elim o as (λ (_ : Option Lane). Lanes) [ None ↦ lanes | Some lane ↦ finmap.insert lanes to.0 (step lane).0 ]) (outcome_of a to (elim o as (λ (_ : Option Lane). LaneStep) [ None ↦ nothing_to_do | Some lane ↦ (step lane).1 ]).ended)
      by None e = tells_none lanes [] (λ s d. refl)
      by (Some lane) e = tells_put lanes to lane (step lane) e (h lane e)

  -- all lanes are overrun
  pub tells_overrun : (lanes : Lanes) (n : ℕ) → Tells lanes (overrun_lanes lanes n) (overrun_events a lanes n)
  unfolding overrun_lanes overrun_events
  tells_overrun lanes zero = tells_none lanes [] (λ s d. refl)
  tells_overrun lanes (suc n) = tells_then lanes (overrun_lanes lanes n) (stepped_lanes (overrun_lanes lanes n) n overrun) (overrun_events a lanes n) (outcome_of a (record { 0 = n }) (step_at (overrun_lanes lanes n) n overrun).ended)
      (tells_overrun lanes n) (tells_lane (overrun_lanes lanes n) (record { 0 = n }) overrun (λ lane _. ends_overrun lane))
