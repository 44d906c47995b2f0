-- How many outcomes an overrun tells at most.
use Rattle.std.proofs.Common.{◌≡◌, ℕ, zero, suc, ◌+◌, ◌<◌, ◌≤◌, ◌==◌, nat_lt, Bool, true, false, cond, List, [], ◌∷◌, ◌++◌, ◌≢◌, length, length-append, Option, Some, None, refl, sym, ap, ◌∙◌, subst, arith, add-one}
use Rattle.std.proofs.lemmas.Bool.{eqb-true, eqb-false, lt-ltb}
use Rattle.std.proofs.lemmas.Bool.Decides.{nat_tests}
use Rattle.std.specs.Cmp.{nat_cmp_total, unsigned_tied}
use Rattle.std.specs.Ordering.{nat_cmp, eq_by_cmp}
use Rattle.std.specs.FinMap as map
use Rattle.std.specs.FinMap.{get-insert}
use Rattle.pgn_ids.specs.declared.address.Address.{Address}
use Rattle.tp_wire.specs.declared.outcome.Outcome.{Outcome}
use Rattle.lane_core.specs.declared.message.Pending.{Pending}
use Rattle.lane_core.specs.declared.place.UnderWay.{UnderWay}
use Rattle.lane_core.specs.declared.place.UnderWay.TheVariants.{Nothing, Broadcast, Connection}
use Rattle.lane_core.specs.Step.{LaneStep, nothing_to_do}
use Rattle.lane_core.specs.Lane.{Lane}
use Rattle.lane_core.specs.Endings.{front_ended}
use Rattle.lane_core.specs.Overrun.{overrun, overrun_by}
use Rattle.message_events.specs.declared.event.Event.{Event}
use Rattle.station_lanes.specs.Lanes.{Lanes}
use Rattle.station_lanes.specs.LaneCalls.{step_at, outcome_of}
use Rattle.station_lanes.specs.LaneReaders.{count_below, is_waiting_at, overrun_lanes, overrun_events}
use Rattle.station_lanes.proofs.Counting.{overrun_next, overrun_told, overrun_from, told_from}

pub count_from : (test : ℕ → Bool) → count_below test 0 ≡ 0
unfolding count_below
count_from test = refl

pub count_passes : (test : ℕ → Bool) (n : ℕ) → test n ≡ true → count_below test (n + 1) ≡ count_below test n + 1
unfolding count_below
count_passes test n e = rw add-one (ap (λ b. count_below test n + cond b 1 0) e)

pub count_fails : (test : ℕ → Bool) (n : ℕ) → test n ≡ false → count_below test (n + 1) ≡ count_below test n
unfolding count_below
count_fails test n e = rw add-one (ap (λ b. count_below test n + cond b 1 0) e ∙ omega arith)

pub ruleset count_laws = (count_from, count_passes, count_fails)

count_within : (test : ℕ → Bool) (n : ℕ) → count_below test n ≤ n
unfolding count_below
count_within test zero = omega arith
count_within test (suc n) = by (test n) (count_within test n)
  where
    by : (b : Bool) → count_below test n ≤ n → count_below test n + cond b 1 0 ≤ suc n
    by true below = omega arith
    by false below = omega arith

-- no more pass below a lower number
pub count_rises : (test : ℕ → Bool) (n m : ℕ) → n ≤ m → count_below test n ≤ count_below test m
unfolding count_below
count_rises test n zero below = omega (arith, count_within test n)
count_rises test n (suc m) below = by (n == suc m) refl (λ (less : n ≤ m). count_rises test n m less)
  where
    by : (b : Bool) → (n == suc m) ≡ b → (n ≤ m → count_below test n ≤ count_below test m) → count_below test n ≤ count_below test m + cond (test m) 1 0
    by true e before = subst (λ x. count_below test n ≤ count_below test x) (eqb-true n (suc m) e) (omega arith)
    by false e before =
        let apart : n ≢ suc m = eqb-false n (suc m) e in
        let less : count_below test n ≤ count_below test m = before (omega arith) in
        omega arith

-- the lanes to higher destinations are as they were
get_overrun : (lanes : Lanes) (n to : ℕ) → n ≤ to → map.get (overrun_lanes lanes n) to ≡ map.get lanes to
unfolding overrun_lanes
get_overrun lanes zero to below = refl
get_overrun lanes (suc n) to below = by (map.get (overrun_lanes lanes n) n) ∙ get_overrun lanes n to (omega arith)
  where
    apart : eq_by_cmp nat_cmp to n ≡ false
    apart = unsigned_tied to n ∙ grind (arith, nat_tests)

    by : (o : Option Lane) → map.get (elim o as (λ _. Lanes) [ None ↦ overrun_lanes lanes n | Some lane ↦ map.insert (overrun_lanes lanes n) n (overrun lane).0 ]) to ≡ map.get (overrun_lanes lanes n) to
    by None = refl
    by (Some lane) = get-insert nat_cmp_total (overrun_lanes lanes n) n (overrun lane).0 to ∙ ap (λ b. cond b (Some (overrun lane).0) (map.get (overrun_lanes lanes n) to)) apart

-- whether a lane has a message without an outcome
abbrev waits : Option Lane → Bool
waits o = elim o as (λ _. Bool) [ None ↦ false | Some lane ↦ nat_lt 0 (length lane.pending) ]

few_ended : (from to : Address) (messages : List Pending) (o : Outcome) → length (outcome_of from to (front_ended messages o)) ≤ cond (nat_lt 0 (length messages)) 1 0
few_ended from to [] o = let e : 0 ≤ 0 = omega arith in e
few_ended from to (m ∷ ms) o =
    let one : 1 ≤ cond true 1 0 = omega arith in
    subst (λ (b : Bool). 1 ≤ cond b 1 0) (sym (lt-ltb 0 (suc (length ms)) (omega arith))) one

few_overrun : (from to : Address) (u : UnderWay) (lane : Lane) → length (outcome_of from to (overrun_by u lane).1.ended) ≤ cond (nat_lt 0 (length lane.pending)) 1 0
few_overrun from to Nothing lane = omega arith
few_overrun from to (Broadcast s) lane = omega arith
few_overrun from to (Connection s) lane = few_ended from to lane.pending _

few_of : (from to : Address) (o : Option Lane) → length (outcome_of from to (elim o as (λ _. LaneStep) [ None ↦ nothing_to_do | Some lane ↦ (overrun lane).1 ]).ended) ≤ cond (waits o) 1 0
few_of from to None = omega arith
few_of from to (Some lane) = few_overrun from to lane.under_way lane

-- a lane tells nothing unless a message of it has no outcome
few_told : (from to : Address) (lanes : Lanes) (n : ℕ) → length (outcome_of from to (step_at (overrun_lanes lanes n) n overrun).ended) ≤ cond (is_waiting_at lanes n) 1 0
few_told from to lanes n = subst (λ (o : Option Lane). length (outcome_of from to (step_at (overrun_lanes lanes n) n overrun).ended) ≤ cond (waits o) 1 0) (get_overrun lanes n n (omega arith)) (few_of from to (map.get (overrun_lanes lanes n) n))

-- no more is told than destinations have messages without an outcome
pub told_few : (from : Address) (lanes : Lanes) (n : ℕ) → length (overrun_events from lanes n) ≤ count_below (is_waiting_at lanes) n
unfolding overrun_events count_below
told_few from lanes zero = omega arith
told_few from lanes (suc n) = by _ _ _ (told_few from lanes n) (few_told from (record { 0 = n }) lanes n)
  where
    by : (told more : List Event) (b : Bool) → length told ≤ count_below (is_waiting_at lanes) n → length more ≤ cond b 1 0 → length (told ++ more) ≤ count_below (is_waiting_at lanes) n + cond b 1 0
    by told more b few one = omega (arith, length-append told more)

-- the room that was made is enough for the next lane
pub room_left : (from : Address) (lanes : Lanes) (to : ℕ) → to < 256 → length (overrun_events from lanes to) + length (outcome_of from (record { 0 = to }) (step_at (overrun_lanes lanes to) to overrun).ended) ≤ count_below (is_waiting_at lanes) 256
room_left from lanes to below =
    let all : length (overrun_events from lanes (to + 1)) ≤ count_below (is_waiting_at lanes) (to + 1) = told_few from lanes (to + 1) in
    let rises : count_below (is_waiting_at lanes) (to + 1) ≤ count_below (is_waiting_at lanes) 256 = count_rises (is_waiting_at lanes) (to + 1) 256 (omega arith) in
    let more : length (overrun_events from lanes (to + 1)) ≡ length (overrun_events from lanes to) + length (outcome_of from (record { 0 = to }) (step_at (overrun_lanes lanes to) to overrun).ended) = ap length (overrun_told from lanes to) ∙ length-append (overrun_events from lanes to) _ in
    omega arith

pub ruleset overrun_all_laws = (overrun_next, overrun_told, overrun_from, told_from, room_left)
