-- The lane that is pumped for the front isn't refused.
use Rattle.std.proofs.Common.{◌≡◌, ℕ, zero, suc, Bool, true, false, Option, Some, None, Ok, Err, IsOk, refl, sym, ap, ◌∙◌, subst}
use Rattle.std.specs.Option.{option_map}
use Rattle.std.proofs.lemmas.Option.{same_Some}
use Rattle.pgn_ids.specs.declared.address.Address.{Address}
use Rattle.station_lanes.specs.LaneReaders.{least_below, found_or}
use Rattle.segment_law.specs.Segment.{Segment}
use Rattle.segment_law.specs.Calls.{Answer, called}
use Rattle.segment_law.specs.Readers.{pumps_to, next_pump}
use Rattle.segment_law.specs.declared.call.Call.TheVariants.{Pump}
use Rattle.one_station.specs.declared.error.NodeError.{NodeError}
use Rattle.one_station.specs.declared.error.NodeError.TheVariants.{Refused, ClockPassed, Starting, OutOfMemory}
use Rattle.one_station.specs.Answers.{IsStopped}

least_passes : (test : ℕ → Bool) (n k : ℕ) → least_below test n ≡ Some k → test k ≡ true
unfolding least_below
least_passes test zero k e = absurd cc
least_passes test (suc n) k e = by (least_below test n) refl e (λ h. least_passes test n k h)
  where
    here : (b : Bool) → test n ≡ b → found_or None b n ≡ Some k → test k ≡ true
    here true is e = ap test (sym (same_Some n k e)) ∙ is
    here false is e = absurd cc

    by : (o : Option ℕ) → least_below test n ≡ o → found_or o (test n) n ≡ Some k → (least_below test n ≡ Some k → test k ≡ true) → test k ≡ true
    by (Some j) is e lower = lower (is ∙ e)
    by None is e lower = here (test n) refl e

next_passes : (seg : Segment) (a to : Address) → next_pump seg a ≡ Some to → IsOk (called seg (Pump a to))
next_passes seg a to e = by (least_below (pumps_to seg a) 256) refl e
  where
    by : (o : Option ℕ) → least_below (pumps_to seg a) 256 ≡ o → option_map (λ k. record { 0 = k }) o ≡ Some to → IsOk (called seg (Pump a to))
    by None is e = absurd cc
    by (Some k) is e = subst (λ (x : Address). IsOk (called seg (Pump a x))) (same_Some _ to e) (least_passes (pumps_to seg a) 256 k is)

only_memory : (answer : Answer) (error : NodeError) → IsOk answer → IsStopped answer error → error ≡ OutOfMemory
only_memory (Ok step) OutOfMemory passes h = refl
only_memory (Ok step) (Refused cause) passes h = absurd cc
only_memory (Ok step) ClockPassed passes h = absurd h
only_memory (Ok step) (Starting tick) passes h = absurd h
only_memory (Err cause) error passes h = absurd cc

pub front_memory : (seg : Segment) (a to : Address) (error : NodeError) → next_pump seg a ≡ Some to → IsStopped (called seg (Pump a to)) error → error ≡ OutOfMemory
front_memory seg a to error next h = only_memory (called seg (Pump a to)) error (next_passes seg a to next) h
