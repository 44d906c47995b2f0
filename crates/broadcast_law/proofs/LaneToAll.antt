-- The lane to all: no timer and no overrun changes it, and a message that is cancelled queues nothing.
use Rattle.std.proofs.Common.{◌≡◌, ℕ, ◌<◌, [], None, refl, sym, ◌∙◌, arith}
use Rattle.tp_wire.specs.declared.outcome.Outcome.TheVariants as outcome
use Rattle.lane_core.specs.Lane.{Lane}
use Rattle.lane_core.specs.Endings.{over, still}
use Rattle.lane_core.specs.Cancel.{withdrawn, is_front, cancelled, cancelled_by}
use Rattle.lane_core.specs.Overrun.{overrun, overrun_by}
use Rattle.lane_core.specs.Fire.{probe_fired, fired, fired_by}
use Rattle.lane_core.specs.declared.place.UnderWay.{UnderWay}
use Rattle.lane_core.specs.declared.place.UnderWay.TheVariants.{Nothing, Broadcast, Connection}
use Rattle.lane_core.specs.declared.probe.Standing.{Standing}
use Rattle.lane_core.specs.declared.probe.Standing.TheVariants.{Settled, InDoubt, Probing}
use Rattle.lane_core.specs.Step.{LaneStep}
use Rattle.record_law.proofs.Tests.{either}
use Rattle.broadcast_law.proofs.LaneSteps.{FitsUnderWay, IsLaneOf}

pub all_fired : (a : ℕ) (lane : Lane) (now : ℕ) → IsLaneOf a 255 lane → fired lane now ≡ still lane
all_fired a lane now h = by lane.under_way h.under_way
  where
    probing : (st : Standing) → lane.standing ≡ st → probe_fired st lane now ≡ still lane
    probing Settled e = refl
    probing InDoubt e = refl
    probing (Probing count timer) e = absurd (let q : Probing count timer ≡ Settled = sym e ∙ h.settled refl in cc)

    by : (u : UnderWay) → FitsUnderWay a 255 u → fired_by u lane now ≡ still lane
    by Nothing k = probing lane.standing refl
    by (Broadcast b) k = refl
    by (Connection o) k = absurd (let l : 255 < 255 = k.1 in omega arith)

pub all_overrun : (a : ℕ) (lane : Lane) → IsLaneOf a 255 lane → overrun lane ≡ still lane
all_overrun a lane h = by lane.under_way h.under_way
  where
    by : (u : UnderWay) → FitsUnderWay a 255 u → overrun_by u lane ≡ still lane
    by Nothing k = refl
    by (Broadcast b) k = refl
    by (Connection o) k = absurd (let l : 255 < 255 = k.1 in omega arith)

-- cancelling in the lane to all queues nothing
pub all_cancelled : (a : ℕ) (lane : Lane) (number : ℕ) → IsLaneOf a 255 lane → (cancelled lane number).1.frames ≡ []
all_cancelled a lane number h = by lane.under_way h.under_way
  where
    by : (u : UnderWay) → FitsUnderWay a 255 u → (cancelled_by u lane number).1.frames ≡ []
    by Nothing k = refl
    by (Broadcast b) k = either (λ (x : Lane × LaneStep). x.1.frames ≡ []) (is_front lane.pending number) (over lane outcome.Cancelled None) (withdrawn lane number) refl refl
    by (Connection o) k = absurd (let l : 255 < 255 = k.1 in omega arith)
