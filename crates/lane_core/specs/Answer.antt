-- What an Acknowledgement of its destination does to a lane (SAE J1939-21, Acknowledgement).
use Rattle.std.specs.Prelude.{ℕ, if◌then◌else◌}
use Rattle.lane_core.specs.declared.probe.Standing.TheVariants.{Probing, Settled}
use Rattle.lane_core.specs.declared.probe.Standing.{Standing}
use Rattle.lane_core.specs.Lane.{Lane}
use Rattle.lane_core.specs.Probe.{is_token, other_token}

-- an Acknowledgement of the destination: while a Request is on its way, the token in it settles the lane, whatever its
-- control byte says
abbrev pub answered_by : Standing → Lane → (pgn : ℕ) → Lane
answered_by (Probing count timer) lane pgn =
    if is_token lane.token pgn then record lane { standing = Settled; token = other_token lane.token } else lane
answered_by _ lane pgn = lane

abbrev pub answered : Lane → (pgn : ℕ) → Lane
answered lane pgn = answered_by lane.standing lane pgn
