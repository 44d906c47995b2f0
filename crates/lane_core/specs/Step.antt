-- What a step of a lane leaves to do.
use Rattle.std.specs.Prelude.{List, [], ◌∷◌, Option, None}
use Rattle.bus_frame.specs.Frames.{CanFrame}
use Rattle.lane_core.specs.declared.step.Ended.{Ended}

-- the frames that are queued in their order, and the message that ended
pub record LaneStep : Type 0 where
  pub frames : List CanFrame
  pub ended : Option Ended

-- nothing is queued and no message ends
abbrev pub nothing_to_do : LaneStep
nothing_to_do = record { frames = []; ended = None }

-- one frame is queued
abbrev pub says : CanFrame → LaneStep
says frame = record { frames = frame ∷ []; ended = None }
