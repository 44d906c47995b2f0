-- Runs that show that the laws speak of something.
use Rattle.std.specs.Prelude.{◌≡◌, true, [], ◌∷◌}
use Rattle.lane_law.specs.Message.{Message}
use Rattle.lane_law.specs.Outcome.{Acknowledged, Unreachable, Other, outcome}
use Rattle.lane_law.specs.Stream
use Rattle.lane_law.specs.Lane
use Rattle.lane_law.specs.Lane.{Lane}

-- a broadcast is given
pub record GivesBroadcast (message : Message) (stream : Stream.Stream) : Type 0 where
  pub reached : Stream.IsReached stream
  pub sent : stream.sent ≡ message ∷ []
  pub given : stream.given ≡ record { number = 1; message = message } ∷ []

-- a message is given and acknowledged
pub record GivesAcknowledged (message : Message) (lane : Lane) : Type 0 where
  pub reached : Lane.IsReached true lane
  pub sent : lane.stream.sent ≡ message ∷ []
  pub given : lane.stream.given ≡ record { number = 1; message = message } ∷ []
  pub outcomes : lane.outcomes ≡ outcome 1 Acknowledged ∷ []

-- of six equal messages the first times out although it is given, the second is lost in an overrun, the third is
-- cancelled, the fourth is given and acknowledged, the fifth times out, and the sixth is unreachable
pub record GivesTwoOfSix (message : Message) (lane : Lane) : Type 0 where
  pub reached : Lane.IsReached true lane
  pub sent : lane.stream.sent ≡ message ∷ message ∷ message ∷ message ∷ message ∷ message ∷ []
  pub given : lane.stream.given ≡ record { number = 1; message = message } ∷ record { number = 4; message = message } ∷ []
  pub outcomes : lane.outcomes
      ≡ outcome 6 Unreachable ∷ outcome 5 Other ∷ outcome 4 Acknowledged ∷ outcome 3 Other ∷ outcome 2 Other ∷ outcome 1 Other ∷ []
