-- What a destination was given, held against what its sender sent.
use Rattle.std.specs.Prelude.{ℕ, List, map, All, Contains}
use Rattle.std.specs.List.Sorted.{IsStrictlyIncreasing}
use Rattle.lane_law.specs.Message.{Message, IsSent}
use Rattle.lane_law.specs.Session.{Given}

-- the numbers of what was given
abbrev pub numbers : List Given → List ℕ
numbers given = map (λ g. g.number) given

-- the message with this number was given
abbrev pub IsGiven : List Given → ℕ → Type 0
IsGiven given number = Contains (numbers given) number

-- what was given is a choice of what was sent: the numbers are strictly rising places of it, and each message is the one
-- that was sent under its number, byte for byte
pub record IsChoice (given : List Given) (sent : List Message) : Type 0 where
  pub rising : IsStrictlyIncreasing (numbers given)
  pub as_sent : All (λ g. IsSent sent g.number g.message) given
