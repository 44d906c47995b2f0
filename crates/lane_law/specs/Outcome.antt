-- The outcomes that a sender is told, compared with what was given.
use Rattle.std.specs.Prelude.{ℕ, ◌<◌, ◌≤◌, ◌≢◌, List, All, AllPairs}
use Rattle.lane_law.specs.Session.{Given}
use Rattle.lane_law.specs.Choice.{IsGiven}

-- the outcomes that the law says something about, and all the others as one
pub data Fate : Type 0 where
  Acknowledged : Fate
  Unreachable : Fate
  Other : Fate  -- broadcast, aborted, timed out, overrun or cancelled: it was given or not

-- how the message with this number ended
pub record Outcome : Type 0 where
  pub number : ℕ
  pub fate : Fate

-- the outcome of a number and a fate
abbrev pub outcome : ℕ → Fate → Outcome
outcome number fate = record { number = number; fate = fate }

-- an acknowledged message was given, an unreachable one was not
abbrev pub Says : List Given → ℕ → Fate → Type 0
Says given number Acknowledged = IsGiven given number
Says given number Unreachable = ¬ IsGiven given number
Says given number Other = Unit {0}

-- each outcome says the truth
abbrev pub AreTrue : List Given → List Outcome → Type 0
AreTrue given outcomes = All (λ o. Says given o.number o.fate) outcomes

-- no number has two outcomes
abbrev pub AreOneEach : List Outcome → Type 0
AreOneEach outcomes = AllPairs (λ a b. a.number ≢ b.number) outcomes

-- each outcome names one of the first so many numbers
abbrev pub AreWithin : ℕ → List Outcome → Type 0
AreWithin last outcomes = All (λ o. (0 < o.number) × (o.number ≤ last)) outcomes
