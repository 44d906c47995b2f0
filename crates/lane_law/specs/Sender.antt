-- The books of a sender that looks at no answer: the next message begins whenever none is under way. A lane to all is such a
-- sender, and so is any other lane as far as numbers and outcomes go, whatever its destination answers.
use Rattle.std.specs.Prelude.{ℕ, ◌+◌, ◌≡◌, List, [], ◌∷◌, ◌++◌, Option, Some, None}
use Rattle.lane_law.specs.Outcome.{Fate, Outcome, outcome}
use Rattle.lane_law.specs.Runs.{Leads}

-- how many messages were sent, and the state of each
pub record Sender : Type 0 where
  pub sent : ℕ  -- so many messages: their numbers count from 1
  pub under_way : Option ℕ
  pub pending : List ℕ  -- the numbers that are neither begun nor ended
  pub outcomes : List Outcome  -- the newest first

-- what may happen
pub data SenderEvent : Type 0 where
  Sends : SenderEvent
  Begins : (number : ℕ) (rest : List ℕ) → SenderEvent
  Ends : (number : ℕ) (fate : Fate) → SenderEvent  -- the one under way, in whatever way
  EndsPending : (earlier : List ℕ) (number : ℕ) (later : List ℕ) (fate : Fate) → SenderEvent  -- cancelled, or given up

-- when each event may happen
abbrev pub MayHappen : SenderEvent → Sender → Type 0
MayHappen Sends sender = Unit {0}
MayHappen (Begins number rest) sender = (sender.under_way ≡ None) × (sender.pending ≡ number ∷ rest)
MayHappen (Ends number fate) sender = sender.under_way ≡ Some number
MayHappen (EndsPending earlier number later fate) sender = sender.pending ≡ earlier ++ number ∷ later

-- the sender after each event
abbrev pub after : SenderEvent → Sender → Sender
after Sends sender = record sender { sent = sender.sent + 1; pending = sender.pending ++ (sender.sent + 1) ∷ [] }
after (Begins number rest) sender = record sender { under_way = Some number; pending = rest }
after (Ends number fate) sender = record sender { under_way = None; outcomes = outcome number fate ∷ sender.outcomes }
after (EndsPending earlier number later fate) sender =
    record sender { pending = earlier ++ later; outcomes = outcome number fate ∷ sender.outcomes }

-- the sender before all events
abbrev pub new_sender : Sender
new_sender = record { sent = 0; under_way = None; pending = []; outcomes = [] }

-- this sender is reached by some events
abbrev pub IsReached : Sender → Type 0
IsReached sender = Leads MayHappen after new_sender sender

-- a fact holds of each sender that events reach
abbrev pub OnEachSender : (Sender → Type 0) → Type 0
OnEachSender P = (sender : Sender) → IsReached sender → P sender
