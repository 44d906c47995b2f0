-- The numbers that Sends are answered.
use Rattle.std.specs.Prelude.{◌≡◌, ℕ, ◌+◌, if◌then◌else◌, List, [], ◌∷◌, map, Some, All}
use Rattle.pgn_ids.specs.declared.address.Address.{Address}
use Rattle.segment_law.specs.Numbering.{item}
use Rattle.segment_law.specs.Record.{Record}
use Rattle.segment_law.specs.Told.{Message, told, items_of, is_lane}
use Rattle.segment_law.specs.declared.call.Call.{Call}
use Rattle.segment_law.specs.declared.call.Call.TheVariants.{Send}
use Rattle.segment_law.specs.declared.reply.Reply.{Reply}
use Rattle.segment_law.specs.declared.reply.Reply.TheVariants.{Sent}

-- a number that a Send was answered, and its message
abbrev pub Answered : Type 0
Answered = ℕ × Message

-- the number and the message of a Send from s to d
abbrev pub answered_by : (s d : Address) → Call → Reply → List Answered
answered_by s d (Send from to pgn bytes) (Sent number) = if is_lane s d from to then (number, (pgn, bytes)) ∷ [] else []
answered_by s d _ _ = []

-- the numbers and messages of a lane's Sends, in the order sent
abbrev pub answered : Record → (s d : Address) → List Answered
answered steps s d = items_of (told (λ step. answered_by s d step.0 step.1) steps)

-- n, n + 1, n + 2 ..
abbrev pub AreFrom : ℕ → List ℕ → Type 0
AreFrom n [] = Unit {0}
AreFrom n (x ∷ xs) = (x ≡ n) × AreFrom (n + 1) xs

-- the Sends of a lane are answered 1, 2, 3 .. in the order sent, so each is answered the number of its message among those that were
-- sent, which is the one that an outcome of the message names
pub record AreNumbered (answers : List Answered) (sent : List Message) : Type 0 where
  pub in_turn : AreFrom 1 (map (λ a. a.0) answers)
  pub its_own : All (λ a. item sent a.0 ≡ Some a.1) answers
