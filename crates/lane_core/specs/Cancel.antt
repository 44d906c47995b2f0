-- How a message of a lane is cancelled.
use Rattle.std.specs.Prelude.{ℕ, Bool, false, ◌==◌, if◌then◌else◌, List, [], ◌∷◌, position, Option, Some, None}
use Rattle.std.specs.List.{list_any}
use Rattle.tp_wire.specs.declared.outcome.Outcome.TheVariants.{Cancelled}
use Rattle.originator.specs.Readers.{link_of}
use Rattle.originator.specs.Endings as out
use Rattle.lane_core.specs.declared.place.UnderWay.TheVariants.{Broadcast, Connection, Nothing}
use Rattle.lane_core.specs.Step.{LaneStep}
use Rattle.lane_core.specs.declared.message.Pending.{Pending}
use Rattle.lane_core.specs.declared.place.UnderWay.{UnderWay}
use Rattle.lane_core.specs.Lane.{Lane}
use Rattle.lane_core.specs.Endings.{connection_over, over}

-- a message of the lane has this number
abbrev pub numbered : List Pending → ℕ → Bool
numbered messages number = list_any (λ m. m.number == number) messages

-- the place of the first message with this number
abbrev pub place_of : List Pending → ℕ → Option ℕ
place_of messages number = position (λ m. m.number == number) messages

-- the messages without the first one of this number
abbrev pub without_number : List Pending → ℕ → List Pending
without_number [] number = []
without_number (m ∷ messages) number = if m.number == number then messages else m ∷ without_number messages number

abbrev pub is_front : List Pending → ℕ → Bool
is_front [] number = false
is_front (m ∷ _) number = m.number == number

-- a message that has not begun is cancelled: the rest of the lane is unchanged
abbrev pub withdrawn : Lane → ℕ → Lane × LaneStep
withdrawn lane number = (
  record lane { pending = without_number lane.pending number },
  record { frames = []; ended = Some (record { number = number; outcome = Cancelled }) },
)

-- the message is cancelled: a connection under way is aborted, a broadcast just stops
abbrev pub cancelled_by : UnderWay → Lane → ℕ → Lane × LaneStep
cancelled_by Nothing lane number = withdrawn lane number
cancelled_by (Broadcast s) lane number = if is_front lane.pending number then over lane Cancelled None else withdrawn lane number
cancelled_by (Connection s) lane number = if is_front lane.pending number then connection_over lane (out.cancelled (link_of s)) else withdrawn lane number

abbrev pub cancelled : Lane → ℕ → Lane × LaneStep
cancelled lane number = cancelled_by lane.under_way lane number

-- cancelling the message queues an abort
abbrev pub queues_abort_by : UnderWay → Lane → ℕ → Bool
queues_abort_by (Connection s) lane number = is_front lane.pending number
queues_abort_by _ lane number = false

abbrev pub queues_abort : Lane → ℕ → Bool
queues_abort lane number = queues_abort_by lane.under_way lane number
