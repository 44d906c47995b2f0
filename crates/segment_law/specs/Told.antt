-- What a record shows of each lane and port: the messages that were sent and given, and their outcomes. Each is paired with
-- the place of its reply in the record, from 1.
use Rattle.std.specs.Prelude.{ℕ, ◌+◌, Bool, ◌&&◌, ◌==◌, if◌then◌else◌, List, [], ◌∷◌, ◌++◌, map, Option, Some, None, filter_map}
use Rattle.pgn_ids.specs.declared.address.Address.{Address}
use Rattle.tp_wire.specs.declared.outcome.Outcome.{Outcome}
use Rattle.port_table.specs.declared.port.PortId.{PortId}
use Rattle.message_events.specs.declared.event.Event.{Event}
use Rattle.message_events.specs.declared.event.Event.TheVariants as event
use Rattle.segment_law.specs.Calls.{events_of}
use Rattle.segment_law.specs.Record.{Step, Record}
use Rattle.segment_law.specs.declared.call.Call.{Call}
use Rattle.segment_law.specs.declared.call.Call.TheVariants.{Open, Close, Send}
use Rattle.segment_law.specs.declared.reply.Reply.{Reply}
use Rattle.segment_law.specs.declared.reply.Reply.TheVariants.{Opened, Sent, Done}

-- a PGN and the bytes
abbrev pub Message : Type 0
Message = ℕ × List ℕ

-- something with its place
abbrev pub Placed : Type 0 → Type 0
Placed A = ℕ × A

-- each item that the steps show, with the step's place
abbrev pub told_from : {A : Type 0} → (Step → List A) → ℕ → Record → List (Placed A)
told_from tells place [] = []
told_from tells place (step ∷ steps) = map (λ x. (place, x)) (tells step) ++ told_from tells (place + 1) steps

abbrev pub told : {A : Type 0} → (Step → List A) → Record → List (Placed A)
told tells steps = told_from tells 1 steps

abbrev pub places_of : {A : Type 0} → List (Placed A) → List ℕ
places_of xs = map (λ x. x.0) xs

abbrev pub items_of : {A : Type 0} → List (Placed A) → List A
items_of xs = map (λ x. x.1) xs

-- the lane is that from s to d
abbrev pub is_lane : (s d from to : Address) → Bool
is_lane s d from to = from.0 == s.0 && to.0 == d.0

abbrev pub same_port : PortId → PortId → Bool
same_port p q = p.station.0 == q.station.0 && p.number == q.number

-- Sent

-- the message of a Send from s to d that was answered Sent
abbrev pub sent_by : (s d : Address) → Call → Reply → List Message
sent_by s d (Send from to pgn bytes) (Sent number) = if is_lane s d from to then (pgn, bytes) ∷ [] else []
sent_by s d _ _ = []

abbrev pub sends : Record → (s d : Address) → List (Placed Message)
sends steps s d = told (λ step. sent_by s d step.0 step.1) steps

-- the messages from s to d in the order sent: their places, from 1, are the message numbers
abbrev pub sent : Record → (s d : Address) → List Message
sent steps s d = items_of (sends steps s d)

-- Given

-- the message of a Given of port p, from s to d
abbrev pub given_to_port : PortId → (s d : Address) → Event → Option Message
given_to_port p s d (event.Given port from to pgn bytes) = if same_port port p && is_lane s d from to then Some (pgn, bytes) else None
given_to_port p s d (event.Outcome from to number outcome) = None

abbrev pub givens : Record → PortId → (s d : Address) → List (Placed Message)
givens steps p s d = told (λ step. filter_map (given_to_port p s d) (events_of step.1)) steps

-- the messages from s to d that port p was given
abbrev pub given : Record → PortId → (s d : Address) → List Message
given steps p s d = items_of (givens steps p s d)

-- a port's number, and a message that it is given
abbrev pub AtPort : Type 0
AtPort = ℕ × Message

-- the port's number and the message of a Given of any port of station r, from s to d
abbrev pub given_to_station : (r s d : Address) → Event → Option AtPort
given_to_station r s d (event.Given port from to pgn bytes) = if port.station.0 == r.0 && is_lane s d from to then Some (port.number, (pgn, bytes)) else None
given_to_station r s d (event.Outcome from to number outcome) = None

abbrev pub station_givens : Record → (r s d : Address) → List (Placed AtPort)
station_givens steps r s d = told (λ step. filter_map (given_to_station r s d) (events_of step.1)) steps

-- the messages from s to d that station r was given, at whichever port
abbrev pub given_at : Record → (r s d : Address) → List Message
given_at steps r s d = map (λ g. g.1.1) (station_givens steps r s d)

-- the message of a Given of port p, from any sender
abbrev pub any_given_to : PortId → Event → Option Message
any_given_to p (event.Given port from to pgn bytes) = if same_port port p then Some (pgn, bytes) else None
any_given_to p (event.Outcome from to number outcome) = None

abbrev pub all_givens : Record → PortId → List (Placed Message)
all_givens steps p = told (λ step. filter_map (any_given_to p) (events_of step.1)) steps

-- Ended

-- a message number, and how the message ended
abbrev pub NumberedOutcome : Type 0
NumberedOutcome = ℕ × Outcome

abbrev pub outcome_in : (s d : Address) → Event → Option NumberedOutcome
outcome_in s d (event.Given port from to pgn bytes) = None
outcome_in s d (event.Outcome from to number outcome) = if is_lane s d from to then Some (number, outcome) else None

abbrev pub outcomes : Record → (s d : Address) → List (Placed NumberedOutcome)
outcomes steps s d = told (λ step. filter_map (outcome_in s d) (events_of step.1)) steps

-- The life of a port

-- port p is opened, on a PGN and for so many bytes
abbrev pub opened_by : PortId → Call → Reply → List (ℕ × ℕ)
opened_by p (Open station pgn max_len) (Opened port) = if same_port port p then (pgn, max_len) ∷ [] else []
opened_by p _ _ = []

abbrev pub openings : Record → PortId → List (Placed (ℕ × ℕ))
openings steps p = told (λ step. opened_by p step.0 step.1) steps

-- port p is closed
abbrev pub closed_by : PortId → Call → Reply → List PortId
closed_by p (Close port) (Done events) = if same_port port p then port ∷ [] else []
closed_by p _ _ = []

abbrev pub closings : Record → PortId → List (Placed PortId)
closings steps p = told (λ step. closed_by p step.0 step.1) steps
