-- A lane from one station to another: its stream, and what the sender knows of it.
use Rattle.std.specs.Prelude.{ℕ, ◌+◌, ◌≡◌, ◌⊎◌, Bool, not, List, [], ◌∷◌, ◌++◌, length}
use Rattle.lane_law.specs.Message.{Message, IsSent}
use Rattle.lane_law.specs.Frame.{Frame, Request}
use Rattle.lane_law.specs.Session.{Session}
use Rattle.lane_law.specs.Outcome.{Outcome, Acknowledged, Unreachable, Other, outcome}
use Rattle.lane_law.specs.Runs.{Leads}
use Rattle.lane_law.specs.Stream

-- what the destination queues for the sender
pub data Answer : Type 0 where
  EndAcknowledgement : (number : ℕ) → Answer  -- EndOfMsgAck or EOMA: the wire doesn't have the number
  Acknowledgement : (token : Bool) → Answer  -- answers a Request

-- the lane in the sender's books
pub data Phase : Type 0 where
  Idle : Phase  -- settled, with nothing under way
  Begun : (number : ℕ) → Phase  -- this message is under way, and no CTS was taken since its RTS
  Granted : (number : ℕ) → Phase  -- this message is under way, and a CTS was taken since
  InDoubt : Phase  -- the last message ended without its end acknowledgement: no other may begin

-- the way to the destination, the way back, and the sender's books
pub record Lane : Type 0 where
  pub stream : Stream.Stream
  pub answers : List Answer  -- ahead of the sender: on the bus past its cursor, then in the destination's queue
  pub heard : List Answer  -- the answer that the sender would take if it took a frame again, if it is one of these; else empty
  pub phase : Phase
  pub token : Bool  -- the token of the round of doubt, if there is one, else of the next one: two tokens take turns
  pub pending : List ℕ  -- the numbers that are neither begun nor ended
  pub outcomes : List Outcome  -- the newest first

-- the steps: first those of the sender, then those of the destination, then those of the sender that takes answers
pub data LaneEvent : Type 0 where
  Sends : (message : Message) → LaneEvent  -- a message is accepted for sending
  Begins : (number : ℕ) (message : Message) (rest : List ℕ) → LaneEvent  -- the RTS of the first pending one is queued
  Grants : (number : ℕ) → LaneEvent  -- a CTS is taken, or taken again
  QueuesDpo : (number offset : ℕ) → LaneEvent
  QueuesPacket : (number sequence : ℕ) → LaneEvent  -- also one that was queued before
  Ends : (number : ℕ) → LaneEvent  -- timed out, aborted, cancelled, overrun
  Probes : LaneEvent  -- a Request is queued, or repeated
  Cancels : (earlier : List ℕ) (number : ℕ) (later : List ℕ) → LaneEvent  -- a pending one
  GivesUp : (number : ℕ) (rest : List ℕ) → LaneEvent  -- no Request was answered
  Takes : (frame : Frame) (rest : List Frame) → LaneEvent
  PassesOver : (frame : Frame) (rest : List Frame) → LaneEvent
  Forgets : LaneEvent
  Reopens : (number : ℕ) (message : Message) → LaneEvent
  Accepts : (session : Session) (sequence : ℕ) (bytes : List ℕ) → LaneEvent
  Gives : (session : Session) (sequence : ℕ) (bytes : List ℕ) → LaneEvent
  EndsSession : LaneEvent
  Replies : (token : Bool) → LaneEvent  -- to a Request that was taken, or taken again
  Hears : (answer : Answer) (rest : List Answer) → LaneEvent  -- the sender takes the next answer
  Misses : (answer : Answer) (rest : List Answer) → LaneEvent  -- unseen: one of the frames of an overrun
  ForgetsAnswer : LaneEvent  -- another frame is taken or passed over, or an overrun of none: no repeat
  Acknowledges : (number heard : ℕ) → LaneEvent  -- by an end acknowledgement that was taken, or taken again
  Settles : LaneEvent  -- by an Acknowledgement that was taken, or taken again

-- when each event may happen
abbrev pub MayHappen : LaneEvent → Lane → Type 0
MayHappen (Sends message) lane = Unit {0}
MayHappen (Begins number message rest) lane =
    (lane.phase ≡ Idle) × (lane.pending ≡ number ∷ rest) × IsSent lane.stream.sent number message
MayHappen (Grants number) lane = (lane.phase ≡ Begun number) ⊎ (lane.phase ≡ Granted number)
MayHappen (QueuesDpo number offset) lane = lane.phase ≡ Granted number
MayHappen (QueuesPacket number sequence) lane = lane.phase ≡ Granted number
MayHappen (Ends number) lane = (lane.phase ≡ Begun number) ⊎ (lane.phase ≡ Granted number)
MayHappen Probes lane = lane.phase ≡ InDoubt
MayHappen (Cancels earlier number later) lane = lane.pending ≡ earlier ++ number ∷ later
MayHappen (GivesUp number rest) lane = lane.pending ≡ number ∷ rest
MayHappen (Takes frame rest) lane = Stream.MayHappen (Stream.Take frame rest) lane.stream
MayHappen (PassesOver frame rest) lane = Stream.MayHappen (Stream.PassOver frame rest) lane.stream
MayHappen Forgets lane = Unit {0}
MayHappen (Reopens number message) lane = Stream.MayHappen (Stream.Reopen number message) lane.stream
MayHappen (Accepts session sequence bytes) lane = Stream.MayHappen (Stream.Accept session sequence bytes) lane.stream
MayHappen (Gives session sequence bytes) lane = Stream.MayHappen (Stream.Give session sequence bytes) lane.stream
MayHappen EndsSession lane = Unit {0}
MayHappen (Replies token) lane = lane.stream.again ≡ Request token ∷ []
MayHappen (Hears answer rest) lane = lane.answers ≡ answer ∷ rest
MayHappen (Misses answer rest) lane = lane.answers ≡ answer ∷ rest
MayHappen ForgetsAnswer lane = Unit {0}
MayHappen (Acknowledges number heard) lane = (lane.phase ≡ Granted number) × (lane.heard ≡ EndAcknowledgement heard ∷ [])
MayHappen Settles lane = (lane.phase ≡ InDoubt) × (lane.heard ≡ Acknowledgement lane.token ∷ [])

-- the lane after an event of its stream; the rest is unchanged
abbrev pub with_stream_event : Stream.StreamEvent → Lane → Lane
with_stream_event event lane = record lane { stream = Stream.after event lane.stream }

-- the lane after each event
abbrev pub after : LaneEvent → Lane → Lane
after (Sends message) lane =
    record lane { stream = Stream.after (Stream.Send message) lane.stream; pending = lane.pending ++ (length lane.stream.sent + 1) ∷ [] }
after (Begins number message rest) lane =
    record lane { stream = Stream.after (Stream.Begin number message) lane.stream; phase = Begun number; pending = rest }
after (Grants number) lane = record lane { phase = Granted number; heard = [] }
after (QueuesDpo number offset) lane = with_stream_event (Stream.QueueDpo offset) lane
after (QueuesPacket number sequence) lane = with_stream_event (Stream.QueuePacket sequence) lane
after (Ends number) lane = record lane { phase = InDoubt; outcomes = outcome number Other ∷ lane.outcomes }
after Probes lane = with_stream_event (Stream.QueueRequest lane.token) lane
after (Cancels earlier number later) lane = record lane { pending = earlier ++ later; outcomes = outcome number Other ∷ lane.outcomes }
after (GivesUp number rest) lane = record lane { pending = rest; outcomes = outcome number Unreachable ∷ lane.outcomes }
after (Takes frame rest) lane = with_stream_event (Stream.Take frame rest) lane
after (PassesOver frame rest) lane = with_stream_event (Stream.PassOver frame rest) lane
after Forgets lane = with_stream_event Stream.Forget lane
after (Reopens number message) lane = with_stream_event (Stream.Reopen number message) lane
after (Accepts session sequence bytes) lane = with_stream_event (Stream.Accept session sequence bytes) lane
after (Gives session sequence bytes) lane =
    record lane { stream = Stream.after (Stream.Give session sequence bytes) lane.stream; answers = lane.answers ++ EndAcknowledgement session.number ∷ [] }
after EndsSession lane = with_stream_event Stream.EndSession lane
after (Replies token) lane = record lane { answers = lane.answers ++ Acknowledgement token ∷ [] }
after (Hears answer rest) lane = record lane { answers = rest; heard = answer ∷ [] }
after (Misses answer rest) lane = record lane { answers = rest; heard = [] }
after ForgetsAnswer lane = record lane { heard = [] }
after (Acknowledges number heard) lane = record lane { phase = Idle; outcomes = outcome number Acknowledged ∷ lane.outcomes }
after Settles lane = record lane { phase = Idle; token = not lane.token }

-- the lane before all events
abbrev pub start : Bool → Lane
start token = record { stream = Stream.empty_stream; answers = []; heard = []; phase = Idle; token = token; pending = []; outcomes = [] }

-- this lane is reached by some events
abbrev pub IsReached : Bool → Lane → Type 0
IsReached token lane = Leads MayHappen after (start token) lane

-- a fact holds of each lane that events reach, whichever token is first
abbrev pub OnEachLane : (Lane → Type 0) → Type 0
OnEachLane P = (token : Bool) (lane : Lane) → IsReached token lane → P lane

-- the message under way, if there is one, is the last that was begun
abbrev pub IsLastBegun : ℕ → Phase → Type 0
IsLastBegun last Idle = Unit {0}
IsLastBegun last (Begun number) = number ≡ last
IsLastBegun last (Granted number) = number ≡ last
IsLastBegun last InDoubt = Unit {0}
