-- How a node answers.
use Rattle.std.specs.Prelude.{◌≡◌, Bool, true, false, nat_lt, nat_le, if◌then◌else◌, List, [], ◌∷◌, Option, Some, None, Result, Ok, Err, IsOk}
use Rattle.std.specs.Option.{option_map}
use Rattle.bus_frame.specs.Frames.{CanFrame}
use Rattle.pgn_ids.specs.declared.address.Address.{Address}
use Rattle.tx_queue.specs.Queue.{queue_limit}
use Rattle.node_parts.specs.Source.{comes_from}
use Rattle.segment_law.specs.Segment.{waiting_at}
use Rattle.segment_law.specs.Calls.{Answer, called}
use Rattle.segment_law.specs.Readers.{queue_len, front_at, next_pump}
use Rattle.segment_law.specs.declared.call.Call.{Call}
use Rattle.segment_law.specs.declared.call.Call.TheVariants.{Pump, Transmit, Take, Overrun, Inject}
use Rattle.segment_law.specs.declared.refusal.Refusal.{Refusal}
use Rattle.segment_law.specs.declared.refusal.Refusal.TheVariants as refusal
use Rattle.segment_state.specs.Answers.{refusal_of}
use Rattle.one_station.specs.Node.{Node, Did}
use Rattle.one_station.specs.declared.error.NodeError.{NodeError}
use Rattle.one_station.specs.declared.error.NodeError.TheVariants.{Refused, ClockPassed, Starting, OutOfMemory}
use Rattle.one_station.specs.declared.error.Fed.{Fed}
use Rattle.one_station.specs.declared.error.Fed.TheVariants.{Taken, WithoutRoom, PassedBy}
use Rattle.one_station.specs.declared.error.Missed.{Missed}
use Rattle.one_station.specs.declared.error.Missed.TheVariants as missed

-- One call of the segment

-- why a call isn't made: it is refused for this cause; or, if it isn't refused, for want of memory
abbrev pub IsStopped : Answer → NodeError → Type 0
IsStopped answer (Refused cause) = answer ≡ Err cause
IsStopped answer OutOfMemory = IsOk answer
IsStopped answer ClockPassed = ⊥
IsStopped answer (Starting tick) = ⊥

-- the call was made; or it wasn't, and nothing changed
abbrev pub IsAnswered : {A : Type 0} → (before : Node) → Call → (after : Node) → Result A NodeError → Type 0
IsAnswered before call after (Ok _) = IsOk (called before.segment call) × Did before (call ∷ []) after
IsAnswered before call after (Err error) = IsStopped (called before.segment call) error × (after ≡ before)

-- Several calls

-- none of the calls was made: for this cause; or, if there is no cause, for want of memory
abbrev pub IsUndone : Option NodeError → (before after : Node) → NodeError → Type 0
IsUndone (Some cause) before after error = (error ≡ cause) × (after ≡ before)
IsUndone None before after error = (error ≡ OutOfMemory) × (after ≡ before)

abbrev pub as_error : Option Refusal → Option NodeError
as_error cause = option_map (λ refusal. Refused refusal) cause

-- the station takes the next frame of the inner bus
abbrev pub looks : Node → Call
looks node = Take node.address true

-- the station takes it without room for what the frame brings
abbrev pub looks_roomless : Node → Call
looks_roomless node = Take node.address false

-- a frame waits on the inner bus
abbrev pub has_frame : Node → Bool
has_frame node = nat_lt 0 (waiting_at node.segment node.address)

-- Frames that were missed

-- what is under way ends: incoming sessions, and connections with their outcomes
abbrev pub overruns : Node → Call
overruns node = Overrun node.address 0

-- what was under way has ended, and missed frames are no longer remembered
abbrev pub caught_up : Node → Node
caught_up node = record node { has_missed = false }

abbrev pub IsCaughtUp : (before after : Node) → Type 0
IsCaughtUp before after = (has_frame before ≡ false) × Did (caught_up before) (overruns before ∷ []) after

-- what was under way has ended; or the node remembers that it must
abbrev pub IsMissed : (before after : Node) → Missed → Type 0
IsMissed before after missed.Ended = IsCaughtUp before after
IsMissed before after missed.Waits = after ≡ record before { has_missed = true }

-- if missed frames are remembered, what is under way ends first; else nothing is done
abbrev pub EndsFirst : (missed : Bool) → (before ready : Node) → Type 0
EndsFirst true before ready = IsCaughtUp before ready
EndsFirst false before ready = ready ≡ before

-- nothing earlier is left: no frame waits to be looked at, and what was under way when frames were missed has ended
abbrev pub IsReady : (before ready : Node) → Type 0
IsReady before ready = EndsFirst before.has_missed before ready × (has_frame ready ≡ false)

-- missed frames are still remembered, since ending what was under way found no memory
abbrev pub IsUnready : (before after : Node) → Type 0
IsUnready before after = (before.has_missed ≡ true) × IsOk (called before.segment (overruns before)) × (after ≡ before)

-- Frames from the bus

-- the frame has the station's own source address
abbrev pub is_own : Node → CanFrame → Bool
is_own node frame = comes_from node.address frame

-- no place is free in the transmit queue
abbrev pub is_queue_full : Node → Bool
is_queue_full node = nat_le queue_limit (queue_len node.segment node.address)

-- the first of the causes for which a frame isn't fed; the last of them may be the inner bus's
abbrev pub first_cause : Node → CanFrame → (last : Option NodeError) → Option NodeError
first_cause node frame last =
    if is_own node frame then Some (Refused refusal.StationAddress)
    else if is_queue_full node then Some (Refused refusal.TxFull)
    else last

-- why a frame isn't fed
abbrev pub feed_refusal : Node → CanFrame → Option NodeError
feed_refusal node frame = first_cause node frame (as_error (refusal_of (called node.segment (Inject frame))))

-- a call, and then the Take of the frame that it put, with room or without
abbrev pub DidAndLooked : (before : Node) → Call → (after : Node) → Fed → Type 0
DidAndLooked before call after Taken = Did before (call ∷ looks before ∷ []) after
DidAndLooked before call after WithoutRoom = Did before (call ∷ looks_roomless before ∷ []) after
DidAndLooked before call after PassedBy = ⊥

-- the frame is put on the inner bus, and the station takes it; or it isn't, and nothing changed
abbrev pub IsTakenIn : (ready : Node) → CanFrame → (after : Node) → Result Fed NodeError → Type 0
IsTakenIn ready frame after (Ok fed) = (feed_refusal ready frame ≡ None) × DidAndLooked ready (Inject frame) after fed
IsTakenIn ready frame after (Err error) = IsUndone (feed_refusal ready frame) ready after error

-- the node is made ready first, and then the frame is fed
abbrev pub IsReadyAndFed : (before : Node) → CanFrame → (after : Node) → Result Fed NodeError → Type 0
IsReadyAndFed before frame after fed = (ready : Node) × IsReady before ready × IsTakenIn ready frame after fed

-- or the node can't be made ready, and passes the frame by
abbrev pub IsFed : (before : Node) → CanFrame → (after : Node) → Result Fed NodeError → Type 0
IsFed before frame after (Ok PassedBy) = IsUnready before after
IsFed before frame after (Ok Taken) = IsReadyAndFed before frame after (Ok Taken)
IsFed before frame after (Ok WithoutRoom) = IsReadyAndFed before frame after (Ok WithoutRoom)
IsFed before frame after (Err error) = IsReadyAndFed before frame after (Err error)

-- Frames for the bus

-- the next frame: the first of the queue, or the next one of the lowest lane that has something to queue
abbrev pub pump_for_front : Node → Option CanFrame → Option Address → List Call
pump_for_front node (Some frame) to = []
pump_for_front node None None = []
pump_for_front node None (Some to) = Pump node.address to ∷ []

abbrev pub front_calls : Node → List Call
front_calls node = pump_for_front node (front_at node.segment node.address) (next_pump node.segment node.address)

abbrev pub sent_refusal : Node → Option NodeError
sent_refusal node = as_error (refusal_of (called node.segment (Transmit node.address)))

-- the frame leaves the queue for the inner bus, on which the station passes it by; or it doesn't, for this cause, and nothing changed
abbrev pub IsPassedBy : (ready after : Node) → Result (Unit {0}) NodeError → Type 0
IsPassedBy ready after (Ok _) = (sent_refusal ready ≡ None) × Did ready (Transmit ready.address ∷ looks ready ∷ []) after
IsPassedBy ready after (Err error) = (sent_refusal ready ≡ Some error) × (after ≡ ready)

-- the node is made ready first
abbrev pub IsReadyAndSent : (before after : Node) → Result (Unit {0}) NodeError → Type 0
IsReadyAndSent before after sent = (ready : Node) × IsReady before ready × IsPassedBy ready after sent

-- or it can't be made ready, for want of memory
abbrev pub IsSent : (before after : Node) → Result (Unit {0}) NodeError → Type 0
IsSent before after (Ok done) = IsReadyAndSent before after (Ok done)
IsSent before after (Err OutOfMemory) = IsUnready before after
IsSent before after (Err (Refused cause)) = IsReadyAndSent before after (Err (Refused cause))
IsSent before after (Err ClockPassed) = ⊥
IsSent before after (Err (Starting tick)) = ⊥
