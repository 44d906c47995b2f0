-- Calls on the node of a handle.
use Rattle.std.specs.Prelude.{◌≡◌, ℕ, ◌<◌, ◌≤◌, ◌-◌, ◌↔◌, List, [], ◌∷◌, length, slice_get, Option, Some, None, Result, Ok, Err, IfOk, OnOk, IfErr, OnErr, IsErrOf}
use Rattle.std.specs.Prelude.{false}
use Rattle.bus_frame.specs.Frames.{CanFrame}
use Rattle.message_events.specs.declared.event.Event.{Event}
use Rattle.tick_timers.specs.Due.{IsDueFrom, IsNextFrom}
use Rattle.pgn_ids.specs.declared.address.Address.{Address}
use Rattle.port_table.specs.declared.port.PortId.{PortId}
use Rattle.segment_law.specs.Segment.{are_addresses, new_segment}
use Rattle.segment_law.specs.Calls.{called, applied}
use Rattle.segment_law.specs.Record.{Record, StandsAt}
use Rattle.segment_law.specs.Readers.{front_at}
use Rattle.segment_law.specs.declared.call.Call.TheVariants.{Tick, Open, Send}
use Rattle.segment_law.specs.declared.reply.Reply.TheVariants.{Opened, Sent}
use Rattle.segment_law.specs.declared.refusal.Refusal.{Refusal}
use Rattle.segment_core.specs.declared.segment.NewRefused.{NewRefused}
use Rattle.segment_core.specs.declared.segment.NewRefused.TheVariants as made
use Rattle.segment_state.specs.Due.{any_due}
use Rattle.segment_state.specs.Next.{any_work}
use Rattle.segment_state.specs.Answers.{refusal_of}
use Rattle.one_station.specs.Node.{Node, Did, new_node, again_node, answered}
use Rattle.one_station.specs.Answers.{IsAnswered, IsFed, front_calls}
use Rattle.node_parts.specs.Events.{IsTaken}
use Rattle.one_station.specs.declared.error.Fed.{Fed}
use Rattle.one_station.specs.declared.error.NodeError.{NodeError}
use Rattle.one_station.specs.declared.error.NodeError.TheVariants.{Refused, ClockPassed, Starting, OutOfMemory}
use Rattle.node_parts.specs.declared.told.TakeError.{TakeError}
use Rattle.c_parts.specs.declared.shown.CFrame.{CFrame}
use Rattle.c_parts.specs.Shown.{shown_frame}
use Rattle.fulwethi_c.specs.declared.shown.CEvent.{CEvent}
use Rattle.fulwethi_c.specs.Shown.{shown_event}

-- A new node

-- the handle has this node, at this record; or it is unchanged, because of the address, or else for want of memory
abbrev pub IsMade : Address → Node → Record → (old new : Option Node) → Result (Unit {0}) NewRefused → Type 0
IsMade address node steps old new (Ok _) = (new ≡ Some node) × StandsAt (address ∷ []) steps node.segment
IsMade address node steps old new (Err made.BadAddresses) = (new ≡ old) × (are_addresses (address ∷ []) ≡ false)
IsMade address node steps old new (Err made.OutOfMemory) = (new ≡ old) × (are_addresses (address ∷ []) ≡ false → ⊥)

abbrev pub IsNew : Address → (old new : Option Node) → Result (Unit {0}) NewRefused → Type 0
IsNew address = IsMade address (new_node address) []

-- that of a program that starts again at this tick
abbrev pub IsAgain : Address → (tick : ℕ) → (old new : Option Node) → Result (Unit {0}) NewRefused → Type 0
IsAgain address tick = IsMade address (again_node address tick) (answered (new_segment (address ∷ [])) (Tick tick ∷ []))

-- What is written

abbrev pub IsFrameWritten : (old new : CFrame) → Result (Option CanFrame) NodeError → Type 0
IsFrameWritten old new (Ok (Some frame)) = new ≡ shown_frame frame
IsFrameWritten old new (Ok None) = new ≡ old
IsFrameWritten old new (Err error) = new ≡ old

abbrev pub IsEventWritten : (old new : CEvent) → Option Event → Type 0
IsEventWritten old new (Some event) = new ≡ shown_event event
IsEventWritten old new None = new ≡ old

-- Ports and messages

-- nothing is done with what isn't a PGN or a frame
abbrev pub IsUnread : {A : Type 0} → Refusal → (before after : Node) → Result A NodeError → Type 0
IsUnread cause before after answer = (answer ≡ Err (Refused cause)) × (after ≡ before)

abbrev pub IsOpened : (max_len : ℕ) → Result ℕ Refusal → (before after : Node) → Result PortId NodeError → Type 0
IsOpened max_len (Err cause) before after answer = IsUnread cause before after answer
IsOpened max_len (Ok pgn) before after answer =
    IsAnswered before (Open before.address pgn max_len) after answer
    × IfOk answer (λ port. (applied before.segment (Open before.address pgn max_len)).1 ≡ Opened port)

abbrev pub IsSending : (to : Address) → (bytes : List ℕ) → Result ℕ Refusal → (before after : Node) → Result ℕ NodeError → Type 0
IsSending to bytes (Err cause) before after answer = IsUnread cause before after answer
IsSending to bytes (Ok pgn) before after answer =
    (IsErrOf answer (Starting before.quiet_until) ↔ (before.segment.now < before.quiet_until))
    × ((before.quiet_until ≤ before.segment.now → IsAnswered before (Send before.address to pgn bytes) after answer)
    × (OnErr answer (after ≡ before) × IfOk answer (λ number. (applied before.segment (Send before.address to pgn bytes)).1 ≡ Sent number)))

-- The clock: it advances to the tick, or is past it

abbrev pub IsClocked : (tick : ℕ) → (before after : Node) → Result (Unit {0}) NodeError → Type 0
IsClocked tick before after answer =
    (IsErrOf answer ClockPassed ↔ (tick < before.segment.now))
    × ((before.segment.now ≤ tick → IsAnswered before (Tick (tick - before.segment.now)) after answer) × OnErr answer (after ≡ before))

-- Frames

abbrev pub IsFrameFed : Result CanFrame Refusal → (before after : Node) → Result Fed NodeError → Type 0
IsFrameFed (Err cause) before after answer = IsUnread cause before after answer
IsFrameFed (Ok frame) before after answer = IsFed before frame after answer

abbrev pub IsFront : (before after : Node) → Result (Option CanFrame) NodeError → Type 0
IsFront before after answer =
    IfOk answer (λ frame. frame ≡ front_at after.segment before.address)
    × (OnOk answer (Did before (front_calls before) after) × (IfErr answer (λ error. error ≡ OutOfMemory) × OnErr answer (after ≡ before)))

-- The events

abbrev pub IsTakenInto : (room left : List ℕ) → (before after : Node) → Result ℕ TakeError → Type 0
IsTakenInto room left before after answer = IsTaken before.events room after.events left answer × (after ≡ record before { events = after.events })

-- Readers, which change nothing

abbrev pub IsNextEvent : (before after : Node) → Option Event → Type 0
IsNextEvent before after answer = (after ≡ before) × (answer ≡ slice_get before.events 0)

abbrev pub IsDueNext : (before after : Node) → Option ℕ → Type 0
IsDueNext before after answer = (after ≡ before) × IsDueFrom (any_due before.segment) answer

abbrev pub IsNextTick : (before after : Node) → Option ℕ → Type 0
IsNextTick before after answer = (after ≡ before) × IsNextFrom (any_work before.segment) before.segment.now answer

-- why a message of so many bytes would be refused, whatever they are
abbrev pub IsSendRefused : (to : Address) → (len : ℕ) → Result ℕ Refusal → (before after : Node) → Option Refusal → Type 0
IsSendRefused to len (Err cause) before after answer = (after ≡ before) × (answer ≡ Some cause)
IsSendRefused to len (Ok pgn) before after answer =
    (after ≡ before) × ((bytes : List ℕ) → length bytes ≡ len → answer ≡ refusal_of (called before.segment (Send before.address to pgn bytes)))
