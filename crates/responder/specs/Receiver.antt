-- The step of a receiver, changed in place, at a frame or a timer (SAE J1939-21, TP.DT; ISO 11783-3, ETP.CM_DPO, ETP.DT).
use Rattle.std.specs.Prelude.{◌≡◌, ℕ, Bool, true, false, ◌&&◌, ◌<◌, nat_lt, nat_le, List, Option, None, ◌++◌, option_to_list}
use Rattle.bus_frame.specs.Frames.{CanFrame}
use Rattle.tp_wire.specs.declared.reason.AbortReason.TheVariants.{Timeout}
use Rattle.tp_wire.specs.declared.wire.Kind.TheVariants.{Etp}
use Rattle.tp_wire.specs.declared.wire.Wire.{Wire}
use Rattle.seg_cut.specs.Join.{held, wants_last}
use Rattle.responder.specs.AwaitPacket.{aborted}
use Rattle.responder.specs.Readers.{unfinished_of}
use Rattle.responder.specs.Asking.{asks}
use Rattle.responder.specs.Room.{prepared, prepared_to_expire, with_window_room}
use Rattle.responder.specs.Unfinished.{Unfinished, with_packet}
use Rattle.responder.specs.Steps.{stepped, expired, is_next, completes}
use Rattle.responder.specs.declared.flow.Flow.{Flow}
use Rattle.responder.specs.declared.flow.Flow.TheVariants.{Open, Held}
use Rattle.responder.specs.declared.in_state.InState.{InState}
use Rattle.responder.specs.declared.in_state.InState.TheVariants as InState
use Rattle.responder.specs.declared.received.Received.{Received}
use Rattle.responder.specs.declared.received.Received.TheVariants.{On}
use Rattle.responder.specs.declared.receiver.Left.{Left}
use Rattle.responder.specs.declared.receiver.Left.TheVariants.{Nothing, Message, Abort, NoMemory}

-- the frame is the next packet, and not the last that is announced
abbrev pub is_inner : InState → Wire → Bool
is_inner (InState.AwaitPacket s) wire = is_next s wire && nat_lt s.message.join.next s.until
is_inner (InState.Holding s) wire = false

-- the last packet is awaited, and announced
abbrev pub awaits_last : InState → Bool
awaits_last (InState.AwaitPacket s) = wants_last s.message.join && nat_le s.message.join.next s.until
awaits_last (InState.Holding s) = false

-- the step with the room that it needs, and the firing of the timer with it
abbrev pub prepared_step : InState → Wire → (room : Bool) → Flow → (now : ℕ) → Received
prepared_step s wire room flow now = stepped (prepared s wire room flow) wire room flow now

abbrev pub prepared_expiry : InState → Flow → (now : ℕ) → Received
prepared_expiry s flow now = expired (prepared_to_expire s flow) flow now

-- a message with room for its next packet, and for the window behind it if one is granted
abbrev pub window_ready : Unfinished → Flow → Unfinished
window_ready m Open = with_window_room m 1
window_ready m Held = m

-- the session continues in this state, and the frame, if there is one, is queued behind the others
abbrev pub GoesOn : Received → InState → (before after : List CanFrame) → Type 0
GoesOn (On s frame) state before after = (state ≡ s) × (after ≡ before ++ option_to_list frame)
GoesOn _ state before after = ⊥

-- the receiver and the queue are as they were
abbrev pub IsUnchanged : (before after : InState) → (queued left : List CanFrame) → Type 0
IsUnchanged before after queued left = (after ≡ before) × (left ≡ queued)

-- a window of ETP is to be granted, which has more room than there is
abbrev pub Lacks : (before with_room : InState) → Flow → Type 0
Lacks before with_room flow =
    ((unfinished_of before).kind ≡ Etp) × (flow ≡ Open) × (held (unfinished_of before).join < held (unfinished_of with_room).join)

-- what follows from the step with this frame: it is made, or nothing has changed and this is left to do
abbrev pub Leads : (before : InState) → Wire → (room : Bool) → Flow → (now : ℕ) → Left → (after : InState) → (queued left : List CanFrame) → Type 0
Leads before wire room flow now Nothing after queued left = GoesOn (prepared_step before wire room flow now) after queued left
Leads before wire room flow now Message after queued left =
    (completes before wire ≡ true) × (awaits_last before ≡ true) × IsUnchanged before after queued left
Leads before wire room flow now (Abort reason) after queued left =
    (prepared_step before wire room flow now ≡ aborted (unfinished_of before) reason) × IsUnchanged before after queued left
Leads before wire room flow now NoMemory after queued left =
    (room ≡ true) × Lacks before (prepared before wire room flow) flow × IsUnchanged before after queued left

-- that relation, for a timer that fires
abbrev pub Fires : (before : InState) → Flow → (now : ℕ) → Left → (after : InState) → (queued left : List CanFrame) → Type 0
Fires before flow now Nothing after queued left = GoesOn (prepared_expiry before flow now) after queued left
Fires before flow now Message after queued left = ⊥
Fires before flow now (Abort reason) after queued left =
    (reason ≡ Timeout) × (prepared_expiry before flow now ≡ aborted (unfinished_of before) Timeout) × IsUnchanged before after queued left
Fires before flow now NoMemory after queued left = Lacks before (prepared_to_expire before flow) flow × IsUnchanged before after queued left

-- a step before its answer is queued, with that answer
abbrev pub Answers : (before : InState) → Wire → (room : Bool) → Flow → (now : ℕ) → Left → (after : InState) → (answer : Option CanFrame) → Type 0
Answers before wire room flow now Nothing after answer = prepared_step before wire room flow now ≡ On after answer
Answers before wire room flow now Message after answer =
    (completes before wire ≡ true) × (awaits_last before ≡ true) × (after ≡ before) × (answer ≡ None)
Answers before wire room flow now (Abort reason) after answer =
    (prepared_step before wire room flow now ≡ aborted (unfinished_of before) reason) × (after ≡ before) × (answer ≡ None)
Answers before wire room flow now NoMemory after answer =
    (room ≡ true) × Lacks before (prepared before wire room flow) flow × (after ≡ before) × (answer ≡ None)

-- the last packet that was announced is accepted, and the next window is asked for
abbrev pub EndsWindow : (before : InState) → (bytes : List ℕ) → Flow → (now : ℕ) → Left → (after : InState) → (answer : Option CanFrame) → Type 0
EndsWindow before bytes flow now Nothing after answer =
    On after answer ≡ asks (with_packet (window_ready (unfinished_of before) flow) bytes) flow now
EndsWindow before bytes flow now NoMemory after answer =
    (flow ≡ Open) × ((unfinished_of before).kind ≡ Etp) × (held (unfinished_of before).join < held (with_window_room (unfinished_of before) 1).join) × (after ≡ before) × (answer ≡ None)
EndsWindow before bytes flow now _ after answer = ⊥
