-- What a station makes of frames for its incoming sessions (SAE J1939-21, TP.DT; ISO 11783-3, ETP.DT, ETP.CM_DPO).
use Rattle.std.specs.Prelude.{ℕ, ◌≡◌, Bool, not, true, ◌==◌, if◌then◌else◌, List, [], ◌++◌, length, Option, Some, None, option_to_list}
use Rattle.std.specs.FinMap as map
use Rattle.bus_frame.specs.Frames.{CanFrame}
use Rattle.pgn_ids.specs.declared.address.Address.{Address}
use Rattle.pgn_ids.specs.Pgn.{clean}
use Rattle.tp_wire.specs.declared.wire.Wire.{Wire}
use Rattle.responder.specs.Room.{prepared, prepared_to_expire}
use Rattle.responder.specs.Steps.{stepped, expired}
use Rattle.responder.specs.declared.flow.Flow.{Flow}
use Rattle.responder.specs.declared.received.Received.{Received}
use Rattle.responder.specs.declared.received.Received.TheVariants.{On, Complete, Ended}
use Rattle.bam_session.specs.States as bam
use Rattle.bam_session.specs.Receiving as bam-steps
use Rattle.port_table.specs.Ports.{Ports, is_any_paused}
use Rattle.port_table.specs.PortSet.{without_number}
use Rattle.session_table.specs.declared.key.Key.{Key}
use Rattle.session_table.specs.declared.incoming.Incoming.{Incoming}
use Rattle.session_table.specs.declared.incoming.Incoming.TheVariants.{Broadcast, Connection}
use Rattle.session_table.specs.Incoming.{pgn_of}
use Rattle.session_table.specs.Sessions.{Sessions, state_at, IsHeld}
use Rattle.message_events.specs.declared.event.Event.{Event}
use Rattle.station_sessions.specs.declared.copies.Message.{Message}
use Rattle.station_sessions.specs.Given.{given_to}
use Rattle.station_sessions.specs.Steps.{flow_of, broadcast_message, connection_message, given_answer, refused_answer, completes, size_of, closing_frame}

-- the incoming sessions by source and kind, each with the ports that it gives to: those that its opening found, less
-- those that were closed since
abbrev pub Inbound : Type 0
Inbound = Sessions (List ℕ)

-- no state is out of the table
pub record NoneHeld (sessions : Inbound) : Type 0 where
  pub none : (k : Key) → ¬ IsHeld sessions k

-- the result of a step: the sessions, the frame that is queued, and the events
pub record Reception : Type 0 where
  pub sessions : Inbound
  pub frame : Option CanFrame
  pub events : List Event

-- a step leaves these sessions, its frame is queued behind the others, and its events are these
pub record Leaves (step : Reception) (left : Inbound) (before after : List CanFrame) (told : List Event) : Type 0 where
  pub sessions_left : left ≡ step.sessions
  pub queued : after ≡ before ++ option_to_list step.frame
  pub says : told ≡ step.events

-- a step leaves these sessions, its frame is queued behind the others, and it has no event
pub record LeavesQuietly (step : Reception) (left : Inbound) (before after : List CanFrame) : Type 0 where
  pub sessions_left : left ≡ step.sessions
  pub untold : step.events ≡ []
  pub queued : after ≡ before ++ option_to_list step.frame

-- nothing is done
abbrev pub unheard : Inbound → Reception
unheard sessions = record { sessions = sessions; frame = None; events = [] }

-- a message that is complete is given at each port of the set with the one answer, or without room at none with the other
abbrev pub concluded : Address → (set : List ℕ) → (room : Bool) → Inbound → (given refused : Option CanFrame) → Message → Reception
concluded station set room sessions given refused message =
    if room then record { sessions = sessions; frame = given; events = given_to station set message }
    else record { sessions = sessions; frame = refused; events = [] }

-- the session of a key continues, and a frame is queued
abbrev pub goes_on_at : Key → (set : List ℕ) → Inbound → Incoming → Option CanFrame → Reception
goes_on_at key set sessions state frame = record { sessions = map.insert sessions key (Some (set, state)); frame = frame; events = [] }

-- the session of a key has ended, and a frame is queued
abbrev pub ended_at : Key → Inbound → Option CanFrame → Reception
ended_at key sessions frame = record { sessions = map.remove sessions key; frame = frame; events = [] }

-- what a step of the broadcast session of a key leaves
abbrev pub broadcast_settled : Address → Key → (set : List ℕ) → (room : Bool) → Inbound → bam.Incoming → bam-steps.Received → Reception
broadcast_settled station key set room sessions s (bam-steps.Awaits t) = goes_on_at key set sessions (Broadcast t) None
broadcast_settled station key set room sessions s (bam-steps.Completes bytes) = concluded station set room (map.remove sessions key) None None (broadcast_message s bytes)
broadcast_settled station key set room sessions s bam-steps.Drops = ended_at key sessions None

-- the message of a connection is given with the end of message acknowledgement, or without room refused by an abort
abbrev pub connection_settled : Address → Key → (set : List ℕ) → (room : Bool) → Inbound → Received → Reception
connection_settled station key set room sessions (On s frame) = goes_on_at key set sessions (Connection s) frame
connection_settled station key set room sessions (Complete m) =
    concluded station set room (map.remove sessions key) (Some (given_answer m)) (Some (refused_answer m)) (connection_message m)
connection_settled station key set room sessions (Ended frame) = ended_at key sessions frame

-- the step of the session of a key with a frame of its source
abbrev pub session_stepped : Address → Key → (set : List ℕ) → (room : Bool) → Inbound → Flow → Incoming → Wire → (now : ℕ) → Reception
session_stepped station key set room sessions flow (Broadcast s) wire now =
    broadcast_settled station key set room sessions s (bam-steps.stepped s wire now)
session_stepped station key set room sessions flow (Connection s) wire now =
    connection_settled station key set room sessions (stepped (prepared s wire room flow) wire room flow now)

-- the timer of a session fires: a connection on hold asks again, any other session ends
abbrev pub session_fired : Address → Key → (set : List ℕ) → Inbound → Flow → Incoming → (now : ℕ) → Reception
session_fired station key set sessions flow (Broadcast s) now = ended_at key sessions None
session_fired station key set sessions flow (Connection s) now =
    connection_settled station key set true sessions (expired (prepared_to_expire s flow) flow now)

-- whether the session may grant packets
abbrev pub flow_at : Ports → (set : List ℕ) → Flow
flow_at ports set = flow_of (is_any_paused ports set)

-- the step of the session of a key with a frame of its source; without a session, nothing
abbrev pub received_by : Option (List ℕ × Incoming) → Ports → Key → Wire → (room : Bool) → (now : ℕ) → Inbound → Reception
received_by None ports key wire room now sessions = unheard sessions
received_by (Some v) ports key wire room now sessions =
    session_stepped ports.station key v.0 room sessions (flow_at ports v.0) v.1 wire now

abbrev pub received : Ports → Key → Wire → (room : Bool) → (now : ℕ) → Inbound → Reception
received ports key wire room now sessions = received_by (state_at sessions key) ports key wire room now sessions

-- the timer of the session of a key fires
abbrev pub fired_by : Option (List ℕ × Incoming) → Ports → Key → (now : ℕ) → Inbound → Reception
fired_by None ports key now sessions = unheard sessions
fired_by (Some v) ports key now sessions = session_fired ports.station key v.0 sessions (flow_at ports v.0) v.1 now

abbrev pub fired_at : Ports → Key → (now : ℕ) → Inbound → Reception
fired_at ports key now sessions = fired_by (state_at sessions key) ports key now sessions

-- an abort of its kind with this PGN ends the session of a key
abbrev pub aborted_at : Key → (pgn : ℕ) → Inbound → Inbound
aborted_at key pgn sessions = elim (state_at sessions key) [
  | None ↦ sessions
  | Some v ↦ if clean (pgn_of v.1) == clean pgn then map.remove sessions key else sessions
]

-- a port is removed from the set of the session of a key, which ends if it was the last
abbrev pub unbound_by : Option (List ℕ × Incoming) → Key → (number : ℕ) → Inbound → Reception
unbound_by None key number sessions = unheard sessions
unbound_by (Some v) key number sessions =
    if length (without_number v.0 number) == 0 then ended_at key sessions (closing_frame v.1)
    else goes_on_at key (without_number v.0 number) sessions v.1 None

abbrev pub unbound_at : Key → (number : ℕ) → Inbound → Reception
unbound_at key number sessions = unbound_by (state_at sessions key) key number sessions

-- the ports that a step with this frame would give to with room, and the size of the message
abbrev pub wanted_by : Option (List ℕ × Incoming) → Wire → List ℕ × ℕ
wanted_by None wire = ([], 0)
wanted_by (Some v) wire = if completes v.1 wire then (v.0, size_of v.1) else ([], 0)
