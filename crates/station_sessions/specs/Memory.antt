-- When a step of an incoming session wants memory: for the copies of a message that is given at several ports, and for the packets of
-- a window of ETP (ISO 11783-3).
use Rattle.std.specs.Prelude.{ℕ, Bool, false, ◌&&◌, ◌||◌, nat_lt, List, length, Option, Some, None}
use Rattle.tp_wire.specs.Kinds.{is_same_kind}
use Rattle.tp_wire.specs.declared.wire.Kind.TheVariants.{Etp}
use Rattle.tp_wire.specs.declared.wire.Wire.{Wire}
use Rattle.responder.specs.Room.{grants_next}
use Rattle.responder.specs.declared.flow.Flow.{Flow}
use Rattle.responder.specs.declared.flow.Flow.TheVariants.{Open}
use Rattle.responder.specs.declared.in_state.InState.TheVariants.{AwaitPacket, Holding}
use Rattle.port_table.specs.Ports.{Ports}
use Rattle.session_table.specs.declared.key.Key.{Key}
use Rattle.session_table.specs.declared.incoming.Incoming.{Incoming}
use Rattle.session_table.specs.declared.incoming.Incoming.TheVariants.{Connection}
use Rattle.session_table.specs.Sessions.{state_at}
use Rattle.station_sessions.specs.Steps.{completes}
use Rattle.station_sessions.specs.Receiving.{Inbound, flow_at}

-- the frame completes a message that is given at two ports or more
abbrev pub wants_copies : (set : List ℕ) → Incoming → Wire → Bool
wants_copies set s wire = completes s wire && nat_lt 1 (length set)

-- with the frame a window of ETP is granted
abbrev pub grants_window : Incoming → Wire → (room : Bool) → Flow → Bool
grants_window (Connection (AwaitPacket s)) wire room flow = is_same_kind s.message.kind Etp && grants_next s wire room flow
grants_window _ wire room flow = false

-- the step of the session of a key with a frame of its source wants memory
abbrev pub wants_memory_by : Option (List ℕ × Incoming) → Ports → Wire → (room : Bool) → Bool
wants_memory_by None ports wire room = false
wants_memory_by (Some v) ports wire room = wants_copies v.0 v.1 wire || grants_window v.1 wire room (flow_at ports v.0)

abbrev pub wants_memory : Ports → Key → Wire → (room : Bool) → Inbound → Bool
wants_memory ports key wire room sessions = wants_memory_by (state_at sessions key) ports wire room

-- at the end of a hold of ETP a window is granted
abbrev pub ends_hold : Incoming → Flow → Bool
ends_hold (Connection (Holding s)) Open = is_same_kind s.message.kind Etp
ends_hold _ flow = false

-- the timer of the session of a key, which fires, wants memory
abbrev pub fires_wanting_by : Option (List ℕ × Incoming) → Ports → Bool
fires_wanting_by None ports = false
fires_wanting_by (Some v) ports = ends_hold v.1 (flow_at ports v.0)

abbrev pub fires_wanting : Ports → Key → Inbound → Bool
fires_wanting ports key sessions = fires_wanting_by (state_at sessions key) ports
