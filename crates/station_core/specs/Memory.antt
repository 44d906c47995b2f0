-- When memory may be missing for a frame that is taken: it opens a session, completes a message, or grants a window of ETP (SAE
-- J1939-21, TP.CM_RTS, TP.CM_BAM, TP.DT; ISO 11783-3, ETP.CM_RTS, ETP.DT).
use Rattle.std.specs.Prelude.{◌≡◌, ⊤, Bool, true, false, Option, Some, None}
use Rattle.bus_frame.specs.Frames.{CanFrame}
use Rattle.pgn_ids.specs.declared.address.Address.{Address}
use Rattle.tp_wire.specs.Reading.{reading}
use Rattle.tp_wire.specs.declared.wire.CmFrame.{CmFrame}
use Rattle.tp_wire.specs.declared.wire.CmFrame.TheVariants.{Rts, Bam, EtpRts, EtpDpo}
use Rattle.tp_wire.specs.declared.wire.Wire.{Wire}
use Rattle.tp_wire.specs.declared.wire.Wire.TheVariants.{Cm, Packet}
use Rattle.session_table.specs.declared.key.Key.{Key}
use Rattle.session_table.specs.declared.key.SessionKind.TheVariants as session
use Rattle.station_sessions.specs.Opening.{key_of}
use Rattle.station_sessions.specs.Memory.{wants_memory}
use Rattle.station_core.specs.Station.{Station}
use Rattle.station_core.specs.Taking.{packet_kind, looks_at}

-- memory may be missing for the step of the session of a key
abbrev pub SessionMayLackMemory : Station → Key → Wire → (room : Bool) → Type 0
SessionMayLackMemory st key wire room = wants_memory st.ports key wire room st.sessions ≡ true

-- memory may be missing for a session that opens
abbrev pub CmMayLackMemory : Station → CmFrame → (from : Address) → (room : Bool) → Type 0
CmMayLackMemory st (Rts size packets most pgn) from room = ⊤
CmMayLackMemory st (Bam size packets pgn) from room = ⊤
CmMayLackMemory st (EtpRts size pgn) from room = ⊤
CmMayLackMemory st (EtpDpo packets offset pgn) from room = SessionMayLackMemory st (key_of from session.Etp) (Cm (EtpDpo packets offset pgn)) room
CmMayLackMemory st frame from room = ⊥

abbrev pub WireMayLackMemory : Station → Wire → (from to : Address) → (room : Bool) → Type 0
WireMayLackMemory st (Cm frame) from to room = CmMayLackMemory st frame from room
WireMayLackMemory st (Packet kind sequence bytes) from to room =
    SessionMayLackMemory st (key_of from (packet_kind kind to)) (Packet kind sequence bytes) room
WireMayLackMemory st wire from to room = ⊥

-- a frame of other traffic asks for none
abbrev pub MeaningMayLackMemory : Station → Option (Wire × Address × Address) → (room : Bool) → Type 0
MeaningMayLackMemory st None room = ⊥
MeaningMayLackMemory st (Some m) room = WireMayLackMemory st m.0 m.1 m.2 room

-- a frame that the station doesn't look at asks for none
abbrev pub LooksLackingMemory : (looks : Bool) → Station → CanFrame → (room : Bool) → Type 0
LooksLackingMemory false st f room = ⊥
LooksLackingMemory true st f room = MeaningMayLackMemory st (reading f) room

abbrev pub MayLackMemory : Station → CanFrame → (room : Bool) → Type 0
MayLackMemory st f room = LooksLackingMemory (looks_at st f) st f room
