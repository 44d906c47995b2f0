-- What a station makes of a frame on the bus, row by row (SAE J1939-21; ISO 11783-3).
use Rattle.std.specs.Prelude.{ℕ, Bool, ◌&&◌, ◌||◌, not, ◌==◌, if◌then◌else◌, List, [], ◌∷◌, length, Option, Some, None}
use Rattle.bus_frame.specs.Frames.{CanFrame}
use Rattle.pgn_ids.specs.Address.{global_address}
use Rattle.pgn_ids.specs.Identifier.{meaning_of}
use Rattle.pgn_ids.specs.declared.identifier.IdMeaning.{IdMeaning}
use Rattle.pgn_ids.specs.declared.address.Address.{Address}
use Rattle.tp_wire.specs.Reading.{reading, is_malformed}
use Rattle.tp_wire.specs.Rows.{written}
use Rattle.tp_wire.specs.declared.wire.Kind.{Kind}
use Rattle.tp_wire.specs.declared.wire.Kind.TheVariants as kind
use Rattle.tp_wire.specs.declared.wire.CmFrame.{CmFrame}
use Rattle.tp_wire.specs.declared.wire.CmFrame.TheVariants.{Rts, Cts, EndOfMsgAck, Bam, Abort, EtpRts, EtpCts, EtpDpo, EtpEoma, EtpAbort}
use Rattle.tp_wire.specs.declared.wire.Wire.{Wire}
use Rattle.tp_wire.specs.declared.wire.Wire.TheVariants.{Cm, Packet, Request, Ack}
use Rattle.lane_core.specs.Hear.{heard}
use Rattle.lane_core.specs.Answer.{answered}
use Rattle.lane_core.specs.Step.{nothing_to_do}
use Rattle.session_table.specs.declared.key.Key.{Key}
use Rattle.session_table.specs.declared.key.SessionKind.{SessionKind}
use Rattle.session_table.specs.declared.key.SessionKind.TheVariants as session
use Rattle.station_lanes.specs.LaneCalls.{stepped_lanes}
use Rattle.session_table.specs.Sessions.{state_at}
use Rattle.station_sessions.specs.Opening.{key_of, opening_received}
use Rattle.station_sessions.specs.Receiving.{received, aborted_at, wanted_by}
use Rattle.station_core.specs.Station.{Station, StationStep, quietly, queues, by_session, by_lane}

-- the kind of the session that a data packet belongs to
abbrev pub packet_kind : Kind → (to : Address) → SessionKind
packet_kind kind.Tp to = if to.0 == global_address then session.Broadcast else session.Tp
packet_kind kind.Etp to = session.Etp

-- a session opens, or not
abbrev pub in_opening : Station → CmFrame → (from : Address) → (room : Bool) → (now : ℕ) → StationStep
in_opening st frame from room now = by_session st (opening_received st.address st.ports frame from room now st.sessions)

-- the session of that kind from the source makes its step
abbrev pub in_session : Station → Key → Wire → (room : Bool) → (now : ℕ) → StationStep
in_session st key wire room now = by_session st (received st.ports key wire room now st.sessions)

-- the lane to the source makes its step
abbrev pub in_lane : Station → (from : Address) → Wire → (now : ℕ) → StationStep
in_lane st from wire now = by_lane st from (λ lane. heard lane wire now)

-- an abort ends the incoming session and the message under way of its kind and PGN
abbrev pub abort_taken : Station → (from : Address) → SessionKind → (pgn : ℕ) → Wire → (now : ℕ) → StationStep
abort_taken st from kind pgn wire now = in_lane (record st { sessions = aborted_at (key_of from kind) pgn st.sessions }) from wire now

abbrev pub cm_taken : Station → CmFrame → (from : Address) → (room : Bool) → (now : ℕ) → StationStep
cm_taken st (Rts size packets most pgn) from room now = in_opening st (Rts size packets most pgn) from room now
cm_taken st (Cts granted next pgn) from room now = in_lane st from (Cm (Cts granted next pgn)) now
cm_taken st (EndOfMsgAck size packets pgn) from room now = in_lane st from (Cm (EndOfMsgAck size packets pgn)) now
cm_taken st (Bam size packets pgn) from room now = in_opening st (Bam size packets pgn) from room now
cm_taken st (Abort reason pgn) from room now = abort_taken st from session.Tp pgn (Cm (Abort reason pgn)) now
cm_taken st (EtpRts size pgn) from room now = in_opening st (EtpRts size pgn) from room now
cm_taken st (EtpCts granted next pgn) from room now = in_lane st from (Cm (EtpCts granted next pgn)) now
cm_taken st (EtpDpo packets offset pgn) from room now = in_session st (key_of from session.Etp) (Cm (EtpDpo packets offset pgn)) room now
cm_taken st (EtpEoma size pgn) from room now = in_lane st from (Cm (EtpEoma size pgn)) now
cm_taken st (EtpAbort reason pgn) from room now = abort_taken st from session.Etp pgn (Cm (EtpAbort reason pgn)) now

-- the Acknowledgement that answers each Request to the own address (SAE J1939-21, Acknowledgement, negative)
abbrev pub answer : Station → (asker : Address) → (pgn : ℕ) → CanFrame
answer st asker pgn = written (Ack 1 asker pgn) st.address.0 global_address

abbrev pub request_taken : Station → (from to : Address) → (pgn : ℕ) → Station
request_taken st from to pgn = if to.0 == st.address.0 then queues st (answer st from pgn ∷ []) else st

-- an Acknowledgement to the own address, or of an own Request
abbrev pub ack_taken : Station → (from to address : Address) → (pgn : ℕ) → Station
ack_taken st from to address pgn =
    if address.0 == st.address.0 || to.0 == st.address.0
    then record st { lanes = stepped_lanes st.lanes from.0 (λ lane. (answered lane pgn, nothing_to_do)) }
    else st

abbrev pub wire_taken : Station → Wire → (from to : Address) → (room : Bool) → (now : ℕ) → StationStep
wire_taken st (Cm frame) from to room now = cm_taken st frame from room now
wire_taken st (Packet kind sequence bytes) from to room now = in_session st (key_of from (packet_kind kind to)) (Packet kind sequence bytes) room now
wire_taken st (Request pgn) from to room now = quietly (request_taken st from to pgn)
wire_taken st (Ack control address pgn) from to room now = quietly (ack_taken st from to address pgn)

-- what another node sends, to this one or to all
abbrev pub is_meant_for : Station → IdMeaning → Bool
is_meant_for st m = not (m.from.0 == st.address.0) && (m.to.0 == st.address.0 || m.to.0 == global_address)

abbrev pub looks_at : Station → CanFrame → Bool
looks_at st f = is_meant_for st (meaning_of f.id)

-- a frame that it looks at, of one of the six PGNs, that shows no row of the frame table
abbrev pub is_malformed_for : Station → CanFrame → Bool
is_malformed_for st f = looks_at st f && is_malformed f

abbrev pub meaning_taken : Station → Option (Wire × Address × Address) → (room : Bool) → (now : ℕ) → StationStep
meaning_taken st None room now = quietly st
meaning_taken st (Some m) room now = wire_taken st m.0 m.1 m.2 room now

abbrev pub taken : Station → CanFrame → (room : Bool) → (now : ℕ) → StationStep
taken st f room now = if looks_at st f then meaning_taken st (reading f) room now else quietly st

-- the ports that taking a frame would give to with room, and the size of the message
abbrev pub wire_wanted : Station → Wire → (from to : Address) → List ℕ × ℕ
wire_wanted st (Packet kind sequence bytes) from to = wanted_by (state_at st.sessions (key_of from (packet_kind kind to))) (Packet kind sequence bytes)
wire_wanted st _ from to = ([], 0)

abbrev pub meaning_wanted : Station → Option (Wire × Address × Address) → List ℕ × ℕ
meaning_wanted st None = ([], 0)
meaning_wanted st (Some m) = wire_wanted st m.0 m.1 m.2

abbrev pub wanted : Station → CanFrame → List ℕ × ℕ
wanted st f = if looks_at st f then meaning_wanted st (reading f) else ([], 0)
