-- How an incoming session opens (SAE J1939-21, TP.CM_RTS, TP.CM_BAM; ISO 11783-3, ETP.CM_RTS). It replaces an older one
-- of its kind from its source, which ends without an abort, even if the new one is refused.
use Rattle.std.specs.Prelude.{ℕ, Bool, ◌&&◌, not, nat_le, ◌==◌, if◌then◌else◌, List, length, Option, Some, None}
use Rattle.std.specs.FinMap as map
use Rattle.pgn_ids.specs.declared.address.Address.{Address}
use Rattle.pgn_ids.specs.Pgn.{clean}
use Rattle.tp_wire.specs.Sizes.{is_size_of}
use Rattle.tp_wire.specs.declared.wire.CmFrame.{CmFrame}
use Rattle.tp_wire.specs.declared.wire.CmFrame.TheVariants.{Rts, Bam, EtpRts}
use Rattle.tp_wire.specs.declared.wire.Kind.{Kind}
use Rattle.tp_wire.specs.declared.wire.Kind.TheVariants.{Tp, Etp}
use Rattle.tp_wire.specs.declared.constants.TheConstants.{ETP_MAX_WINDOW}
use Rattle.tp_wire.specs.declared.reason.AbortReason.{AbortReason}
use Rattle.tp_wire.specs.declared.reason.AbortReason.TheVariants.{NoFurtherSession, Resources, Other}
use Rattle.tp_wire.specs.Reason.{reason_byte}
use Rattle.seg_cut.specs.Packets.{packet_count}
use Rattle.seg_cut.specs.Join.{Join, empty_join, with_room}
use Rattle.responder.specs.Peer.{Peer}
use Rattle.responder.specs.Answers.{abort_frame}
use Rattle.bam_session.specs.States as bam
use Rattle.responder.specs.Unfinished.{begun}
use Rattle.responder.specs.Window.{most_of}
use Rattle.responder.specs.Asking.{asking, asked}
use Rattle.responder.specs.Room.{first_join}
use Rattle.session_table.specs.Key.{session_for}
use Rattle.port_table.specs.Ports.{Ports, ports_for}
use Rattle.session_table.specs.declared.TheConstants.{MAX_SESSIONS}
use Rattle.session_table.specs.declared.key.Key.{Key}
use Rattle.session_table.specs.declared.key.SessionKind.{SessionKind}
use Rattle.session_table.specs.declared.key.SessionKind.TheVariants as session
use Rattle.session_table.specs.declared.incoming.Incoming.TheVariants as incoming
use Rattle.station_sessions.specs.Receiving.{Inbound, Reception, unheard, goes_on_at, ended_at, flow_at}

-- the sizes that TP carries, with the packets of the size
abbrev pub is_tp_size : (size packets : ℕ) → Bool
is_tp_size size packets = is_size_of Tp size && packets == packet_count size

-- the sizes that ETP carries
abbrev pub is_etp_size : ℕ → Bool
is_etp_size size = is_size_of Etp size

-- why a session doesn't open, with so many others: the first that holds
abbrev pub refusal : (is_size room : Bool) → (set : List ℕ) → (others : ℕ) → Option AbortReason
refusal is_size room set others =
    if not is_size then Some Other
    else if length set == 0 then Some Resources
    else if nat_le MAX_SESSIONS others then Some NoFurtherSession
    else if not room then Some Resources
    else None

-- no packet of the message has arrived, and there is room for it all
abbrev pub whole_join : ℕ → Join
whole_join size = with_room (empty_join size) (packet_count size)

abbrev pub key_of : Address → SessionKind → Key
key_of from kind = record { source = from; kind = kind }

-- the sessions beside that of a key
abbrev pub others_than : Inbound → Key → ℕ
others_than sessions key = map.len (map.remove sessions key)

-- the open ports that receive a message of this PGN field and size
abbrev pub set_for : Ports → (pgn size : ℕ) → List ℕ
set_for ports pgn size = ports_for ports (clean pgn) size

-- whom a connection is received from, by the station of an address
abbrev pub peer_of : (own from : Address) → (pgn : ℕ) → Peer
peer_of own from pgn = record { from = from.0; to = own.0; pgn = pgn }

-- the session of a key opens for the ports of a set, with the CTS for its first window or a hold
abbrev pub connection_opened : Ports → Key → (set : List ℕ) → Kind → Peer → (size most now : ℕ) → Inbound → Reception
connection_opened ports key set kind peer size most now sessions =
    let flow = flow_at ports set in
    let message = begun kind peer most (first_join kind size flow) in
    goes_on_at key set sessions (incoming.Connection (asking message flow now)) (Some (asked message flow))

-- an RTS of a kind, for which a CTS may grant so many packets: if the session doesn't open, an abort is queued
abbrev pub rts_received : (own : Address) → Ports → Kind → (is_size : Bool) → (from : Address) → (size most pgn : ℕ) → (room : Bool) → (now : ℕ) → Inbound → Reception
rts_received own ports kind is_size from size most pgn room now sessions = elim (refusal is_size room (set_for ports pgn size) (others_than sessions (key_of from (session_for kind)))) [
  | None ↦ connection_opened ports (key_of from (session_for kind)) (set_for ports pgn size) kind (peer_of own from pgn) size most now sessions
  | Some reason ↦ ended_at (key_of from (session_for kind)) sessions (Some (abort_frame kind (peer_of own from pgn) (reason_byte reason)))
]

-- a BAM: if the session doesn't open, nothing is queued
abbrev pub bam_received : Ports → (from : Address) → (size packets pgn : ℕ) → (room : Bool) → (now : ℕ) → Inbound → Reception
bam_received ports from size packets pgn room now sessions = elim (refusal (is_tp_size size packets) room (set_for ports pgn size) (others_than sessions (key_of from session.Broadcast))) [
  | None ↦ goes_on_at (key_of from session.Broadcast) (set_for ports pgn size) sessions (incoming.Broadcast (bam.announced from.0 pgn (whole_join size) now)) None
  | Some reason ↦ ended_at (key_of from session.Broadcast) sessions None
]

-- a frame that opens a session, of whatever transport
abbrev pub opening_received : (own : Address) → Ports → CmFrame → (from : Address) → (room : Bool) → (now : ℕ) → Inbound → Reception
opening_received own ports (Rts size packets most pgn) from room now sessions = rts_received own ports Tp (is_tp_size size packets) from size (most_of Tp most) pgn room now sessions
opening_received own ports (Bam size packets pgn) from room now sessions = bam_received ports from size packets pgn room now sessions
opening_received own ports (EtpRts size pgn) from room now sessions = rts_received own ports Etp (is_etp_size size) from size ETP_MAX_WINDOW pgn room now sessions
opening_received own ports _ from room now sessions = unheard sessions
