-- The readers of an incoming session, whatever its kind, and what its message gives (SAE J1939-21, TP.DT; ISO 11783-3, ETP.DT).
use Rattle.std.specs.Prelude.{ℕ, Bool, if◌then◌else◌, List, Option, Some, None}
use Rattle.bus_frame.specs.Frames.{CanFrame}
use Rattle.pgn_ids.specs.Address.{global_address}
use Rattle.pgn_ids.specs.Pgn.{clean}
use Rattle.tp_wire.specs.declared.wire.Wire.{Wire}
use Rattle.tp_wire.specs.Reason.{reason_byte}
use Rattle.tp_wire.specs.declared.reason.AbortReason.TheVariants.{Resources}
use Rattle.responder.specs.Answers.{abort_frame, end_frame}
use Rattle.responder.specs.Finished.{Finished}
use Rattle.responder.specs.Readers.{unfinished_of}
use Rattle.responder.specs.Steps as steps
use Rattle.responder.specs.declared.flow.Flow.{Flow}
use Rattle.responder.specs.declared.flow.Flow.TheVariants.{Open, Held}
use Rattle.bam_session.specs.States as bam
use Rattle.bam_session.specs.Receiving as bam-steps
use Rattle.session_table.specs.declared.incoming.Incoming.{Incoming}
use Rattle.session_table.specs.declared.incoming.Incoming.TheVariants.{Broadcast, Connection}
use Rattle.station_sessions.specs.declared.copies.Message.{Message}

-- a session is held while a port of its set is paused
abbrev pub flow_of : (is_paused : Bool) → Flow
flow_of is_paused = if is_paused then Held else Open

-- a message to all that is complete, with its PGN as it is meant
abbrev pub broadcast_message : bam.Incoming → (bytes : List ℕ) → Message
broadcast_message s bytes = record { from = record { 0 = s.from }; to = record { 0 = global_address }; pgn = clean s.pgn; bytes = bytes }

-- the message of a connection
abbrev pub connection_message : Finished → Message
connection_message m = record { from = record { 0 = m.peer.from }; to = record { 0 = m.peer.to }; pgn = clean m.peer.pgn; bytes = m.bytes }

-- what is queued when that is given: the end of message acknowledgement
abbrev pub given_answer : Finished → CanFrame
given_answer m = end_frame m.kind m.peer m.size

-- the answer when the message isn't given, for want of room: the abort
abbrev pub refused_answer : Finished → CanFrame
refused_answer m = abort_frame m.kind m.peer (reason_byte Resources)

-- the step with this frame completes its message
abbrev pub completes : Incoming → Wire → Bool
completes (Broadcast s) wire = bam-steps.completes s wire
completes (Connection s) wire = steps.completes s wire

-- the size of its message
abbrev pub size_of : Incoming → ℕ
size_of (Broadcast s) = s.join.size
size_of (Connection s) = (unfinished_of s).join.size

-- what ends a session whose last port is closed: the abort of a connection
abbrev pub closing_frame : Incoming → Option CanFrame
closing_frame (Broadcast s) = None
closing_frame (Connection s) = Some (abort_frame (unfinished_of s).kind (unfinished_of s).peer (reason_byte Resources))
