-- The end acknowledgements of messages that were given (SAE J1939-21, TP.CM_EndOfMsgACK; ISO 11783-3, ETP.CM_EOMA): each follows the report on
-- its message.
use Rattle.std.specs.Prelude.{ℕ, List, [], ◌∷◌, length, Bool, true, false, not, ◌&&◌, ◌==◌, if◌then◌else◌, Option, Some, None}
use Rattle.std.specs.Map.{lookup}
use Rattle.indexmap.specs.IndexMap.{insert_entry}
use Rattle.bus_frame.specs.Frames.{CanFrame}
use Rattle.log_fields.specs.declared.iface.Iface.{Iface}
use Rattle.pgn_ids.specs.Address.{global_address}
use Rattle.pgn_ids.specs.Pgn.{clean}
use Rattle.pgn_ids.specs.declared.address.Address.{Address}
use Rattle.tp_wire.specs.Reading.{reading}
use Rattle.tp_wire.specs.declared.wire.Kind.TheVariants.{Tp, Etp}
use Rattle.tp_wire.specs.declared.wire.CmFrame.{CmFrame}
use Rattle.tp_wire.specs.declared.wire.CmFrame.TheVariants.{Rts, Cts, EndOfMsgAck, Bam, Abort, EtpRts, EtpCts, EtpDpo, EtpEoma, EtpAbort}
use Rattle.tp_wire.specs.declared.wire.Wire.{Wire}
use Rattle.tp_wire.specs.declared.wire.Wire.TheVariants.{Cm, Packet, Request, Ack}
use Rattle.log_reports.specs.Keys.{same_key}
use Rattle.log_reports.specs.declared.key.Key.{Key}
use Rattle.log_reports.specs.declared.told.Told.{Told}
use Rattle.log_reports.specs.declared.told.Told.TheVariants.{Given, Aborted, Lost}
use Rattle.log_courses.specs.Courses.{key_between}
use Rattle.log_courses.specs.declared.awaited.Last.{Last}

-- by key, the message that was given last
abbrev pub Awaited : Type 0
Awaited = List (Key × Last)

abbrev pub last_at : Key → Awaited → Option Last
last_at key awaited = lookup (same_key key) awaited

abbrev pub put_last : Key → Last → Awaited → Awaited
put_last key l awaited = insert_entry same_key awaited key l

abbrev pub is_to_all : Key → Bool
is_to_all key = key.to.0 == global_address

-- a message that is given to one node is to be acknowledged; one to all isn't
abbrev pub awaiting : Told → Awaited → Awaited
awaiting (Given key pgn bytes) awaited = if is_to_all key then awaited else put_last key (record { pgn = pgn; size = length bytes; is_met = false }) awaited
awaiting (Aborted key pgn reason who) awaited = awaited
awaiting (Lost key pgn have size cause) awaited = awaited

abbrev pub awaiting_each : List Told → Awaited → Awaited
awaiting_each [] awaited = awaited
awaiting_each (t ∷ ts) awaited = awaiting_each ts (awaiting t awaited)

-- an end acknowledgement of this PGN and size is that of this message, and the first one
abbrev pub is_open : Last → (pgn size : ℕ) → Bool
is_open l pgn size = not l.is_met && clean pgn == l.pgn && size == l.size

abbrev pub met_at : Key → (pgn size : ℕ) → Awaited → Awaited × Bool
met_at key pgn size awaited = elim (last_at key awaited) [ None ↦ (awaited, false) | Some l ↦ if is_open l pgn size then (put_last key (record l { is_met = true }) awaited, true) else (awaited, false) ]

-- it is from the receiver of its message
unfoldable pub cm_met : Iface → (from to : Address) → CmFrame → Awaited → Awaited × Bool
cm_met iface from to (Rts size packets window pgn) awaited = (awaited, false)
cm_met iface from to (Cts granted next pgn) awaited = (awaited, false)
cm_met iface from to (EndOfMsgAck size packets pgn) awaited = met_at (key_between iface to from Tp) pgn size awaited
cm_met iface from to (Bam size packets pgn) awaited = (awaited, false)
cm_met iface from to (Abort reason pgn) awaited = (awaited, false)
cm_met iface from to (EtpRts size pgn) awaited = (awaited, false)
cm_met iface from to (EtpCts granted next pgn) awaited = (awaited, false)
cm_met iface from to (EtpDpo packets offset pgn) awaited = (awaited, false)
cm_met iface from to (EtpEoma size pgn) awaited = met_at (key_between iface to from Etp) pgn size awaited
cm_met iface from to (EtpAbort reason pgn) awaited = (awaited, false)

unfoldable pub wire_met : Iface → (from to : Address) → Wire → Awaited → Awaited × Bool
wire_met iface from to (Cm frame) awaited = cm_met iface from to frame awaited
wire_met iface from to (Packet kind sequence bytes) awaited = (awaited, false)
wire_met iface from to (Request pgn) awaited = (awaited, false)
wire_met iface from to (Ack control address pgn) awaited = (awaited, false)

-- the messages awaited after a frame on an interface, and whether the frame was such an acknowledgement
abbrev pub met : Iface → CanFrame → Awaited → Awaited × Bool
met iface frame awaited = elim (reading frame) [ None ↦ (awaited, false) | Some r ↦ wire_met iface r.1 r.2 r.0 awaited ]
