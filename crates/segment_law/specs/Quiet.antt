-- The frames of one undisturbed message, and what a drive of it does (SAE J1939-21; ISO 11783-3).
use Rattle.std.specs.Prelude.{◌≡◌, ℕ, ◌+◌, ◌-◌, ◌*◌, ◌/◌, ◌^◌, min, Bool, ◌&&◌, not, nat_lt, ◌==◌, if◌then◌else◌, List, [], ◌∷◌, ◌++◌, map, length, Some, slice_get, flat_map, IsTrue}
use Rattle.std.specs.List.{list_all, range_with_len}
use Rattle.bus_frame.specs.Frames.{CanFrame}
use Rattle.pgn_ids.specs.Address.{global_address}
use Rattle.pgn_ids.specs.declared.address.Address.{Address}
use Rattle.tp_wire.specs.Rows.{written}
use Rattle.tp_wire.specs.declared.constants.TheConstants.{TP_MAX_WINDOW, ETP_MAX_WINDOW}
use Rattle.tp_wire.specs.declared.outcome.Outcome.TheVariants as outcome
use Rattle.tp_wire.specs.declared.wire.Kind.{Kind}
use Rattle.tp_wire.specs.declared.wire.Kind.TheVariants.{Tp, Etp}
use Rattle.tp_wire.specs.declared.wire.CmFrame.TheVariants.{Rts, Cts, EndOfMsgAck, Bam, EtpRts, EtpCts, EtpDpo, EtpEoma}
use Rattle.tp_wire.specs.declared.wire.Wire.TheVariants.{Cm, Packet}
use Rattle.seg_cut.specs.Packets.{packet_count, packet}
use Rattle.tick_timers.specs.declared.durations.TheConstants.{BROADCAST_GAP}
use Rattle.bus_order.specs.Bus.{bus_len}
use Rattle.port_table.specs.Ports.{is_any_paused, ports_for}
use Rattle.lane_core.specs.Lane.{Lane, kind_for}
use Rattle.lane_core.specs.declared.message.Pending.{Pending}
use Rattle.lane_core.specs.declared.place.UnderWay.TheVariants.{Nothing}
use Rattle.lane_core.specs.declared.probe.Standing.TheVariants.{Settled}
use Rattle.station_core.specs.Sessions.{session_for, MAX_SESSIONS, SessionKind, key_of, others_than}
use Rattle.station_core.specs.SessionKinds as session
use Rattle.message_events.specs.declared.event.Event.{Event}
use Rattle.message_events.specs.declared.event.Event.TheVariants as event
use Rattle.station_core.specs.Station.{Station}
use Rattle.segment_law.specs.Segment.{Segment, has_station, station_at, lane_at, waiting_at}
use Rattle.segment_law.specs.Record.{Record, StandsAt}
use Rattle.segment_law.specs.Drive.{Driven, driven, end_of, events_in}
use Rattle.segment_law.specs.declared.end.DriveEnd.TheVariants as end

-- Frames

-- the runs of at most so many packets: the first packet of each, and how many
abbrev pub groups : (most packets : ℕ) → List (ℕ × ℕ)
groups most packets = map (λ k. (most * k + 1, min most (packets - most * k))) (range_with_len 0 ((packets + most - 1) / most))

abbrev pub tp_packets : Pending → (s d : Address) → ℕ × ℕ → List CanFrame
tp_packets m s d group = map (λ k. written (Packet Tp k (packet m.bytes k)) s.0 d.0) (range_with_len group.0 group.1)

-- the sequence is counted in the group
abbrev pub etp_packets : Pending → (s d : Address) → ℕ × ℕ → List CanFrame
etp_packets m s d group = map (λ i. written (Packet Etp i (packet m.bytes (group.0 + i - 1))) s.0 d.0) (range_with_len 1 group.1)

-- BAM, then the packets
abbrev pub quiet_broadcast : Pending → (s d : Address) → List CanFrame
quiet_broadcast m s d =
    let len = length m.bytes in
    written (Cm (Bam len (packet_count len) m.pgn)) s.0 d.0 ∷ tp_packets m s d (1, packet_count len)

-- a CTS, and the packets that it grants
abbrev pub tp_window : Pending → (s d : Address) → ℕ × ℕ → List CanFrame
tp_window m s d group = written (Cm (Cts group.1 group.0 m.pgn)) d.0 s.0 ∷ tp_packets m s d group

-- RTS, then the windows of as many packets as a TP receiver grants at most, then the end acknowledgement
abbrev pub quiet_tp : Pending → (s d : Address) → List CanFrame
quiet_tp m s d =
    let len = length m.bytes in
    written (Cm (Rts len (packet_count len) 255 m.pgn)) s.0 d.0
    ∷ flat_map (tp_window m s d) (groups TP_MAX_WINDOW (packet_count len))
    ++ written (Cm (EndOfMsgAck len (packet_count len) m.pgn)) d.0 s.0 ∷ []

-- a CTS, a DPO, and the packets that they grant
abbrev pub etp_window : Pending → (s d : Address) → ℕ × ℕ → List CanFrame
etp_window m s d group =
    written (Cm (EtpCts group.1 group.0 m.pgn)) d.0 s.0
    ∷ written (Cm (EtpDpo group.1 (group.0 - 1) m.pgn)) s.0 d.0
    ∷ etp_packets m s d group

-- RTS, then the windows of as many packets as an ETP receiver grants at most, then the end acknowledgement
abbrev pub quiet_etp : Pending → (s d : Address) → List CanFrame
quiet_etp m s d =
    let len = length m.bytes in
    written (Cm (EtpRts len m.pgn)) s.0 d.0
    ∷ flat_map (etp_window m s d) (groups ETP_MAX_WINDOW (packet_count len))
    ++ written (Cm (EtpEoma len m.pgn)) d.0 s.0 ∷ []

abbrev pub quiet_connection : Kind → Pending → (s d : Address) → List CanFrame
quiet_connection Tp m s d = quiet_tp m s d
quiet_connection Etp m s d = quiet_etp m s d

abbrev pub is_to_all : Address → Bool
is_to_all d = d.0 == global_address

-- the bus frames of one undisturbed message
unfoldable pub quiet : Pending → (s d : Address) → List CanFrame
quiet m s d = if is_to_all d then quiet_broadcast m s d else quiet_connection (kind_for (length m.bytes)) m s d

-- The receivers

-- the open ports that take the message
abbrev pub takers : Station → Pending → List ℕ
takers st m = ports_for st.ports m.pgn (length m.bytes)

-- an open port takes it, and there are fewer than 32 sessions beside one of its kind from its source, which it replaces
abbrev pub has_place : Station → Pending → (s : Address) → SessionKind → Bool
has_place st m s kind = nat_lt 0 (length (takers st m)) && nat_lt (others_than st.sessions (key_of s kind)) MAX_SESSIONS

-- Quiet segments

-- all queues are empty and no frame waits
abbrev pub is_at_rest : Segment → Bool
is_at_rest seg = list_all (λ st. length st.queue == 0 && waiting_at seg st.address == 0) seg.stations

-- the lane is settled with nothing under way
pub record IsSettled (lane : Lane) : Type 0 where
  pub under_way : lane.under_way ≡ Nothing
  pub standing : lane.standing ≡ Settled

-- the destination has a place for it, and no port that takes it is paused
abbrev pub may_receive : Segment → Pending → (s d : Address) → Bool
may_receive seg m s d =
    let st = station_at seg d in
    has_station seg d && has_place st m s (session_for (kind_for (length m.bytes))) && not (is_any_paused st.ports (takers st m))

-- the clock can advance by the gaps between the frames of a broadcast
abbrev pub may_broadcast : Segment → Pending → Bool
may_broadcast seg m = nat_lt (seg.now + BROADCAST_GAP * packet_count (length m.bytes)) (2 ^ 64)

-- a segment that is quiet for lane (s, d) with front message m
pub record IsQuiet (seg : Segment) (s d : Address) (m : Pending) : Type 0 where
  pub sender : IsTrue (has_station seg s)
  pub at_rest : IsTrue (is_at_rest seg)
  pub places : IsTrue (nat_lt (bus_len seg.bus + length (quiet m s d)) (2 ^ 64))
  pub settled : IsSettled (lane_at seg s d)
  pub front : slice_get (lane_at seg s d).pending 0 ≡ Some m
  pub receiver : IsTrue (if is_to_all d then may_broadcast seg m else may_receive seg m s d)

-- The events

-- each port that takes the message is given it, by rising number
abbrev pub given_by : Station → Pending → (s d : Address) → List Event
given_by st m s d = map (λ number. event.Given (record { station = st.address; number = number }) s d m.pgn m.bytes) (takers st m)

-- each other station that takes the broadcast gives it at its ports, in rising order
abbrev pub broadcast_given : List Station → Pending → (s d : Address) → List Event
broadcast_given stations m s d = flat_map (λ st. if not (st.address.0 == s.0) && has_place st m s session.Broadcast then given_by st m s d else []) stations

abbrev pub quiet_events : Segment → Pending → (s d : Address) → List Event
quiet_events seg m s d =
    if is_to_all d then event.Outcome s d m.number outcome.Broadcast ∷ broadcast_given seg.stations m s d
    else given_by (station_at seg d) m s d ++ event.Outcome s d m.number outcome.Acknowledged ∷ []

-- the drive puts exactly the quiet frames, has exactly these events, and leaves the segment at rest
pub record IsUndisturbed (seg : Segment) (s d : Address) (m : Pending) (drive : Driven) : Type 0 where
  pub turns : drive.turns ≡ length (quiet m s d)
  pub frames : drive.frames ≡ quiet m s d
  pub ended : end_of drive ≡ end.Turns
  pub events : events_in drive.calls ≡ quiet_events seg m s d
  pub at_rest : IsTrue (is_at_rest drive.segment)
  pub settled : IsSettled (lane_at drive.segment s d)

-- the exchange of messages to one destination
abbrev pub IsQuietExchange : Address → Type 0
IsQuietExchange d = (addresses : List Address) (steps : Record) (seg : Segment) (s : Address) (m : Pending)
    → StandsAt addresses steps seg → IsQuiet seg s d m → IsUndisturbed seg s d m (driven seg s d (length (quiet m s d)))
