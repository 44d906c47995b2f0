-- A sender queues a part of its window (SAE J1939-21, TP.DT; ISO 11783-3, ETP.CM_DPO and ETP.DT).
use Rattle.std.specs.Prelude.{ℕ, ◌+◌, ◌-◌, min, max, true, nat_lt, if◌then◌else◌, List, [], ◌∷◌, ◌++◌, map, length}
use Rattle.std.specs.List.{range_with_len}
use Rattle.bus_frame.specs.Frames.{CanFrame}
use Rattle.tick_timers.specs.declared.durations.TheConstants.{T3}
use Rattle.tp_wire.specs.declared.wire.Kind.{Kind}
use Rattle.tp_wire.specs.declared.wire.Kind.TheVariants.{Tp, Etp}
use Rattle.tp_wire.specs.declared.wire.CmFrame.TheVariants.{EtpDpo}
use Rattle.tp_wire.specs.declared.wire.Wire.TheVariants.{Cm, Packet}
use Rattle.seg_cut.specs.Packets.{packet}
use Rattle.originator.specs.Link.{Link, frame_of}
use Rattle.originator.specs.States.{Sending as Window}
use Rattle.originator.specs.Readers.{started, without_window}
use Rattle.originator.specs.declared.states.OutState.{OutState}
use Rattle.originator.specs.declared.states.OutState.TheVariants.{AwaitCts, Sending, AwaitEnd}

-- how many frames are queued at once at most
abbrev pub most_frames : ℕ
most_frames = 8

-- the data packet offset of the window: its packets, and its first packet less one
abbrev pub dpo_frame : Window → CanFrame
dpo_frame s = frame_of s.link (Cm (EtpDpo (s.until + 1 - s.next) (s.next - 1) s.link.pgn))

-- ETP announces a window before its first packet
abbrev pub announcement : Kind → Window → List CanFrame
announcement Tp s = []
announcement Etp s = if s.announced then [] else dpo_frame s ∷ []

-- the sequence number of packet k: in ETP it counts from the offset
abbrev pub sequence_of : Kind → (next k : ℕ) → ℕ
sequence_of Tp next k = k
sequence_of Etp next k = k - (next - 1)

-- packet k of the message, in a window from packet `next` on
abbrev pub packet_frame : Link → (next : ℕ) → List ℕ → ℕ → CanFrame
packet_frame link next bytes k = frame_of link (Packet link.kind (sequence_of link.kind next k) (packet bytes k))

-- so many packets in their order, from packet `first` on
abbrev pub packet_frames : Link → (next : ℕ) → List ℕ → (first count : ℕ) → List CanFrame
packet_frames link next bytes first count = map (packet_frame link next bytes) (range_with_len first count)

-- how many packets: as many as the window still has, and as there are frames left beside the announcement
abbrev pub burst_packets : Window → ℕ
burst_packets s = min (most_frames - length (announcement s.link.kind s)) (s.until + 1 - s.at)

-- the frames that are queued
abbrev pub burst_of_window : Window → List ℕ → List CanFrame
burst_of_window s bytes =
    announcement s.link.kind s ++ packet_frames s.link s.next bytes s.at (burst_packets s)

-- the packets before `at` are queued: the window continues, or is finished
abbrev pub queued_to : Window → (at now : ℕ) → OutState
queued_to s at now =
    if nat_lt s.until at then without_window s.link (max s.unsent at) s.resends (started now T3)
    else Sending (record s { unsent = max s.unsent at; at = at; announced = true })

-- the state and the frames that a window leaves
abbrev pub pumped_window : Window → List ℕ → ℕ → OutState × List CanFrame
pumped_window s bytes now = (queued_to s (s.at + burst_packets s) now, burst_of_window s bytes)

-- without a window there is nothing to queue
abbrev pub pumped : OutState → List ℕ → ℕ → OutState × List CanFrame
pumped (Sending s) bytes now = pumped_window s bytes now
pumped (AwaitCts s) bytes now = (AwaitCts s, [])
pumped (AwaitEnd s) bytes now = (AwaitEnd s, [])
