-- How a broadcast message is sent (SAE J1939-21, broadcast announce message), row by row.
use Rattle.std.specs.Prelude.{ℕ, ◌+◌, ◌-◌, not, ◌==◌, if◌then◌else◌, List, Option, Some, None}
use Rattle.bus_frame.specs.Frames.{CanFrame}
use Rattle.seg_cut.specs.Packets.{packet_count}
use Rattle.tick_timers.specs.Timers.{is_due, missing as missing_of_timer}
use Rattle.bam_session.specs.States.{Outgoing, first, with_next}
use Rattle.bam_session.specs.Frames.{announcement, next_packet}
use Rattle.bam_session.specs.declared.outgoing.BamPacket.{BamPacket}
use Rattle.bam_session.specs.declared.outgoing.BamPumped.{BamPumped}
use Rattle.bam_session.specs.declared.outgoing.BamPumped.TheVariants.{On, Last, NotYet}

-- the BAM is queued
abbrev pub begun : (from pgn len now : ℕ) → Outgoing × CanFrame
begun from pgn len now = (first from len now, announcement from pgn len)

-- the next packet is queued, at least 50 ticks after the last frame of the message
abbrev pub pumped : Outgoing → (bytes : List ℕ) → (now : ℕ) → BamPumped
pumped s bytes now =
    if not (is_due s.gap now) then NotYet s
    else if s.next == packet_count s.len then Last (next_packet s bytes)
    else On (with_next s now) (next_packet s bytes)

-- what follows from a pump: a queued packet leads on, if there is one
abbrev pub led : Option BamPacket → Outgoing → BamPumped
led None s = NotYet s
led (Some packet) s = if packet.is_last then Last packet.frame else On s packet.frame

-- how many packets of a message are still to be queued, from the next one on
abbrev pub packets_left : (len next : ℕ) → ℕ
packets_left len next = packet_count len + 1 - next

-- how many ticks its gap still has to last
abbrev pub missing : Outgoing → (now : ℕ) → ℕ
missing s now = missing_of_timer s.gap now
