-- How a broadcast message is received (SAE J1939-21, broadcast announce message, TP.DT), row by row.
use Rattle.std.specs.Prelude.{◌≡◌, ℕ, Bool, true, false, not, ◌&&◌, nat_lt, ◌==◌, if◌then◌else◌, List}
use Rattle.seg_cut.specs.Join.{joined, wants_last}
use Rattle.tp_wire.specs.declared.wire.Kind.TheVariants.{Tp}
use Rattle.tp_wire.specs.declared.wire.Wire.{Wire}
use Rattle.tp_wire.specs.declared.wire.Wire.TheVariants.{Packet}
use Rattle.bam_session.specs.States.{Incoming, accepted}
use Rattle.bam_session.specs.declared.incoming.BamLeft.{BamLeft}
use Rattle.bam_session.specs.declared.incoming.BamLeft.TheVariants.{Nothing, Message, Dropped}

-- what follows from a packet: further ones are awaited, the message is complete with these bytes, or it is dropped
pub data Received : Type 0 where
  Awaits : Incoming → Received
  Completes : List ℕ → Received
  Drops : Received

-- packet k arrives
abbrev pub received : Incoming → (k : ℕ) → List ℕ → (now : ℕ) → Received
received s k bytes now =
    if nat_lt k s.join.next then Awaits s
    else if nat_lt s.join.next k then Drops
    else if not (wants_last s.join) then Awaits (accepted s bytes now)
    else Completes (joined s.join bytes).bytes

-- a frame arrives: one that is no packet of this transport changes nothing
abbrev pub stepped : Incoming → Wire → (now : ℕ) → Received
stepped s (Packet Tp k bytes) now = received s k bytes now
stepped s _ now = Awaits s

-- the frame is the last packet, and the next one
abbrev pub completes : Incoming → Wire → Bool
completes s (Packet Tp k bytes) = wants_last s.join && k == s.join.next
completes s _ = false

-- what follows from a frame: the step is made, or the receiver is unchanged and this is left to do
abbrev pub Leads : (before : Incoming) → Wire → (now : ℕ) → BamLeft → (after : Incoming) → Type 0
Leads before wire now Nothing after = stepped before wire now ≡ Awaits after
Leads before wire now Message after = (completes before wire ≡ true) × (wants_last before.join ≡ true) × (after ≡ before)
Leads before wire now Dropped after = (stepped before wire now ≡ Drops) × (after ≡ before)
