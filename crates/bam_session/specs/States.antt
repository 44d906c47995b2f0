-- The states of a broadcast message, at its sender and at a receiver (SAE J1939-21, broadcast announce message).
use Rattle.std.specs.Prelude.{ℕ, ◌+◌, Bool, List}
use Rattle.seg_cut.specs.Join.{Join, joined}
use Rattle.tick_timers.specs.Timers.{Timer}
use Rattle.tick_timers.specs.declared.durations.TheConstants.{T1, BROADCAST_GAP}
use Rattle.tp_wire.specs.Sizes.{is_size_of}
use Rattle.tp_wire.specs.declared.wire.Kind.TheVariants.{Tp}

-- the sizes of messages that are broadcast in packets, in bytes
abbrev pub is_size : ℕ → Bool
is_size size = is_size_of Tp size

-- a timer that starts now
abbrev pub start : (now ticks : ℕ) → Timer
start now ticks = record { started = now; ticks = ticks }

-- sending: the source, the size of the message, its next packet, and the ticks since its last queued frame
pub record Outgoing : Type 0 where
  pub from : ℕ
  pub len : ℕ
  pub next : ℕ
  pub gap : Timer

-- the BAM is queued now
abbrev pub first : (from len now : ℕ) → Outgoing
first from len now = record { from = from; len = len; next = 1; gap = start now BROADCAST_GAP }

-- the next packet is queued now
abbrev pub with_next : Outgoing → (now : ℕ) → Outgoing
with_next s now = record s { next = s.next + 1; gap = start now BROADCAST_GAP }

-- receiving: the source, the PGN field as received, the packets received, and T1
pub record Incoming : Type 0 where
  pub from : ℕ
  pub pgn : ℕ
  pub join : Join
  pub timer : Timer

-- the BAM is taken now
abbrev pub announced : (from pgn : ℕ) → Join → (now : ℕ) → Incoming
announced from pgn join now = record { from = from; pgn = pgn; join = join; timer = start now T1 }

-- the next packet is accepted now
abbrev pub accepted : Incoming → List ℕ → (now : ℕ) → Incoming
accepted s bytes now = record s { join = joined s.join bytes; timer = start now T1 }
