-- Joining the packets of a message that arrive in order (SAE J1939-21, TP.DT).
use Rattle.std.specs.Prelude.{ℕ, zero, suc, ◌+◌, ◌-◌, ◌*◌, ◌^◌, ◌≡◌, ◌<◌, ◌≤◌, Bool, ◌==◌, ◌&&◌, nat_le, List, [], ◌++◌, length, take, min, max}
use Rattle.seg_cut.specs.Packets.{packet_count, packet}

-- a message of this size: the number of the next packet, the bytes received, and how many more packets there is room for
pub record Join : Type 0 where
  pub size : ℕ
  pub next : ℕ
  pub bytes : List ℕ
  pub room : ℕ

-- no packet has arrived
abbrev pub empty_join : ℕ → Join
empty_join size = record { size = size; next = 1; bytes = []; room = 0 }

-- each packet has arrived
abbrev pub is_complete : Join → Bool
is_complete j = j.next == packet_count j.size + 1

-- the next packet is the last
abbrev pub wants_last : Join → Bool
wants_last j = j.next == packet_count j.size

-- packet k is the next one
abbrev pub wants : Join → ℕ → Bool
wants j k = (k == j.next) && nat_le k (packet_count j.size)

-- a join with the next packet: the bytes of it that the message still lacks, without the filling
abbrev pub joined : Join → List ℕ → Join
joined j packet = record {
  size = j.size;
  next = j.next + 1;
  bytes = j.bytes ++ take (j.size - length j.bytes) packet;
  room = j.room - 1;
}

-- a join with room for so many further packets
abbrev pub with_room : Join → ℕ → Join
with_room j packets = record j { room = max j.room packets }

-- how many bytes of memory it holds
abbrev pub held : Join → ℕ
held j = min j.size (7 * (j.next - 1 + j.room))

-- what holds of every join
pub record IsJoin (j : Join) : Type 0 where
  pub size_fits : j.size < 2 ^ 32
  pub room_fits : j.room < 2 ^ 32
  pub from_first : 1 ≤ j.next
  pub to_end : j.next ≤ packet_count j.size + 1
  pub so_far : length j.bytes ≡ min j.size (7 * (j.next - 1))

-- the bytes received are those of the message's packets before the next one
pub record IsFrontOf (message : List ℕ) (j : Join) : Type 0 where
  pub same_size : j.size ≡ length message
  pub from_packet : 1 ≤ j.next
  pub front : j.bytes ≡ take (7 * (j.next - 1)) message

-- a join of the message's size that packets 1 to k of the message were put into
abbrev pub after_packets : List ℕ → ℕ → Join
after_packets message zero = empty_join (length message)
after_packets message (suc k) = joined (after_packets message k) (packet message (suc k))
