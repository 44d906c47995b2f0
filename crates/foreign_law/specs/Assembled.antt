-- What it is that a message was put together from frames that a station took (SAE J1939-21, broadcast announce message and
-- connection mode data transfer; ISO 11783-3).
use Rattle.std.specs.Prelude.{◌≡◌, ℕ, ◌+◌, ◌<◌, ◌≤◌, ◌⊎◌, ◌==◌, if◌then◌else◌, List, [], ◌∷◌, ◌++◌, length, take, Option, Some, None, Contains}
use Rattle.pgn_ids.specs.Address.{global_address}
use Rattle.pgn_ids.specs.Pgn.{clean}
use Rattle.pgn_ids.specs.declared.address.Address.{Address}
use Rattle.tp_wire.specs.Sizes.{is_size_of}
use Rattle.tp_wire.specs.declared.wire.Kind.{Kind}
use Rattle.tp_wire.specs.declared.wire.Kind.TheVariants as kind
use Rattle.tp_wire.specs.declared.wire.CmFrame.TheVariants.{Rts, Bam, EtpRts, EtpDpo}
use Rattle.tp_wire.specs.declared.wire.Wire.{Wire}
use Rattle.tp_wire.specs.declared.wire.Wire.TheVariants.{Cm, Packet}
use Rattle.seg_cut.specs.Packets.{packet_count}
use Rattle.session_table.specs.declared.key.SessionKind.{SessionKind}
use Rattle.session_table.specs.declared.key.SessionKind.TheVariants.{Broadcast, Tp, Etp}
use Rattle.segment_law.specs.Told.{Placed}
use Rattle.foreign_law.specs.Taken.{Seen, Message}

-- what its opening says of a message: the kind of transfer, the source, the destination, the PGN, and the size in bytes
pub record Transfer : Type 0 where
  pub kind : SessionKind
  pub from : Address
  pub to : Address
  pub pgn : ℕ
  pub size : ℕ

-- a message to all is broadcast; one to a node goes by ETP if it is longer than TP carries
abbrev pub kind_for : (to : Address) → (size : ℕ) → SessionKind
kind_for to size = if to.0 == global_address then Broadcast else if is_size_of kind.Etp size then Etp else Tp

abbrev pub transfer_of : Message → Transfer
transfer_of m = record { kind = kind_for m.to (length m.bytes); from = m.from; to = m.to; pgn = m.pgn; size = length m.bytes }

-- the transport whose packets carry it
abbrev pub transport_of : SessionKind → Kind
transport_of Broadcast = kind.Tp
transport_of Tp = kind.Tp
transport_of Etp = kind.Etp

-- a frame that announces so many bytes of a PGN, whose field may have a low byte that isn't meant: a BAM, an RTS, or an RTS of ETP
abbrev pub Announces : SessionKind → (size pgn : ℕ) → Wire → Type 0
Announces Broadcast size pgn wire = (field : ℕ) × (wire ≡ Cm (Bam size (packet_count size) field)) × (clean field ≡ pgn)
Announces Tp size pgn wire = (most field : ℕ) × (wire ≡ Cm (Rts size (packet_count size) most field)) × (clean field ≡ pgn)
Announces Etp size pgn wire = (field : ℕ) × (wire ≡ Cm (EtpRts size field)) × (clean field ≡ pgn)

-- the kind of transfer that a frame opens, whatever it announces
abbrev pub opened_by : Wire → Option SessionKind
opened_by (Cm (Bam size packets field)) = Some Broadcast
opened_by (Cm (Rts size packets most field)) = Some Tp
opened_by (Cm (EtpRts size field)) = Some Etp
opened_by _ = None

-- the bytes of packets, one behind the other
abbrev pub bytes_of : List (Placed (List ℕ)) → List ℕ
bytes_of [] = []
bytes_of (packet ∷ packets) = packet.1 ++ bytes_of packets

-- what a station has seen, each with its place
module _ (seen : List (Placed Seen)) (t : Transfer) where
  -- at this place it took this frame, of the transfer's source to its destination
  abbrev pub IsTaken : (place : ℕ) → Wire → Type 0
  IsTaken place wire = Contains seen (place, Some (wire, t.from, t.to))

  -- the opening of the transfer
  abbrev pub IsOpenedAt : (place : ℕ) → Type 0
  IsOpenedAt place = (wire : Wire) × IsTaken place wire × Announces t.kind t.size t.pgn wire

  -- up to a place, no other opening of its source and kind was taken behind this one
  abbrev pub IsLastOpening : (opening end : ℕ) → Type 0
  IsLastOpening opening end = (place : ℕ) (wire : Wire) → IsTaken place wire → opened_by wire ≡ Some t.kind → (place ≤ opening) ⊎ (end < place)

  -- from there up to a place no frames were missed
  abbrev pub IsUnbroken : (opening end : ℕ) → Type 0
  IsUnbroken opening end = (place : ℕ) → Contains seen (place, None) → (place ≤ opening) ⊎ (end < place)

  -- a DPO of the transfer, with this offset
  abbrev pub IsOffsetAt : (place offset : ℕ) → Type 0
  IsOffsetAt place offset = (packets field : ℕ) × IsTaken place (Cm (EtpDpo packets offset field)) × (clean field ≡ t.pgn)

  -- the offset of the last DPO of the transfer after its opening and before a place
  pub record IsLastOffset (opening before offset : ℕ) : Type 0 where
    pub place : ℕ
    pub is_taken : IsOffsetAt place offset
    pub after_opening : opening < place
    pub in_time : place < before
    pub no_later : (later other : ℕ) → IsOffsetAt later other → (later ≤ place) ⊎ (before ≤ later)

  -- the packet with this sequence number, taken at this place, is packet k: in ETP the number is the last offset plus that of the sequence
  abbrev pub IsNumber : SessionKind → (opening place sequence k : ℕ) → Type 0
  IsNumber Etp opening place sequence k = (offset : ℕ) × IsLastOffset opening place offset × (offset + sequence ≡ k)
  IsNumber _ opening place sequence k = sequence ≡ k

  -- packet k of the transfer: its place and its seven bytes
  pub record IsPacket (opening k : ℕ) (packet : Placed (List ℕ)) : Type 0 where
    pub sequence : ℕ
    pub is_taken : IsTaken packet.0 (Packet (transport_of t.kind) sequence packet.1)
    pub number : IsNumber t.kind opening packet.0 sequence k
    pub seven : length packet.1 ≡ 7

  -- packets k, k + 1, k + 2 .., taken one after another, the first of them after a place
  abbrev pub ArePackets : (opening after k : ℕ) → List (Placed (List ℕ)) → Type 0
  ArePackets opening after k [] = Unit {0}
  ArePackets opening after k (packet ∷ packets) = (after < packet.0) × IsPacket opening k packet × ArePackets opening packet.0 (k + 1) packets

-- the message was put together from what a station took from its opening on, with no other opening between and no frames missed: its
-- packets, all of them in order, the last one by the call that gave the message
pub record IsAssembled (seen : List (Placed Seen)) (opening : ℕ) (given : Placed Message) : Type 0 where
  pub opened : IsOpenedAt seen (transfer_of given.1) opening
  pub latest : IsLastOpening seen (transfer_of given.1) opening given.0
  pub unbroken : IsUnbroken seen (transfer_of given.1) opening given.0
  pub earlier : List (Placed (List ℕ))
  pub last : List ℕ
  pub in_turn : ArePackets seen (transfer_of given.1) opening opening 1 (earlier ++ (given.0, last) ∷ [])
  pub all : length earlier + 1 ≡ packet_count (length given.1.bytes)
  pub bytes : given.1.bytes ≡ take (length given.1.bytes) (bytes_of (earlier ++ (given.0, last) ∷ []))

-- two messages have the same source and kind
pub record AreOfOneKind (m n : Message) : Type 0 where
  pub source : m.from ≡ n.from
  pub kind : (transfer_of m).kind ≡ (transfer_of n).kind

-- each message that a station was given was put together so. Two of one source and kind lie apart: from its opening to its end,
-- each is before or behind the other; and one reply gives one message, at each port
pub record AreAssembled (seen : List (Placed Seen)) (given : List (Placed Message)) : Type 0 where
  pub opening : (place : ℕ) → ℕ
  pub each : (g : Placed Message) → Contains given g → IsAssembled seen (opening g.0) g
  pub apart : (g h : Placed Message) → Contains given g → Contains given h → AreOfOneKind g.1 h.1 → g.0 < h.0 → g.0 < opening h.0
  pub one : (g h : Placed Message) → Contains given g → Contains given h → g.0 ≡ h.0 → g.1 ≡ h.1
