-- The frame table: the frames of the transport protocols, of Request and of Acknowledgement, row by row
-- (SAE J1939-21, TP.CM, TP.DT, Request, Acknowledgement; ISO 11783-3, ETP.CM, ETP.DT).
use Rattle.std.specs.Prelude.{◌≡◌, ℕ, ◌<◌, ◌^◌, Bool, ◌||◌, true, nat_le, ◌==◌, List, [], ◌∷◌, ◌++◌, map, length, Option, Some, None, ⊤}
use Rattle.bus_frame.specs.Frames.{CanFrame}
use Rattle.pgn_ids.specs.Address.{is_one, null_address, global_address}
use Rattle.pgn_ids.specs.Identifier.{id_of, meaning_of}
use Rattle.tp_wire.specs.Groups.{cm_group, dt_group, request, acknowledgement}
use Rattle.tp_wire.specs.Octets.{Octet, Is, Reserved, Rest, two, three, four, written_bytes, Shows}
use Rattle.tp_wire.specs.declared.wire.Kind.{Kind}
use Rattle.tp_wire.specs.declared.wire.Kind.TheVariants.{Tp, Etp}
use Rattle.tp_wire.specs.declared.wire.CmFrame.{CmFrame}
use Rattle.tp_wire.specs.declared.wire.CmFrame.TheVariants.{Rts, Cts, EndOfMsgAck, Bam, Abort, EtpRts, EtpCts, EtpDpo, EtpEoma, EtpAbort}
use Rattle.tp_wire.specs.declared.wire.Wire.{Wire}
use Rattle.tp_wire.specs.declared.wire.Wire.TheVariants.{Cm, Packet, Request, Ack}

-- the bytes of each row
abbrev pub octets_of : Wire → List Octet
octets_of (Cm (Rts size packets most pgn)) = Is 16 ∷ two size ++ Is packets ∷ Is most ∷ three pgn
octets_of (Cm (Cts granted next pgn)) = Is 17 ∷ Is granted ∷ Is next ∷ Reserved ∷ Reserved ∷ three pgn
octets_of (Cm (EndOfMsgAck size packets pgn)) = Is 19 ∷ two size ++ Is packets ∷ Reserved ∷ three pgn
octets_of (Cm (Bam size packets pgn)) = Is 32 ∷ two size ++ Is packets ∷ Reserved ∷ three pgn
octets_of (Cm (Abort reason pgn)) = Is 255 ∷ Is reason ∷ Reserved ∷ Reserved ∷ Reserved ∷ three pgn
octets_of (Cm (EtpRts size pgn)) = Is 20 ∷ four size ++ three pgn
octets_of (Cm (EtpCts granted next pgn)) = Is 21 ∷ Is granted ∷ three next ++ three pgn
octets_of (Cm (EtpDpo packets offset pgn)) = Is 22 ∷ Is packets ∷ three offset ++ three pgn
octets_of (Cm (EtpEoma size pgn)) = Is 23 ∷ four size ++ three pgn
octets_of (Cm (EtpAbort reason pgn)) = Is 255 ∷ Is reason ∷ Reserved ∷ Reserved ∷ Reserved ∷ three pgn
octets_of (Packet kind sequence bytes) = Is sequence ∷ map Is bytes
octets_of (Request pgn) = three pgn ++ Rest ∷ []
octets_of (Ack control address pgn) = Is control ∷ Reserved ∷ Reserved ∷ Reserved ∷ Is address.0 ∷ three pgn

-- the transport of each connection row
abbrev pub cm_kind : CmFrame → Kind
cm_kind (Rts size packets most pgn) = Tp
cm_kind (Cts granted next pgn) = Tp
cm_kind (EndOfMsgAck size packets pgn) = Tp
cm_kind (Bam size packets pgn) = Tp
cm_kind (Abort reason pgn) = Tp
cm_kind (EtpRts size pgn) = Etp
cm_kind (EtpCts granted next pgn) = Etp
cm_kind (EtpDpo packets offset pgn) = Etp
cm_kind (EtpEoma size pgn) = Etp
cm_kind (EtpAbort reason pgn) = Etp

-- the transport of each row: none of a Request or an Acknowledgement
abbrev pub kind_of : Wire → Option Kind
kind_of (Cm frame) = Some (cm_kind frame)
kind_of (Packet kind sequence bytes) = Some kind
kind_of (Request pgn) = None
kind_of (Ack control address pgn) = None

-- the PGN of each row's frame
abbrev pub group_of : Wire → ℕ
group_of (Cm frame) = cm_group (cm_kind frame)
group_of (Packet kind sequence bytes) = dt_group kind
group_of (Request pgn) = request
group_of (Ack control address pgn) = acknowledgement

-- the priority of each row's frame
abbrev pub priority_of : Wire → ℕ
priority_of (Cm frame) = 7
priority_of (Packet kind sequence bytes) = 7
priority_of (Request pgn) = 6
priority_of (Ack control address pgn) = 6

-- whether an address is that of one node or of all
abbrev pub one_or_all : ℕ → Bool
one_or_all to = is_one to || to == global_address

-- the destinations of each row
abbrev pub goes_to : Wire → ℕ → Bool
goes_to (Cm (Rts size packets most pgn)) to = is_one to
goes_to (Cm (Cts granted next pgn)) to = is_one to
goes_to (Cm (EndOfMsgAck size packets pgn)) to = is_one to
goes_to (Cm (Bam size packets pgn)) to = to == global_address
goes_to (Cm (Abort reason pgn)) to = is_one to
goes_to (Cm (EtpRts size pgn)) to = is_one to
goes_to (Cm (EtpCts granted next pgn)) to = is_one to
goes_to (Cm (EtpDpo packets offset pgn)) to = is_one to
goes_to (Cm (EtpEoma size pgn)) to = is_one to
goes_to (Cm (EtpAbort reason pgn)) to = is_one to
goes_to (Packet Tp sequence bytes) to = one_or_all to
goes_to (Packet Etp sequence bytes) to = is_one to
goes_to (Request pgn) to = one_or_all to
goes_to (Ack control address pgn) to = one_or_all to

-- the sources of each row: a node, of a Request also one that has no address
abbrev pub comes_from : Wire → ℕ → Bool
comes_from (Cm frame) from = is_one from
comes_from (Packet kind sequence bytes) from = is_one from
comes_from (Request pgn) from = nat_le from null_address
comes_from (Ack control address pgn) from = is_one from

-- sequence numbers count from 1, and packet numbers of ETP have three bytes
abbrev pub HasNumbers : Wire → Type 0
HasNumbers (Cm (EtpCts granted next pgn)) = next < 2 ^ 24
HasNumbers (Cm (EtpDpo packets offset pgn)) = offset < 2 ^ 24
HasNumbers (Packet kind sequence bytes) = 0 < sequence
HasNumbers _ = ⊤

-- the PGN field of each connection row
abbrev pub cm_pgn : CmFrame → ℕ
cm_pgn (Rts size packets most pgn) = pgn
cm_pgn (Cts granted next pgn) = pgn
cm_pgn (EndOfMsgAck size packets pgn) = pgn
cm_pgn (Bam size packets pgn) = pgn
cm_pgn (Abort reason pgn) = pgn
cm_pgn (EtpRts size pgn) = pgn
cm_pgn (EtpCts granted next pgn) = pgn
cm_pgn (EtpDpo packets offset pgn) = pgn
cm_pgn (EtpEoma size pgn) = pgn
cm_pgn (EtpAbort reason pgn) = pgn

-- the PGN field of each row: none in a packet
abbrev pub pgn_of : Wire → Option ℕ
pgn_of (Cm frame) = Some (cm_pgn frame)
pgn_of (Packet kind sequence bytes) = None
pgn_of (Request pgn) = Some pgn
pgn_of (Ack control address pgn) = Some pgn

-- a PGN field has 18 bits, a packet seven bytes
abbrev pub HasWidths : Wire → Type 0
HasWidths (Cm frame) = cm_pgn frame < 2 ^ 18
HasWidths (Packet kind sequence bytes) = length bytes ≡ 7
HasWidths (Request pgn) = pgn < 2 ^ 18
HasWidths (Ack control address pgn) = pgn < 2 ^ 18

-- the table has this meaning, from and to these addresses
pub record IsRow (w : Wire) (from to : ℕ) : Type 0 where
  pub numbers : HasNumbers w
  pub widths : HasWidths w
  pub source : comes_from w from ≡ true
  pub destination : goes_to w to ≡ true

-- the frame that is written for a meaning: every byte is fixed
unfoldable pub written : Wire → ℕ → ℕ → CanFrame
written w from to = record { id = id_of (priority_of w) (group_of w) to from; bytes = written_bytes (octets_of w) }

-- the frame is written for the meaning
pub record Writes (w : Wire) (from to : ℕ) (f : CanFrame) : Type 0 where
  pub in_table : IsRow w from to
  pub frame : f ≡ written w from to

-- the frame has the meaning: its priority may be any
pub record Reads (f : CanFrame) (w : Wire) (from to : ℕ) : Type 0 where
  pub in_table : IsRow w from to
  pub group : (meaning_of f.id).pgn ≡ group_of w
  pub source : (meaning_of f.id).from.0 ≡ from
  pub destination : (meaning_of f.id).to.0 ≡ to
  pub bytes : Shows (octets_of w) f.bytes
