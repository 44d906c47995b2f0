-- What a frame means: the one row of the frame table that it shows, found from its PGN and its first byte on.
use Rattle.std.specs.Prelude.{ℕ, ◌+◌, ◌*◌, ◌^◌, List, [], ◌∷◌, Bool, ◌&&◌, ◌||◌, Option, Some, None, option_and_then, is_none, nat_lt, ◌==◌, if◌then◌else◌}
use Rattle.bus_frame.specs.Frames.{CanFrame}
use Rattle.pgn_ids.specs.Identifier.{meaning_of}
use Rattle.pgn_ids.specs.declared.address.Address.{Address}
use Rattle.tp_wire.specs.Groups.{tp_cm, tp_dt, etp_cm, etp_dt, request, acknowledgement}
use Rattle.tp_wire.specs.Rows.{goes_to, comes_from}
use Rattle.tp_wire.specs.declared.wire.Kind.{Kind}
use Rattle.tp_wire.specs.declared.wire.Kind.TheVariants.{Tp, Etp}
use Rattle.tp_wire.specs.declared.wire.CmFrame.TheVariants.{Rts, Cts, EndOfMsgAck, Bam, Abort, EtpRts, EtpCts, EtpDpo, EtpEoma, EtpAbort}
use Rattle.tp_wire.specs.declared.wire.Wire.{Wire}
use Rattle.tp_wire.specs.declared.wire.Wire.TheVariants.{Cm, Packet, Request, Ack}

infixl 10 ◌>>=◌
abbrev pub ◌>>=◌ : {A B : Type 0} → Option A → (A → Option B) → Option B
o >>= f = option_and_then f o

-- numbers of two, three and four bytes, the least first
abbrev pub number_2 : ℕ → ℕ → ℕ
number_2 a b = a + 2 ^ 8 * b

abbrev pub number_3 : ℕ → ℕ → ℕ → ℕ
number_3 a b c = a + 2 ^ 8 * b + 2 ^ 16 * c

abbrev pub number_4 : ℕ → ℕ → ℕ → ℕ → ℕ
number_4 a b c d = a + 2 ^ 8 * b + 2 ^ 16 * c + 2 ^ 24 * d

-- a PGN field of 18 bits
abbrev pub field_of : ℕ → ℕ → ℕ → Option ℕ
field_of p q r = if nat_lt (number_3 p q r) (2 ^ 18) then Some (number_3 p q r) else None

-- five bytes and a PGN field of three, and nothing else
abbrev pub of_five : (ℕ → ℕ → ℕ → ℕ → ℕ → ℕ → Option Wire) → List ℕ → Option Wire
of_five k (a ∷ b ∷ c ∷ d ∷ e ∷ p ∷ q ∷ r ∷ []) = field_of p q r >>= k a b c d e
of_five k bytes = None

-- a management frame of TP, by its control byte
abbrev pub tp_cm_by : ℕ → ℕ → ℕ → ℕ → ℕ → ℕ → Option Wire
tp_cm_by control b c d e pgn =
    if control == 16 then Some (Cm (Rts (number_2 b c) d e pgn))
    else if control == 17 then Some (Cm (Cts b c pgn))
    else if control == 19 then Some (Cm (EndOfMsgAck (number_2 b c) d pgn))
    else if control == 32 then Some (Cm (Bam (number_2 b c) d pgn))
    else if control == 255 then Some (Cm (Abort b pgn))
    else None

unfoldable pub tp_cm_of : List ℕ → Option Wire
tp_cm_of bytes = of_five tp_cm_by bytes

abbrev pub etp_cm_by : ℕ → ℕ → ℕ → ℕ → ℕ → ℕ → Option Wire
etp_cm_by control b c d e pgn =
    if control == 20 then Some (Cm (EtpRts (number_4 b c d e) pgn))
    else if control == 21 then Some (Cm (EtpCts b (number_3 c d e) pgn))
    else if control == 22 then Some (Cm (EtpDpo b (number_3 c d e) pgn))
    else if control == 23 then Some (Cm (EtpEoma (number_4 b c d e) pgn))
    else if control == 255 then Some (Cm (EtpAbort b pgn))
    else None

unfoldable pub etp_cm_of : List ℕ → Option Wire
etp_cm_of bytes = of_five etp_cm_by bytes

-- seven bytes under a sequence number from 1
unfoldable pub packet_of : Kind → List ℕ → Option Wire
packet_of kind (sequence ∷ b ∷ c ∷ d ∷ e ∷ p ∷ q ∷ r ∷ []) = if sequence == 0 then None else Some (Packet kind sequence (b ∷ c ∷ d ∷ e ∷ p ∷ q ∷ r ∷ []))
packet_of kind bytes = None

-- a Request, by the first three bytes
unfoldable pub request_of : List ℕ → Option Wire
request_of (p ∷ q ∷ r ∷ rest) = field_of p q r >>= λ pgn. Some (Request pgn)
request_of bytes = None

unfoldable pub ack_of : List ℕ → Option Wire
ack_of bytes = of_five (λ control b c d address pgn. Some (Ack control (record { 0 = address }) pgn)) bytes

-- the meaning of a frame's bytes, by the PGN
unfoldable pub body_of : ℕ → List ℕ → Option Wire
body_of pgn bytes =
    if pgn == tp_cm then tp_cm_of bytes
    else if pgn == tp_dt then packet_of Tp bytes
    else if pgn == etp_cm then etp_cm_of bytes
    else if pgn == etp_dt then packet_of Etp bytes
    else if pgn == request then request_of bytes
    else if pgn == acknowledgement then ack_of bytes
    else None

-- the meaning from one address to another, if the table allows it between them
abbrev pub between : (from to : Address) → Option Wire → Option (Wire × Address × Address)
between from to body = do
  wire ← body
  if goes_to wire to.0 && comes_from wire from.0 then Some (wire, from, to) else None

-- what a frame means, from whom and to whom
unfoldable pub reading : CanFrame → Option (Wire × Address × Address)
reading f = between (meaning_of f.id).from (meaning_of f.id).to (body_of (meaning_of f.id).pgn f.bytes)

-- the PGN is one of the table's six
unfoldable pub is_transport : CanFrame → Bool
is_transport f =
    let pgn = (meaning_of f.id).pgn in
    pgn == tp_cm || pgn == tp_dt || pgn == etp_cm || pgn == etp_dt || pgn == request || pgn == acknowledgement

-- a frame of the six PGNs that shows no row
abbrev pub is_malformed : CanFrame → Bool
is_malformed f = is_transport f && is_none (reading f)
