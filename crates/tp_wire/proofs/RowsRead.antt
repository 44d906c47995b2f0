-- The bytes that show a row are read as this row.
use Rattle.std.proofs.Common.{◌≡◌, ℕ, ◌<◌, ◌==◌, List, [], ◌∷◌, drop, get_or, false, Some, refl, ap, arith}
use Rattle.std.proofs.lemmas.Bool.Decides.{nat_tests}
use Rattle.tp_wire.specs.Octets.{Octet, Is, Reserved, Rest, Shows, written_bytes}
use Rattle.tp_wire.specs.Rows.{octets_of, group_of, HasNumbers, HasWidths}
use Rattle.tp_wire.specs.Reading.{body_of, tp_cm_of, etp_cm_of, packet_of, request_of, ack_of}
use Rattle.tp_wire.specs.declared.wire.Kind.TheVariants.{Tp, Etp}
use Rattle.tp_wire.specs.declared.wire.CmFrame.TheVariants.{Rts, Cts, EndOfMsgAck, Bam, Abort, EtpRts, EtpCts, EtpDpo, EtpEoma, EtpAbort}
use Rattle.tp_wire.specs.declared.wire.Wire.{Wire}
use Rattle.tp_wire.specs.declared.wire.Wire.TheVariants.{Cm, Packet, Request, Ack}
use Rattle.tp_wire.proofs.Numbers.{number_2_back, number_3_back, number_4_back, field_back}

-- what is written shows what it was written for
pub shows_written : (octets : List Octet) → Shows octets (written_bytes octets)
shows_written [] = tt
shows_written (Is byte ∷ octets) = (refl, shows_written octets)
shows_written (Reserved ∷ octets) = shows_written octets
shows_written (Rest ∷ octets) = tt

-- the bytes of octets, with the reserved ones as they stand
abbrev as_shown : List Octet → List ℕ → List ℕ
as_shown [] bytes = []
as_shown (Is byte ∷ octets) bytes = byte ∷ as_shown octets (drop 1 bytes)
as_shown (Reserved ∷ octets) bytes = get_or bytes 0 0 ∷ as_shown octets (drop 1 bytes)
as_shown (Rest ∷ octets) bytes = bytes

bytes-as_shown : (octets : List Octet) (bytes : List ℕ) → Shows octets bytes → bytes ≡ as_shown octets bytes
bytes-as_shown [] [] h = refl
bytes-as_shown [] (b ∷ bytes) h = absurd h
bytes-as_shown (Rest ∷ octets) bytes h = refl
bytes-as_shown (Is byte ∷ octets) [] h = absurd h
bytes-as_shown (Is byte ∷ octets) (b ∷ bytes) h = λ i. h.0 i ∷ bytes-as_shown octets bytes h.1 i
bytes-as_shown (Reserved ∷ octets) [] h = absurd h
bytes-as_shown (Reserved ∷ octets) (b ∷ bytes) h = ap (λ bs. b ∷ bs) (bytes-as_shown octets bytes h)

packet_is_read : (s a b c d e f g : ℕ) → 0 < s → (s == 0) ≡ false
packet_is_read s a b c d e f g h = grind (arith, nat_tests)

row_is_read : (w : Wire) (bytes : List ℕ) → HasNumbers w → HasWidths w → body_of (group_of w) (as_shown (octets_of w) bytes) ≡ Some w
unfolding body_of tp_cm_of etp_cm_of packet_of request_of ack_of
row_is_read (Cm (Rts size packets most pgn)) bytes n h = rw (field_back pgn h, number_2_back size) refl
row_is_read (Cm (Cts granted next pgn)) bytes n h = rw (field_back pgn h) refl
row_is_read (Cm (EndOfMsgAck size packets pgn)) bytes n h = rw (field_back pgn h, number_2_back size) refl
row_is_read (Cm (Bam size packets pgn)) bytes n h = rw (field_back pgn h, number_2_back size) refl
row_is_read (Cm (Abort reason pgn)) bytes n h = rw (field_back pgn h) refl
row_is_read (Cm (EtpRts size pgn)) bytes n h = rw (field_back pgn h, number_4_back size) refl
row_is_read (Cm (EtpCts granted next pgn)) bytes n h = rw (field_back pgn h, number_3_back next) refl
row_is_read (Cm (EtpDpo packets offset pgn)) bytes n h = rw (field_back pgn h, number_3_back offset) refl
row_is_read (Cm (EtpEoma size pgn)) bytes n h = rw (field_back pgn h, number_4_back size) refl
row_is_read (Cm (EtpAbort reason pgn)) bytes n h = rw (field_back pgn h) refl
row_is_read (Packet Tp sequence (a ∷ b ∷ c ∷ d ∷ e ∷ f ∷ g ∷ [])) bytes n h = rw (packet_is_read sequence a b c d e f g n) refl
row_is_read (Packet Etp sequence (a ∷ b ∷ c ∷ d ∷ e ∷ f ∷ g ∷ [])) bytes n h = rw (packet_is_read sequence a b c d e f g n) refl
row_is_read (Packet kind sequence other) bytes n h = absurd (omega arith)
row_is_read (Request pgn) bytes n h = rw (field_back pgn h) refl
row_is_read (Ack control address pgn) bytes n h = rw (field_back pgn h) refl

pub shown_is_read : (w : Wire) (bytes : List ℕ) → HasNumbers w → HasWidths w → Shows (octets_of w) bytes → body_of (group_of w) bytes ≡ Some w
shown_is_read w bytes n h s = rw (bytes-as_shown (octets_of w) bytes s) (row_is_read w bytes n h)
