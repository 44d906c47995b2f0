-- What bytes are read as is the row that they show.
use Rattle.std.proofs.Common.{◌≡◌, ℕ, ◌<◌, ◌^◌, ◌==◌, List, [], ◌∷◌, Option, Some, None, cond, inl, inr, refl, subst, arith}
use Rattle.std.proofs.lemmas.Bool.Decides.{nat_tests}
use Rattle.tp_wire.specs.Octets.{Shows}
use Rattle.tp_wire.specs.Groups.{dt_group, tp_cm, tp_dt, etp_cm, etp_dt, request, acknowledgement}
use Rattle.tp_wire.specs.Rows.{octets_of, group_of, HasNumbers, HasWidths}
use Rattle.tp_wire.specs.Reading.{number_2, number_3, number_4, field_of, of_five, tp_cm_by, etp_cm_by, body_of, tp_cm_of, etp_cm_of, packet_of, request_of, ack_of}
use Rattle.tp_wire.specs.declared.wire.Kind.{Kind}
use Rattle.tp_wire.specs.declared.wire.Kind.TheVariants.{Tp, Etp}
use Rattle.tp_wire.specs.declared.wire.CmFrame.TheVariants.{Rts, Cts, EndOfMsgAck, Bam, Abort, EtpRts, EtpCts, EtpDpo, EtpEoma, EtpAbort}
use Rattle.tp_wire.specs.declared.wire.Wire.{Wire}
use Rattle.tp_wire.specs.declared.wire.Wire.TheVariants.{Cm, Packet, Request, Ack}
use Rattle.tp_wire.proofs.Numbers.{AllBytes, chosen, bind_some, some_back, field_taken}

-- these bytes under this PGN show the row of this meaning
pub record Body (group : ℕ) (bytes : List ℕ) (w : Wire) : Type 0 where
  pub is_group : group ≡ group_of w
  pub numbers : HasNumbers w
  pub widths : HasWidths w
  pub shows : Shows (octets_of w) bytes

-- a chain of tests
pick : (P : Type 0) (a k : ℕ) (o rest : Option Wire) (w : Wire) → (a ≡ k → o ≡ Some w → P) → (rest ≡ Some w → P) → cond (a == k) o rest ≡ Some w → P
pick P a k o rest w here below x = elim (chosen (a == k) o rest (Some w) x) [
  | inl y ↦ here (grind (arith, nat_tests)) y.1
  | inr y ↦ below y.1
]

found : (group : ℕ) (bytes : List ℕ) (v w : Wire) → Body group bytes v → Some v ≡ Some w → Body group bytes w
found group bytes v w b e = subst (λ u. Body group bytes u) (some_back v w e) b

none : (P : Type 0) (w : Wire) → None ≡ Some w → P
none P w e = cc

-- a row with this control byte
abbrev Row : (group control : ℕ) → (ℕ → ℕ → ℕ → ℕ → ℕ → Wire) → Type 0
Row group control w = (a b c d e p q r : ℕ) → AllBytes (a ∷ b ∷ c ∷ d ∷ e ∷ p ∷ q ∷ r ∷ []) → number_3 p q r < 2 ^ 18 → a ≡ control → Body group (a ∷ b ∷ c ∷ d ∷ e ∷ p ∷ q ∷ r ∷ []) (w b c d e (number_3 p q r))

rts_row : Row tp_cm 16 (λ b c d e pgn. Cm (Rts (number_2 b c) d e pgn))
rts_row a b c d e p q r h l is = record { is_group = refl; numbers = tt; widths = l; shows = (is, (omega arith, (omega arith, (refl, (refl, (omega arith, (omega arith, (omega arith, tt)))))))) }

cts_row : Row tp_cm 17 (λ b c d e pgn. Cm (Cts b c pgn))
cts_row a b c d e p q r h l is = record { is_group = refl; numbers = tt; widths = l; shows = (is, (refl, (refl, (omega arith, (omega arith, (omega arith, tt)))))) }

end_row : Row tp_cm 19 (λ b c d e pgn. Cm (EndOfMsgAck (number_2 b c) d pgn))
end_row a b c d e p q r h l is = record { is_group = refl; numbers = tt; widths = l; shows = (is, (omega arith, (omega arith, (refl, (omega arith, (omega arith, (omega arith, tt))))))) }

bam_row : Row tp_cm 32 (λ b c d e pgn. Cm (Bam (number_2 b c) d pgn))
bam_row a b c d e p q r h l is = record { is_group = refl; numbers = tt; widths = l; shows = (is, (omega arith, (omega arith, (refl, (omega arith, (omega arith, (omega arith, tt))))))) }

abort_row : Row tp_cm 255 (λ b c d e pgn. Cm (Abort b pgn))
abort_row a b c d e p q r h l is = record { is_group = refl; numbers = tt; widths = l; shows = (is, (refl, (omega arith, (omega arith, (omega arith, tt))))) }

etp_rts_row : Row etp_cm 20 (λ b c d e pgn. Cm (EtpRts (number_4 b c d e) pgn))
etp_rts_row a b c d e p q r h l is = record { is_group = refl; numbers = tt; widths = l; shows = (is, (omega arith, (omega arith, (omega arith, (omega arith, (omega arith, (omega arith, (omega arith, tt)))))))) }

etp_cts_row : Row etp_cm 21 (λ b c d e pgn. Cm (EtpCts b (number_3 c d e) pgn))
etp_cts_row a b c d e p q r h l is = record { is_group = refl; numbers = omega arith; widths = l; shows = (is, (refl, (omega arith, (omega arith, (omega arith, (omega arith, (omega arith, (omega arith, tt)))))))) }

etp_dpo_row : Row etp_cm 22 (λ b c d e pgn. Cm (EtpDpo b (number_3 c d e) pgn))
etp_dpo_row a b c d e p q r h l is = record { is_group = refl; numbers = omega arith; widths = l; shows = (is, (refl, (omega arith, (omega arith, (omega arith, (omega arith, (omega arith, (omega arith, tt)))))))) }

etp_eoma_row : Row etp_cm 23 (λ b c d e pgn. Cm (EtpEoma (number_4 b c d e) pgn))
etp_eoma_row a b c d e p q r h l is = record { is_group = refl; numbers = tt; widths = l; shows = (is, (omega arith, (omega arith, (omega arith, (omega arith, (omega arith, (omega arith, (omega arith, tt)))))))) }

etp_abort_row : Row etp_cm 255 (λ b c d e pgn. Cm (EtpAbort b pgn))
etp_abort_row a b c d e p q r h l is = record { is_group = refl; numbers = tt; widths = l; shows = (is, (refl, (omega arith, (omega arith, (omega arith, tt))))) }

ack_row : (control b c d address p q r : ℕ) → AllBytes (control ∷ b ∷ c ∷ d ∷ address ∷ p ∷ q ∷ r ∷ []) → number_3 p q r < 2 ^ 18
    → Body acknowledgement (control ∷ b ∷ c ∷ d ∷ address ∷ p ∷ q ∷ r ∷ []) (Ack control (record { 0 = address }) (number_3 p q r))
ack_row a b c d e p q r h l = record { is_group = refl; numbers = tt; widths = l; shows = (refl, (refl, (omega arith, (omega arith, (omega arith, tt))))) }

-- five bytes and a PGN field
abbrev Five : ℕ → (ℕ → ℕ → ℕ → ℕ → ℕ → ℕ → Option Wire) → Wire → Type 0
Five group k w = (a b c d e p q r : ℕ) → AllBytes (a ∷ b ∷ c ∷ d ∷ e ∷ p ∷ q ∷ r ∷ []) → number_3 p q r < 2 ^ 18
    → k a b c d e (number_3 p q r) ≡ Some w → Body group (a ∷ b ∷ c ∷ d ∷ e ∷ p ∷ q ∷ r ∷ []) w

five_taken : (group : ℕ) (k : ℕ → ℕ → ℕ → ℕ → ℕ → ℕ → Option Wire) (w : Wire) → Five group k w → (bytes : List ℕ) → AllBytes bytes → of_five k bytes ≡ Some w → Body group bytes w
five_taken group k w then (a ∷ b ∷ c ∷ d ∷ e ∷ p ∷ q ∷ r ∷ []) h x =
    let o = bind_some (field_of p q r) (k a b c d e) w x in
    let field = field_taken p q r o.0 o.1 in
    then a b c d e p q r h field.1 (rw field.0 o.2)
five_taken group k w then _ h x = cc

tp_cm_shows : (w : Wire) → Five tp_cm tp_cm_by w
tp_cm_shows w a b c d e p q r h l =
    pick _ a 16 _ _ w (λ is. found _ _ _ w (rts_row a b c d e p q r h l is))
    (pick _ a 17 _ _ w (λ is. found _ _ _ w (cts_row a b c d e p q r h l is))
    (pick _ a 19 _ _ w (λ is. found _ _ _ w (end_row a b c d e p q r h l is))
    (pick _ a 32 _ _ w (λ is. found _ _ _ w (bam_row a b c d e p q r h l is))
    (pick _ a 255 _ _ w (λ is. found _ _ _ w (abort_row a b c d e p q r h l is))
    (none _ w)))))

etp_cm_shows : (w : Wire) → Five etp_cm etp_cm_by w
etp_cm_shows w a b c d e p q r h l =
    pick _ a 20 _ _ w (λ is. found _ _ _ w (etp_rts_row a b c d e p q r h l is))
    (pick _ a 21 _ _ w (λ is. found _ _ _ w (etp_cts_row a b c d e p q r h l is))
    (pick _ a 22 _ _ w (λ is. found _ _ _ w (etp_dpo_row a b c d e p q r h l is))
    (pick _ a 23 _ _ w (λ is. found _ _ _ w (etp_eoma_row a b c d e p q r h l is))
    (pick _ a 255 _ _ w (λ is. found _ _ _ w (etp_abort_row a b c d e p q r h l is))
    (none _ w)))))

packet_shows : (kind : Kind) (w : Wire) (bytes : List ℕ) → packet_of kind bytes ≡ Some w → Body (dt_group kind) bytes w
unfolding packet_of
packet_shows kind w (s ∷ b ∷ c ∷ d ∷ e ∷ p ∷ q ∷ r ∷ []) x = elim (chosen (s == 0) _ _ _ x) [
  | inl y ↦ none _ w y.1
  | inr y ↦ let counted : 0 < s = grind (arith, nat_tests) in
      found _ _ (Packet kind s (b ∷ c ∷ d ∷ e ∷ p ∷ q ∷ r ∷ [])) w (record { is_group = refl; numbers = counted; widths = refl; shows = (refl, (refl, (refl, (refl, (refl, (refl, (refl, (refl, tt)))))))) }) y.1
]
packet_shows kind w _ x = cc

request_shows : (w : Wire) (bytes : List ℕ) → AllBytes bytes → request_of bytes ≡ Some w → Body request bytes w
unfolding request_of
request_shows w (p ∷ q ∷ r ∷ rest) h x =
    let o = bind_some (field_of p q r) _ w x in
    let field = field_taken p q r o.0 o.1 in
    found _ _ (Request (number_3 p q r)) w (record { is_group = refl; numbers = tt; widths = field.1; shows = (omega arith, (omega arith, (omega arith, tt))) }) (rw field.0 o.2)
request_shows w _ h x = cc

pub body_shows : (group : ℕ) (bytes : List ℕ) → AllBytes bytes → (w : Wire) → body_of group bytes ≡ Some w → Body group bytes w
unfolding body_of tp_cm_of etp_cm_of ack_of
body_shows group bytes h w =
    pick _ group tp_cm _ _ w (λ is x. rw is (five_taken tp_cm tp_cm_by w (tp_cm_shows w) bytes h x))
    (pick _ group tp_dt _ _ w (λ is x. rw is (packet_shows Tp w bytes x))
    (pick _ group etp_cm _ _ w (λ is x. rw is (five_taken etp_cm etp_cm_by w (etp_cm_shows w) bytes h x))
    (pick _ group etp_dt _ _ w (λ is x. rw is (packet_shows Etp w bytes x))
    (pick _ group request _ _ w (λ is x. rw is (request_shows w bytes h x))
    (pick _ group acknowledgement _ _ w (λ is x. rw is (five_taken acknowledgement _ w (λ a b c d e p q r fit l. found _ _ _ w (ack_row a b c d e p q r fit l)) bytes h x))
    (none _ w))))))
