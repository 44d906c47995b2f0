-- Frames of other traffic than the protocol's.
use Rattle.std.proofs.Common.{◌≡◌, ◌==◌, ◌||◌, Bool, true, false, Option, None, if◌then◌else◌, refl, ap}
use Rattle.bus_frame.specs.Frames.{CanFrame}
use Rattle.pgn_ids.specs.Identifier.{meaning_of}
use Rattle.tp_wire.specs.Groups.{tp_cm, tp_dt, etp_cm, etp_dt, request, acknowledgement}
use Rattle.tp_wire.specs.Reading.{tp_cm_of, etp_cm_of, packet_of, request_of, ack_of, body_of, between, reading, is_transport}
use Rattle.tp_wire.specs.declared.wire.Kind.TheVariants.{Tp, Etp}
use Rattle.tp_wire.specs.declared.wire.Wire.{Wire}

none_of : (a b c d e g : Bool) (A B C D E G : Option Wire) → (a || b || c || d || e || g) ≡ false
    → (if a then A else if b then B else if c then C else if d then D else if e then E else if g then G else None) ≡ None
none_of true b c d e g A B C D E G h = absurd cc
none_of false true c d e g A B C D E G h = absurd cc
none_of false false true d e g A B C D E G h = absurd cc
none_of false false false true e g A B C D E G h = absurd cc
none_of false false false false true g A B C D E G h = absurd cc
none_of false false false false false true A B C D E G h = absurd cc
none_of false false false false false false A B C D E G h = refl

-- they mean nothing
pub other_traffic : (f : CanFrame) → is_transport f ≡ false → reading f ≡ None
unfolding is_transport reading body_of
other_traffic f h =
    let pgn = (meaning_of f.id).pgn in
    ap (between (meaning_of f.id).from (meaning_of f.id).to)
    (none_of (pgn == tp_cm) (pgn == tp_dt) (pgn == etp_cm) (pgn == etp_dt) (pgn == request) (pgn == acknowledgement)
    (tp_cm_of f.bytes) (packet_of Tp f.bytes) (etp_cm_of f.bytes) (packet_of Etp f.bytes) (request_of f.bytes) (ack_of f.bytes) h)
