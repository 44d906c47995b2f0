-- Examples: a broadcast that lacks its first packet, and a connection that lacks its second one (SAE J1939-21).
use Rattle.std.proofs.Common.{◌≡◌, List, [], ◌∷◌, ◌++◌, length, inl, inr, refl, arith, codes}
use Rattle.std.specs.Prelude.{replicate}
use Rattle.std.proofs.lemmas.List.Elements.{All-nil}
use Rattle.bus_frame.specs.Frames.{CanFrame}
use Rattle.log_fields.specs.declared.iface.Iface.{Iface}
use Rattle.pgn_ids.specs.declared.address.Address.{Address}
use Rattle.lane_core.specs.declared.message.Pending.{Pending}
use Rattle.segment_law.specs.Quiet.{quiet}
use Rattle.tp_wire.specs.Reading.{reading, body_of, tp_cm_of, packet_of}
use Rattle.tp_wire.specs.Rows.{written}
use Rattle.log_decode.specs.Decoder.{wire_taken, cm_frame_taken}
use Rattle.log_decode.specs.Session.{packet_heard}
use Rattle.log_decode.specs.Belonging.{told_of_key}
use Rattle.log_decode.specs.View.{State}
use Rattle.log_reports.specs.declared.key.Key.{Key}
use Rattle.log_reports.specs.declared.told.Cause.TheVariants.{Missing, Acknowledged}
use Rattle.log_reports.specs.declared.told.Told.TheVariants.{Lost}
use Rattle.decode_law.specs.Hearing.{IsSendable, key_for}
use Rattle.decode_law.specs.Lacking.{Entry, IsPartOf, told_to_end, frames_of}
use Rattle.decode_law.specs.Examples.{Met}

abbrev s : Address
s = record { 0 = 33 }

abbrev listener : State
listener = record { most = 1785; time = 0; buses = [] }

abbrev iface : Iface
iface = record { kept = codes "can0" ++ replicate 12 0 }

-- a frame that is of no message
abbrev other : CanFrame
other = record { id = 0x18FEF121; bytes = 255 ∷ [] }

-- To all

abbrev all : Address
all = record { 0 = 255 }

abbrev nine : Pending
nine = record { number = 1; pgn = 65226; bytes = 1 ∷ 2 ∷ 3 ∷ 4 ∷ 5 ∷ 6 ∷ 7 ∷ 8 ∷ 9 ∷ [] }

abbrev bam : CanFrame
bam = record { id = 0x1CECFF21; bytes = 32 ∷ 9 ∷ 0 ∷ 2 ∷ 255 ∷ 202 ∷ 254 ∷ 0 ∷ [] }

abbrev bam_two : CanFrame
bam_two = record { id = 0x1CEBFF21; bytes = 2 ∷ 8 ∷ 9 ∷ 255 ∷ 255 ∷ 255 ∷ 255 ∷ 255 ∷ [] }

abbrev bam_log : List Entry
bam_log = (1000000, iface, bam) ∷ (1050000, iface, other) ∷ (1100000, iface, bam_two) ∷ []

abbrev bam_key : Key
bam_key = key_for iface nine s all

bam_frames : frames_of bam_key bam_log ≡ bam ∷ bam_two ∷ []
unfolding reading body_of tp_cm_of packet_of
bam_frames = refl

bam_part : IsPartOf (bam ∷ bam_two ∷ []) (quiet nine s all)
unfolding quiet written
bam_part = inl (refl, inr (inl (refl, tt)))

bam_length : length (quiet nine s all) ≡ 3
unfolding quiet written
bam_length = refl

bam_told : told_of_key bam_key (told_to_end listener bam_log) ≡ Lost bam_key 65226 0 9 Missing ∷ []
unfolding reading body_of tp_cm_of packet_of wire_taken cm_frame_taken packet_heard
bam_told = refl

bam_sendable : IsSendable nine s all
bam_sendable = record { pgn = omega arith; least = omega arith; most = omega arith; source = refl; destination = refl }

pub broadcast : Met 9 0 Missing
broadcast = record {
  m = nine;
  s = s;
  d = all;
  l = listener;
  iface = iface;
  log = bam_log;
  sendable = bam_sendable;
  lacks = record { free = All-nil _; part = rw bam_frames bam_part };
  long = refl;
  all_but_one = rw (bam_frames, bam_length) refl;
  others = rw bam_frames refl;
  told = bam_told;
}

-- To one node

abbrev one : Address
one = record { 0 = 53 }

abbrev twenty : Pending
twenty = record { number = 1; pgn = 65226; bytes = 1 ∷ 2 ∷ 3 ∷ 4 ∷ 5 ∷ 6 ∷ 7 ∷ 8 ∷ 9 ∷ 10 ∷ 11 ∷ 12 ∷ 13 ∷ 14 ∷ 15 ∷ 16 ∷ 17 ∷ 18 ∷ 19 ∷ 20 ∷ [] }

abbrev rts : CanFrame
rts = record { id = 0x1CEC3521; bytes = 16 ∷ 20 ∷ 0 ∷ 3 ∷ 255 ∷ 202 ∷ 254 ∷ 0 ∷ [] }

abbrev cts : CanFrame
cts = record { id = 0x1CEC2135; bytes = 17 ∷ 3 ∷ 1 ∷ 255 ∷ 255 ∷ 202 ∷ 254 ∷ 0 ∷ [] }

abbrev dt_one : CanFrame
dt_one = record { id = 0x1CEB3521; bytes = 1 ∷ 1 ∷ 2 ∷ 3 ∷ 4 ∷ 5 ∷ 6 ∷ 7 ∷ [] }

abbrev dt_three : CanFrame
dt_three = record { id = 0x1CEB3521; bytes = 3 ∷ 15 ∷ 16 ∷ 17 ∷ 18 ∷ 19 ∷ 20 ∷ 255 ∷ [] }

abbrev ack : CanFrame
ack = record { id = 0x1CEC2135; bytes = 19 ∷ 20 ∷ 0 ∷ 3 ∷ 255 ∷ 202 ∷ 254 ∷ 0 ∷ [] }

abbrev tp_log : List Entry
tp_log = (1000000, iface, rts) ∷ (1010000, iface, cts) ∷ (1020000, iface, dt_one) ∷ (1025000, iface, other) ∷ (1040000, iface, dt_three) ∷ (1050000, iface, ack) ∷ []

abbrev tp_key : Key
tp_key = key_for iface twenty s one

tp_frames : frames_of tp_key tp_log ≡ rts ∷ cts ∷ dt_one ∷ dt_three ∷ ack ∷ []
unfolding reading body_of tp_cm_of packet_of
tp_frames = refl

tp_part : IsPartOf (rts ∷ cts ∷ dt_one ∷ dt_three ∷ ack ∷ []) (quiet twenty s one)
unfolding quiet written
tp_part = inl (refl, inl (refl, inl (refl, inr (inl (refl, inl (refl, tt))))))

tp_length : length (quiet twenty s one) ≡ 6
unfolding quiet written
tp_length = refl

tp_told : told_of_key tp_key (told_to_end listener tp_log) ≡ Lost tp_key 65226 7 20 Acknowledged ∷ []
unfolding reading body_of tp_cm_of packet_of wire_taken cm_frame_taken packet_heard
tp_told = refl

tp_sendable : IsSendable twenty s one
tp_sendable = record { pgn = omega arith; least = omega arith; most = omega arith; source = refl; destination = refl }

pub connection : Met 20 7 Acknowledged
connection = record {
  m = twenty;
  s = s;
  d = one;
  l = listener;
  iface = iface;
  log = tp_log;
  sendable = tp_sendable;
  lacks = record { free = All-nil _; part = rw tp_frames tp_part };
  long = refl;
  all_but_one = rw (tp_frames, tp_length) refl;
  others = rw tp_frames refl;
  told = tp_told;
}
