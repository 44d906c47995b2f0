-- The frames of an exchange are rows of the frame table, so each is read as it was written.
use Rattle.std.proofs.Common.{◌≡◌, ℕ, ◌<◌, ◌≤◌, ◌^◌, ◌%◌, ◌==◌, Bool, not, ◌||◌, List, length, nat_lt, refl, ap, arith}
use Rattle.std.proofs.lemmas.Bool.{ltb-true, and_parts}
use Rattle.pgn_ids.specs.Pgn.{is_pdu1}
use Rattle.tp_wire.specs.Rows.{written}
use Rattle.tp_wire.specs.declared.wire.Kind.{Kind}
use Rattle.tp_wire.specs.declared.wire.Kind.TheVariants.{Tp, Etp}
use Rattle.tp_wire.specs.declared.wire.CmFrame.TheVariants.{Rts, Cts, EndOfMsgAck, EtpRts, EtpCts, EtpDpo, EtpEoma}
use Rattle.tp_wire.specs.declared.wire.Wire.{Wire}
use Rattle.tp_wire.specs.declared.wire.Wire.TheVariants.{Cm, Packet}
use Rattle.seg_cut.specs.Packets.{packet_count, packet}
use Rattle.originator.specs.Link.{request_to_send}
use Rattle.originator.specs.Pump as out
use Rattle.responder.specs.Window.{clear_to_send}
use Rattle.record_law.proofs.Readings.{GivesBack, ReadsBack}
use Rattle.exchange_law.proofs.broadcasts.Receivers.{GoesOn, Ends}
use Rattle.exchange_law.proofs.Nodes.{IsBetween, between}
use Rattle.exchange_law.proofs.Senders.{Sent, s, d, len, last, end_of}

-- the laws of the layers below
pub record Laws : Type 0 where
  pub gives : GivesBack
  pub reads : ReadsBack
  pub goes_on : GoesOn
  pub ends : Ends
  pub seven : (message : List ℕ) (k : ℕ) → k ≤ packet_count (length message) → length (packet message k) ≡ 7

module _ (laws : Laws) (e : Sent) where
  pgn_fits : e.m.pgn < 2 ^ 18
  pgn_fits = ltb-true e.m.pgn (2 ^ 18) (and_parts (nat_lt e.m.pgn (2 ^ 18)) (not (is_pdu1 e.m.pgn) || e.m.pgn % 2 ^ 8 == 0) e.pgn).0

  pub number_fits : (k : ℕ) → k ≤ last e → k < 2 ^ 24
  number_fits k within = omega (arith, within, e.most)

  pub rts_between : (kind : Kind) → IsBetween (s e) (d e) (Cm (request_to_send kind (len e) e.m.pgn)) (written (Cm (request_to_send kind (len e) e.m.pgn)) (s e).0 (d e).0)
  rts_between Tp = between laws.gives laws.reads (s e) (d e) e.pair.own_s e.pair.own_d (Cm (Rts (len e) (last e) 255 e.m.pgn)) (record { numbers = tt; widths = pgn_fits; source = e.pair.own_s; destination = e.pair.own_d }) refl refl (omega arith)
  rts_between Etp = between laws.gives laws.reads (s e) (d e) e.pair.own_s e.pair.own_d (Cm (EtpRts (len e) e.m.pgn)) (record { numbers = tt; widths = pgn_fits; source = e.pair.own_s; destination = e.pair.own_d }) refl refl (omega arith)

  pub cts_between : (kind : Kind) (g k : ℕ) → k ≤ last e → IsBetween (d e) (s e) (Cm (clear_to_send kind g k e.m.pgn)) (written (Cm (clear_to_send kind g k e.m.pgn)) (d e).0 (s e).0)
  cts_between Tp g k within = between laws.gives laws.reads (d e) (s e) e.pair.own_d e.pair.own_s (Cm (Cts g k e.m.pgn)) (record { numbers = tt; widths = pgn_fits; source = e.pair.own_d; destination = e.pair.own_s }) refl refl (omega arith)
  cts_between Etp g k within = between laws.gives laws.reads (d e) (s e) e.pair.own_d e.pair.own_s (Cm (EtpCts g k e.m.pgn)) (record { numbers = number_fits k within; widths = pgn_fits; source = e.pair.own_d; destination = e.pair.own_s }) refl refl (omega arith)

  pub end_between : (kind : Kind) → IsBetween (d e) (s e) (Cm (end_of kind (len e) e.m.pgn)) (written (Cm (end_of kind (len e) e.m.pgn)) (d e).0 (s e).0)
  end_between Tp = between laws.gives laws.reads (d e) (s e) e.pair.own_d e.pair.own_s (Cm (EndOfMsgAck (len e) (last e) e.m.pgn)) (record { numbers = tt; widths = pgn_fits; source = e.pair.own_d; destination = e.pair.own_s }) refl refl (omega arith)
  end_between Etp = between laws.gives laws.reads (d e) (s e) e.pair.own_d e.pair.own_s (Cm (EtpEoma (len e) e.m.pgn)) (record { numbers = tt; widths = pgn_fits; source = e.pair.own_d; destination = e.pair.own_s }) refl refl (omega arith)

  pub dpo_between : (packets offset : ℕ) → offset ≤ last e → IsBetween (s e) (d e) (Cm (EtpDpo packets offset e.m.pgn)) (written (Cm (EtpDpo packets offset e.m.pgn)) (s e).0 (d e).0)
  dpo_between packets offset within = between laws.gives laws.reads (s e) (d e) e.pair.own_s e.pair.own_d (Cm (EtpDpo packets offset e.m.pgn)) (record { numbers = number_fits offset within; widths = pgn_fits; source = e.pair.own_s; destination = e.pair.own_d }) refl refl (omega arith)

  -- packet p, in a window from packet k on
  abbrev pub packet_wire : Kind → (k p : ℕ) → Wire
  packet_wire kind k p = Packet kind (out.sequence_of kind k p) (packet e.m.bytes p)

  pub packet_between : (kind : Kind) (k p : ℕ) → 1 ≤ k → k ≤ p → p ≤ last e → IsBetween (s e) (d e) (packet_wire kind k p) (written (packet_wire kind k p) (s e).0 (d e).0)
  packet_between Tp k p from_first from_window within = between laws.gives laws.reads (s e) (d e) e.pair.own_s e.pair.own_d (packet_wire Tp k p) (record { numbers = omega (arith, from_first, from_window); widths = laws.seven e.m.bytes p within; source = e.pair.own_s; destination = ap (λ (b : Bool). b || (d e).0 == 255) e.pair.own_d }) refl refl (omega arith)
  packet_between Etp k p from_first from_window within = between laws.gives laws.reads (s e) (d e) e.pair.own_s e.pair.own_d (packet_wire Etp k p) (record { numbers = omega (arith, from_first, from_window); widths = laws.seven e.m.bytes p within; source = e.pair.own_s; destination = e.pair.own_d }) refl refl (omega arith)
