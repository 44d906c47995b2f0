-- What a frame doesn't carry: one that is no answer, one that is not sent to the receiver, and one of another than the sender.
use Rattle.std.proofs.Common.{◌≡◌, ℕ, ◌==◌, ◌&&◌, ◌||◌, Bool, true, false, cond, not, List, [], ◌∷◌, filter_map, Option, Some, None, refl, ap}
use Rattle.std.specs.List.{list_all}
use Rattle.std.proofs.lemmas.Bool.{and_right, or_parts, eqb-false}
use Rattle.bus_frame.specs.Frames.{CanFrame}
use Rattle.pgn_ids.specs.Identifier.{meaning_of}
use Rattle.pgn_ids.specs.declared.address.Address.{Address}
use Rattle.tp_wire.specs.Reading.{reading}
use Rattle.tp_wire.specs.declared.wire.CmFrame.TheVariants.{Rts, Cts, EndOfMsgAck, Bam, Abort, EtpRts, EtpCts, EtpDpo, EtpEoma, EtpAbort}
use Rattle.tp_wire.specs.declared.wire.Kind.TheVariants.{Tp, Etp}
use Rattle.tp_wire.specs.declared.wire.Wire.{Wire}
use Rattle.tp_wire.specs.declared.wire.Wire.TheVariants.{Cm, Packet, Request, Ack}
use Rattle.segment_law.proofs.Booleans.{both_pass, not_passes}
use Rattle.broadcast_law.proofs.Carried.{Meaning, of_lane, of_meaning, carried, carried_foreign}
use Rattle.connection_law.proofs.Frames.{Back, BackEnd, BackAck, of_forward, of_return, forward_of, return_of, returns, goes, goes_foreign}
use Rattle.network_law.specs.Traffic.{is_from}
use Rattle.restart_law.specs.Start.{sends_to, is_sent_to, answers, is_answer, AreNone}

-- a test that no frame passes
none_by : {A : Type 0} (f : CanFrame → Option A) (test : CanFrame → Bool) → ((g : CanFrame) → test g ≡ false → f g ≡ None) → (fs : List CanFrame) → AreNone test fs → filter_map f fs ≡ []
none_by f test w [] e = refl
none_by f test w (g ∷ fs) e =
    let h = both_pass (not (test g)) (list_all (λ (x : CanFrame). not (test x)) fs) e in
    rw (w g (not_passes (test g) h.0)) (none_by f test w fs h.1)

-- what isn't an answer to s carries nothing back to it
module _ (s d : Address) where
  returns_none : (w : Wire) (from to : Address) → answers s w to ≡ false → of_return s d w from to ≡ None
  returns_none (Cm (Rts size packets most pgn)) from to e = refl
  returns_none (Cm (Cts granted next pgn)) from to e = refl
  returns_none (Cm (EndOfMsgAck size packets pgn)) from to e = ap (λ b. cond {A = Option Back} b (Some BackEnd) None) (and_right (from.0 == d.0) (to.0 == s.0) e)
  returns_none (Cm (Bam size packets pgn)) from to e = refl
  returns_none (Cm (Abort reason pgn)) from to e = refl
  returns_none (Cm (EtpRts size pgn)) from to e = refl
  returns_none (Cm (EtpCts granted next pgn)) from to e = refl
  returns_none (Cm (EtpDpo packets offset pgn)) from to e = refl
  returns_none (Cm (EtpEoma size pgn)) from to e = ap (λ b. cond {A = Option Back} b (Some BackEnd) None) (and_right (from.0 == d.0) (to.0 == s.0) e)
  returns_none (Cm (EtpAbort reason pgn)) from to e = refl
  returns_none (Packet kind k bytes) from to e = refl
  returns_none (Request pgn) from to e = refl
  returns_none (Ack control address pgn) from to e = ap (λ b. cond {A = Option Back} b (Some (BackAck pgn)) None) (and_right (from.0 == d.0) (address.0 == s.0 || to.0 == s.0) e)

  of_answer : (o : Option Meaning) → elim o as (λ (_ : Option Meaning). Bool) [ None ↦ false | Some m ↦ answers s m.0 m.2 ] ≡ false → return_of s d o ≡ None
  of_answer None e = refl
  of_answer (Some m) e = returns_none m.0 m.1 m.2 e

  pub no_answers : (fs : List CanFrame) → AreNone (is_answer s) fs → filter_map (returns s d) fs ≡ []
  no_answers = none_by (returns s d) (is_answer s) (λ g e. of_answer (reading g) e)

  -- what isn't sent to d carries nothing to it, nor to all
  not_way : (w : Option Wire) (from to : Address) (n : ℕ) → (to.0 == n) ≡ false → cond (from.0 == s.0 && to.0 == n) w None ≡ None
  not_way w from to n e = ap (λ b. cond b w None) (and_right (from.0 == s.0) (to.0 == n) e)

  forward_none : (w : Wire) (from to : Address) → sends_to d w to ≡ false → of_forward s d w from to ≡ None
  forward_none (Cm (Rts size packets most pgn)) from to e = not_way (Some (Cm (Rts size packets most pgn))) from to d.0 e
  forward_none (Cm (Cts granted next pgn)) from to e = refl
  forward_none (Cm (EndOfMsgAck size packets pgn)) from to e = refl
  forward_none (Cm (Bam size packets pgn)) from to e = refl
  forward_none (Cm (Abort reason pgn)) from to e = refl
  forward_none (Cm (EtpRts size pgn)) from to e = not_way (Some (Cm (EtpRts size pgn))) from to d.0 e
  forward_none (Cm (EtpCts granted next pgn)) from to e = refl
  forward_none (Cm (EtpDpo packets offset pgn)) from to e = not_way (Some (Cm (EtpDpo packets offset pgn))) from to d.0 e
  forward_none (Cm (EtpEoma size pgn)) from to e = refl
  forward_none (Cm (EtpAbort reason pgn)) from to e = refl
  forward_none (Packet kind k bytes) from to e = not_way (Some (Packet kind k bytes)) from to d.0 (or_parts (to.0 == d.0) (to.0 == 255) e).0
  forward_none (Request pgn) from to e = not_way (Some (Request pgn)) from to d.0 e
  forward_none (Ack control address pgn) from to e = refl

  lane_none : (w : Wire) (from to : Address) → sends_to d w to ≡ false → of_lane s w from to ≡ None
  lane_none (Cm (Bam size packets pgn)) from to e = absurd (let z : true ≡ false = e in cc)
  lane_none (Cm (Rts size packets most pgn)) from to e = refl
  lane_none (Cm (Cts granted next pgn)) from to e = refl
  lane_none (Cm (EndOfMsgAck size packets pgn)) from to e = refl
  lane_none (Cm (Abort reason pgn)) from to e = refl
  lane_none (Cm (EtpRts size pgn)) from to e = refl
  lane_none (Cm (EtpCts granted next pgn)) from to e = refl
  lane_none (Cm (EtpDpo packets offset pgn)) from to e = refl
  lane_none (Cm (EtpEoma size pgn)) from to e = refl
  lane_none (Cm (EtpAbort reason pgn)) from to e = refl
  lane_none (Packet Tp k bytes) from to e = not_way (Some (Packet Tp k bytes)) from to 255 (or_parts (to.0 == d.0) (to.0 == 255) e).1
  lane_none (Packet Etp k bytes) from to e = refl
  lane_none (Request pgn) from to e = refl
  lane_none (Ack control address pgn) from to e = refl

  of_sent : (o : Option Meaning) → elim o as (λ (_ : Option Meaning). Bool) [ None ↦ false | Some m ↦ sends_to d m.0 m.2 ] ≡ false → (forward_of s d o ≡ None) × (of_meaning s o ≡ None)
  of_sent None e = (refl, refl)
  of_sent (Some m) e = (forward_none m.0 m.1 m.2 e, lane_none m.0 m.1 m.2 e)

  pub none_goes : (fs : List CanFrame) → AreNone (is_sent_to d) fs → filter_map (goes s d) fs ≡ []
  none_goes = none_by (goes s d) (is_sent_to d) (λ g e. (of_sent (reading g) e).0)

  pub none_carried : (fs : List CanFrame) → AreNone (is_sent_to d) fs → filter_map (carried s) fs ≡ []
  none_carried = none_by (carried s) (is_sent_to d) (λ g e. (of_sent (reading g) e).1)

  -- nor does a frame of another
  pub others_go : (fs : List CanFrame) → AreNone (is_from s) fs → filter_map (goes s d) fs ≡ []
  others_go = none_by (goes s d) (is_from s) (λ g e. goes_foreign s d g (eqb-false (meaning_of g.id).from.0 s.0 e))

  pub others_carried : (fs : List CanFrame) → AreNone (is_from s) fs → filter_map (carried s) fs ≡ []
  others_carried = none_by (carried s) (is_from s) (λ g e. carried_foreign s g (eqb-false (meaning_of g.id).from.0 s.0 e))
