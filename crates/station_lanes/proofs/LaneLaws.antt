-- What the steps of a lane keep.
use Rattle.std.proofs.Common.{◌≡◌, ℕ, ◌+◌, ◌==◌, nat_lt, Bool, true, false, cond, List, [], ◌∷◌, length, Option, Some, None, refl, ap, ◌∙◌, OnSome, IfNone}
use Rattle.tp_wire.specs.declared.wire.Wire.{Wire}
use Rattle.originator.specs.declared.states.Stepped.{Stepped}
use Rattle.originator.specs.declared.states.Stepped.TheVariants.{On, Over}
use Rattle.lane_core.specs.declared.place.UnderWay.{UnderWay}
use Rattle.lane_core.specs.declared.place.UnderWay.TheVariants.{Nothing, Broadcast, Connection}
use Rattle.lane_core.specs.declared.probe.Standing.{Standing}
use Rattle.lane_core.specs.declared.probe.Standing.TheVariants.{Settled, InDoubt, Probing}
use Rattle.pgn_ids.specs.Address.{global_address}
use Rattle.tp_wire.specs.declared.outcome.Outcome.TheVariants as outcome
use Rattle.bam_session.specs.Sending as bam
use Rattle.bam_session.specs.declared.outgoing.BamPumped.{BamPumped}
use Rattle.bam_session.specs.declared.outgoing.BamPumped.TheVariants as pumping
use Rattle.originator.specs.Opening.{begun}
use Rattle.originator.specs.Readers.{link_of}
use Rattle.originator.specs.Endings.{cancelled as cancelled_link}
use Rattle.originator.specs.declared.states.OutState.TheVariants.{AwaitCts}
use Rattle.lane_core.specs.declared.message.Pending.{Pending}
use Rattle.lane_core.specs.Pump.{begins, idle_pumped, after_packet, front_bytes, pumped, pumped_by}
use Rattle.lane_core.specs.Probe.{most_requests, probes, is_token, other_token}
use Rattle.lane_core.specs.Fire.{probe_fired, fired, fired_by}
use Rattle.lane_core.specs.declared.step.Ended.{Ended}
use Rattle.lane_core.specs.Step.{LaneStep, says}
use Rattle.lane_core.specs.Lane.{Lane, link_for, with_under_way}
use Rattle.lane_core.specs.Endings.{over, connection_over, after_step}
use Rattle.lane_core.specs.Cancel.{withdrawn, is_front, cancelled, cancelled_by}
use Rattle.lane_core.specs.Overrun.{overrun, overrun_by}
use Rattle.lane_core.specs.Hear.{heard, heard_by, connection_heard}
use Rattle.lane_core.specs.Answer.{answered, answered_by}

after_step-to : (lane : Lane) (s : Stepped) → (after_step lane s).0.to ≡ lane.to
after_step-to lane (On s) = refl
after_step-to lane (Over o) = refl

heard_by-to : (u : UnderWay) (lane : Lane) (wire : Wire) (now : ℕ) → (heard_by u lane wire now).0.to ≡ lane.to
heard_by-to Nothing lane wire now = refl
heard_by-to (Broadcast s) lane wire now = refl
heard_by-to (Connection s) lane wire now = after_step-to lane (connection_heard s wire now)

pub heard_to : (lane : Lane) (wire : Wire) (now : ℕ) → (heard lane wire now).0.to ≡ lane.to
heard_to lane wire now = heard_by-to lane.under_way lane wire now

answered_by-to : (s : Standing) (lane : Lane) (pgn : ℕ) → (answered_by s lane pgn).to ≡ lane.to
answered_by-to Settled lane pgn = refl
answered_by-to InDoubt lane pgn = refl
answered_by-to (Probing count timer) lane pgn = elim (is_token lane.token pgn) as (λ b. (cond b (record lane { standing = Settled; token = other_token lane.token }) lane).to ≡ lane.to) [ true ↦ refl | false ↦ refl ]

pub answered_to : (lane : Lane) (pgn : ℕ) → (answered lane pgn).to ≡ lane.to
answered_to lane pgn = answered_by-to lane.standing lane pgn

overrun_by-to : (u : UnderWay) (lane : Lane) → (overrun_by u lane).0.to ≡ lane.to
overrun_by-to Nothing lane = refl
overrun_by-to (Broadcast s) lane = refl
overrun_by-to (Connection s) lane = refl

pub overrun_to : (lane : Lane) → (overrun lane).0.to ≡ lane.to
overrun_to lane = overrun_by-to lane.under_way lane

begins-to : (lane : Lane) (m : Pending) (now : ℕ) → (begins lane m now).0.to ≡ lane.to
begins-to lane m now = by (lane.to == global_address)
  where
    by : (b : Bool) → (cond {A = Lane × LaneStep} b (with_under_way lane (Broadcast (bam.begun lane.from m.pgn (length m.bytes) now).0), says (bam.begun lane.from m.pgn (length m.bytes) now).1) (with_under_way lane (Connection (AwaitCts (begun (link_for lane.from lane.to m) now).0)), says (begun (link_for lane.from lane.to m) now).1)).0.to ≡ lane.to
    by true = refl
    by false = refl

idle_pumped-to : (s : Standing) (messages : List Pending) (lane : Lane) (now : ℕ) → (idle_pumped s messages lane now).0.to ≡ lane.to
idle_pumped-to Settled [] lane now = refl
idle_pumped-to Settled (m ∷ _) lane now = begins-to lane m now
idle_pumped-to InDoubt [] lane now = refl
idle_pumped-to InDoubt (m ∷ _) lane now = refl
idle_pumped-to (Probing count timer) [] lane now = refl
idle_pumped-to (Probing count timer) (m ∷ _) lane now = refl

after_packet-to : (lane : Lane) (p : BamPumped) → (after_packet lane p).0.to ≡ lane.to
after_packet-to lane (pumping.On s frame) = refl
after_packet-to lane (pumping.Last frame) = refl
after_packet-to lane (pumping.NotYet s) = refl

pumped_by-to : (u : UnderWay) (lane : Lane) (now : ℕ) → (pumped_by u lane now).0.to ≡ lane.to
pumped_by-to Nothing lane now = idle_pumped-to lane.standing lane.pending lane now
pumped_by-to (Broadcast s) lane now = after_packet-to lane (bam.pumped s (front_bytes lane.pending) now)
pumped_by-to (Connection s) lane now = refl

pub pumped_to : (lane : Lane) (now : ℕ) → (pumped lane now).0.to ≡ lane.to
pumped_to lane now = pumped_by-to lane.under_way lane now

probe_fired-to : (s : Standing) (lane : Lane) (now : ℕ) → (probe_fired s lane now).0.to ≡ lane.to
probe_fired-to Settled lane now = refl
probe_fired-to InDoubt lane now = refl
probe_fired-to (Probing count timer) lane now = elim (nat_lt count most_requests) as (λ b. (cond {A = Lane × LaneStep} b (probes lane (count + 1) now) (over lane outcome.Unreachable None)).0.to ≡ lane.to) [ true ↦ refl | false ↦ refl ]

fired_by-to : (u : UnderWay) (lane : Lane) (now : ℕ) → (fired_by u lane now).0.to ≡ lane.to
fired_by-to Nothing lane now = probe_fired-to lane.standing lane now
fired_by-to (Broadcast s) lane now = refl
fired_by-to (Connection s) lane now = refl

pub fired_to : (lane : Lane) (now : ℕ) → (fired lane now).0.to ≡ lane.to
fired_to lane now = fired_by-to lane.under_way lane now

module _ (lane : Lane) (number : ℕ) where
  -- the front message is cancelled, or another one
  abbrev front_or : Bool → Lane × LaneStep → Lane × LaneStep
  front_or b front = cond b front (withdrawn lane number)

  front_or-to : (b : Bool) (front : Lane × LaneStep) → front.0.to ≡ lane.to → (front_or b front).0.to ≡ lane.to
  front_or-to true front e = e
  front_or-to false front e = refl

  cancelled_by-to : (u : UnderWay) → (cancelled_by u lane number).0.to ≡ lane.to
  cancelled_by-to Nothing = refl
  cancelled_by-to (Broadcast s) = front_or-to (is_front lane.pending number) (over lane outcome.Cancelled None) refl
  cancelled_by-to (Connection s) = front_or-to (is_front lane.pending number) (connection_over lane (cancelled_link (link_of s))) refl

  pub cancelled_to : (cancelled lane number).0.to ≡ lane.to
  cancelled_to = cancelled_by-to lane.under_way

-- a lane that was cancelled or stayed as it was is to the same destination
pub cancelled_or_kept_to : (r : Option Ended) (lane last : Lane) (number : ℕ) → OnSome r (last ≡ (cancelled lane number).0) → IfNone r (last ≡ lane) → last.to ≡ lane.to
cancelled_or_kept_to (Some e) lane last number done same = ap (λ l. l.to) done ∙ cancelled_to lane number
cancelled_or_kept_to None lane last number done same = ap (λ l. l.to) same
