-- The steps of a lane: a message that ends was pending, once, and is pending no longer.
use Rattle.std.proofs.Common.{◌≡◌, ℕ, ◌+◌, ◌==◌, nat_lt, Bool, true, false, cond, ◌||◌, List, [], ◌∷◌, drop, length, Option, Some, None, refl, ap, arith, eqb-true}
use Rattle.pgn_ids.specs.Address.{global_address}
use Rattle.bus_frame.specs.Frames.{CanFrame}
use Rattle.tp_wire.specs.declared.wire.Wire.{Wire}
use Rattle.tp_wire.specs.declared.outcome.Outcome.{Outcome}
use Rattle.tp_wire.specs.declared.outcome.Outcome.TheVariants as outcome
use Rattle.bam_session.specs.Sending as bam
use Rattle.bam_session.specs.declared.outgoing.BamPumped.{BamPumped}
use Rattle.bam_session.specs.declared.outgoing.BamPumped.TheVariants as pumping
use Rattle.originator.specs.Opening.{begun}
use Rattle.originator.specs.Readers.{link_of}
use Rattle.originator.specs.Endings.{expired, cancelled as cancelled_link, overrun as overrun_link}
use Rattle.originator.specs.declared.states.OutState.TheVariants.{AwaitCts}
use Rattle.originator.specs.declared.states.Stepped.{Stepped}
use Rattle.originator.specs.declared.states.Stepped.TheVariants.{On, Over}
use Rattle.lane_core.specs.declared.message.Pending.{Pending}
use Rattle.lane_core.specs.declared.place.UnderWay.{UnderWay}
use Rattle.lane_core.specs.declared.place.UnderWay.TheVariants.{Nothing, Broadcast, Connection}
use Rattle.lane_core.specs.declared.probe.Standing.{Standing}
use Rattle.lane_core.specs.declared.probe.Standing.TheVariants.{Settled, InDoubt, Probing}
use Rattle.lane_core.specs.declared.step.Ended.{Ended}
use Rattle.lane_core.specs.Step.{LaneStep, says, nothing_to_do}
use Rattle.lane_core.specs.Probe.{is_token, other_token, most_requests, probes}
use Rattle.lane_core.specs.Lane.{Lane, link_for, with_under_way}
use Rattle.lane_core.specs.Endings.{front_ended, over, still, after_step}
use Rattle.lane_core.specs.Cancel.{numbered, withdrawn, without_number, is_front, cancelled, cancelled_by}
use Rattle.lane_core.specs.Overrun.{overrun, overrun_by}
use Rattle.lane_core.specs.Hear.{heard, heard_by, connection_heard}
use Rattle.lane_core.specs.Answer.{answered, answered_by}
use Rattle.lane_core.specs.Pump.{begins, idle_pumped, after_packet, front_bytes, pumped, pumped_by}
use Rattle.lane_core.specs.Fire.{probe_fired, fired, fired_by}
use Rattle.record_law.proofs.Tests.{on_test}
use Rattle.record_law.proofs.outcomes.Counting.{times}

-- the numbers of messages
abbrev pub numbers_of : List Pending → List ℕ
numbers_of [] = []
numbers_of (m ∷ messages) = m.number ∷ numbers_of messages

abbrev pub ended_number : Option Ended → List ℕ
ended_number None = []
ended_number (Some e) = e.number ∷ []

-- each number that was pending still is, or has ended
pub record Ends (lane : Lane) (step : Lane × LaneStep) : Type 0 where
  pub sent : step.0.sent ≡ lane.sent
  pub each : (n : ℕ) → times n (numbers_of lane.pending) ≡ times n (numbers_of step.0.pending) + times n (ended_number step.1.ended)

-- nothing ends
ends_none : (lane new : Lane) (frames : List CanFrame) → new.sent ≡ lane.sent → new.pending ≡ lane.pending → Ends lane (new, record { frames = frames; ended = None })
ends_none lane new frames s p = record {
  sent = s;
  each = λ n. let e : times n (numbers_of new.pending) ≡ times n (numbers_of lane.pending) = ap (λ (ms : List Pending). times n (numbers_of ms)) p in omega (arith, e);
}

ends_under_way : (lane : Lane) (u : UnderWay) (frames : List CanFrame) → Ends lane (with_under_way lane u, record { frames = frames; ended = None })
ends_under_way lane u frames = ends_none lane (with_under_way lane u) frames refl refl

ends_still : (lane : Lane) → Ends lane (still lane)
ends_still lane = ends_none lane lane [] refl refl

-- the front message ends
front_only : (n : ℕ) (messages : List Pending) (o : Outcome) → times n (numbers_of messages) ≡ times n (numbers_of (drop 1 messages)) + times n (ended_number (front_ended messages o))
front_only n [] o = refl
front_only n (m ∷ messages) o = omega arith

ends_over : (lane : Lane) (o : Outcome) (frame : Option CanFrame) → Ends lane (over lane o frame)
ends_over lane o frame = record { sent = refl; each = λ n. front_only n lane.pending o }

-- A frame is heard

ends_step : (lane : Lane) (s : Stepped) → Ends lane (after_step lane s)
ends_step lane (On s) = ends_under_way lane (Connection s) []
ends_step lane (Over o) = ends_over lane o.outcome o.frame

ends_heard_by : (u : UnderWay) (lane : Lane) (wire : Wire) (now : ℕ) → Ends lane (heard_by u lane wire now)
ends_heard_by Nothing lane wire now = ends_still lane
ends_heard_by (Broadcast s) lane wire now = ends_still lane
ends_heard_by (Connection s) lane wire now = ends_step lane (connection_heard s wire now)

pub ends_heard : (lane : Lane) (wire : Wire) (now : ℕ) → Ends lane (heard lane wire now)
ends_heard lane wire now = ends_heard_by lane.under_way lane wire now

ends_answered_by : (s : Standing) (lane : Lane) (pgn : ℕ) → Ends lane (answered_by s lane pgn, nothing_to_do)
ends_answered_by Settled lane pgn = ends_still lane
ends_answered_by InDoubt lane pgn = ends_still lane
ends_answered_by (Probing count timer) lane pgn = on_test (λ b. Ends lane (cond b (record lane { standing = Settled; token = other_token lane.token }) lane, nothing_to_do)) (is_token lane.token pgn)
    (λ _. ends_none lane (record lane { standing = Settled; token = other_token lane.token }) [] refl refl)
    (λ _. ends_still lane)

pub ends_answered : (lane : Lane) (pgn : ℕ) → Ends lane (answered lane pgn, nothing_to_do)
ends_answered lane pgn = ends_answered_by lane.standing lane pgn

-- The lane is pumped

ends_begins : (lane : Lane) (m : Pending) (now : ℕ) → Ends lane (begins lane m now)
ends_begins lane m now =
    let broadcasts : Lane × LaneStep = (with_under_way lane (Broadcast (bam.begun lane.from m.pgn (length m.bytes) now).0), says (bam.begun lane.from m.pgn (length m.bytes) now).1) in
    let connects : Lane × LaneStep = (with_under_way lane (Connection (AwaitCts (begun (link_for lane.from lane.to m) now).0)), says (begun (link_for lane.from lane.to m) now).1) in
    on_test (λ b. Ends lane (cond b broadcasts connects)) (lane.to == global_address) (λ _. ends_under_way lane _ _) (λ _. ends_under_way lane _ _)

ends_idle_pumped : (s : Standing) (messages : List Pending) (lane : Lane) (now : ℕ) → Ends lane (idle_pumped s messages lane now)
ends_idle_pumped Settled [] lane now = ends_still lane
ends_idle_pumped Settled (m ∷ _) lane now = ends_begins lane m now
ends_idle_pumped InDoubt [] lane now = ends_still lane
ends_idle_pumped InDoubt (m ∷ _) lane now = ends_none lane (probes lane 1 now).0 _ refl refl
ends_idle_pumped (Probing count timer) [] lane now = ends_still lane
ends_idle_pumped (Probing count timer) (m ∷ _) lane now = ends_still lane

ends_after_packet : (lane : Lane) (p : BamPumped) → Ends lane (after_packet lane p)
ends_after_packet lane (pumping.On s frame) = ends_under_way lane _ _
ends_after_packet lane (pumping.Last frame) = ends_over lane outcome.Broadcast (Some frame)
ends_after_packet lane (pumping.NotYet s) = ends_under_way lane _ _

ends_pumped_by : (u : UnderWay) (lane : Lane) (now : ℕ) → Ends lane (pumped_by u lane now)
ends_pumped_by Nothing lane now = ends_idle_pumped lane.standing lane.pending lane now
ends_pumped_by (Broadcast s) lane now = ends_after_packet lane (bam.pumped s (front_bytes lane.pending) now)
ends_pumped_by (Connection s) lane now = ends_under_way lane _ _

pub ends_pumped : (lane : Lane) (now : ℕ) → Ends lane (pumped lane now)
ends_pumped lane now = ends_pumped_by lane.under_way lane now

-- Its timer fires

ends_probe_fired : (s : Standing) (lane : Lane) (now : ℕ) → Ends lane (probe_fired s lane now)
ends_probe_fired Settled lane now = ends_still lane
ends_probe_fired InDoubt lane now = ends_still lane
ends_probe_fired (Probing count timer) lane now = on_test (λ b. Ends lane (cond {A = Lane × LaneStep} b (probes lane (count + 1) now) (over lane outcome.Unreachable None))) (nat_lt count most_requests)
    (λ _. ends_none lane (probes lane (count + 1) now).0 _ refl refl)
    (λ _. ends_over lane outcome.Unreachable None)

ends_fired_by : (u : UnderWay) (lane : Lane) (now : ℕ) → Ends lane (fired_by u lane now)
ends_fired_by Nothing lane now = ends_probe_fired lane.standing lane now
ends_fired_by (Broadcast s) lane now = ends_still lane
ends_fired_by (Connection s) lane now = ends_over lane (expired (link_of s)).outcome (expired (link_of s)).frame

pub ends_fired : (lane : Lane) (now : ℕ) → Ends lane (fired lane now)
ends_fired lane now = ends_fired_by lane.under_way lane now

-- Frames were missed

ends_overrun_by : (u : UnderWay) (lane : Lane) → Ends lane (overrun_by u lane)
ends_overrun_by Nothing lane = ends_still lane
ends_overrun_by (Broadcast s) lane = ends_still lane
ends_overrun_by (Connection s) lane = ends_over lane overrun_link.outcome overrun_link.frame

pub ends_overrun : (lane : Lane) → Ends lane (overrun lane)
ends_overrun lane = ends_overrun_by lane.under_way lane

-- A pending message is cancelled

without_one : (n : ℕ) (messages : List Pending) (number : ℕ) → numbered messages number ≡ true → times n (numbers_of messages) ≡ times n (numbers_of (without_number messages number)) + times n (number ∷ [])
without_one n [] number is = absurd (let no : false ≡ true = is in cc)
without_one n (m ∷ messages) number is =
    on_test (λ b. (m.number == number) ≡ b → (b || numbered messages number) ≡ true → times n (numbers_of (m ∷ messages)) ≡ times n (numbers_of (cond b messages (m ∷ without_number messages number))) + times n (number ∷ [])) (m.number == number)
    (λ _ e _. let same : times n (m.number ∷ []) ≡ times n (number ∷ []) = ap (λ k. times n (k ∷ [])) (eqb-true m.number number e) in omega (arith, same))
    (λ _ e is. let rest : times n (numbers_of messages) ≡ times n (numbers_of (without_number messages number)) + times n (number ∷ []) = without_one n messages number is in omega (arith, rest))
    refl is

ends_withdrawn : (lane : Lane) (number : ℕ) → numbered lane.pending number ≡ true → Ends lane (withdrawn lane number)
ends_withdrawn lane number is = record { sent = refl; each = λ n. without_one n lane.pending number is }

ends_front_or : (b : Bool) (lane : Lane) (number : ℕ) (front : Lane × LaneStep) → numbered lane.pending number ≡ true → Ends lane front → Ends lane (cond b front (withdrawn lane number))
ends_front_or true lane number front is f = f
ends_front_or false lane number front is f = ends_withdrawn lane number is

ends_cancelled_by : (u : UnderWay) (lane : Lane) (number : ℕ) → numbered lane.pending number ≡ true → Ends lane (cancelled_by u lane number)
ends_cancelled_by Nothing lane number is = ends_withdrawn lane number is
ends_cancelled_by (Broadcast s) lane number is = ends_front_or (is_front lane.pending number) lane number _ is (ends_over lane outcome.Cancelled None)
ends_cancelled_by (Connection s) lane number is = ends_front_or (is_front lane.pending number) lane number _ is (ends_over lane (cancelled_link (link_of s)).outcome (cancelled_link (link_of s)).frame)

pub ends_cancelled : (lane : Lane) (number : ℕ) → numbered lane.pending number ≡ true → Ends lane (cancelled lane number)
ends_cancelled lane number is = ends_cancelled_by lane.under_way lane number is
