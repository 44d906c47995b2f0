-- The steps of a lane keep what holds of every lane.
use Rattle.std.proofs.Common.{◌≡◌, ℕ, ◌+◌, ◌==◌, nat_lt, Bool, true, false, cond, List, [], ◌∷◌, length, zero, suc, Option, Some, None, refl, sym, ◌∙◌, arith, subst}
use Rattle.std.specs.Prelude.{All}
use Rattle.std.proofs.lemmas.List.Elements.{All-drop, All-push, All-tail, All-cons, All-head}
use Rattle.std.proofs.lemmas.Option.{same_Some}
use Rattle.std.proofs.lemmas.Bool.{eqb-true}
use Rattle.std.specs.Cmp.{nat_cmp_total, unsigned_tied}
use Rattle.std.specs.Ordering.{nat_cmp, eq_by_cmp}
use Rattle.std.specs.FinMap as map
use Rattle.std.specs.FinMap.{get-empty, get-insert}
use Rattle.pgn_ids.specs.Address.{global_address}
use Rattle.pgn_ids.specs.declared.address.Address.{Address}
use Rattle.tp_wire.specs.declared.wire.Wire.{Wire}
use Rattle.tp_wire.specs.declared.outcome.Outcome.{Outcome}
use Rattle.tp_wire.specs.declared.outcome.Outcome.TheVariants as outcome
use Rattle.bus_frame.specs.Frames.{CanFrame}
use Rattle.bam_session.specs.Sending as bam
use Rattle.bam_session.specs.declared.outgoing.BamPumped.{BamPumped}
use Rattle.bam_session.specs.declared.outgoing.BamPumped.TheVariants as pumping
use Rattle.originator.specs.Opening.{begun}
use Rattle.originator.specs.Readers.{link_of}
use Rattle.originator.specs.Endings.{expired, cancelled as cancelled_link, overrun as overrun_link}
use Rattle.originator.specs.declared.states.OutState.TheVariants.{AwaitCts}
use Rattle.originator.specs.declared.states.Stepped.{Stepped}
use Rattle.originator.specs.declared.states.Stepped.TheVariants.{On, Over}
use Rattle.lane_core.specs.declared.message.Pending.{Pending}
use Rattle.lane_core.specs.declared.place.UnderWay.{UnderWay}
use Rattle.lane_core.specs.declared.place.UnderWay.TheVariants.{Nothing, Broadcast, Connection}
use Rattle.lane_core.specs.declared.probe.Standing.{Standing}
use Rattle.lane_core.specs.declared.probe.Standing.TheVariants.{Settled, InDoubt, Probing}
use Rattle.lane_core.specs.Step.{LaneStep, says}
use Rattle.lane_core.specs.Probe.{is_token, other_token, most_requests, probes}
use Rattle.lane_core.specs.Lane.{Lane, new_lane, pushed, link_for, with_under_way}
use Rattle.lane_core.specs.Endings.{over, after_step}
use Rattle.lane_core.specs.Cancel.{withdrawn, without_number, is_front, cancelled, cancelled_by}
use Rattle.lane_core.specs.Overrun.{overrun, overrun_by}
use Rattle.lane_core.specs.Hear.{heard, heard_by, connection_heard}
use Rattle.lane_core.specs.Answer.{answered, answered_by}
use Rattle.lane_core.specs.Pump.{begins, idle_pumped, after_packet, front_bytes, pumped, pumped_by}
use Rattle.lane_core.specs.Fire.{probe_fired, fired, fired_by}
use Rattle.station_core.specs.Lanes.{Lanes, stepped_lanes, lane_to, overrun_lanes}
use Rattle.segment_law.specs.Reached.{IsFitMessage, IsFitLane, AreFitLanes}

module _ (a : Address) (to : ℕ) where
  abbrev Fit : Lane → Type 0
  Fit lane = IsFitLane a to lane

  fit_over : (lane : Lane) (o : Outcome) (frame : Option CanFrame) → Fit lane → Fit (over lane o frame).0
  fit_over lane o frame h = record { from_it = h.from_it; to_it = h.to_it; pending = All-drop (IsFitMessage to) 1 lane.pending h.pending }

  fit_under_way : (lane : Lane) (u : UnderWay) → Fit lane → Fit (with_under_way lane u)
  fit_under_way lane u h = record { from_it = h.from_it; to_it = h.to_it; pending = h.pending }

  fit_standing : (lane : Lane) (s : Standing) → Fit lane → Fit (record lane { standing = s })
  fit_standing lane s h = record { from_it = h.from_it; to_it = h.to_it; pending = h.pending }

  fit_step : (lane : Lane) (s : Stepped) → Fit lane → Fit (after_step lane s).0
  fit_step lane (On s) h = fit_under_way lane (Connection s) h
  fit_step lane (Over o) h = fit_over lane o.outcome o.frame h

  fit_heard_by : (u : UnderWay) (lane : Lane) (wire : Wire) (now : ℕ) → Fit lane → Fit (heard_by u lane wire now).0
  fit_heard_by Nothing lane wire now h = h
  fit_heard_by (Broadcast s) lane wire now h = h
  fit_heard_by (Connection s) lane wire now h = fit_step lane (connection_heard s wire now) h

  pub fit_heard : (lane : Lane) (wire : Wire) (now : ℕ) → Fit lane → Fit (heard lane wire now).0
  fit_heard lane wire now h = fit_heard_by lane.under_way lane wire now h

  fit_answered_by : (s : Standing) (lane : Lane) (pgn : ℕ) → Fit lane → Fit (answered_by s lane pgn)
  fit_answered_by Settled lane pgn h = h
  fit_answered_by InDoubt lane pgn h = h
  fit_answered_by (Probing count timer) lane pgn h = elim (is_token lane.token pgn) as (λ b. Fit (cond b (record lane { standing = Settled; token = other_token lane.token }) lane)) [
    | true ↦ record { from_it = h.from_it; to_it = h.to_it; pending = h.pending }
    | false ↦ h
  ]

  pub fit_answered : (lane : Lane) (pgn : ℕ) → Fit lane → Fit (answered lane pgn)
  fit_answered lane pgn h = fit_answered_by lane.standing lane pgn h

  fit_overrun_by : (u : UnderWay) (lane : Lane) → Fit lane → Fit (overrun_by u lane).0
  fit_overrun_by Nothing lane h = h
  fit_overrun_by (Broadcast s) lane h = h
  fit_overrun_by (Connection s) lane h = fit_over lane overrun_link.outcome overrun_link.frame h

  pub fit_overrun : (lane : Lane) → Fit lane → Fit (overrun lane).0
  fit_overrun lane h = fit_overrun_by lane.under_way lane h

  fit_begins : (lane : Lane) (m : Pending) (now : ℕ) → Fit lane → Fit (begins lane m now).0
  fit_begins lane m now h = by (lane.to == global_address)
    where
      by : (b : Bool) → Fit (cond {A = Lane × LaneStep} b (with_under_way lane (Broadcast (bam.begun lane.from m.pgn (length m.bytes) now).0), says (bam.begun lane.from m.pgn (length m.bytes) now).1) (with_under_way lane (Connection (AwaitCts (begun (link_for lane.from lane.to m) now).0)), says (begun (link_for lane.from lane.to m) now).1)).0
      by true = fit_under_way lane _ h
      by false = fit_under_way lane _ h

  fit_idle_pumped : (s : Standing) (messages : List Pending) (lane : Lane) (now : ℕ) → Fit lane → Fit (idle_pumped s messages lane now).0
  fit_idle_pumped Settled [] lane now h = h
  fit_idle_pumped Settled (m ∷ _) lane now h = fit_begins lane m now h
  fit_idle_pumped InDoubt [] lane now h = h
  fit_idle_pumped InDoubt (m ∷ _) lane now h = fit_standing lane _ h
  fit_idle_pumped (Probing count timer) [] lane now h = h
  fit_idle_pumped (Probing count timer) (m ∷ _) lane now h = h

  fit_after_packet : (lane : Lane) (p : BamPumped) → Fit lane → Fit (after_packet lane p).0
  fit_after_packet lane (pumping.On s frame) h = fit_under_way lane _ h
  fit_after_packet lane (pumping.Last frame) h = fit_over lane outcome.Broadcast (Some frame) h
  fit_after_packet lane (pumping.NotYet s) h = fit_under_way lane _ h

  fit_pumped_by : (u : UnderWay) (lane : Lane) (now : ℕ) → Fit lane → Fit (pumped_by u lane now).0
  fit_pumped_by Nothing lane now h = fit_idle_pumped lane.standing lane.pending lane now h
  fit_pumped_by (Broadcast s) lane now h = fit_after_packet lane (bam.pumped s (front_bytes lane.pending) now) h
  fit_pumped_by (Connection s) lane now h = fit_under_way lane _ h

  pub fit_pumped : (lane : Lane) (now : ℕ) → Fit lane → Fit (pumped lane now).0
  fit_pumped lane now h = fit_pumped_by lane.under_way lane now h

  fit_probe_fired : (s : Standing) (lane : Lane) (now : ℕ) → Fit lane → Fit (probe_fired s lane now).0
  fit_probe_fired Settled lane now h = h
  fit_probe_fired InDoubt lane now h = h
  fit_probe_fired (Probing count timer) lane now h = elim (nat_lt count most_requests) as (λ b. Fit (cond {A = Lane × LaneStep} b (probes lane (count + 1) now) (over lane outcome.Unreachable None)).0) [
    | true ↦ fit_standing lane _ h
    | false ↦ fit_over lane outcome.Unreachable None h
  ]

  fit_fired_by : (u : UnderWay) (lane : Lane) (now : ℕ) → Fit lane → Fit (fired_by u lane now).0
  fit_fired_by Nothing lane now h = fit_probe_fired lane.standing lane now h
  fit_fired_by (Broadcast s) lane now h = h
  fit_fired_by (Connection s) lane now h = fit_over lane (expired (link_of s)).outcome (expired (link_of s)).frame h

  pub fit_fired : (lane : Lane) (now : ℕ) → Fit lane → Fit (fired lane now).0
  fit_fired lane now h = fit_fired_by lane.under_way lane now h

  fit_without : (messages : List Pending) (number : ℕ) → All (IsFitMessage to) messages → All (IsFitMessage to) (without_number messages number)
  fit_without [] number h = h
  fit_without (m ∷ messages) number h = elim (m.number == number) as (λ b. All (IsFitMessage to) (cond b messages (m ∷ without_number messages number))) [
    | true ↦ All-tail (IsFitMessage to) m messages h
    | false ↦ All-cons (IsFitMessage to) m (without_number messages number) (All-head (IsFitMessage to) m messages h) (fit_without messages number (All-tail (IsFitMessage to) m messages h))
  ]

  fit_withdrawn : (lane : Lane) (number : ℕ) → Fit lane → Fit (withdrawn lane number).0
  fit_withdrawn lane number h = record { from_it = h.from_it; to_it = h.to_it; pending = fit_without lane.pending number h.pending }

  fit_front_or : (b : Bool) (lane : Lane) (number : ℕ) (front : Lane × LaneStep) → Fit lane → Fit front.0 → Fit (cond b front (withdrawn lane number)).0
  fit_front_or true lane number front h f = f
  fit_front_or false lane number front h f = fit_withdrawn lane number h

  fit_cancelled_by : (u : UnderWay) (lane : Lane) (number : ℕ) → Fit lane → Fit (cancelled_by u lane number).0
  fit_cancelled_by Nothing lane number h = fit_withdrawn lane number h
  fit_cancelled_by (Broadcast s) lane number h = fit_front_or (is_front lane.pending number) lane number _ h (fit_over lane outcome.Cancelled None h)
  fit_cancelled_by (Connection s) lane number h = fit_front_or (is_front lane.pending number) lane number _ h (fit_over lane (cancelled_link (link_of s)).outcome (cancelled_link (link_of s)).frame h)

  pub fit_cancelled : (lane : Lane) (number : ℕ) → Fit lane → Fit (cancelled lane number).0
  fit_cancelled lane number h = fit_cancelled_by lane.under_way lane number h

  pub fit_pushed : (lane : Lane) (pgn : ℕ) (bytes : List ℕ) → Fit lane → IsFitMessage to (record { number = lane.sent + 1; pgn = pgn; bytes = bytes }) → Fit (pushed lane pgn bytes)
  fit_pushed lane pgn bytes h m = record { from_it = h.from_it; to_it = h.to_it; pending = All-push (IsFitMessage to) lane.pending _ h.pending m }

module _ (a : Address) (lanes : Lanes) where
  -- a lane comes in the place of what was there
  pub fit_insert : (to : ℕ) (lane : Lane) → AreFitLanes a lanes → IsFitLane a to lane → AreFitLanes a (map.insert lanes to lane)
  fit_insert to lane h new q l is = by (eq_by_cmp nat_cmp q to) refl (sym (get-insert nat_cmp_total lanes to lane q) ∙ is)
    where
      by : (b : Bool) → eq_by_cmp nat_cmp q to ≡ b → cond b (Some lane) (map.get lanes q) ≡ Some l → IsFitLane a q l
      by true e some =
          let here : to ≡ q = sym (eqb-true q to (sym (unsigned_tied q to) ∙ e)) in
          let it : lane ≡ l = same_Some lane l some in
          subst (λ x. IsFitLane a x l) here (subst (λ x. IsFitLane a to x) it new)
      by false e some = h q l some

  -- the lane to a destination makes a step, if there is one
  pub fit_stepped : (to : ℕ) (step : Lane → Lane × LaneStep) → AreFitLanes a lanes → ((lane : Lane) → IsFitLane a to lane → IsFitLane a to (step lane).0) → AreFitLanes a (stepped_lanes lanes to step)
  fit_stepped to step h keeps = by (map.get lanes to) refl
    where
      by : (o : Option Lane) → map.get lanes to ≡ o → AreFitLanes a (elim o [ None ↦ lanes | Some lane ↦ map.insert lanes to (step lane).0 ])
      by None e = h
      by (Some lane) e = fit_insert to (step lane).0 h (keeps lane (h to lane e))

  -- the lane to a destination, also before the first message
  pub fit_lane_to : (to : ℕ) → AreFitLanes a lanes → IsFitLane a to (lane_to a lanes to)
  fit_lane_to to h = by (map.get lanes to) refl
    where
      by : (o : Option Lane) → map.get lanes to ≡ o → IsFitLane a to (elim o [ None ↦ new_lane a.0 to | Some lane ↦ lane ])
      by None e = record { from_it = refl; to_it = refl; pending = λ k d lt. absurd (omega arith) }
      by (Some lane) e = h to lane e

pub fit_none : (a : Address) → AreFitLanes a map.empty
fit_none a to lane is = absurd (let e = get-empty {X = Lane} nat_cmp to in cc)

pub fit_overrun_all : (a : Address) (lanes : Lanes) (n : ℕ) → AreFitLanes a lanes → AreFitLanes a (overrun_lanes lanes n)
unfolding overrun_lanes
fit_overrun_all a lanes zero h = h
fit_overrun_all a lanes (suc n) h = fit_stepped a (overrun_lanes lanes n) n overrun (fit_overrun_all a lanes n h) (λ lane. fit_overrun a n lane)
