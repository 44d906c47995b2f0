-- A lane that says why it queues nothing stays as it was when it is pumped.
use Rattle.std.proofs.Common.{◌≡◌, ℕ, Bool, true, false, cond, ◌==◌, not, List, [], ◌∷◌, Some, None, refl, sym, ap}
use Rattle.tick_timers.specs.Timers.{is_due}
use Rattle.seg_cut.specs.Packets.{packet_count}
use Rattle.bam_session.specs.States.{Outgoing, with_next}
use Rattle.bam_session.specs.Frames.{next_packet}
use Rattle.bam_session.specs.declared.outgoing.BamPumped.TheVariants as pumping
use Rattle.originator.specs.declared.states.OutState.TheVariants.{AwaitCts, Sending, AwaitEnd}
use Rattle.lane_core.specs.declared.message.Pending.{Pending}
use Rattle.lane_core.specs.declared.place.UnderWay.{UnderWay}
use Rattle.lane_core.specs.declared.place.UnderWay.TheVariants.{Nothing, Broadcast, Connection}
use Rattle.lane_core.specs.declared.probe.Standing.{Standing}
use Rattle.lane_core.specs.declared.probe.Standing.TheVariants.{Settled, InDoubt, Probing}
use Rattle.lane_core.specs.declared.refused.PumpRefused.{PumpRefused}
use Rattle.lane_core.specs.declared.refused.PumpRefused.TheVariants.{NotYet}
use Rattle.lane_core.specs.Lane.{Lane, with_under_way}
use Rattle.lane_core.specs.Endings.{still}
use Rattle.lane_core.specs.Pump.{idle_refusal, idle_pumped, refusal_by, pump_refusal, pumped_by, pumped, after_packet, front_bytes}

module _ (lane : Lane) (now : ℕ) (cause : PumpRefused) where
  idle : (standing : Standing) (pending : List Pending) → idle_refusal standing pending ≡ Some cause → idle_pumped standing pending lane now ≡ still lane
  idle Settled [] e = refl
  idle InDoubt [] e = refl
  idle (Probing count timer) [] e = refl
  idle Settled (m ∷ _) e = absurd cc
  idle InDoubt (m ∷ _) e = absurd cc
  idle (Probing count timer) (m ∷ _) e = refl

  -- what was under way is under way again
  same : (u : UnderWay) → lane.under_way ≡ u → still (with_under_way lane u) ≡ still lane
  same u is = ap (λ x. still (with_under_way lane x)) (sym is)

  gap : (s : Outgoing) → lane.under_way ≡ Broadcast s → (due last : Bool) → cond due None (Some NotYet) ≡ Some cause
      → after_packet lane (cond (not due) (pumping.NotYet s) (cond last (pumping.Last (next_packet s (front_bytes lane.pending))) (pumping.On (with_next s now) (next_packet s (front_bytes lane.pending))))) ≡ still lane
  gap s is true last e = absurd cc
  gap s is false last e = same (Broadcast s) is

  under : (u : UnderWay) → lane.under_way ≡ u → refusal_by u lane now ≡ Some cause → pumped_by u lane now ≡ still lane
  under Nothing is e = idle lane.standing lane.pending e
  under (Broadcast s) is e = gap s is (is_due s.gap now) (s.next == packet_count s.len) e
  under (Connection (AwaitCts s)) is e = same (Connection (AwaitCts s)) is
  under (Connection (Sending s)) is e = absurd cc
  under (Connection (AwaitEnd s)) is e = same (Connection (AwaitEnd s)) is

  pub refused_pump : pump_refusal lane now ≡ Some cause → pumped lane now ≡ still lane
  refused_pump e = under lane.under_way refl e
