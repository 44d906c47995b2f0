-- What a lane queues when it is pumped (SAE J1939-21; ISO 11783-3).
use Rattle.std.specs.Prelude.{ℕ, Bool, true, false, ◌==◌, if◌then◌else◌, List, [], ◌∷◌, length, Option, Some, None, is_none}
use Rattle.bus_frame.specs.Frames.{CanFrame}
use Rattle.pgn_ids.specs.Address.{global_address}
use Rattle.tick_timers.specs.Timers.{is_due}
use Rattle.tp_wire.specs.declared.outcome.Outcome.TheVariants as outcome
use Rattle.bam_session.specs.declared.outgoing.BamPumped.{BamPumped}
use Rattle.bam_session.specs.Sending as bam
use Rattle.bam_session.specs.declared.outgoing.BamPumped.TheVariants as pumping
use Rattle.originator.specs.declared.states.OutState.TheVariants.{AwaitCts, Sending}
use Rattle.originator.specs.declared.states.OutState.{OutState}
use Rattle.originator.specs.Opening.{begun}
use Rattle.originator.specs.Pump as out
use Rattle.lane_core.specs.declared.place.UnderWay.TheVariants.{Broadcast, Connection, Nothing}
use Rattle.lane_core.specs.declared.probe.Standing.TheVariants.{InDoubt, Probing, Settled}
use Rattle.lane_core.specs.Step.{LaneStep, says}
use Rattle.lane_core.specs.declared.refused.PumpRefused.TheVariants.{NotYet, NothingToSend}
use Rattle.lane_core.specs.declared.message.Pending.{Pending}
use Rattle.lane_core.specs.declared.refused.PumpRefused.{PumpRefused}
use Rattle.lane_core.specs.declared.probe.Standing.{Standing}
use Rattle.lane_core.specs.declared.place.UnderWay.{UnderWay}
use Rattle.lane_core.specs.Lane.{Lane, link_for, with_under_way}
use Rattle.lane_core.specs.Endings.{over, still}
use Rattle.lane_core.specs.Probe.{probes}

-- why the front message doesn't begin, if nothing is under way
abbrev pub idle_refusal : Standing → List Pending → Option PumpRefused
idle_refusal standing [] = Some NothingToSend
idle_refusal Settled (m ∷ _) = None
idle_refusal InDoubt (m ∷ _) = None
idle_refusal (Probing count timer) (m ∷ _) = Some NothingToSend

-- why nothing is queued: a broadcast waits for its gap, a connection for its destination
abbrev pub refusal_by : UnderWay → Lane → (now : ℕ) → Option PumpRefused
refusal_by Nothing lane now = idle_refusal lane.standing lane.pending
refusal_by (Broadcast s) lane now = if is_due s.gap now then None else Some NotYet
refusal_by (Connection (Sending s)) lane now = None
refusal_by (Connection _) lane now = Some NothingToSend

abbrev pub pump_refusal : Lane → (now : ℕ) → Option PumpRefused
pump_refusal lane now = refusal_by lane.under_way lane now

-- a lane has a frame to queue, now or once the gap of its broadcast has passed
abbrev pub ready_by : UnderWay → Lane → Bool
ready_by Nothing lane = is_none (idle_refusal lane.standing lane.pending)
ready_by (Broadcast s) lane = true
ready_by (Connection (Sending s)) lane = true
ready_by (Connection _) lane = false

abbrev pub is_ready : Lane → Bool
is_ready lane = ready_by lane.under_way lane

-- how many ticks a broadcast still has to wait for its next frame
abbrev pub missing_by : UnderWay → (now : ℕ) → ℕ
missing_by (Broadcast s) now = bam.missing s now
missing_by _ now = 0

abbrev pub missing : Lane → (now : ℕ) → ℕ
missing lane now = missing_by lane.under_way now

-- the front message begins: BAM to all, else an RTS
abbrev pub begins : Lane → Pending → (now : ℕ) → Lane × LaneStep
begins lane m now =
    if lane.to == global_address
    then (with_under_way lane (Broadcast (bam.begun lane.from m.pgn (length m.bytes) now).0), says (bam.begun lane.from m.pgn (length m.bytes) now).1)
    else (with_under_way lane (Connection (AwaitCts (begun (link_for lane.from lane.to m) now).0)), says (begun (link_for lane.from lane.to m) now).1)

-- nothing is under way: the front message begins if the lane is settled; in doubt the lane asks first
abbrev pub idle_pumped : Standing → List Pending → Lane → (now : ℕ) → Lane × LaneStep
idle_pumped Settled (m ∷ _) lane now = begins lane m now
idle_pumped InDoubt (m ∷ _) lane now = probes lane 1 now
idle_pumped _ _ lane now = still lane

-- the bytes of the front message
abbrev pub front_bytes : List Pending → List ℕ
front_bytes [] = []
front_bytes (m ∷ _) = m.bytes

-- a broadcast continues with its next packet, and has its outcome with the last one
abbrev pub after_packet : Lane → BamPumped → Lane × LaneStep
after_packet lane (pumping.On s frame) = (with_under_way lane (Broadcast s), says frame)
after_packet lane (pumping.Last frame) = over lane outcome.Broadcast (Some frame)
after_packet lane (pumping.NotYet s) = still (with_under_way lane (Broadcast s))

-- a connection queues the next part of its window
abbrev pub after_burst : Lane → OutState × List CanFrame → Lane × LaneStep
after_burst lane burst = (with_under_way lane (Connection burst.0), record { frames = burst.1; ended = None })

abbrev pub pumped_by : UnderWay → Lane → (now : ℕ) → Lane × LaneStep
pumped_by Nothing lane now = idle_pumped lane.standing lane.pending lane now
pumped_by (Broadcast s) lane now = after_packet lane (bam.pumped s (front_bytes lane.pending) now)
pumped_by (Connection s) lane now = after_burst lane (out.pumped s (front_bytes lane.pending) now)

abbrev pub pumped : Lane → (now : ℕ) → Lane × LaneStep
pumped lane now = pumped_by lane.under_way lane now
