-- The steps of a lane that change what is under way in place.
use Rattle.std.specs.Prelude.{◌≡◌, ℕ, Bool, true, false, List, [], ◌∷◌, Option, Some, None, ⊤}
use Rattle.bus_frame.specs.Frames.{CanFrame}
use Rattle.tp_wire.specs.declared.outcome.Outcome.TheVariants as outcome
use Rattle.bam_session.specs.Sending as bam
use Rattle.bam_session.specs.declared.outgoing.BamPumped.{BamPumped}
use Rattle.bam_session.specs.declared.outgoing.BamPumped.TheVariants as pumping
use Rattle.originator.specs.Pump as out
use Rattle.originator.specs.Readers.{link_of}
use Rattle.originator.specs.declared.endings.Ending.{Ending}
use Rattle.lane_core.specs.declared.place.UnderWay.{UnderWay}
use Rattle.lane_core.specs.declared.place.UnderWay.TheVariants.{Nothing, Broadcast, Connection}
use Rattle.lane_core.specs.Step.{LaneStep}
use Rattle.lane_core.specs.Lane.{Lane, with_under_way}
use Rattle.lane_core.specs.Endings.{ended_lane, front_ended, ended_by, still}

-- what is under way is a message of so many bytes
abbrev pub IsOfLength : UnderWay → (len : ℕ) → Type 0
IsOfLength Nothing len = ⊤
IsOfLength (Broadcast s) len = len ≡ s.len
IsOfLength (Connection s) len = len ≡ (link_of s).len

-- the message is unchanged
abbrev pub KeepsMessage : UnderWay → UnderWay → Type 0
KeepsMessage Nothing Nothing = ⊤
KeepsMessage (Broadcast s) (Broadcast t) = t.len ≡ s.len
KeepsMessage (Connection s) (Connection t) = link_of t ≡ link_of s
KeepsMessage _ _ = ⊥

-- the packet of a broadcast that is queued, if one is
abbrev pub packet_of : BamPumped → List CanFrame
packet_of (pumping.On s frame) = frame ∷ []
packet_of (pumping.Last frame) = frame ∷ []
packet_of (pumping.NotYet s) = []

-- the frames that a pump of what is under way queues
abbrev pub frames_pumped : UnderWay → (bytes : List ℕ) → (now : ℕ) → List CanFrame
frames_pumped Nothing bytes now = []
frames_pumped (Broadcast s) bytes now = packet_of (bam.pumped s bytes now)
frames_pumped (Connection s) bytes now = (out.pumped s bytes now).1

-- the lane after a pump: the message under way continues in this state, or is a broadcast that has ended
abbrev pub after_pump : Lane → UnderWay → List CanFrame → (has_ended : Bool) → Lane × LaneStep
after_pump lane u frames true = (ended_lane lane outcome.Broadcast, record { frames = frames; ended = front_ended lane.pending outcome.Broadcast })
after_pump lane u frames false = (with_under_way lane u, record { frames = frames; ended = None })

-- the lane after a frame of the destination: the message under way continues in this state, or is ended in this way
abbrev pub after_frame : Lane → UnderWay → Option Ending → Lane × LaneStep
after_frame lane u None = still (with_under_way lane u)
after_frame lane u (Some ending) = ended_by u (with_under_way lane u) ending
