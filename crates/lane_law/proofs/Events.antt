-- Every event keeps what holds of a lane, and it holds at first, so it holds of each lane that events lead to.
use Rattle.std.proofs.Common.{ℕ, Bool, List, Option, arith}
use Rattle.lane_law.specs.Outcome.{Outcome}
use Rattle.lane_law.specs.Lane
use Rattle.lane_law.specs.Lane.{Phase, Idle, Begun, Granted, InDoubt, LaneEvent}
use Rattle.lane_law.proofs.Streams
use Rattle.lane_law.proofs.Reached.{keeps_on}
use Rattle.lane_law.proofs.Lanes.{Controlled, SettledAt, DoubtfulAt, IsLane}
use Rattle.lane_law.proofs.Destination.{takes, passes_over, forgets, reopens, accepts, ends_session, gives, replies}
use Rattle.lane_law.proofs.Hearing.{hears, forgets_answer, misses, acknowledges, settles}
use Rattle.lane_law.proofs.Sending.{sends, begins, queues_dpo, queues_packet, grants, ends, probes, cancels, gives_up}

-- every event
lane_keeps : (e : LaneEvent) (l : Lane.Lane) → Lane.MayHappen e l → IsLane l → IsLane (Lane.after e l)
lane_keeps (Lane.Sends m) l h i = sends l m i
lane_keeps (Lane.Begins n m rest) l h i = begins l n m rest h i
lane_keeps (Lane.Grants n) l h i = grants l n h i
lane_keeps (Lane.QueuesDpo n o) l h i = queues_dpo l n o h i
lane_keeps (Lane.QueuesPacket n k) l h i = queues_packet l n k h i
lane_keeps (Lane.Ends n) l h i = ends l n h i
lane_keeps Lane.Probes l h i = probes l h i
lane_keeps (Lane.Cancels earlier n later) l h i = cancels l earlier n later h i
lane_keeps (Lane.GivesUp n rest) l h i = gives_up l n rest h i
lane_keeps (Lane.Takes f rest) l h i = takes l f rest h i
lane_keeps (Lane.PassesOver f rest) l h i = passes_over l f rest h i
lane_keeps Lane.Forgets l h i = forgets l i
lane_keeps (Lane.Reopens n m) l h i = reopens l n m h i
lane_keeps (Lane.Accepts x k b) l h i = accepts l x k b h i
lane_keeps (Lane.Gives x k b) l h i = gives l x k b h i
lane_keeps Lane.EndsSession l h i = ends_session l i
lane_keeps (Lane.Replies t) l h i = replies l t h i
lane_keeps (Lane.Hears a rest) l h i = hears l a rest h i
lane_keeps (Lane.Misses a rest) l h i = misses l a rest h i
lane_keeps Lane.ForgetsAnswer l h i = forgets_answer l i
lane_keeps (Lane.Acknowledges n k) l h i = acknowledges l n k h i
lane_keeps Lane.Settles l h i = settles l h i

at_first : (token : Bool) → IsLane (Lane.start token)
at_first token = record {
  stream = Streams.at_first;
  control = record { ends = tt; past = tt; harmless = tt; no_request = tt; no_ack = tt };
  tags = tt;
  of_given = tt;
  agree = tt;
  reached = tt;
  ahead = tt;
  numbers = record { begun_le = omega arith; rising = tt; within = tt; no_outcome = tt; outcomes_within = tt; single = tt };
}

pub is_lane : (token : Bool) (l : Lane.Lane) → Lane.IsReached token l → IsLane l
is_lane token l h = keeps_on Lane.MayHappen Lane.after IsLane lane_keeps (Lane.start token) l (at_first token) h

last_phase : (S : Option ℕ → Type 0) (D : Type 0) (n : ℕ) (os : List Outcome) (ph : Phase) → Controlled S D n os ph → Lane.IsLastBegun n ph
last_phase S D n os Idle h = tt
last_phase S D n os (Begun k) h = h.0
last_phase S D n os (Granted k) h = h.0
last_phase S D n os InDoubt h = tt

pub last_begun : (l : Lane.Lane) → IsLane l → Lane.IsLastBegun l.stream.queued.number l.phase
last_begun l i = last_phase (SettledAt l) (DoubtfulAt l) l.stream.queued.number l.outcomes l.phase i.control
