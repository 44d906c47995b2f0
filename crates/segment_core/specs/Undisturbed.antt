-- A drive of a message that nothing disturbs, as the code answers it.
use Rattle.std.specs.Prelude.{◌≡◌, length, IsTrue}
use Rattle.pgn_ids.specs.declared.address.Address.{Address}
use Rattle.lane_core.specs.declared.message.Pending.{Pending}
use Rattle.segment_law.specs.Segment.{Segment, lane_at}
use Rattle.segment_law.specs.Quiet.{quiet, quiet_events, is_at_rest, IsSettled}
use Rattle.segment_law.specs.declared.end.DriveEnd.TheVariants as end
use Rattle.drive_course.specs.declared.driven.Driven as ran

-- exactly the message's frames are put, a turn each, the events are exactly the message's, and all is at rest again
pub record IsQuietDrive (before : Segment) (from to : Address) (m : Pending) (seg : Segment) (done : ran.Driven) : Type 0 where
  pub turns : done.turns ≡ length (quiet m from to)
  pub frames : done.frames ≡ quiet m from to
  pub end : done.end ≡ end.Turns
  pub events : done.events ≡ quiet_events before m from to
  pub at_rest : IsTrue (is_at_rest seg)
  pub settled : IsSettled (lane_at seg from to)
