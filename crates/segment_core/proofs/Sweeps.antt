-- The loops of a drive.
use Rattle.std.proofs.Common.{◌≡◌, ℕ, ◌+◌, ◌-◌, List, [], ◌∷◌, length, drop, None}
use Rattle.bus_frame.specs.Frames.{CanFrame}
use Rattle.pgn_ids.specs.declared.address.Address.{Address}
use Rattle.message_events.specs.declared.event.Event.{Event}
use Rattle.segment_law.specs.Segment.{Segment, waiting_at}
use Rattle.segment_law.specs.Drive.{Driven, goes_on, takes, takes_all, turn, turns_from, driven}
use Rattle.drive_course.specs.Joined.{joined}
use Rattle.segment_state.specs.Followed.{IsFollowed, addresses_of}
use Rattle.segment_core.specs.Drives.{IsShown}

-- the drive so far, whose rest makes it the whole
pub record Stands (start : Segment) (rest : Driven → Driven) (whole : Driven) (seg : Segment) (put : List CanFrame) (told : List Event) : Type 0 where
  pub at : Driven
  pub shown : IsShown None start at seg put told
  pub on : rest at ≡ whole

abbrev pub Turning : (start : Segment) (from to : Address) (turns k : ℕ) (seg : Segment) (put : List CanFrame) (parts : List (List Event)) → Type 0
Turning start from to turns k seg put parts = Stands start (turns_from (turns - k) from to) (driven start from to turns) seg put (joined parts)

-- each station with one of these addresses takes
abbrev pub each_takes : List Address → Driven → Driven
each_takes [] d = d
each_takes (a ∷ addresses) d = each_takes addresses (goes_on d (takes_all a))

pub record Sweeping (from to : Address) (before : Segment) (was : List CanFrame) (were : List (List Event)) (count place : ℕ) (seg : Segment) (put : List CanFrame) (parts : List (List Event)) : Type 0 where
  pub stations : length seg.stations ≡ count
  pub steps : (start : Segment) (d : Driven) → IsShown None start d before was (joined were) → Stands start (each_takes (drop place (addresses_of seg))) (turn from to d) seg put (joined parts)

pub record Taking (a : Address) (before : Segment) (was : List CanFrame) (were : List (List Event)) (left k : ℕ) (seg : Segment) (put : List CanFrame) (parts : List (List Event)) : Type 0 where
  pub waits : waiting_at seg a + k ≡ left
  pub followed : IsFollowed seg
  pub addresses : addresses_of seg ≡ addresses_of before
  pub steps : (start : Segment) (d : Driven) → IsShown None start d before was (joined were) → Stands start (takes (waiting_at seg a) a) (takes (waiting_at before a) a d) seg put (joined parts)
