-- A drive that does what the law says of a message that nothing disturbs.
use Rattle.std.proofs.Common.{◌≡◌, ℕ, List, length, sym, ◌∙◌, subst}
use Rattle.pgn_ids.specs.declared.address.Address.{Address}
use Rattle.lane_core.specs.declared.message.Pending.{Pending}
use Rattle.segment_law.specs.Segment.{Segment, lane_at}
use Rattle.segment_law.specs.Record.{Record, StandsAt}
use Rattle.segment_law.specs.Drive.{driven}
use Rattle.segment_law.specs.Quiet.{quiet, is_at_rest, IsSettled, IsQuiet, IsUndisturbed, IsQuietExchange}
use Rattle.segment_core.specs.Drives.{IsDriven}
use Rattle.segment_core.specs.Undisturbed.{IsQuietDrive}
use Rattle.drive_course.specs.declared.driven.Driven as ran
use Rattle.std.specs.Prelude.{IsTrue}

pub quiet_drive : ((d : Address) → IsQuietExchange d) → (addresses : List Address) (steps : Record) (before seg : Segment) (from to : Address) (m : Pending) (turns : ℕ) (done : ran.Driven)
    → StandsAt addresses steps before → IsQuiet before from to m → turns ≡ length (quiet m from to) → IsDriven (driven before from to turns) seg done → IsQuietDrive before from to m seg done
quiet_drive law addresses steps before seg from to m turns done stands quiet_now many d =
    let u : IsUndisturbed before from to m (driven before from to turns) = subst (λ (n : ℕ). IsUndisturbed before from to m (driven before from to n)) (sym many) (law to addresses steps before from m stands quiet_now) in
    record {
      turns = d.turns ∙ u.turns;
      frames = d.frames ∙ u.frames;
      end = d.end ∙ u.ended;
      events = d.events ∙ u.events;
      at_rest = subst (λ (s : Segment). IsTrue (is_at_rest s)) (sym d.segment) u.at_rest;
      settled = subst (λ (s : Segment). IsSettled (lane_at s from to)) (sym d.segment) u.settled;
    }
