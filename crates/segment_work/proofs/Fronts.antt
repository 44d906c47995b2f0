-- The messages of a lane, the front one and those behind it.
use Rattle.std.proofs.Common.{◌≡◌, ℕ, ◌+◌, List, [], ◌∷◌, drop, refl}
use Rattle.std.specs.Prelude.{slice_get}
use Rattle.lane_core.specs.declared.message.Pending.{Pending}
use Rattle.lane_core.specs.declared.probe.Standing.{Standing}
use Rattle.work_law.specs.Work.{Terms, doubt_work, message_work, later_work, idle_work}
use Rattle.segment_work.specs.Terms.{at}

pub idle_is : (c : Terms) (from to : ℕ) (standing : Standing) (messages : List Pending)
    → idle_work c from to standing messages ≡ at (λ m. doubt_work c from to standing + message_work c from to m + later_work c from to (drop 1 messages)) (slice_get messages 0)
idle_is c from to standing [] = refl
idle_is c from to standing (m ∷ messages) = refl
