-- The terms on which the calls of a drain are counted.
use Rattle.std.specs.Prelude.{ℕ, ◌+◌, Option, Some, None}
use Rattle.lane_core.specs.declared.message.Pending.{Pending}
use Rattle.segment_law.specs.Segment.{Segment}
use Rattle.work_law.specs.Work.{Terms, terms_of, round_work, message_work}
use Rattle.work_law.specs.Course.{each_turn}

-- each call counts one
unfoldable pub turn_terms : Segment → Terms
turn_terms seg = terms_of (each_turn seg) seg

-- of an item, if there is one
abbrev pub at : {A : Type 0} → (A → ℕ) → Option A → ℕ
at f None = 0
at f (Some x) = f x

-- a message behind another one, before which there may be a round
abbrev pub turn_of : Terms → (from to : ℕ) → Pending → ℕ
turn_of c from to m = round_work c from to + message_work c from to m
