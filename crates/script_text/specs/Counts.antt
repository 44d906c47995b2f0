-- The line of what a segment counted.
use Rattle.std.specs.Prelude.{ℕ, List, [], ◌++◌, codes}
use Rattle.std.specs.Fmt.{decimal}
use Rattle.segment_law.specs.declared.counts.Counts.{Counts}
use Rattle.script_text.specs.Parts.{line}

-- a name and its count
abbrev pub counted : List ℕ → ℕ → List ℕ
counted name n = name ++ codes " " ++ decimal n

abbrev pub frame_counts : Counts → List ℕ
frame_counts c = counted (codes "frames") c.frames ++ counted (codes " malformed") c.malformed ++ counted (codes " repeated") c.repeated ++ counted (codes " given") c.given

abbrev pub ended_counts : Counts → List ℕ
ended_counts c = counted (codes " Acknowledged") c.acknowledged ++ counted (codes " Broadcast") c.broadcast ++ counted (codes " Aborted") c.aborted ++ counted (codes " TimedOut") c.timed_out

abbrev pub given_up_counts : Counts → List ℕ
given_up_counts c = counted (codes " Overrun") c.overrun ++ counted (codes " Cancelled") c.cancelled ++ counted (codes " Unreachable") c.unreachable

unfoldable pub counts_line : Counts → List ℕ
counts_line c = line (frame_counts c ++ ended_counts c ++ given_up_counts c)

-- how many messages a relay received, how many of them it submitted, and how many it left
unfoldable pub relayed_line : (pulled pushed left : ℕ) → List ℕ
relayed_line pulled pushed left = line (counted (codes "relayed") pulled ++ counted [] pushed ++ counted [] left)
