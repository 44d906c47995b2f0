-- What a list of calls was answered.
use Rattle.std.specs.Prelude.{◌≡◌, ◌≤◌, List, [], ◌∷◌, length, take, IsOk}
use Rattle.segment_law.specs.Segment.{Segment}
use Rattle.segment_law.specs.Calls.{called}
use Rattle.segment_law.specs.Record.{Record, replies_from, after}
use Rattle.segment_law.specs.declared.call.Call.{Call}
use Rattle.segment_law.specs.declared.reply.Reply.{Reply}

-- each call with its reply, as far as there are replies
abbrev pub steps_of : List Call → List Reply → Record
steps_of [] replies = []
steps_of (call ∷ calls) [] = []
steps_of (call ∷ calls) (reply ∷ replies) = (call, reply) ∷ steps_of calls replies

-- these replies are those to the first of the calls, and the segment is the one after these
pub record IsRun (before : Segment) (calls : List Call) (seg : Segment) (replies : List Reply) : Type 0 where
  pub within : length replies ≤ length calls
  pub replied : replies ≡ replies_from before (take (length replies) calls)
  pub segment : seg ≡ after before (take (length replies) calls)

-- there is a first of these calls, and it isn't refused
abbrev pub FirstIsNotRefused : Segment → List Call → Type 0
FirstIsNotRefused seg [] = ⊥
FirstIsNotRefused seg (call ∷ calls) = IsOk (called seg call)
