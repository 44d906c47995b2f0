-- The codes of answers.
use Rattle.std.specs.Prelude.{ℕ, Option, Some, None, Result, Ok, Err}
use Rattle.std.specs.declared.alloc.AllocError.{AllocError}
use Rattle.segment_law.specs.Refusals.{refusal_number}
use Rattle.segment_law.specs.declared.reply.Reply.{Reply}
use Rattle.segment_law.specs.declared.reply.Reply.TheVariants.{Opened, Sent, Refused, Done}
use Rattle.live_segment.specs.declared.refused.NotMade.{NotMade}
use Rattle.live_segment.specs.declared.refused.NotMade.TheVariants as not_made
use Rattle.fulwethi_service.specs.declared.inboxes.Received.{Received}
use Rattle.fulwethi_service.specs.declared.inboxes.Received.TheVariants as received

abbrev pub not_made_code : NotMade → ℕ
not_made_code (not_made.Refused cause) = refusal_number cause
not_made_code not_made.OutOfMemory = 64

abbrev pub reply_code : Result Reply AllocError → ℕ
reply_code (Ok (Opened port)) = 0
reply_code (Ok (Sent number)) = 0
reply_code (Ok (Refused cause)) = refusal_number cause
reply_code (Ok (Done events)) = 0
reply_code (Err _) = 64

-- the code of a clock call; none: the clock is past the tick
abbrev pub clock_code : Option (Result Reply AllocError) → ℕ
clock_code None = 67
clock_code (Some answer) = reply_code answer

-- the code of an optional note
abbrev pub note_code : {A : Type 0} → Result (Option A) AllocError → ℕ
note_code (Ok (Some _)) = 0
note_code (Ok None) = 65
note_code (Err _) = 64

abbrev pub received_code : Received → ℕ
received_code received.Taken = 0
received_code received.Nothing = 65
received_code received.Closed = 75
received_code received.TooLittleRoom = 68
received_code received.OutOfMemory = 64
