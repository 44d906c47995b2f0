-- How the code answers a call.
use Rattle.std.specs.Prelude.{◌≡◌, ⊤, [], List, Option, Some, None, Result, Ok, Err, IsOk}
use Rattle.std.specs.Option.{option_map}
use Rattle.station_core.specs.declared.refused.Refused.{Refused as Cause}
use Rattle.station_core.specs.declared.refused.Stopped.{Stopped}
use Rattle.station_core.specs.declared.refused.Stopped.TheVariants as stopped
use Rattle.segment_law.specs.Segment.{Segment}
use Rattle.segment_law.specs.declared.refusal.Refusal.{Refusal}
use Rattle.segment_law.specs.Refusals.{cause_of}
use Rattle.segment_law.specs.Calls.{Answer}
use Rattle.segment_law.specs.declared.reply.Reply.{Reply}
use Rattle.segment_law.specs.declared.reply.Reply.TheVariants as reply
use Rattle.segment_law.specs.declared.reply.Reply.TheVariants.{Opened, Sent, Done}
use Rattle.message_events.specs.declared.event.Event.{Event}
use Rattle.segment_state.specs.declared.made.Made.{Made}
use Rattle.segment_state.specs.declared.made.Made.TheVariants as made
use Rattle.segment_state.specs.declared.made.Tried.{Tried}
use Rattle.segment_state.specs.declared.made.Tried.TheVariants as tried
use Rattle.segment_state.specs.declared.stop.Stop.{Stop}
use Rattle.segment_state.specs.declared.stop.Stop.TheVariants.{Refused, OutOfMemory}

-- the law's answer; or, if the law doesn't refuse the call, want of memory, as if it hadn't been made
abbrev pub IsAnswer : Answer → (before after : Segment) → Result Reply Stop → Type 0
IsAnswer answer before after (Ok reply) = answer ≡ Ok (after, reply)
IsAnswer answer before after (Err (Refused cause)) = (answer ≡ Err cause) × (after ≡ before)
IsAnswer answer before after (Err OutOfMemory) = IsOk answer × (after ≡ before)

-- the law's answer to a call whose reply is built from its result
abbrev pub IsAnswerBy : {T : Type 0} → (reply : T → Reply) → Answer → (before after : Segment) → Result T Stop → Type 0
IsAnswerBy reply answer before after (Ok given) = answer ≡ Ok (after, reply given)
IsAnswerBy reply answer before after (Err stop) = IsAnswer answer before after (Err stop)

-- the law's answer to a call that has these events; or nothing has changed, since its frame completes a message
abbrev pub IsPart : {T : Type 0} → (told : List Event) → Answer → (before after : Segment) → Result (Option T) Stop → Type 0
IsPart told answer before after (Ok None) = after ≡ before
IsPart told answer before after (Ok (Some given)) = answer ≡ Ok (after, Done told)
IsPart told answer before after (Err stop) = IsAnswer answer before after (Err stop)

-- the reply of a call that was answered so and has these events
abbrev pub reply_with : Made → List Event → Reply
reply_with (made.Opened port) events = Opened port
reply_with (made.Sent number) events = Sent number
reply_with made.Done events = Done events
reply_with (made.Refused cause) events = reply.Refused cause

-- how such a Take is answered, if it is made or refused
abbrev pub made_as : Tried → Option Made
made_as tried.Done = Some made.Done
made_as tried.Whole = None
made_as (tried.Refused cause) = Some (made.Refused cause)

-- as the law says, with its events put into a place of their own
abbrev pub IsMade : Answer → (before after : Segment) → (told : List Event) → Result Made Stop → Type 0
IsMade answer before after told result = IsAnswerBy (λ made. reply_with made told) answer before after result

-- only a call that is done has events
abbrev pub IsSilentBut : Made → List Event → Type 0
IsSilentBut made.Done told = ⊤
IsSilentBut _ told = told ≡ []

abbrev pub IsSilent : {E : Type 0} → (told : List Event) → Result Made E → Type 0
IsSilent told (Ok made) = IsSilentBut made told
IsSilent told (Err stop) = told ≡ []

-- a call that may have events is done unless it is stopped
abbrev pub done_unless : {E : Type 0} → {T : Type 0} → Result T E → Result Made E
done_unless (Ok given) = Ok made.Done
done_unless (Err stop) = Err stop

-- why a call is refused; none if it isn't
abbrev pub refusal_of : Answer → Option Refusal
refusal_of (Ok step) = None
refusal_of (Err cause) = Some cause

-- how a call ends that a station refuses
abbrev pub stop_for : Cause → Stop
stop_for cause = Refused (cause_of cause)

-- how a call ends that a station doesn't do
abbrev pub stop_of : Stopped → Stop
stop_of (stopped.Refused cause) = stop_for cause
stop_of stopped.OutOfMemory = OutOfMemory

-- why a call is refused whose station names this cause
abbrev pub first_refusal : Option Cause → Option Refusal
first_refusal first = option_map cause_of first
