-- Calls on a service.
use Rattle.std.specs.Prelude.{◌≡◌, ℕ, ◌-◌, ◌<◌, ◌≤◌, Option, Some, None, MatchOption, Result, Ok, Err, IfOk, OnErr}
use Rattle.std.specs.declared.alloc.AllocError.{AllocError}
use Rattle.bus_frame.specs.Frames.{CanFrame}
use Rattle.pgn_ids.specs.declared.address.Address.{Address}
use Rattle.tick_timers.specs.Due.{IsDueFrom, IsNextFrom}
use Rattle.segment_law.specs.Headline.{Headline}
use Rattle.segment_law.specs.Segment.{waiting_at}
use Rattle.segment_law.specs.Readers.{front_at}
use Rattle.segment_law.specs.declared.refusal.Refusal.{Refusal}
use Rattle.segment_law.specs.declared.reply.Reply.{Reply}
use Rattle.segment_law.specs.declared.reply.Reply.TheVariants as reply
use Rattle.segment_state.specs.Due.{any_due}
use Rattle.segment_state.specs.Next.{any_work}
use Rattle.live_segment.specs.LiveView.{LiveView, SameLive, LacksMemory, Laws}
use Rattle.live_record.specs.Record.{trail}
use Rattle.live_segment.specs.Turns.{IsAnswered, state_of}
use Rattle.live_calls.specs.Lowest.{IsNext}
use Rattle.live_calls.specs.declared.call.WorkerCall.{WorkerCall}
use Rattle.live_calls.specs.declared.call.WorkerCall.TheVariants.{Inject, Overrun, Tick}
use Rattle.c_parts.specs.Calls.{IsMadeOn}
use Rattle.c_parts.specs.Shown.{shown_frame}
use Rattle.c_parts.specs.declared.shown.CFrame.{CFrame}

-- what went through the rings is what the record says, and the sentence holds of the record: each port was given the messages of one
-- station to one destination at most once, in order, byte for byte, and what was acknowledged was given
abbrev pub HoldsOf : LiveView → Type 0
HoldsOf v = Laws v × Headline v.addresses (trail v.addresses v.calls).steps

-- a call was made on the service that the handle had, and that sentence holds of what it left
abbrev pub IsServed : {A : Type 0} → (code : A → ℕ) → (does : (before after : LiveView) → A → Type 0) → (of out : Option LiveView) → (result : ℕ) → Type 0
IsServed code does of out result = IsMadeOn code (λ before after answer. does before after answer × HoldsOf after) of out result

-- a call was made and answered; or memory is lacking for one that isn't refused, and nothing has changed but what is known of the rings
abbrev pub IsAsked : WorkerCall → (before after : LiveView) → Result Reply AllocError → Type 0
IsAsked call before after answer =
    IfOk answer (λ r. IsAnswered before after call r)
    × (OnErr answer (SameLive before after) × OnErr answer (LacksMemory before call))

-- Frames

-- nothing is done with what isn't a frame; else the call of a foreign frame is made
abbrev pub IsFrameFed : Result CanFrame Refusal → (before after : LiveView) → Result Reply AllocError → Type 0
IsFrameFed (Err cause) before after answer = (answer ≡ Ok (reply.Refused cause)) × (after ≡ before)
IsFrameFed (Ok frame) before after answer = IsAsked (Inject frame) before after answer

-- a station misses all frames that wait for it
abbrev pub IsMissed : Address → (before after : LiveView) → Result Reply AllocError → Type 0
IsMissed station before after answer = IsAsked (Overrun station (waiting_at (state_of before) station)) before after answer

-- the station whose frame is next on the bus
abbrev pub IsFront : (before after : LiveView) → Option Address → Type 0
IsFront before after next = (after ≡ before) × IsNext (state_of before) before.addresses next

-- the station's address and its frame are written, if there is one; else the places are unchanged
abbrev pub IsFrontWritten : LiveView → (station station' : ℕ) → (frame frame' : CFrame) → Option Address → Type 0
IsFrontWritten v station station' frame frame' None = (station' ≡ station) × (frame' ≡ frame)
IsFrontWritten v station station' frame frame' (Some next) = (station' ≡ next.0) × MatchOption (front_at (state_of v) next) ⊥ (λ f. frame' ≡ shown_frame f)

-- The clock

-- the clock advances to the tick; none: it is past the tick
abbrev pub IsClocked : (tick : ℕ) → (before after : LiveView) → Option (Result Reply AllocError) → Type 0
IsClocked tick before after answer =
    MatchOption answer ((tick < (state_of before).now) × (after ≡ before))
    (λ r. ((state_of before).now ≤ tick) × IsAsked (Tick (tick - (state_of before).now)) before after r)

abbrev pub IsDueNext : (before after : LiveView) → Option ℕ → Type 0
IsDueNext before after answer = (after ≡ before) × IsDueFrom (any_due (state_of before)) answer

abbrev pub IsNextTick : (before after : LiveView) → Option ℕ → Type 0
IsNextTick before after answer = (after ≡ before) × IsNextFrom (any_work (state_of before)) (state_of before).now answer
