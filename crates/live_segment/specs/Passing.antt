-- A station that takes a frame which is none of its business, or for which no frame waits; and a call that gives no message.
use Rattle.std.specs.Prelude.{◌≡◌, ◌<◌, Bool, true, false, List, []}
use Rattle.message_events.specs.declared.event.Event.{Event}
use Rattle.pgn_ids.specs.declared.address.Address.{Address}
use Rattle.segment_law.specs.Segment.{waiting_at}
use Rattle.segment_law.specs.declared.reply.Reply.TheVariants.{Done}
use Rattle.segment_state.specs.Passing.{PassesBy}
use Rattle.segment_state.specs.declared.passing.Passing.{Passing}
use Rattle.segment_state.specs.declared.passing.Passing.TheVariants.{Passed, Rests, Busy}
use Rattle.live_calls.specs.declared.call.WorkerCall.{WorkerCall}
use Rattle.live_calls.specs.declared.call.WorkerCall.TheVariants.{Take}
use Rattle.live_record.specs.declared.calls.TheConstants.{MOST_CALLS}
use Rattle.live_segment.specs.LiveView.{LiveView, Applied, stored_calls}
use Rattle.live_segment.specs.Turns.{state_of}

abbrev pub IsPassing : LiveView → Address → LiveView → Passing → Type 0
IsPassing a station b Passed = (stored_calls a < MOST_CALLS) × Applied a b (Take station) (Done []) true × PassesBy (state_of a) station (state_of b)
IsPassing a station b Rests = (waiting_at (state_of a) station ≡ 0) × (b ≡ a)
IsPassing a station b Busy = b ≡ a

-- a call was made that gives no message, or nothing has changed
abbrev pub IsMadePlainly : LiveView → WorkerCall → LiveView → Bool → Type 0
IsMadePlainly a call b true = (stored_calls a < MOST_CALLS) × ((told : List Event) × Applied a b call (Done told) true)
IsMadePlainly a call b false = b ≡ a
