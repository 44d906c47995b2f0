-- Whether a client's front submission can be sent, and by which call.
use Rattle.std.specs.Prelude.{◌≡◌, ℕ, ◌<◌, List, ◌∷◌, slice_index_or, Option, Some, None, []}
use mathlib.Core.List.{IsPrefix}
use Rattle.segment_law.specs.Segment.{Segment}
use Rattle.segment_law.specs.Calls.{called}
use Rattle.segment_law.specs.declared.refusal.Refusal.{Refusal as Cause}
use Rattle.segment_state.specs.Answers.{refusal_of}
use Rattle.segment_rings.specs.declared.words.Submission.{Submission}
use Rattle.segment_rings.specs.Views.{SeatView}
use Rattle.live_record.specs.declared.owed.Owed.{Owed}
use Rattle.live_record.specs.declared.calls.TheConstants.{MOST_CALLS}
use Rattle.live_ends.specs.declared.offer.Front.TheVariants as front
use Rattle.live_calls.specs.declared.offer.Ready.{Ready}
use Rattle.live_calls.specs.declared.offer.Ready.TheVariants as ready
use Rattle.live_record.specs.Record.{owed_by, stored}
use Rattle.live_ends.specs.Offers.{IsWaiting, IsFrontIn, send_call, IsSendOf}

-- the segment would refuse to send the submission in front for this cause, or wouldn't refuse it
abbrev pub IsCauseFor : Segment → SeatView → Option Cause → Type 0
IsCauseFor st s cause = (x : Submission) × IsPrefix (x ∷ []) s.ahead × (cause ≡ refusal_of (called st (send_call s.station x)))

-- whether the front submission of client k can be sent while so many calls are stored, and by which call
abbrev pub IsReadyToSend : Segment → (stored : ℕ) → List Owed → List SeatView → ℕ → Ready → Type 0
IsReadyToSend st stored ws ss k ready.Empty = IsFrontIn ss k (owed_by k ws) stored front.Empty
IsReadyToSend st stored ws ss k ready.Owed = IsFrontIn ss k (owed_by k ws) stored front.Owed
IsReadyToSend st stored ws ss k ready.Full = IsFrontIn ss k (owed_by k ws) stored front.Full
IsReadyToSend st stored ws ss k (ready.NotSent c) = IsFrontIn ss k (owed_by k ws) stored front.Waits × ((s : SeatView) → IsCauseFor st (slice_index_or ss k s) (Some c))
IsReadyToSend st stored ws ss k (ready.Send call) = ((stored < MOST_CALLS) × ((s : SeatView) → IsWaiting (slice_index_or ss k s) × (owed_by k ws < (slice_index_or ss k s).free) × (owed_by k ws < (slice_index_or ss k s).spare)))
    × ((s : SeatView) → IsSendOf (slice_index_or ss k s) call)

-- nothing but memory is lacking
abbrev pub LacksRoomToSend : Segment → (stored : ℕ) → List Owed → List SeatView → ℕ → Type 0
LacksRoomToSend st stored ws ss k = IsFrontIn ss k (owed_by k ws) stored front.Waits × ((s : SeatView) → IsCauseFor st (slice_index_or ss k s) None)

abbrev pub HasSpace : ℕ → ℕ → Ready → Type 0
HasSpace n m ready.Empty = Unit {0}
HasSpace n m ready.Owed = Unit {0}
HasSpace n m ready.Full = Unit {0}
HasSpace n m (ready.NotSent c) = Unit {0}
HasSpace n m (ready.Send call) = n < m
