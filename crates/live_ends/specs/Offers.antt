-- What a look at a client's front submission finds, and what its acceptance changes of the ends.
use Rattle.std.specs.Prelude.{◌≡◌, ℕ, ◌+◌, ◌<◌, ◌≤◌, true, false, List, ◌∷◌, ◌++◌, length, slice_index_or, slice_set, ◌⊎◌, Some, []}
use mathlib.Core.List.{IsPrefix}
use Rattle.pgn_ids.specs.declared.address.Address.{Address}
use Rattle.segment_law.specs.declared.call.Call.{Call}
use Rattle.segment_law.specs.declared.call.Call.TheVariants.{Send}
use Rattle.segment_rings.specs.declared.words.Submission.{Submission}
use Rattle.segment_rings.specs.Views.{SeatView, popped_one}
use Rattle.stored_calls.specs.declared.stored.Stored.{Stored}
use Rattle.live_record.specs.declared.owed.Owed.{Owed}
use Rattle.live_record.specs.declared.calls.TheConstants.{MOST_CALLS}
use Rattle.live_ends.specs.declared.offer.Front.{Front}
use Rattle.live_ends.specs.declared.offer.Front.TheVariants as front
use Rattle.live_record.specs.Record.{stored}

-- a submission of the seat is seen in front, and is taken
abbrev pub IsWaiting : SeatView → Type 0
IsWaiting s = (s.active ≡ true) × (0 < length s.ahead)

-- the finding at the seat at a place that is owed so many notes, while so many calls are stored
abbrev pub IsFrontIn : List SeatView → (k owed stored : ℕ) → Front → Type 0
IsFrontIn ss k owed stored front.Empty = (s : SeatView) → ((slice_index_or ss k s).active ≡ false) ⊎ (length (slice_index_or ss k s).ahead ≡ 0)
IsFrontIn ss k owed stored front.Owed = (s : SeatView) → IsWaiting (slice_index_or ss k s) × ((slice_index_or ss k s).free ≤ owed)
IsFrontIn ss k owed stored front.Full = (MOST_CALLS ≤ stored) × ((s : SeatView) → IsWaiting (slice_index_or ss k s) × (owed < (slice_index_or ss k s).free))
IsFrontIn ss k owed stored front.Waits = (stored < MOST_CALLS) × ((s : SeatView) → IsWaiting (slice_index_or ss k s) × (owed < (slice_index_or ss k s).free))

abbrev pub send_call : Address → Submission → Call
send_call from x = Send from x.to x.pgn x.bytes

-- the call sends the submission in front
abbrev pub IsSendOf : SeatView → Call → Type 0
IsSendOf s call = (x : Submission) × IsPrefix (x ∷ []) s.ahead × (call ≡ send_call s.station x)

abbrev pub owed_for : ℕ → SeatView → Submission → ℕ → Owed
owed_for k s x number = record { client = k; ticket = length s.popped + 1; from = s.station; to = x.to; number = number }

-- the submission x in front of the seat s was taken, and is stored and owed
pub record IsStored (s : SeatView) (k number : ℕ) (x : Submission) (xs ys : List Stored) (ws vs : List Owed) (ss ts : List SeatView) : Type 0 where
  pub rest : List Submission
  pub front : s.ahead ≡ x ∷ rest
  pub calls : ys ≡ xs ++ stored (Some k) (send_call s.station x) ∷ []
  pub owed : vs ≡ ws ++ owed_for k s x number ∷ []
  pub seats : ts ≡ slice_set ss k (popped_one s x rest)
