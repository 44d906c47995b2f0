-- Whether a submission is accepted, and what its acceptance changes.
use Rattle.std.specs.Prelude.{◌≡◌, ℕ, ◌<◌, ◌≤◌, true, false, ◌∷◌, ◌++◌, length, slice_index_or, slice_index, slice_set, ◌⊎◌, Some, None, []}
use mathlib.Core.List.{IsPrefix}
use Rattle.pgn_ids.specs.declared.address.Address.{Address}
use Rattle.segment_law.specs.Calls.{called}
use Rattle.segment_law.specs.declared.refusal.Refusal.TheVariants.{TraceFull}
use Rattle.segment_state.specs.Answers.{refusal_of}
use Rattle.segment_law.specs.declared.reply.Reply.{Reply}
use Rattle.segment_law.specs.declared.reply.Reply.TheVariants.{Sent, Refused}
use Rattle.live_record.specs.Replies.{reply_of}
use Rattle.segment_rings.specs.declared.words.Submission.{Submission}
use Rattle.live_record.specs.declared.calls.TheConstants.{MOST_CALLS}
use Rattle.live_segment.specs.declared.refused.Accepted.{Accepted}
use Rattle.live_segment.specs.declared.refused.Accepted.TheVariants as accepted
use Rattle.live_record.specs.Record.{owed_by, trail, stored}
use Rattle.live_segment.specs.LiveView.{ClientView, LiveView, SameLive, stored_calls}
use Rattle.live_ends.specs.Offers.{send_call}

-- no client has this number, or its submissions are no longer taken, or none is seen
abbrev pub IsEmptyAt : LiveView → ℕ → Type 0
IsEmptyAt b c = (length b.clients ≤ c) ⊎ (((v : ClientView) → (slice_index_or b.clients c v).active ≡ false) ⊎ (length (slice_index_or b.seen c []) ≡ 0))

-- there is a client of this number, and it is the station's
abbrev pub IsClientOf : Address → ℕ → LiveView → Type 0
IsClientOf station c v = (c < length v.clients) × ((d : ClientView) → (slice_index_or v.clients c d).station ≡ station)

-- no submission of the station's clients is seen
abbrev pub IsAtRest : Address → LiveView → Type 0
IsAtRest station v = (c : ℕ) → IsClientOf station c v → IsEmptyAt v c

-- a submission of the client is seen in front, and is taken
pub record WaitsAt (b : LiveView) (c : ℕ) : Type 0 where
  pub within : c < length b.clients
  pub active : (v : ClientView) → (slice_index_or b.clients c v).active ≡ true
  pub seen : 0 < length (slice_index_or b.seen c [])

abbrev pub popped_client : ClientView → Submission → ClientView
popped_client v x = record v { popped = v.popped ++ x ∷ [] }

-- the front submission was taken out of the client's ring, and its Send is stored with the client's id
pub record SentFor (a b : LiveView) (c n : ℕ) (x : Submission) : Type 0 where
  pub within : c < length a.clients
  pub active : (v : ClientView) → (slice_index_or a.clients c v).active ≡ true
  pub addresses : b.addresses ≡ a.addresses
  pub stopped : b.stopped ≡ a.stopped
  pub pieces : b.pieces ≡ a.pieces
  pub clients : (v : ClientView) → b.clients ≡ slice_set a.clients c (popped_client (slice_index_or a.clients c v) x)
  pub calls : (v : ClientView) → b.calls ≡ a.calls ++ stored (Some c) (send_call (slice_index_or a.clients c v).station x) ∷ []
  pub reply : (v : ClientView) → Sent n ≡ reply_of (trail a.addresses a.calls).state (send_call (slice_index_or a.clients c v).station x)
  pub ports : b.ports ≡ a.ports

-- the segment refused the Send of the submission that is seen in front
pub record RefusedSend (a b : LiveView) (c : ℕ) (r : Reply) : Type 0 where
  pub few : stored_calls a < MOST_CALLS
  pub x : Submission
  pub front : IsPrefix (x ∷ []) (slice_index_or b.seen c [])
  pub reply : (v : ClientView) → r ≡ reply_of (trail a.addresses a.calls).state (send_call (slice_index_or a.clients c v).station x)

-- why a submission was refused: no more calls can be stored, or else the segment refuses its Send
abbrev pub IsCause : LiveView → LiveView → ℕ → Reply → Type 0
IsCause a b c r = ((r ≡ Refused TraceFull) × (MOST_CALLS ≤ stored_calls a)) ⊎ RefusedSend a b c r

-- nothing but memory is lacking to send the submission that is seen in front: calls can be stored, its note has a place, and the
-- segment doesn't refuse its Send
pub record LacksMemoryFor (a b : LiveView) (c : ℕ) : Type 0 where
  pub few : stored_calls a < MOST_CALLS
  pub waits : WaitsAt b c
  pub place : owed_by c (trail a.addresses a.calls).owed < slice_index b.note_free c
  pub x : Submission
  pub front : IsPrefix (x ∷ []) (slice_index_or b.seen c [])
  pub passes : (v : ClientView) → refusal_of (called (trail a.addresses a.calls).state (send_call (slice_index_or a.clients c v).station x)) ≡ None

-- how many messages of the client are without an outcome
abbrev pub owed_at : LiveView → ℕ → ℕ
owed_at a c = owed_by c (trail a.addresses a.calls).owed

abbrev pub AcceptedAs : LiveView → LiveView → ℕ → Accepted → Type 0
AcceptedAs a b c accepted.Empty = SameLive a b × IsEmptyAt b c
AcceptedAs a b c accepted.Owed = SameLive a b × WaitsAt b c × (slice_index b.note_free c ≤ owed_at a c)
AcceptedAs a b c (accepted.Refused e) = SameLive a b × WaitsAt b c × (owed_at a c < slice_index b.note_free c) × IsCause a b c (Refused e)
AcceptedAs a b c (accepted.Sent n) = (x : Submission) × SentFor a b c n x
