-- Calls on a client.
use Rattle.std.specs.Prelude.{◌≡◌, ℕ, ◌≤◌, ◌⊎◌, List, length, Option, Some, None, MatchOption, Result, Ok, Err, IfOk, IfErr, OnErr}
use Rattle.std.specs.declared.alloc.AllocError.{AllocError}
use Rattle.pgn_ids.specs.declared.address.Address.{Address}
use Rattle.segment_law.specs.declared.refusal.Refusal.{Refusal}
use Rattle.segment_law.specs.declared.refusal.Refusal.TheVariants.{RingFull}
use Rattle.segment_rings.specs.Ends.{ClientEnd, submits, reads, lets_read_go, SameClient}
use Rattle.segment_rings.specs.Submitting.{why_refused}
use Rattle.segment_rings.specs.declared.words.Note.{Note}
use Rattle.live_segment.specs.declared.refused.NotMade.{NotMade}
use Rattle.live_segment.specs.declared.refused.NotMade.TheVariants.{Refused, OutOfMemory}
use Rattle.fulwethi_service.specs.declared.desk.Desk.{Desk}
use Rattle.fulwethi_service.specs.declared.shown.CNote.{CNote}
use Rattle.fulwethi_service.specs.Shown.{shown_note}

-- a call was made on the client of a desk, which stays there
abbrev pub OnClient : {A : Type 0} → (does : (before after : ClientEnd) → A → Type 0) → (before after : Desk) → A → Type 0
OnClient does before after answer = (c : ClientEnd) → before.client ≡ Some c → (d : ClientEnd) × (after.client ≡ Some d) × does c d answer

-- the cause of a submission that isn't made: its refusal, or else want of memory
abbrev pub cause_of_refusal : Option Refusal → NotMade
cause_of_refusal (Some cause) = Refused cause
cause_of_refusal None = OutOfMemory

-- the message was submitted, and the ticket is its place among all. Or it is refused: for its PGN, destination or length exactly if that
-- holds, and else because the ring is full or memory is lacking; then nothing has changed but what is known of the ring, and how many of
-- the first submissions are no longer kept
abbrev pub IsSubmitted : (to : Address) → (pgn : ℕ) → (bytes : List ℕ) → (before after : ClientEnd) → Result ℕ NotMade → Type 0
IsSubmitted to pgn bytes before after answer =
    IfOk answer (λ ticket. (after ≡ submits before to pgn bytes after.free after.gone) × (before.gone ≤ after.gone) × (ticket ≡ length after.submitted))
    × (((c : Refusal) → why_refused before.station to pgn (length bytes) ≡ Some c → answer ≡ Err (Refused c))
    × ((why_refused before.station to pgn (length bytes) ≡ None → IfErr answer (λ e. (e ≡ OutOfMemory) ⊎ (e ≡ Refused RingFull)))
    × OnErr answer (SameClient before after)))

-- the next note was read, or none was there; of those that were read before, no more are kept than were
abbrev pub IsNoteRead : (before after : ClientEnd) → Result (Option Note) AllocError → Type 0
IsNoteRead before after answer =
    IfOk answer (λ r. MatchOption r (after ≡ lets_read_go before after.read_gone) (λ n. after ≡ reads before n after.read_gone)) × (before.read_gone ≤ after.read_gone)
    × OnErr answer (after ≡ lets_read_go before after.read_gone)

-- a note is written, if there is one; else the place is unchanged
abbrev pub IsNoteWritten : (old new : CNote) → Result (Option Note) AllocError → Type 0
IsNoteWritten old new (Ok (Some note)) = new ≡ shown_note note
IsNoteWritten old new (Ok None) = new ≡ old
IsNoteWritten old new (Err _) = new ≡ old
