-- Whether a client and an inbox had what the record says.
use Rattle.std.specs.Prelude.{◌≡◌, ◌↔◌, ℕ, Bool, true, false, Option, Some, IsTrue}
use Rattle.segment_rings.specs.Ends.{ClientEnd, InboxEnd}
use Rattle.live_segment.specs.LiveView.{LiveView}
use Rattle.live_segment.specs.Reports.{ClientAgrees, InboxAgrees}
use Rattle.fulwethi_service.specs.declared.desk.Desk.{Desk}
use Rattle.fulwethi_service.specs.declared.post.Post.{Post}

abbrev pub agrees_code : Bool → ℕ
agrees_code true = 0
agrees_code false = 30

-- true exactly if what the client submitted since the last cut begins with what was accepted since, and what it read is the first of its
-- notes
abbrev pub IsClientCompared : LiveView → Desk → Bool → Type 0
IsClientCompared v desk answer = (c : ClientEnd) → desk.client ≡ Some c → IsTrue answer ↔ ClientAgrees v c

-- true exactly if what the inbox received is the first of what its port was given
abbrev pub IsInboxCompared : LiveView → Post → Bool → Type 0
IsInboxCompared v post answer = (i : InboxEnd) → post.inbox ≡ Some i → IsTrue answer ↔ InboxAgrees v i

-- the service and what is compared with it are unchanged
abbrev pub IsCompared : {A : Type 0} → (does : LiveView → A → Bool → Type 0) → (old new : Option A) → (before after : LiveView) → Bool → Type 0
IsCompared {A = A} does old new before after answer = (after ≡ before) × (new ≡ old) × ((a : A) → old ≡ Some a → does before a answer)
