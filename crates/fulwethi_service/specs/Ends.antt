-- The ends of rings that go to applications: clients, and the inboxes of ports.
use Rattle.std.specs.Prelude.{◌≡◌, ℕ, [], Option, Some, None, Result, Ok, Err}
use Rattle.pgn_ids.specs.declared.address.Address.{Address}
use Rattle.segment_law.specs.declared.refusal.Refusal.{Refusal}
use Rattle.segment_rings.specs.Ends.{ClientEnd, InboxEnd, with_room_kept, IsPlaces}
use Rattle.live_segment.specs.LiveView.{LiveView, SameLive, Attached, OpenedWith, IsOpenCause}
use Rattle.live_segment.specs.Refusals.{attaching_refusal}
use Rattle.live_segment.specs.Reports.{ClosedFor, IsCloseCause}
use Rattle.live_segment.specs.declared.closing.Closed.{Closed}
use Rattle.live_segment.specs.declared.refused.NotMade.{NotMade}
use Rattle.live_segment.specs.declared.refused.NotMade.TheVariants.{Refused, OutOfMemory}
use Rattle.c_parts.specs.Codes.{value_code}
use Rattle.fulwethi_service.specs.Codes.{not_made_code}
use Rattle.fulwethi_service.specs.declared.desk.Desk.{Desk}
use Rattle.fulwethi_service.specs.declared.post.Post.{Post}

-- the handle has a new client of the station; or it is unchanged, since the station can have no more, or else for want of memory
abbrev pub IsAttached : (station : Address) → (old new : Option Desk) → (before after : LiveView) → Result (Unit {0}) NotMade → Type 0
IsAttached station old new before after (Ok _) =
    (c : ClientEnd) × Attached before after station c × ((desk : Desk) × (new ≡ Some desk) × (desk.client ≡ Some c))
IsAttached station old new before after (Err (Refused c)) = (new ≡ old) × (after ≡ before) × (attaching_refusal before station ≡ Some c)
IsAttached station old new before after (Err OutOfMemory) = (new ≡ old) × (after ≡ before) × (attaching_refusal before station ≡ None)

-- a port was opened, its number is written, and its inbox, whose ring has so many places, has nothing
abbrev pub IsOpenedAt : (station : Address) → (pgn max_len places : ℕ) → (port port' : ℕ) → (old new : Option Post) → (before after : LiveView) → Result (Unit {0}) NotMade → Type 0
IsOpenedAt station pgn max_len places port port' old new before after (Ok _) =
    (i : InboxEnd) × OpenedWith before after station pgn max_len places i × (port' ≡ i.port.number)
    × ((post : Post) × (new ≡ Some post) × (post.inbox ≡ Some i) × (post.held ≡ None) × (post.rest.items ≡ []))
IsOpenedAt station pgn max_len places port port' old new before after (Err e) = (new ≡ old) × (port' ≡ port) × (after ≡ before) × IsOpenCause before station pgn max_len e

-- nothing is done with what isn't a PGN
abbrev pub IsOpened : (station : Address) → (pgn : Result ℕ Refusal) → (max_len places : ℕ) → (port port' : ℕ) → (old new : Option Post) → (before after : LiveView) → Result (Unit {0}) NotMade → Type 0
IsOpened station (Err cause) max_len places port port' old new before after answer = (answer ≡ Err (Refused cause)) × (after ≡ before) × (new ≡ old) × (port' ≡ port)
IsOpened station (Ok pgn) max_len places port port' old new before after answer = IsOpenedAt station pgn max_len places port port' old new before after answer

-- nothing is done if an inbox can't have so many places
abbrev pub IsOpenedIn : (places : ℕ) → (station : Address) → (pgn : Result ℕ Refusal) → (max_len : ℕ) → (port port' : ℕ) → (old new : Option Post) → (before after : LiveView) → Option (Result (Unit {0}) NotMade) → Type 0
IsOpenedIn places station pgn max_len port port' old new before after None = (IsPlaces places → ⊥) × (after ≡ before) × (new ≡ old) × (port' ≡ port)
IsOpenedIn places station pgn max_len port port' old new before after (Some answer) = IsPlaces places × IsOpened station pgn max_len places port port' old new before after answer

-- the code of an opening; none: an inbox can't have so many places
abbrev pub opened_code : Option (Result (Unit {0}) NotMade) → ℕ
opened_code None = 76
opened_code (Some answer) = value_code not_made_code answer

-- the port of an inbox was closed, and what the inbox didn't receive follows what is held; else the inbox is unchanged, but for the
-- room that it keeps
abbrev pub IsClosedAt : (old new : Post) → (before after : LiveView) → InboxEnd → Result (Unit {0}) NotMade → Type 0
IsClosedAt old new before after i (Ok _) = (j : InboxEnd) × (r : Closed) × ClosedFor before after i j r × (new.inbox ≡ Some j) × (new.held ≡ old.held) × (new.rest.items ≡ r.rest.items)
IsClosedAt old new before after i (Err e) = (spare : ℕ) × IsCloseCause before i e × SameLive before after × (new.inbox ≡ Some (with_room_kept i spare)) × (new.held ≡ old.held) × (new.rest ≡ old.rest)

abbrev pub IsClosed : (old new : Post) → (before after : LiveView) → Result (Unit {0}) NotMade → Type 0
IsClosed old new before after answer = (i : InboxEnd) → old.inbox ≡ Some i → IsClosedAt old new before after i answer
