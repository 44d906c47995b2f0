-- Why no segment is made, and why no client is attached: of several causes the first.
use Rattle.std.specs.Prelude.{◌≡◌, not, nat_le, if◌then◌else◌, List, Option, Some, None}
use Rattle.pgn_ids.specs.declared.address.Address.{Address}
use Rattle.segment_law.specs.Segment.{are_addresses}
use Rattle.segment_law.specs.declared.refusal.Refusal.{Refusal}
use Rattle.segment_law.specs.declared.refusal.Refusal.TheVariants.{BadAddresses, NoSuchStation, ClientsFull}
use Rattle.live_segment.specs.LiveView.{LiveView, is_station_of, clients_at}
use Rattle.live_segment.specs.declared.live.TheConstants.{MOST_CLIENTS}
use Rattle.live_segment.specs.declared.refused.NotMade.{NotMade}
use Rattle.live_segment.specs.declared.refused.NotMade.TheVariants.{Refused, OutOfMemory}

-- the cause that is returned: the first cause; want of memory only if there is none
abbrev pub IsAnsweredBy : (refusal : Option Refusal) → (answered : Option NotMade) → Type 0
IsAnsweredBy refusal None = refusal ≡ None
IsAnsweredBy refusal (Some (Refused cause)) = refusal ≡ Some cause
IsAnsweredBy refusal (Some OutOfMemory) = refusal ≡ None

abbrev pub making_refusal : List Address → Option Refusal
making_refusal addresses = if not (are_addresses addresses) then Some BadAddresses else None

abbrev pub attaching_refusal : LiveView → (station : Address) → Option Refusal
attaching_refusal v station =
    if not (is_station_of v.addresses station) then Some NoSuchStation
    else if nat_le MOST_CLIENTS (clients_at station v.clients) then Some ClientsFull
    else None
