-- Clients that are detached, and ports that are closed without their inboxes.
use Rattle.std.specs.Prelude.{◌≡◌, ℕ, Option, Some, None, Result, Ok, Err}
use Rattle.port_table.specs.declared.port.PortId.{PortId}
use Rattle.segment_rings.specs.Ends.{ClientEnd}
use Rattle.live_segment.specs.LiveView.{LiveView, SameLive}
use Rattle.live_segment.specs.Detaching.{DetachedFrom, detaching_refusal}
use Rattle.live_segment.specs.Reports.{PortClosed, IsPortCause}
use Rattle.live_segment.specs.declared.detaching.NotDetached.{NotDetached}
use Rattle.live_segment.specs.declared.detaching.NotDetached.TheVariants.{NoSuchClient, Gone}
use Rattle.live_segment.specs.declared.refused.NotMade.{NotMade}
use Rattle.fulwethi_service.specs.declared.desk.Desk.{Desk}

abbrev pub detached_code : Result (Unit {0}) NotDetached → ℕ
detached_code (Ok _) = 0
detached_code (Err NoSuchClient) = 73
detached_code (Err Gone) = 74

-- the client of this number was detached; or there is none, or it is gone, and nothing has changed
abbrev pub IsDetached : (client : ℕ) → (before after : LiveView) → Result (Unit {0}) NotDetached → Type 0
IsDetached client before after (Ok _) = DetachedFrom before after client × (detaching_refusal before client ≡ None)
IsDetached client before after (Err e) = (after ≡ before) × (detaching_refusal before client ≡ Some e)

-- a port was closed, or for its cause nothing has changed but what is known of the rings
abbrev pub IsPortClosed : PortId → (before after : LiveView) → Result (Unit {0}) NotMade → Type 0
IsPortClosed port before after (Ok _) = PortClosed before after port
IsPortClosed port before after (Err e) = IsPortCause before port e × SameLive before after

-- the number of a desk's client; 0 without one
abbrev pub number_of : Option ClientEnd → ℕ
number_of None = 0
number_of (Some c) = c.id

-- the client is unchanged, and its number is written
abbrev pub IsNumbered : (number : ℕ) → (before after : Desk) → Unit {0} → Type 0
IsNumbered number before after _ = (after ≡ before) × (number ≡ number_of before.client)
