-- New services.
use Rattle.std.specs.Prelude.{◌≡◌, false, List, [], Option, Some, None, Result, Ok, Err}
use Rattle.pgn_ids.specs.declared.address.Address.{Address}
use Rattle.live_segment.specs.LiveView.{LiveView, live_view, keep}
use Rattle.live_segment.specs.Refusals.{making_refusal}
use Rattle.live_segment.specs.declared.refused.NotMade.{NotMade}
use Rattle.live_segment.specs.declared.refused.NotMade.TheVariants.{Refused, OutOfMemory}

-- the handle has a new service; or it is unchanged, because of the addresses, or else for want of memory
abbrev pub IsMade : List Address → (old new : Option LiveView) → Result (Unit {0}) NotMade → Type 0
IsMade addresses old new (Ok _) = new ≡ Some (live_view (keep false []) addresses [] [] [])
IsMade addresses old new (Err (Refused c)) = (new ≡ old) × (making_refusal addresses ≡ Some c)
IsMade addresses old new (Err OutOfMemory) = (new ≡ old) × (making_refusal addresses ≡ None)
