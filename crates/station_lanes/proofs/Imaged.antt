-- Places that hold the same lanes are the same.
use Rattle.std.proofs.Common.{◌≡◌, ℕ, List, length, Option, None, ext_get_or, sym, ap, ◌∙◌}
use Rattle.std.specs.FinMap as map
use Rattle.lane_core.specs.Lane.{Lane}
use Rattle.station_lanes.specs.LaneSlots.{lanes_below}
use Rattle.station_lanes.proofs.SlotLaws.{get_lanes}

-- as many places, and the lanes are the same
pub same_places : (a b : List (Option Lane)) (n : ℕ) → length a ≡ n → length b ≡ n → lanes_below a (length a) ≡ lanes_below b (length b) → a ≡ b
same_places a b n la lb e = ext_get_or None a b (la ∙ sym lb) (λ q _. sym (get_lanes a q) ∙ ap (λ m. map.get m q) e ∙ get_lanes b q)

pub same_lanes : (a b : List (Option Lane)) → a ≡ b → lanes_below a (length a) ≡ lanes_below b (length b)
same_lanes a b e = ap (λ (s : List (Option Lane)). lanes_below s (length s)) e
