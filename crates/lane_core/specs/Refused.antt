-- What a refused message hands back.
use Rattle.std.specs.Prelude.{◌≡◌, ℕ, Bool, true, false, List}
use Rattle.lane_core.specs.declared.refused.PushRefused.{PushRefused}
use Rattle.lane_core.specs.declared.refused.PushRefused.TheVariants.{LaneFull, OutOfMemory}

-- the bytes; the lane is full, and else a growth was refused
abbrev pub IsHandedBack : Bool → List ℕ → PushRefused → Type 0
IsHandedBack is_full bytes (LaneFull back) = (is_full ≡ true) × (back ≡ bytes)
IsHandedBack is_full bytes (OutOfMemory back) = (is_full ≡ false) × (back ≡ bytes)
