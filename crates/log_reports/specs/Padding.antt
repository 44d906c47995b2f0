-- Padding.
use Rattle.std.specs.Prelude.{ℕ, List, [], ◌∷◌, Bool, true, ◌&&◌, ◌==◌}

-- each byte is FF
abbrev pub is_filled : List ℕ → Bool
is_filled [] = true
is_filled (b ∷ bs) = b == 255 && is_filled bs
