-- A frame on the bus.
use Rattle.std.specs.Prelude.{ℕ, List}

-- an identifier and its data bytes
pub record CanFrame : Type 0 where
  pub id : ℕ
  pub bytes : List ℕ
