-- Items of an array, or members of an object, with a comma before each but the first.
use Rattle.std.specs.Prelude.{ℕ, List, [], ◌∷◌, ◌++◌, Bool, true}
use Rattle.serde_json.specs.Written.{comma_if}

abbrev pub joined : {X : Type 0} → (later : Bool) → (X → List ℕ) → List X → List ℕ
joined later f [] = []
joined later f (x ∷ xs) = comma_if later ++ (f x ++ joined true f xs)
