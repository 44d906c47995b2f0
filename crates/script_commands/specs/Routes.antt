-- What the words of a route ask for, or the first fault.
use Rattle.std.specs.Prelude.{ℕ, List, [], ◌∷◌, Result, Ok, Err}
use Rattle.script_commands.specs.Values.{◌>>=◌, address_of, port_of}
use Rattle.line_faults.specs.declared.fault.Fault.{Fault}
use Rattle.line_faults.specs.declared.fault.Fault.TheVariants.{WrongNumberOfWords}
use Rattle.script_commands.specs.declared.route.RouteWords.{RouteWords}

unfoldable pub route_of : List (List ℕ) → Result RouteWords Fault
route_of (at ∷ a ∷ b ∷ []) = do
  port ← port_of at
  from ← address_of a
  to ← address_of b
  Ok (record { port = port; from = from; to = to })
route_of words = Err WrongNumberOfWords
