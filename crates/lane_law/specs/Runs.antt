-- Runs of a machine. A machine is two functions: when an event may happen in a state, and the state after it.
use Rattle.std.specs.Prelude.{◌≡◌, List, [], ◌∷◌}

-- each of these events may happen in its turn
abbrev pub MayRun : {Event State : Type 0} → (Event → State → Type 0) → (Event → State → State) → List Event → State → Type 0
MayRun may after [] state = Unit {0}
MayRun may after (event ∷ events) state = may event state × MayRun may after events (after event state)

-- the state after all of them
abbrev pub run : {Event State : Type 0} → (Event → State → State) → List Event → State → State
run after [] state = state
run after (event ∷ events) state = run after events (after event state)

-- some events take the first state to the last one
abbrev pub Leads : {Event State : Type 0} → (Event → State → Type 0) → (Event → State → State) → State → State → Type 0
Leads {Event} {State} may after first last = (events : List Event) × MayRun may after events first × (run after events first ≡ last)
