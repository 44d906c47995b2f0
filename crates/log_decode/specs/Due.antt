-- When messages under way become silent.
use Rattle.std.specs.Prelude.{ℕ, ◌+◌, ◌≤◌, [], ◌∷◌, ⊤}
use Rattle.log_decode.specs.Session.{patience}
use Rattle.log_decode.specs.Sessions.{Sessions}

-- none of them before this time, in microseconds
abbrev pub NoneDueBefore : (time : ℕ) → Sessions → Type 0
NoneDueBefore time [] = ⊤
NoneDueBefore time (e ∷ es) = (time ≤ e.1.heard + patience e.0.to) × NoneDueBefore time es
