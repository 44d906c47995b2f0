use Rattle.std.proofs.Common.{◌≡◌, ◌+◌, drop, option_map}
use Rattle.script_commands.specs.Words.{dot_in}
use Rattle.script_commands.proofs.words.place_of_dot.Given as goal

abbrev pub invariant-loop-at : goal.invariant-loop-at
invariant-loop-at l = option_map (λ k. l.at + k) (dot_in (drop l.at l.word)) ≡ dot_in l.word
