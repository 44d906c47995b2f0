use Rattle.std.proofs.Common.{◌≡◌, ◌≤◌, ◌-◌, ◌++◌, drop, take}
use Rattle.script_commands.specs.Words.{texts, words_from, words_of}
use Rattle.script_commands.proofs.words.split_words.Given as goal

abbrev pub invariant-loop-at : goal.invariant-loop-at
invariant-loop-at l = record {
  within : l.start ≤ l.at;
  words : texts l.words.items ++ words_from (take (l.at - l.start) (drop l.start l.line)) (drop l.at l.line) ≡ words_of l.line;
}
