use Rattle.std.proofs.Common.{◌≡◌, drop}
use Rattle.script_commands.specs.Words.{texts}
use Rattle.script_commands.specs.Values.{addresses_of}
use Rattle.script_commands.proofs.Steps.{with_addresses}
use Rattle.script_commands.proofs.values.addresses.Given as goal

abbrev pub invariant-loop-word : goal.invariant-loop-word
invariant-loop-word l = with_addresses l.found (addresses_of (drop l.word-index (texts l.words))) ≡ addresses_of (texts l.words)
