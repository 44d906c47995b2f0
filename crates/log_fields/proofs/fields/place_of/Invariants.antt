use Rattle.std.proofs.Common.{◌≡◌, ◌+◌, drop, option_map}
use Rattle.log_fields.specs.Fields.{place_of}
use Rattle.log_fields.proofs.fields.place_of.Given as goal

abbrev pub invariant-loop-at : goal.invariant-loop-at
invariant-loop-at l = option_map (λ k. l.at + k) (place_of l.wanted (drop l.at l.text)) ≡ place_of l.wanted l.text
