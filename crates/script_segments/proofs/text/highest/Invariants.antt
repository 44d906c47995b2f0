use Rattle.std.proofs.Common.{◌≡◌, drop, max}
use Rattle.script_segments.specs.Texts.{highest}
use Rattle.script_segments.proofs.text.highest.Given as goal

abbrev pub invariant-loop-note : goal.invariant-loop-note
invariant-loop-note l = max l.top (highest (drop l.note-index l.notes)) ≡ highest l.notes
