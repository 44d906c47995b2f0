use Rattle.std.proofs.Common.{◌≡◌, ◌++◌, take}
use Rattle.script_segments.specs.Texts.{numbered_lines}
use Rattle.script_segments.proofs.text.print_numbered.Given as goal

abbrev pub invariant-loop-note : goal.invariant-loop-note
invariant-loop-note l = l.out.items ≡ l.fn.out.items ++ numbered_lines l.fn.from l.to l.number (take l.note-index l.notes)
