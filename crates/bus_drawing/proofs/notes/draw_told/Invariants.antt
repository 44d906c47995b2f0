use Rattle.std.proofs.Common.{◌≡◌, ◌++◌}
use Rattle.bus_drawing.specs.Notes.{notes}
use Rattle.bus_drawing.proofs.notes.draw_told.Given as goal

-- what is drawn, and the notes of the events that are left
abbrev pub invariant-loop-event : goal.invariant-loop-event
invariant-loop-event l = l.out.items ++ notes l.event-iterator ≡ l.fn.out.items ++ notes l.events
