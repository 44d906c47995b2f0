use Rattle.std.proofs.Common.{◌≡◌, ◌++◌}
use Rattle.script_text.specs.Replies.{event_lines}
use Rattle.script_text.proofs.replies.print_events.Given as goal

-- what is printed, and the lines of the events that are left
abbrev pub invariant-loop-event : goal.invariant-loop-event
invariant-loop-event l = l.out.items ++ event_lines l.event-iterator ≡ l.fn.out.items ++ event_lines l.events
