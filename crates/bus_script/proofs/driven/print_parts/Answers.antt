use Rattle.std.proofs.Common.{List, ◌++◌, ◌∙◌, ap}
use Rattle.std.specs.List.{flat_map}
use Rattle.std.proofs.lemmas.List.{take_all}
use Rattle.message_events.specs.declared.event.Event.{Event}
use Rattle.script_text.specs.Replies.{event_lines}
use Rattle.bus_script.proofs.EventLines.{parts_lines}
use Rattle.bus_script.proofs.driven.print_parts.Goals as goal

pub returns : goal.returns
returns c =
    let parts : List (List Event) = c.args.parts.now in
    c.loop-part.invariant ∙ ap (λ (ps : List (List Event)). c.args.out.now.items ++ flat_map event_lines ps) (take_all c.loop-part.part-index parts c.loop-part-test.false)
    ∙ ap (λ x. c.args.out.now.items ++ x) (parts_lines parts)
