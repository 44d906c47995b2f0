use Rattle.std.proofs.Common.{sym, ap, ◌∙◌}
use Rattle.message_events.specs.declared.event.Event.{Event}
use Rattle.live_record.specs.Record.{notes_at}
use Rattle.live_ends.specs.Ends.{note_all}
use Rattle.live_ends.proofs.Noting.{note_all_none}
use Rattle.live_ends.proofs.settle.settle_event.Goals as goal

pub returns-clause-seats : goal.returns-clause-seats
returns-clause-seats c =
    let ss = c.args.seats.now.items in
    sym (note_all_none ss) ∙ ap (λ (e : Event). note_all (notes_at c.args.owed.now.items e) ss) (sym c.in_default.is)
