use Rattle.std.proofs.Common.{◌≡◌, length, List, refl, sym, ap, ◌∙◌, eqb-true, arith, []}
use Rattle.message_events.specs.declared.event.Event.{Event}
use Rattle.live_record.specs.Record.{settle_notes}
use Rattle.live_ends.specs.Ends.{give_all, note_all}
use Rattle.live_ends.proofs.Giving.{give_all_none}
use Rattle.live_ends.proofs.Noting.{note_all_none}
use Rattle.live_ends.proofs.Lists.{no_items}
use Rattle.live_ends.proofs.telling.tell.Goals as goal

pub returns-then-is_empty-clause-doors : goal.returns-then-is_empty-clause-doors
returns-then-is_empty-clause-doors c =
    let count : length c.args.events.now ≡ 0 = eqb-true (length c.args.events.now) 0 (sym c.is_empty.ensures ∙ c.if-is_empty.true) in
    let none : c.args.events.now ≡ [] = no_items c.args.events.now (omega (arith, count)) in
    sym (ap (λ (es : List Event). give_all es c.args.doors.now.items) none ∙ give_all_none [] c.args.doors.now.items (λ q. refl))

pub returns-then-is_empty-clause-seats : goal.returns-then-is_empty-clause-seats
returns-then-is_empty-clause-seats c =
    let count : length c.args.events.now ≡ 0 = eqb-true (length c.args.events.now) 0 (sym c.is_empty.ensures ∙ c.if-is_empty.true) in
    let none : c.args.events.now ≡ [] = no_items c.args.events.now (omega (arith, count)) in
    sym (ap (λ (es : List Event). note_all (settle_notes c.args.owed.now.items es) c.args.seats.now.items) none ∙ note_all_none c.args.seats.now.items)
