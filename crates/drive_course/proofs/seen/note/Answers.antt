use Rattle.std.proofs.Common.{length, eqb-true, sym, ◌∙◌}
use Rattle.std.proofs.lemmas.List.{nil_from_length}
use Rattle.drive_course.proofs.Taken.{nothing_noted, nothing_counted}
use Rattle.drive_course.proofs.seen.note.Goals as goal

pub returns-then-is_empty-clause-notes : goal.returns-then-is_empty-clause-notes
returns-then-is_empty-clause-notes c =
    nothing_noted c.args.course.now c.args.told.now (nil_from_length c.args.told.now (eqb-true (length c.args.told.now) 0 (sym c.is_empty.ensures ∙ c.if-is_empty.true)))

pub returns-then-is_empty-clause-sums : goal.returns-then-is_empty-clause-sums
returns-then-is_empty-clause-sums c =
    nothing_counted c.args.counts.now c.args.told.now (nil_from_length c.args.told.now (eqb-true (length c.args.told.now) 0 (sym c.is_empty.ensures ∙ c.if-is_empty.true)))

pub returns-then-is_empty-clause-told : goal.returns-then-is_empty-clause-told
returns-then-is_empty-clause-told c = nil_from_length c.args.told.now (eqb-true (length c.args.told.now) 0 (sym c.is_empty.ensures ∙ c.if-is_empty.true))
