use Rattle.std.proofs.Common.{sym, subst}
use Rattle.drive_course.specs.Taken.{Takes}
use Rattle.drive_course.proofs.Taken.{first_tell_more}
use Rattle.drive_course.proofs.seen.Seen.taken_by_first.Goals as goal

pub returns-then-not-note-clause-steps : goal.returns-then-not-note-clause-steps
returns-then-not-note-clause-steps c =
    let station = c.taken_by.new.station in
    let told = c.taken_by.new.told in
    first_tell_more c.loop-place.place c.args.self.now c.args.now c.args.stations.now c.loop-place.stations c.args.course.now c.loop-place.course c.note.new.course c.args.counts.now c.loop-place.counts c.note.new.counts
    c.index-stations-place.result station told c.loop-place.invariant.0 c.loop-place-test.true c.index-stations-place.is
    (subst (λ before. Takes before c.args.self.now c.args.now station told) (sym c.index-stations-place.is) c.if-not-taken_by.ensures.step) c.note.ensures.notes c.note.ensures.sums

pub loop-place-preserved : goal.loop-place-preserved
loop-place-preserved c =
    let station = c.taken_by.new.station in
    let told = c.taken_by.new.told in (
      first_tell_more c.loop-place.place c.args.self.now c.args.now c.args.stations.now c.loop-place.stations c.args.course.now c.loop-place.course c.note.new.course c.args.counts.now c.loop-place.counts c.note.new.counts
          c.index-stations-place.result station told c.loop-place.invariant.0 c.loop-place-test.true c.index-stations-place.is
          (subst (λ before. Takes before c.args.self.now c.args.now station told) (sym c.index-stations-place.is) c.if-not-taken_by.ensures.step) c.note.ensures.notes c.note.ensures.sums,
      c.note.ensures.told,
      c.if-not-note.ensures.room,
    )
