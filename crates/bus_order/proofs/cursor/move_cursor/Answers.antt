use Rattle.std.proofs.Common.{◌≡◌, get_or, arith}
use Rattle.bus_order.specs.Bus.{start}
use Rattle.bus_order.proofs.Cursors.{rear_left_behind, rear_same, rear_left, place_read}
use Rattle.bus_order.proofs.cursor.move_cursor.Goals as goal

pub returns-then-from-rear-clause-rear : goal.returns-then-from-rear-clause-rear
returns-then-from-rear-clause-rear c =
    let e : (get_or c.args.cursors.now c.args.at start).place ≡ c.from.inside.place = place_read c.args.cursors.now c.args.at c.from.inside.place c.index-cursors-at.result c.requires.at c.index-cursors-at.is cc in
    rear_left_behind c.args.rear c.args.cursors.now c.args.at c.args.to c.requires.rear c.requires.at c.requires.on (λ h. c.if-from-rear.true cc)

pub returns-then-to-from-clause-rear : goal.returns-then-to-from-clause-rear
returns-then-to-from-clause-rear c =
    let e : (get_or c.args.cursors.now c.args.at start).place ≡ c.from.inside.place = place_read c.args.cursors.now c.args.at c.from.inside.place c.index-cursors-at.result c.requires.at c.index-cursors-at.is cc in
    rear_same c.args.rear c.args.cursors.now c.args.at c.args.to c.requires.rear c.requires.at cc

pub returns-then-rear-gt1-clause-rear : goal.returns-then-rear-gt1-clause-rear
returns-then-rear-gt1-clause-rear c =
    let e : (get_or c.args.cursors.now c.args.at start).place ≡ c.from.inside.place = place_read c.args.cursors.now c.args.at c.from.inside.place c.index-cursors-at.result c.requires.at c.index-cursors-at.is cc in
    let p : c.to.inside.place ≡ c.args.to.place = cc in
    rear_left c.args.rear c.args.cursors.now c.args.at c.args.to c.requires.rear c.requires.at (cc) (omega arith) (omega arith)
