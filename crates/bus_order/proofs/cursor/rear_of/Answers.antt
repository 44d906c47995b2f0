use Rattle.std.proofs.Common.{◌≡◌, ◌<◌, ◌+◌, ◌++◌, [], ◌∷◌, length, take, sym, ap, ◌∙◌, subst, length-take, arith}
use Rattle.std.proofs.lemmas.List.{take_more}
use Rattle.bus_order.specs.Bus.{Cursor}
use Rattle.bus_order.specs.Rear.{IsRear}
use Rattle.bus_order.proofs.Cursors.{rear_below, rear_beside, rear_before}
use Rattle.bus_order.proofs.cursor.rear_of.Goals as goal
use Rattle.bus_order.proofs.cursor.rear_of.Goals.{then-cursor-rear, else-cursor-rear+then-cursor-rear-2, else-cursor-rear+else-cursor-rear-2}

pub loop-i-preserved : goal.loop-i-preserved
loop-i-preserved c =
    let cs = take c.loop-i.i c.args.cursors.now in
    let cursor : Cursor = c.index-cursors-i.result in
    let place : c.cursor.inside.place ≡ cursor.place = ap (λ x. x.place) c.cursor.view_is in
    let some : 0 < length cs = omega (arith, length-take c.loop-i.i c.args.cursors.now, c.loop-i-test.true, c.loop-i.invariant.0) in
    let before : IsRear c.loop-i.rear cs = c.loop-i.invariant.1 in
    let more : IsRear c.if-cursor-rear.rear (cs ++ cursor ∷ []) =
    elim c.if-cursor-rear.branch [
      | then-cursor-rear w ↦ rw (w.rear-is, place) (rear_below c.loop-i.rear cs cursor some before (omega (arith, place, w.if-cursor-rear.true)))
      | else-cursor-rear+then-cursor-rear-2 w ↦ rw w.rear-is (rear_beside c.loop-i.rear cs cursor some before (omega (arith, place, w.if-cursor-rear-2.true)))
      | else-cursor-rear+else-cursor-rear-2 w ↦ rw w.rear-is (rear_before c.loop-i.rear cs cursor some before (omega (arith, place, w.if-cursor-rear.false, w.if-cursor-rear-2.false)))
    ] in
    let next : take (c.loop-i.i + 1) c.args.cursors.now ≡ cs ++ cursor ∷ [] = take_more c.args.cursors.now c.loop-i.i cursor c.loop-i-test.true ∙ ap (λ y. cs ++ y ∷ []) (sym c.index-cursors-i.is) in
    (omega arith, subst (IsRear c.if-cursor-rear.rear) (sym next) more)
