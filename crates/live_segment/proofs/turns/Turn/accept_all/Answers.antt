use Rattle.std.proofs.Common.{length, sym, subst, arith}
use Rattle.live_segment.specs.LiveView.{LiveView}
use Rattle.live_segment.specs.Turns.{AcceptsBelow, point}
use Rattle.live_segment.proofs.Resting.{below_at_rest}
use Rattle.live_segment.proofs.turns.Turn.accept_all.Goals as goal

pub returns-else-is_called : goal.returns-else-is_called
returns-else-is_called c =
    let v = c.args.live.now in
    let t = c.args.self.now in
    subst (λ (u : LiveView). AcceptsBelow (length v.clients) c.args.station (point v t) (point u t)) (sym c.is_called.ensures.same)
    (below_at_rest (length v.clients) v t c.args.station (omega arith) (c.is_called.ensures.rests c.if-is_called.false))
