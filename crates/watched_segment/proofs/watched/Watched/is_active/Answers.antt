use Rattle.std.proofs.Common.{rules, ◌≡◌, false, get_or, sym, ap, ◌∙◌, arith}
use Rattle.segment_law.specs.Segment.{Segment}
use Rattle.segment_state.specs.Next.{is_active}
use Rattle.watched_segment.proofs.watched.Watched.is_active.Goals as goal

pub returns-then-now-tick-clause-value : goal.returns-then-now-tick-clause-value
returns-then-now-tick-clause-value c =
    let seg = c.self.inside.segment in
    let ticks = c.self.inside.calm.items in
    let a = c.args.station in
    let at : c.in-Some.tick.now ≡ get_or ticks a.0 0 = search rules in
    let now_is : c.now-now.result ≡ seg.now = c.now-now.ensures in
    let calm : is_active seg a ≡ false = c.self.invariant a seg.now (omega (arith, at, now_is, c.if-now-tick.true)) in
    sym calm ∙ ap (λ (s : Segment). is_active s a) c.self.view_is
