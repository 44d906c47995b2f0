use Rattle.std.proofs.Common.{◌≡◌, true, inl, inr, subst}
use Rattle.segment_law.specs.declared.reply.Reply.TheVariants.{Done}
use Rattle.live_segment.specs.LiveView.{LiveView}
use Rattle.live_segment.specs.Passing.{IsMadePlainly}
use Rattle.live_segment.specs.Turns.{Makes, point}
use Rattle.live_segment.proofs.turns.Turn.make.Goals as goal

pub returns-then-make_plainly : goal.returns-then-make_plainly
returns-then-make_plainly c =
    let a = c.args.live.now in
    let b = c.make_plainly.new.self in
    let p : IsMadePlainly a c.args.call.now b true = subst (IsMadePlainly a c.args.call.now b) c.if-make_plainly.true c.make_plainly.ensures in
    inl (Done p.1.0, inr (p.0, (true, p.1.1)), c.add.ensures)

pub returns : goal.returns
returns c =
    let a = c.args.live.now in
    let b = c.make_plainly.new.self in
    let same : b ≡ a = subst (IsMadePlainly a c.args.call.now b) c.if-make_plainly.false c.make_plainly.ensures in
    subst (λ (u : LiveView). Makes c.args.call.now (point u c.args.self.now) (point c.make_apart.new.live c.make_apart.new.self)) same c.make_apart.ensures
