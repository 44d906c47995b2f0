use Rattle.std.proofs.Common.{Err, sym}
use Rattle.one_station.proofs.Made.{fed_ready}
use Rattle.one_station.proofs.Resting.{early_undone}
use Rattle.one_station.proofs.node.Node.feed.Goals as goal

pub returns-in-Some : goal.returns-in-Some
returns-in-Some c =
    fed_ready c.args.self.now c.make_ready.new.self c.args.frame c.make_ready.new.self (Err c.in-Some.error) c.if-not-make_ready.ensures.ready
    (early_undone c.make_ready.new.self c.args.frame c.in-Some.error (sym c.in-Some.ensures))

pub returns-in-None : goal.returns-in-None
returns-in-None c = fed_ready c.args.self.now c.make_ready.new.self c.args.frame c.take_in.new.self c.take_in.result c.if-not-make_ready.ensures.ready c.take_in.ensures
