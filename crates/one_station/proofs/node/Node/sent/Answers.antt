use Rattle.one_station.proofs.Made.{sent_ready}
use Rattle.one_station.proofs.node.Node.sent.Goals as goal

pub returns : goal.returns
returns c = sent_ready c.args.self.now c.make_ready.new.self c.pass_own.new.self c.pass_own.result c.if-not-make_ready.ensures.ready c.pass_own.ensures
