use Rattle.crossbeam_channel.specs.Claims.{view}
use Rattle.port_relay.proofs.Moves.{takes_one, holds_the_rest}
use Rattle.port_relay.proofs.line.take.Goals as goal

pub try_recv_as-requires-clause-rule : goal.try_recv_as-requires-clause-rule
try_recv_as-requires-clause-rule g c =
    (takes_one c.args.pass.now.id (view c.args.pass.now) c.requires.may, λ items views h at puts takes. (holds_the_rest c.args.pass.now.id (view c.args.pass.now) puts takes items views h at).1)
