use Rattle.crossbeam_channel.specs.Claims.{view}
use Rattle.crossbeam_channel.specs.Ends.{sends_on, ruled_capacity}
use Rattle.port_relay.proofs.Moves.{puts_one}
use Rattle.port_relay.proofs.line.put.Goals as goal

pub try_send_as-requires-clause-rule : goal.try_send_as-requires-clause-rule
try_send_as-requires-clause-rule g c = (puts_one (ruled_capacity (sends_on c.args.sender.now)) c.args.pass.now.id (view c.args.pass.now) c.args.delivery c.requires.places c.requires.may, λ items views h at. tt)
