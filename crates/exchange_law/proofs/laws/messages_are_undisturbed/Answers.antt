-- A destination is one station or all.
use Rattle.exchange_law.proofs.Quiets.{every_exchange}
use Rattle.exchange_law.proofs.laws.messages_are_undisturbed.Goals as goal

pub returns : goal.returns
returns c = every_exchange c.broadcasts_are_undisturbed.ensures c.connections_are_undisturbed.ensures
