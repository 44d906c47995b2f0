use Rattle.std.proofs.Common.{◌∙◌, ap, length}
use Rattle.bus_relay.proofs.Accounts.{at_carried}
use Rattle.bus_relay.proofs.carrying.carry.Goals as goal

pub returns : goal.returns
returns g c = at_carried _ _ _ _ _ _ _ _ _ c.in_ok-check_new.ensures.0 c.in_ok-check_new.ensures.1 c.in_ok-relayed.ensures c.read_all.ensures.submitted (c.count_of-left.ensures ∙ ap length c.as_slice.ensures.value)
