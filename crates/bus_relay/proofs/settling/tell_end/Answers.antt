use Rattle.bus_relay.proofs.Comings.{at_told}
use Rattle.bus_relay.proofs.settling.tell_end.Goals as goal

pub returns : goal.returns
returns c = at_told _ _ _ _ _ _ _ _ _ _ _ c.as_slice-near_stations.ensures.value c.as_slice-far_stations.ensures.value c.as_slice-ports.ensures.value c.as_slice-messages.ensures.value
    (_, _, _, c.in_ok-told.ensures c.args.known.now.passage c.in_ok-settled.ensures.carries c.in_ok-settled.ensures.whole)
