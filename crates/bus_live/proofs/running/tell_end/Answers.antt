use Rattle.bus_live.proofs.Coming.{at_same}
use Rattle.bus_live.proofs.running.tell_end.Goals as goal

pub returns : goal.returns
returns c = at_same _ _ _ _ _ _ _ _ c.as_slice-stations.ensures.value c.as_slice-ports.ensures.value c.as_slice-messages.ensures.value (_, c.in_ok-told.ensures.came)
