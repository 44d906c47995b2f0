use Rattle.std.proofs.Common.{◌≡◌, ◌+◌, ◌-◌, List, ◌++◌, length, true}
use Rattle.std.specs.Prelude.{vec_len, vec_capacity}
use Rattle.crossbeam_channel.specs.Claims.{view, IsSeatAt}
use Rattle.crossbeam_channel.specs.Ends.{receives_on}
use Rattle.segment_rings.specs.declared.words.Delivery.{Delivery}
use Rattle.port_relay.specs.Line.{log}
use Rattle.port_relay.proofs.line.drain.Given as goal

abbrev pub invariant-loop-delivery : goal.invariant-loop-delivery
invariant-loop-delivery g l =
    IsSeatAt (receives_on l.receiver) l.pass
    × (view l.pass ≡ log true true (view l.initial.pass).put (view l.pass).taken)
    × ((front : List Delivery) → front ++ l.initial.left.items ≡ (view l.initial.pass).taken → front ++ l.left.items ≡ (view l.pass).taken)
    × (vec_len l.left + length (view l.initial.pass).taken ≡ vec_len l.initial.left + length (view l.pass).taken)
    × (vec_capacity l.left ≡ vec_capacity l.initial.left)

abbrev pub decreases-loop-delivery : goal.decreases-loop-delivery
decreases-loop-delivery g l = length (view l.pass).put - length (view l.pass).taken
