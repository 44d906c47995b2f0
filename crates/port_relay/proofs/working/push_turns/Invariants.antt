use Rattle.std.proofs.Common.{◌≡◌, ◌≤◌, true}
use Rattle.crossbeam_channel.specs.Claims.{view, IsSeatAt}
use Rattle.crossbeam_channel.specs.Ends.{receives_on}
use Rattle.segment_rings.specs.Ends.{ClientEnd}
use Rattle.port_relay.specs.Working.{HasPushed}
use Rattle.port_relay.proofs.working.push_turns.Given as goal

abbrev pub invariant-loop-turn : goal.invariant-loop-turn
invariant-loop-turn g l =
    IsSeatAt (receives_on l.line) l.pass
    × ((view l.pass).takes ≡ true)
    × ((start : ClientEnd) → HasPushed l.terms.to start l.fn.client (view l.fn.pass) l.fn.worked → HasPushed l.terms.to start l.client (view l.pass) l.worked)
    × (l.worked.count ≤ l.turn)
    × (l.turns ≡ l.turn)
