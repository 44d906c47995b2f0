use Rattle.std.proofs.Common.{◌≡◌, ◌≤◌, true}
use Rattle.crossbeam_channel.specs.Claims.{view, IsSeatAt}
use Rattle.crossbeam_channel.specs.Ends.{sends_on}
use Rattle.segment_rings.specs.Ends.{InboxEnd}
use Rattle.port_relay.specs.Working.{HasPulled}
use Rattle.port_relay.proofs.working.pull_turns.Given as goal

abbrev pub invariant-loop-turn : goal.invariant-loop-turn
invariant-loop-turn g l =
    IsSeatAt (sends_on l.line) l.pass
    × ((view l.pass).puts ≡ true)
    × ((start : InboxEnd) → HasPulled start l.fn.inbox (view l.fn.pass) l.fn.worked → HasPulled start l.inbox (view l.pass) l.worked)
    × (l.worked.count ≤ l.terms.limit)
