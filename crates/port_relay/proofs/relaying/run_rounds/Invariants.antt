use Rattle.std.proofs.Common.{◌≡◌, ◌≤◌, true, Some}
use Rattle.crossbeam_channel.specs.Claims.{view, IsSeatAt}
use Rattle.crossbeam_channel.specs.Ends.{sends_on}
use Rattle.port_relay.specs.declared.stopping.Ended.TheVariants.{Limit}
use Rattle.port_relay.specs.Working.{HasPulled, HasPushed}
use Rattle.port_relay.proofs.relaying.run_rounds.Given as goal

abbrev pub invariant-loop : goal.invariant-loop
invariant-loop g l =
    (IsSeatAt (sends_on l.sender) l.puller.pass × IsSeatAt (sends_on l.sender) l.pusher.pass)
    × (((view l.puller.pass).puts ≡ true) × ((view l.pusher.pass).takes ≡ true))
    × HasPulled l.fn.inbox l.inbox (view l.puller.pass) l.puller.worked
    × HasPushed l.terms.to l.fn.client l.client (view l.pusher.pass) l.pusher.worked
    × (l.puller.worked.count ≤ l.terms.limit)
    × (l.pusher.worked.count ≤ l.pusher.course.turns)
    × (l.puller.course.ended ≡ Some Limit → l.puller.worked.count ≡ l.terms.limit)
