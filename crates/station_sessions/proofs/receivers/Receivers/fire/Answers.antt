use Rattle.session_table.specs.Leading.{by_timer}
use Rattle.session_table.specs.Sessions.{state_at}
use Rattle.station_sessions.proofs.Leading.{none_held_after}
use Rattle.station_sessions.proofs.receivers.Receivers.fire.Goals as goal

pub invariant_of-self : goal.invariant_of-self
invariant_of-self c =
    none_held_after (by_timer c.flow_of-flow.result c.args.now) c.args.key c.self.inside.table c.fire.new.self c.args.queue.now c.fire.new.queue c.self.invariant
    (state_at c.self.inside.table c.args.key) c.fire.result c.fire.ensures
