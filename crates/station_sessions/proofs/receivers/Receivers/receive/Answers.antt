use Rattle.std.proofs.Common.{◌≡◌, false, sym, subst}
use Rattle.session_table.specs.Leading.{by_frame}
use Rattle.session_table.specs.Sessions.{state_at}
use Rattle.station_sessions.specs.Ends.{completes_by}
use Rattle.station_sessions.specs.Receiving.{Inbound}
use Rattle.station_sessions.proofs.Leading.{none_held_after}
use Rattle.station_sessions.proofs.Parts.{IsLeftPart, no_whole}
use Rattle.station_sessions.proofs.receivers.Receivers.receive.Goals as goal

pub invariant_of-self : goal.invariant_of-self
invariant_of-self c =
    none_held_after (by_frame c.args.wire.now c.args.room c.flow_of-flow.result c.args.now) c.args.key c.self.inside.table c.take.new.self c.args.queue.now c.take.new.queue c.self.invariant
    (state_at c.self.inside.table c.args.key) c.take.result c.take.ensures

pub returns-in-Abort-clause-value : goal.returns-in-Abort-clause-value
returns-in-Abort-clause-value c =
    sym (subst (λ (m : Inbound). completes_by (state_at m c.args.key) c.args.wire.now ≡ false) c.self.view_is
    (no_whole c.args.wire.now c.args.room c.flow_of-flow.result c.args.now c.args.key c.self.inside.table c.take.new.self c.args.queue.now c.take.new.queue
    (state_at c.self.inside.table c.args.key) c.take.result (subst IsLeftPart (sym c.in-Abort.is) tt) c.take.ensures))

pub returns-in-Nothing-clause-value : goal.returns-in-Nothing-clause-value
returns-in-Nothing-clause-value c =
    sym (subst (λ (m : Inbound). completes_by (state_at m c.args.key) c.args.wire.now ≡ false) c.self.view_is
    (no_whole c.args.wire.now c.args.room c.flow_of-flow.result c.args.now c.args.key c.self.inside.table c.take.new.self c.args.queue.now c.take.new.queue
    (state_at c.self.inside.table c.args.key) c.take.result (subst IsLeftPart (sym c.in-Nothing.is) tt) c.take.ensures))
