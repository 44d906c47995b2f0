use Rattle.std.proofs.Common.{subst, sym}
use Rattle.station_sessions.specs.Receiving.{NoneHeld}
use Rattle.station_sessions.proofs.SessionMaps.{none_held_removed}
use Rattle.station_sessions.proofs.receivers.Receivers.complete.Goals as goal

pub invariant_of-self : goal.invariant_of-self
invariant_of-self c = subst NoneHeld (sym c.in-Some-remove.ensures.removed) (none_held_removed c.self.inside.table c.args.key c.self.invariant)
