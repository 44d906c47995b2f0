use Rattle.lane_core.specs.Fire.{is_timed}
use Rattle.station_lanes.proofs.Marked.{unmarked}
use Rattle.station_lanes.proofs.lanes.Lanes.next_timed.Goals as goal

pub returns-in-None-clause-none : goal.returns-in-None-clause-none
returns-in-None-clause-none c n le below =
    unmarked c.self.inside.slots.items c.args.self.now c.self.inside.timed is_timed c.self.view_is c.self.invariant.timed n (c.in-None.ensures n le below)

pub returns-in-Some-clause-some : goal.returns-in-Some-clause-some
returns-in-Some-clause-some c =
    (c.in-Some.ensures.0, λ n le below. unmarked c.self.inside.slots.items c.args.self.now c.self.inside.timed is_timed c.self.view_is c.self.invariant.timed n (c.in-Some.ensures.2 n le below))
