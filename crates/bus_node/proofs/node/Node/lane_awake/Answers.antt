use Rattle.std.proofs.Common.{arith, sym, ◌∙◌}
use Rattle.station_lanes.proofs.Counting.{none_below, none_from}
use Rattle.bus_node.specs.Time.{may_pump}
use Rattle.bus_node.proofs.Lanes.{is_lowest, is_none}
use Rattle.bus_node.proofs.node.Node.lane_awake.Goals as goal

pub loop-to-init : goal.loop-to-init
loop-to-init c = none_from (may_pump c.args.self.now)

pub returns-then-may_pump : goal.returns-then-may_pump
returns-then-may_pump c = is_lowest c.args.self.now c.loop-to.number c.loop-to.invariant (sym c.if-may_pump.true ∙ c.may_pump.ensures) (let f = c.loop-to.auto.number-fits in omega (arith, f))

pub returns-then-number : goal.returns-then-number
returns-then-number c = is_none c.args.self.now c.loop-to.number c.loop-to.invariant (sym c.if-may_pump.false ∙ c.may_pump.ensures) c.if-number.true

pub loop-to-preserved : goal.loop-to-preserved
loop-to-preserved c = none_below (may_pump c.args.self.now) c.loop-to.number c.loop-to.invariant (sym c.may_pump.ensures ∙ c.if-may_pump.false)
