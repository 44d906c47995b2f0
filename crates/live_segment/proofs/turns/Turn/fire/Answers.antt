use Rattle.std.proofs.Common.{sym, ◌∙◌}
use Rattle.live_segment.proofs.PassedOn.{fires_none}
use Rattle.live_segment.proofs.turns.Turn.fire.Goals as goal

pub returns-else-is_active : goal.returns-else-is_active
returns-else-is_active c = fires_none c.args.live.now c.is_active.new.self c.args.self.now c.args.station (sym c.is_active.ensures.value ∙ c.if-is_active.false) c.is_active.ensures.same
