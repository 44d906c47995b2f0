use Rattle.std.proofs.Common.{subst}
use Rattle.live_segment.specs.Turns.{Finishes, point}
use Rattle.live_segment.specs.declared.turns.Turn.{Turn}
use Rattle.live_segment.proofs.PassedOn.{turn_finished}
use Rattle.live_segment.proofs.live.Live.taking_turn.Goals as goal

pub returns : goal.returns
returns c =
    let a = c.args.self.now in
    let q = point c.finish.new.live c.finish.new.self in
    turn_finished a q c.args.station c.requires.rests c.requires.calm (subst (λ (t : Turn). Finishes c.args.station (point a t) q) c.new-turn.ensures c.finish.ensures)
