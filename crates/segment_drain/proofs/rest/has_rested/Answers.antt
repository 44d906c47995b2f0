use Rattle.std.proofs.Common.{sym, ◌∙◌}
use Rattle.segment_drain.proofs.Healing.{idle_all, idle_calm}
use Rattle.segment_drain.proofs.Rests.{idle_rests}
use Rattle.segment_drain.proofs.rest.has_rested.Goals as goal

pub returns-then-is_idle-clause-rest : goal.returns-then-is_idle-clause-rest
returns-then-is_idle-clause-rest c = idle_rests c.what_has_stopped_rests.ensures.rests c.what_has_stopped_rests.ensures.ends c.args.segment.now c.is_none.result c.next_tick.result (sym c.is_idle.ensures ∙ c.if-is_idle.true) c.next_tick.ensures c.is_none.ensures

pub returns-then-is_idle-clause-all : goal.returns-then-is_idle-clause-all
returns-then-is_idle-clause-all c = idle_all c.what_has_stopped_rests.ensures.rests c.what_has_stopped_rests.ensures.ends c.args.segment.now c.is_none.result c.next_tick.result (sym c.is_idle.ensures ∙ c.if-is_idle.true) c.next_tick.ensures c.is_none.ensures

pub returns-then-is_idle-clause-calm : goal.returns-then-is_idle-clause-calm
returns-then-is_idle-clause-calm c = idle_calm c.what_has_stopped_rests.ensures.rests c.what_has_stopped_rests.ensures.ends c.args.segment.now c.is_none.result c.next_tick.result (sym c.is_idle.ensures ∙ c.if-is_idle.true) c.next_tick.ensures c.is_none.ensures
