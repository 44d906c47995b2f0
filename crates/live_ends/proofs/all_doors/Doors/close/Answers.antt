use Rattle.std.proofs.Common.{ap, ◌∙◌, deque_capacity}
use Rattle.segment_rings.specs.Views.{has_pushed_news}
use Rattle.live_ends.proofs.Waiting.{waits_set}
use Rattle.live_ends.proofs.all_doors.Doors.close.Goals as goal

pub invariant_of-self : goal.invariant_of-self
invariant_of-self c =
    let i = c.self.inside in
    waits_set has_pushed_news i.doors.items c.args.k c.index_mut-door.result.now c.close.new.self i.news.items (deque_capacity i.news) (ap has_pushed_news c.close.ensures ∙ ap has_pushed_news c.index_mut-door.ensures.value) c.self.invariant
