use Rattle.std.proofs.Common.{sym, ◌∙◌}
use Rattle.log_courses.specs.Course.{cm_followed}
use Rattle.log_courses.proofs.AtKey.{changed_there}
use Rattle.log_courses.proofs.courses.follow_cm.Goals as goal

pub returns-in_ok-follow : goal.returns-in_ok-follow
returns-in_ok-follow c =
    let p = sym c.get_index_of.ensures.index ∙ c.in-Some.is in
    changed_there (cm_followed c.args.detail c.args.frame.now c.args.place) c.args.key c.in-Some.at c.args.kept.now.entries c.index_mut.result.now c.follow.new.self p c.index_mut.ensures.value c.in_ok-follow.ensures
