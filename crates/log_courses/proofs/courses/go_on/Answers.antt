use Rattle.std.proofs.Common.{sym, ◌∙◌}
use Rattle.log_courses.specs.Course.{longer}
use Rattle.log_courses.proofs.AtKey.{changed_there}
use Rattle.log_courses.proofs.courses.go_on.Goals as goal

pub returns-in-Some : goal.returns-in-Some
returns-in-Some c =
    let p = sym c.get_index_of.ensures.index ∙ c.in-Some.is in
    changed_there (longer c.args.place) c.args.key c.in-Some.at c.args.kept.now.entries c.index_mut.result.now c.go_on.new.self p c.index_mut.ensures.value c.go_on.ensures
