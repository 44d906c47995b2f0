use Rattle.std.proofs.Common.{sym, ◌∙◌}
use Rattle.log_courses.specs.Course.{longer, noted}
use Rattle.log_reports.specs.declared.marks.Step.TheVariants.{Announcement}
use Rattle.log_courses.proofs.AtKey.{changed_there}
use Rattle.log_courses.proofs.courses.announce_again.Goals as goal

pub returns-in_ok-renew : goal.returns-in_ok-renew
returns-in_ok-renew c =
    let p = sym c.get_index_of.ensures.index ∙ c.in-Some.is in
    changed_there (λ x. noted c.args.detail c.args.place Announcement (longer c.args.place x)) c.args.key c.in-Some.at c.args.kept.now.entries c.index_mut.result.now c.renew.new.self p c.index_mut.ensures.value c.in_ok-renew.ensures
