use Rattle.log_courses.proofs.PutBack.{all_again}
use Rattle.log_courses.proofs.summary.Summary.add.Goals as goal

pub returns-in_default-clause-refused : goal.returns-in_default-clause-refused
returns-in_default-clause-refused c =
    all_again _ _ c.in_ok-before.before c.args.self.now c.add_row.new.self c.add_abort.new.self c.put_back.new.self
    c.in_ok-before.ensures.ordered c.in_ok-before.ensures.before c.in_ok-before.ensures.told c.in_default.ensures.refused c.put_back.ensures
