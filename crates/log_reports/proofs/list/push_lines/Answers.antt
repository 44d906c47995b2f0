use Rattle.log_reports.proofs.Steps.{all_put}
use Rattle.log_reports.proofs.list.push_lines.Goals as goal

pub returns : goal.returns
returns c =
    all_put c.push_faults.result _ _ _ _ _ _ _ _ _ _ c.in-Some.ensures.cases.0 c.in-Some-split_first.ensures.cases.0 c.in_ok-lamps_line.ensures c.in_ok-push.ensures.items
    c.in_ok-push_flash.ensures c.push_faults.ensures
