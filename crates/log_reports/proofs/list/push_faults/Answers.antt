use Rattle.log_reports.proofs.Steps.{one_left, two_left, three_left, padded, none_left, fault_put}
use Rattle.log_reports.proofs.list.push_faults.Goals as goal

pub returns-in_default-split_first : goal.returns-in_default-split_first
returns-in_default-split_first c =
    padded c.push_padding.result _ _ _ _ (one_left _ _ _ c.in-Some.ensures.cases.0 c.in_default-split_first.ensures.cases) c.loop-first.invariant c.push_padding.ensures

pub returns-in_default-split_first-2 : goal.returns-in_default-split_first-2
returns-in_default-split_first-2 c =
    padded c.push_padding-in_default-split_first-2.result _ _ _ _
    (two_left _ _ _ _ _ c.in-Some.ensures.cases.0 c.in-Some-split_first.ensures.cases.0 c.in_default-split_first-2.ensures.cases)
    c.loop-first.invariant c.push_padding-in_default-split_first-2.ensures

pub returns-in_default-split_first-3 : goal.returns-in_default-split_first-3
returns-in_default-split_first-3 c =
    padded c.push_padding-in_default-split_first-3.result _ _ _ _
    (three_left _ _ _ _ _ _ _ c.in-Some.ensures.cases.0 c.in-Some-split_first.ensures.cases.0 c.in-Some-split_first-2.ensures.cases.0 c.in_default-split_first-3.ensures.cases)
    c.loop-first.invariant c.push_padding-in_default-split_first-3.ensures

pub loop-first-preserved : goal.loop-first-preserved
loop-first-preserved c =
    fault_put _ _ _ _ _ _ _ _ _ _ _ _ _ c.in-Some.ensures.cases.0 c.in-Some-split_first.ensures.cases.0 c.in-Some-split_first-2.ensures.cases.0 c.in-Some-split_first-3.ensures.cases.0
    c.in_ok-fault_line.ensures c.in_ok-push.ensures.items c.loop-first.invariant

pub returns : goal.returns
returns c = none_left _ _ _ c.in_default.ensures.cases c.loop-first.invariant
