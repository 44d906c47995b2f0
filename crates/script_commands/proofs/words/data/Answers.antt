use Rattle.std.proofs.Common.{rules}
use Rattle.script_commands.proofs.Steps.{data_read, data_odd, data_bad, data_end}
use Rattle.script_commands.proofs.words.data.Goals as goal

pub returns-in_default-split_first : goal.returns-in_default-split_first
returns-in_default-split_first c = data_odd _ _ _ _ _ c.in-Some.ensures.cases.0 c.in_default-split_first.ensures.cases c.loop-first.invariant

pub returns-in_default-read_pair : goal.returns-in_default-read_pair
returns-in_default-read_pair c = data_bad _ _ _ _ _ _ _ c.in-Some.ensures.cases.0 c.in-Some-split_first.ensures.cases.0 (search rules) c.loop-first.invariant

pub loop-first-preserved : goal.loop-first-preserved
loop-first-preserved c = rw c.in_ok-push.ensures.items (data_read _ _ _ _ _ _ _ _ c.in-Some.ensures.cases.0 c.in-Some-split_first.ensures.cases.0 (search rules) c.loop-first.invariant)

pub returns : goal.returns
returns c = data_end _ _ _ c.in_default.ensures.cases c.loop-first.invariant
