use Rattle.std.proofs.Common.{◌≡◌, ◌-◌, ◌^◌, true}
use Rattle.line_runs.proofs.RunSteps.{Inv}
use Rattle.line_runs.proofs.running.run_lines.Given as goal

-- of the text and of the log: what was written so far, and then what the rest tells, is what all tells, and the rest leads where all leads
abbrev pub invariant-lines : goal.invariant-lines
invariant-lines g l = record {
  text : Inv (g.O.Obeyer.State) g.O.Obeyer.kept l.limits g.O.Obeyer.in_text (g.O.Obeyer.state l.fn.obeyer) (g.O.Obeyer.state l.obeyer) l.run (g.R.Read.remaining l.fn.reader) (g.R.Read.remaining l.reader) (g.T.Write.contents l.fn.text) (g.T.Write.contents l.text);
  log : Inv (g.O.Obeyer.State) g.O.Obeyer.kept l.limits g.O.Obeyer.in_log (g.O.Obeyer.state l.fn.obeyer) (g.O.Obeyer.state l.obeyer) l.run (g.R.Read.remaining l.fn.reader) (g.R.Read.remaining l.reader) (g.L.Write.contents l.fn.log) (g.L.Write.contents l.log);
  lacking : l.run.memory_refused ≡ true → g.O.Obeyer.may_lack;
}

abbrev pub decreases-lines : goal.decreases-lines
decreases-lines g l = 2 ^ 64 - l.run.number
