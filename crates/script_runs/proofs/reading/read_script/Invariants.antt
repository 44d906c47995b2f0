use Rattle.std.proofs.Common.{◌-◌}
use Rattle.script_runs.specs.Reading.{EachGrows, RoomAfter, RoomBefore}
use Rattle.script_runs.proofs.ScriptsRead.{Inv}
use Rattle.script_runs.proofs.reading.read_script.Given as goal

-- what the rest sets up from the plan so far is what all sets up
abbrev pub invariant-lines : goal.invariant-lines
invariant-lines g l = record {
  read : Inv g.S.Planner.lines (g.S.Planner.state l.fn.planner) (g.R.Read.remaining l.fn.reader) (g.R.Read.remaining l.reader) (g.S.Planner.state l.planner) l.number;
  room : g.S.Planner.has_room (g.S.Planner.state l.planner) l.number;
  grows : EachGrows g.S.Planner.State g.S.Planner.lines;
  after : RoomAfter g.S.Planner.State g.S.Planner.lines g.S.Planner.has_room;
  before : RoomBefore g.S.Planner.State g.S.Planner.has_room;
}

abbrev pub decreases-lines : goal.decreases-lines
decreases-lines g l = 1000001 - l.number
