use Rattle.std.proofs.Common.{◌≡◌, drop}
use Rattle.bus_relay.specs.Carriages.{none_left}
use Rattle.bus_relay.proofs.settling.is_none_left.Given as goal

abbrev pub invariant-loop-report : goal.invariant-loop-report
invariant-loop-report l = none_left (drop l.report-index l.reports) ≡ none_left l.reports
