use Rattle.std.proofs.Common.{◌≡◌, ◌++◌, take}
use Rattle.bus_script.specs.Telling.{log_at}
use Rattle.bus_script.proofs.logging.print_logged.Given as goal

abbrev pub invariant-loop-frame : goal.invariant-loop-frame
invariant-loop-frame l = l.log.items ≡ l.fn.log.items ++ log_at l.now (take l.frame-index l.frames)
