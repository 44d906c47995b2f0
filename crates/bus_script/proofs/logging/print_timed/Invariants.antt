use Rattle.std.proofs.Common.{◌≡◌, ◌++◌}
use Rattle.std.specs.Prelude.{flat_map}
use Rattle.std.specs.List.{zip}
use Rattle.bus_script.specs.Telling.{put_at}
use Rattle.bus_script.proofs.logging.print_timed.Given as goal

abbrev pub invariant-loop-now : goal.invariant-loop-now
invariant-loop-now l = l.log.items ++ flat_map put_at (zip l.now-iterator.a.rest.now l.now-iterator.b.rest.now) ≡ l.fn.log.items ++ flat_map put_at (zip l.times l.frames)
