use Rattle.std.proofs.Common.{take}
use Rattle.std.specs.List.{All}
use Rattle.station_sessions.proofs.Images.{StandsIn}
use Rattle.station_sessions.proofs.receivers.image.ReceiversImage.is_of.Given as goal

abbrev pub invariant-loop-entry : goal.invariant-loop-entry
invariant-loop-entry l = All (StandsIn l.receivers-inside.table) (take l.entry-index l.entries)
