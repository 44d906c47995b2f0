-- What a script draws, line by line.
use Rattle.std.specs.Prelude.{ℕ, List, ◌++◌}
use Rattle.bus_script.specs.Telling.{Telling}
use Rattle.frame_arrows.specs.Opening.{opening}
use Rattle.frame_arrows.specs.Runs.{arrows}
use Rattle.bus_drawing.specs.Notes.{notes}

-- the drawing of a line's telling: the stations if the segment is made, the arrows of the frames that are put, the notes of the events
abbrev pub drawing_of : Telling → List ℕ
drawing_of told = opening told.stations ++ arrows told.frames ++ notes told.events
