-- The times of the frames that a drive puts.
use Rattle.std.specs.Prelude.{ℕ, zero, suc, List, [], ◌++◌, map, flat_map, Some, None}
use Rattle.std.specs.List.{zip}
use Rattle.bus_frame.specs.Frames.{CanFrame}
use Rattle.pgn_ids.specs.declared.address.Address.{Address}
use Rattle.segment_law.specs.Segment.{Segment}
use Rattle.segment_law.specs.Drive.{Driven, driven}
use Rattle.bus_script.specs.Telling.{put_at}

-- nothing follows a turn that ended the drive
abbrev pub unless_ended : Driven → List ℕ → List ℕ
unless_ended d rest = elim d.ended [ None ↦ rest | Some cause ↦ [] ]

-- the frame of a turn is put at the clock at which the turn ends: behind it stations only take
abbrev pub turn_times : ℕ → (from to : Address) → Segment → List ℕ
turn_times zero from to s = []
turn_times (suc more) from to s =
    let d = driven s from to 1 in
    map (λ (frame : CanFrame). d.segment.now) d.frames ++ unless_ended d (turn_times more from to d.segment)

-- the log of a drive
abbrev pub turns_log : ℕ → (from to : Address) → Segment → List ℕ
turns_log turns from to s = flat_map put_at (zip (turn_times turns from to s) (driven s from to turns).frames)
