-- Whose frame it is.
use Rattle.std.specs.Prelude.{Bool, ◌==◌}
use Rattle.bus_frame.specs.Frames.{CanFrame}
use Rattle.pgn_ids.specs.Identifier.{meaning_of}
use Rattle.pgn_ids.specs.declared.address.Address.{Address}

-- a frame has this source address
abbrev pub comes_from : Address → CanFrame → Bool
comes_from address frame = (meaning_of frame.id).from.0 == address.0
