-- The data that digits write.
use Rattle.std.specs.Prelude.{ℕ, List, length, Option, Some, None, nat_lt, if◌then◌else◌}
use Rattle.bus_frame.specs.Frames.{CanFrame}
use Rattle.text_digits.specs.Numerals.{◌>>=◌, pairs_of}

-- a frame with this identifier, of at most eight bytes
abbrev pub data_of : ℕ → List ℕ → Option CanFrame
data_of id digits = if nat_lt 16 (length digits) then None else (do
  bytes ← pairs_of digits
  Some (record { id = id; bytes = bytes }))
