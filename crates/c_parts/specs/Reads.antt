-- The meaning of numbers from C.
use Rattle.std.specs.Prelude.{ℕ, ◌^◌, nat_lt, nat_le, if◌then◌else◌, List, length, Result, Ok, Err}
use Rattle.bus_frame.specs.Frames.{CanFrame}
use Rattle.pgn_ids.specs.Pgn.{is_pgn}
use Rattle.segment_law.specs.declared.refusal.Refusal.{Refusal}
use Rattle.segment_law.specs.declared.refusal.Refusal.TheVariants.{IdTooLarge, DataTooLong, BadPgn}

-- a PGN, or none
abbrev pub read_pgn : ℕ → Result ℕ Refusal
read_pgn raw = if is_pgn raw then Ok raw else Err BadPgn

-- a frame, or none: its identifier is above 29 bits, or it has more than 8 bytes
abbrev pub read_frame : ℕ → List ℕ → Result CanFrame Refusal
read_frame id bytes =
    if nat_le (2 ^ 29) id then Err IdTooLarge
    else if nat_lt 8 (length bytes) then Err DataTooLong
    else Ok (record { id = id; bytes = bytes })
