-- The beginning of a drawing.
use Rattle.std.specs.Prelude.{ℕ, List, [], ◌++◌, ◌==◌, if◌then◌else◌, length, flat_map, codes}
use Rattle.pgn_ids.specs.declared.address.Address.{Address}
use Rattle.frame_arrows.specs.Words.{line, name_of}

unfoldable pub participant_line : Address → List ℕ
participant_line a = line (codes "  participant " ++ name_of a)

unfoldable pub heading : List ℕ
heading = codes "sequenceDiagram\n"

-- the kind of the drawing, and the stations in the order in which they are named
abbrev pub opening : List Address → List ℕ
opening addresses = if length addresses == 0 then [] else heading ++ flat_map participant_line addresses
