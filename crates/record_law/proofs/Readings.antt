-- What the crates below show of frames, as premises of laws: an identifier gives its parts back, and what is written of a row of
-- the frame table is read as it was.
use Rattle.std.proofs.Common.{◌≡◌, ℕ, ◌<◌, true, false, Some}
use Rattle.pgn_ids.specs.Pgn.{is_pgn, is_pdu1}
use Rattle.pgn_ids.specs.Identifier.{id_of, meaning_of}
use Rattle.pgn_ids.specs.declared.address.Address.{Address}
use Rattle.tp_wire.specs.Reading.{reading}
use Rattle.tp_wire.specs.Rows.{IsRow, written}
use Rattle.tp_wire.specs.declared.wire.Wire.{Wire}

-- identifiers give their parts back
abbrev pub GivesBack : Type 0
GivesBack = (priority pgn to from : ℕ) → priority < 8 → is_pgn pgn ≡ true → to < 256 → from < 256 → (is_pdu1 pgn ≡ false → to ≡ 255)
    → meaning_of (id_of priority pgn to from) ≡ record { priority = priority; pgn = pgn; to = record { 0 = to }; from = record { 0 = from } }

-- what is written is read
abbrev pub ReadsBack : Type 0
ReadsBack = (wire : Wire) (from to : Address) → IsRow wire from.0 to.0 → reading (written wire from.0 to.0) ≡ Some (wire, from, to)
