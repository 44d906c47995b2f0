-- The message that a report is of.
use Rattle.std.specs.Prelude.{ℕ}
use Rattle.log_reports.specs.declared.key.Key.{Key}
use Rattle.log_reports.specs.declared.told.Told.{Told}
use Rattle.log_reports.specs.declared.told.Told.TheVariants.{Given, Aborted, Lost}

-- its key
abbrev pub key_told : Told → Key
key_told (Given key pgn bytes) = key
key_told (Aborted key pgn reason who) = key
key_told (Lost key pgn have size cause) = key

-- its PGN
abbrev pub pgn_told : Told → ℕ
pgn_told (Given key pgn bytes) = pgn
pgn_told (Aborted key pgn reason who) = pgn
pgn_told (Lost key pgn have size cause) = pgn
