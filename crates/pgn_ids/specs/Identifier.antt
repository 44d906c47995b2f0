-- Identifiers by priority, PGN and addresses (SAE J1939-21).
use Rattle.std.specs.Prelude.{ℕ, ◌/◌, ◌%◌, ◌^◌, if◌then◌else◌}
use Rattle.bus_frame.specs.declared.can_id.IdParts.{IdParts}
use Rattle.bus_frame.specs.Identifier.{id_value}
use Rattle.pgn_ids.specs.declared.identifier.IdMeaning.{IdMeaning}
use Rattle.pgn_ids.specs.Address.{global_address}
use Rattle.pgn_ids.specs.Pgn.{is_pdu1, clean}

-- the PGN gives both data pages, PF and PS; in PDU1 the PS of the identifier is the destination
abbrev pub parts_of : (priority pgn to from : ℕ) → IdParts
parts_of priority pgn to from = record {
  priority = priority;
  edp = pgn / 2 ^ 17;
  dp = pgn / 2 ^ 16 % 2;
  pf = pgn / 2 ^ 8 % 2 ^ 8;
  ps = if is_pdu1 pgn then to else pgn % 2 ^ 8;
  sa = from;
}

abbrev pub id_of : (priority pgn to from : ℕ) → ℕ
id_of priority pgn to from = id_value (parts_of priority pgn to from)

-- the 18 bits behind the source address: in PDU1 the low byte is the destination
abbrev pub raw_pgn : ℕ → ℕ
raw_pgn id = id / 2 ^ 8 % 2 ^ 18

-- what an identifier says: in PDU2 the frame goes to all
abbrev pub meaning_of : ℕ → IdMeaning
meaning_of id = record {
  priority = id / 2 ^ 26;
  pgn = clean (raw_pgn id);
  to = record { 0 = if is_pdu1 (raw_pgn id) then id / 2 ^ 8 % 2 ^ 8 else global_address };
  from = record { 0 = id % 2 ^ 8 };
}
