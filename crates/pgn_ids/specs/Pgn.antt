-- Parameter group numbers (SAE J1939-21): from the top the extended data page, the data page, PF (8 bits) and PS (8).
use Rattle.std.specs.Prelude.{ℕ, ◌*◌, ◌/◌, ◌%◌, ◌^◌, Bool, ◌&&◌, ◌||◌, not, nat_lt, ◌==◌, if◌then◌else◌}

-- PF 0 to 239 is the PDU1 format, whose frames have a destination
abbrev pub is_pdu1 : ℕ → Bool
is_pdu1 pgn = nat_lt (pgn / 2 ^ 8 % 2 ^ 8) 240

-- 18 bits, and in PDU1 a low byte of 0
abbrev pub is_pgn : ℕ → Bool
is_pgn pgn = nat_lt pgn (2 ^ 18) && (not (is_pdu1 pgn) || pgn % 2 ^ 8 == 0)

-- the PGN that a field of 18 bits means: in PDU1 the low byte is taken as 0
abbrev pub clean : ℕ → ℕ
clean field = if is_pdu1 field then field / 2 ^ 8 * 2 ^ 8 else field
