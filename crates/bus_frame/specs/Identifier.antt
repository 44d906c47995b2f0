-- Identifiers and their parts (SAE J1939-21, the 29-bit identifier).
use Rattle.std.specs.Prelude.{ℕ, ◌+◌, ◌*◌, ◌/◌, ◌%◌, ◌^◌, ◌<◌}
use Rattle.bus_frame.specs.declared.can_id.IdParts.{IdParts}

-- from the top: priority (3 bits), extended data page (1), data page (1), PF (8), PS (8), source address (8)
abbrev pub id_value : IdParts → ℕ
id_value p = p.priority * 2 ^ 26 + p.edp * 2 ^ 25 + p.dp * 2 ^ 24 + p.pf * 2 ^ 16 + p.ps * 2 ^ 8 + p.sa

-- the parts of an identifier
abbrev pub id_parts : ℕ → IdParts
id_parts n = record {
  priority = n / 2 ^ 26;
  edp = n / 2 ^ 25 % 2;
  dp = n / 2 ^ 24 % 2;
  pf = n / 2 ^ 16 % 2 ^ 8;
  ps = n / 2 ^ 8 % 2 ^ 8;
  sa = n % 2 ^ 8;
}

-- each part is within its bits
pub record AreParts (p : IdParts) : Type 0 where
  pub priority : p.priority < 2 ^ 3
  pub edp : p.edp < 2
  pub dp : p.dp < 2
  pub pf : p.pf < 2 ^ 8
  pub ps : p.ps < 2 ^ 8
  pub sa : p.sa < 2 ^ 8
