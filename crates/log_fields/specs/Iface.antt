-- Names of interfaces.
use Rattle.std.specs.Prelude.{ℕ, ◌-◌, List, [], ◌∷◌, ◌++◌, length, take, replicate, Bool, true, ◌&&◌, ◌||◌, Option, Some, None, ◌==◌, nat_lt, if◌then◌else◌, unwrap_or, codes}
use Rattle.text_digits.specs.Numerals.{is_between}
use Rattle.log_fields.specs.Fields.{place_of}
use Rattle.log_fields.specs.declared.iface.Iface.{Iface}

-- each byte is printable ASCII and no space
abbrev pub is_printable : List ℕ → Bool
is_printable [] = true
is_printable (b ∷ bs) = is_between 33 126 b && is_printable bs

-- 1 to 15 such bytes, kept in sixteen, those behind the name being 0
abbrev pub iface_of : List ℕ → Option Iface
iface_of name = if length name == 0 || nat_lt 15 (length name) then None else if is_printable name then Some (record { kept = name ++ replicate (16 - length name) 0 }) else None

-- the name of an interface: its bytes up to the first 0
abbrev pub name_of : Iface → List ℕ
name_of iface = take (unwrap_or (place_of 0 iface.kept) 15) iface.kept

-- the interface bus0: behind the name the kept bytes are 0
abbrev pub bus0 : Iface
bus0 = record { kept = codes "bus0" ++ replicate 12 0 }
