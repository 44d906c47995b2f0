-- A fault: four bytes of DM1 or DM2 (SAE J1939-73, 5.7.1).
use Rattle.std.specs.Prelude.{ℕ, ◌+◌, ◌*◌, ◌/◌, ◌%◌, List, [], ◌∷◌, ◌++◌, codes, Bool, ◌&&◌, ◌||◌, ◌==◌, nat_lt, if◌then◌else◌}
use Rattle.std.specs.Fmt.{decimal}
use Rattle.text_digits.specs.Digits.{unspaced}

-- the suspect parameter number, by version 4 of its conversion: 19 bits, the lowest first
abbrev pub spn_of : (a b c : ℕ) → ℕ
spn_of a b c = a + 256 * b + 65536 * (c / 32)

-- each of the four bytes is this one
abbrev pub are_all : (byte a b c d : ℕ) → Bool
are_all byte a b c d = a == byte && b == byte && c == byte && d == byte

-- zeros say that there is no fault, and so do bytes FF, which older senders put there
abbrev pub is_none : (a b c d : ℕ) → Bool
is_none a b c d = are_all 0 a b c d || are_all 255 a b c d

-- how often it occurred, 127 if that isn't known
abbrev pub count_text : ℕ → List ℕ
count_text n = if n == 127 then codes "not available" else decimal n

-- the failure mode identifier, and the count
abbrev pub mode_text : (c d : ℕ) → List ℕ
mode_text c d = codes " FMI " ++ decimal (c % 32) ++ codes " count " ++ count_text (d % 128)

abbrev pub version_4_line : (a b c d : ℕ) → List ℕ
version_4_line a b c d = codes "fault: SPN " ++ decimal (spn_of a b c) ++ mode_text c d

-- the highest bit says that the bits of the SPN are in one of three older orders, and doesn't say which
abbrev pub older_line : (a b c d : ℕ) → List ℕ
older_line a b c d = codes "fault: SPN by an older conversion method," ++ mode_text c d ++ codes " bytes " ++ unspaced (a ∷ b ∷ c ∷ d ∷ [])

abbrev pub fault_line : (a b c d : ℕ) → List ℕ
fault_line a b c d =
    if is_none a b c d then codes "no fault"
    else if nat_lt d 128 then version_4_line a b c d
    else older_line a b c d
