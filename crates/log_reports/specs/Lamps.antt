-- The lamps of DM1 and DM2 (SAE J1939-73, 5.7.1): two bits each, in the first byte whether one is on, in the second how it flashes.
use Rattle.std.specs.Prelude.{ℕ, ◌/◌, ◌%◌, List, ◌++◌, codes, ◌==◌, if◌then◌else◌}

-- what two bits say of a lamp
unfoldable pub lamp_state : ℕ → List ℕ
lamp_state n =
    if n == 0 then codes "off"
    else if n == 1 then codes "on"
    else if n == 2 then codes "reserved"
    else codes "not available"

-- how a lamp flashes: slowly at 1 Hz, fast at 2 Hz or more
unfoldable pub flash_state : ℕ → List ℕ
flash_state n =
    if n == 0 then codes "slow"
    else if n == 1 then codes "fast"
    else if n == 2 then codes "reserved"
    else codes "no"

-- the malfunction indicator has the highest bits
abbrev pub lamps_line : ℕ → List ℕ
lamps_line b =
    codes "lamps: malfunction " ++ lamp_state (b / 64)
    ++ codes ", red stop " ++ lamp_state (b / 16 % 4)
    ++ codes ", amber warning " ++ lamp_state (b / 4 % 4)
    ++ codes ", protect " ++ lamp_state (b % 4)

abbrev pub flash_line : ℕ → List ℕ
flash_line b =
    codes "flash: malfunction " ++ flash_state (b / 64)
    ++ codes ", red stop " ++ flash_state (b / 16 % 4)
    ++ codes ", amber warning " ++ flash_state (b / 4 % 4)
    ++ codes ", protect " ++ flash_state (b % 4)
