-- Parts of lines: numbers, addresses, ports and data.
use Rattle.std.specs.Prelude.{ℕ, List, [], ◌∷◌, ◌++◌, flat_map, codes}
use Rattle.std.specs.Fmt.{decimal}
use Rattle.text_digits.specs.Digits.{digits}
use Rattle.pgn_ids.specs.declared.address.Address.{Address}
use Rattle.port_table.specs.declared.port.PortId.{PortId}

abbrev pub port_text : PortId → List ℕ
port_text port = digits 16 2 port.station.0 ++ codes "." ++ decimal port.number

-- the two ends of a lane, each before a space
abbrev pub between : (from to : Address) → List ℕ
between from to = digits 16 2 from.0 ++ codes " " ++ digits 16 2 to.0 ++ codes " "

-- the bytes of a frame, each behind a space
abbrev pub spaced : List ℕ → List ℕ
spaced bytes = flat_map (λ b. 32 ∷ digits 16 2 b) bytes

abbrev pub line : List ℕ → List ℕ
line text = text ++ 10 ∷ []
