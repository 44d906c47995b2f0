-- Cutting a message into packets of seven bytes (SAE J1939-21, TP.DT).
use Rattle.std.specs.Prelude.{ℕ, ◌+◌, ◌-◌, ◌*◌, ◌/◌, List, ◌++◌, take, drop, replicate}

-- the size divided by seven, rounded up
abbrev pub packet_count : ℕ → ℕ
packet_count size = (size + 6) / 7

-- the message with FF past its end
abbrev pub filled : List ℕ → List ℕ
filled message = message ++ replicate 7 255

-- packet k, from 1: the seven bytes from place 7(k-1), counted from 0
abbrev pub packet : List ℕ → ℕ → List ℕ
packet message k = take 7 (drop (7 * (k - 1)) (filled message))
