-- A message, and the packets that it is cut into (SAE J1939-21, TP.DT; ISO 11783-3, ETP.DT).
use Rattle.std.specs.Prelude.{ℕ, ◌+◌, ◌-◌, ◌*◌, ◌/◌, ◌<◌, ◌≡◌, List, ◌++◌, take, drop, replicate, Some, slice_get}

-- a parameter group: its number and its bytes
pub record Message : Type 0 where
  pub pgn : ℕ
  pub bytes : List ℕ

-- the bytes with the filling of the last packet behind them
abbrev pub padded : List ℕ → List ℕ
padded bytes = bytes ++ replicate 7 255

-- packet k, counted from 1: the seven bytes from place 7(k-1), counted from 0
abbrev pub packet : List ℕ → ℕ → List ℕ
packet bytes k = take 7 (drop (7 * (k - 1)) (padded bytes))

-- how many packets a message of so many bytes has: a seventh, rounded up
abbrev pub packet_count : ℕ → ℕ
packet_count size = (size + 6) / 7

-- the message with this number; the numbers are the places in the order sent, from 1
abbrev pub IsSent : List Message → ℕ → Message → Type 0
IsSent sent number message = (0 < number) × (slice_get sent (number - 1) ≡ Some message)
