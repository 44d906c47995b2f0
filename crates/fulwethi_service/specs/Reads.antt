-- The meaning of bytes from C.
use Rattle.std.specs.Prelude.{ℕ, List, map}
use Rattle.pgn_ids.specs.declared.address.Address.{Address}

-- the stations' addresses
abbrev pub addresses_of : List ℕ → List Address
addresses_of bytes = map (λ b. record { 0 = b }) bytes
