-- Addresses (SAE J1939-81).
use Rattle.std.specs.Prelude.{ℕ, Bool, nat_lt}

-- the source address of a node that has no address
abbrev pub null_address : ℕ
null_address = 254

-- the destination address of all nodes
abbrev pub global_address : ℕ
global_address = 255

-- whether an address is that of one node
abbrev pub is_one : ℕ → Bool
is_one address = nat_lt address null_address
