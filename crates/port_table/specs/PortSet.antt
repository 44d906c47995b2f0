-- Sets of ports of one station: their numbers, in the order in which they are given a message.
use Rattle.std.specs.Prelude.{ℕ, Bool, not, ◌==◌, List, filter}
use Rattle.std.specs.List.{list_any}

-- how many ports of a station are open at most
abbrev pub port_limit : ℕ
port_limit = 16

-- the port is in the set
abbrev pub has_number : List ℕ → ℕ → Bool
has_number set number = list_any (λ n. n == number) set

-- the set less a port
abbrev pub without_number : List ℕ → ℕ → List ℕ
without_number set number = filter (λ n. not (n == number)) set
