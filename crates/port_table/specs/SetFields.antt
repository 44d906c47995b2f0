-- A set of ports as it is kept: sixteen numbers. Those before the first 0 are its ports. No port has the number 0.
use Rattle.std.specs.Prelude.{ℕ, ◌≡◌, ◌==◌, ◌-◌, ◌++◌, List, length, drop, replicate}
use Rattle.std.specs.List.{before_first, position_or_len}
use Rattle.std.proofs.Common.{◌≤◌, take, refl, length-take-le}
use Rattle.std.proofs.lemmas.List.{take-append-drop}
use Rattle.std.proofs.lemmas.List.Sums.{prefix_len-le-length}
use Rattle.port_table.specs.PortSet.{port_limit}
use Rattle.port_table.specs.declared.set.PortSet.TheInside.{Inside}

-- how many of the numbers are ports: those before the first 0
abbrev pub ports_in : List ℕ → ℕ
ports_in kept = position_or_len (λ n. n == 0) kept

-- the numbers of the ports
abbrev pub set_value : Inside → List ℕ
set_value s = before_first (λ n. n == 0) s.kept

-- sixteen numbers are kept, and what follows the ports is 0
pub record IsPadded (s : Inside) : Type 0 where
  pub whole : length s.kept ≡ port_limit
  pub padded : drop (ports_in s.kept) s.kept ≡ replicate (port_limit - ports_in s.kept) 0

-- the fields that a set is kept in
abbrev pub set_fields : List ℕ → Inside
set_fields set = record { kept = set ++ replicate (port_limit - length set) 0 }

-- nothing of the fields is lost
pub set_fields_back : (s : Inside) → IsPadded s → set_fields (set_value s) ≡ s
set_fields_back s h =
    let few : ports_in s.kept ≤ length s.kept = prefix_len-le-length _ s.kept in
    let l : length (take (ports_in s.kept) s.kept) ≡ ports_in s.kept = length-take-le (ports_in s.kept) s.kept few in
    let d : take (ports_in s.kept) s.kept ++ replicate (port_limit - ports_in s.kept) 0 ≡ s.kept = rw (← h.padded) (take-append-drop (ports_in s.kept) s.kept) in
    rw (l, d) refl
