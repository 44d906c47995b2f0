-- The open ports of a station, several of them perhaps on one PGN, and which of them are paused.
use Rattle.std.specs.Prelude.{ℕ, ◌+◌, ◌^◌, ◌<◌, ◌≤◌, Bool, false, ◌&&◌, ◌||◌, not, nat_lt, nat_le, ◌==◌, if◌then◌else◌, List, [], ◌∷◌, ◌++◌, map, length, filter, find, All, AllPairs, Option, is_some}
use Rattle.std.specs.List.{list_any}
use Rattle.std.specs.Option.{option_map_or}
use Rattle.pgn_ids.specs.declared.address.Address.{Address}
use Rattle.port_table.specs.declared.port.Port.{Port}
use Rattle.port_table.specs.declared.port.PortId.{PortId}
use Rattle.port_table.specs.PortSet.{port_limit, has_number}

-- the station, its open ports by rising number, and how many it ever opened, which is the last number that was used
pub record Ports : Type 0 where
  pub station : Address
  pub open_ports : List Port
  pub opened : ℕ

-- what holds of every table
pub record ArePorts (ports : Ports) : Type 0 where
  pub few : length ports.open_ports ≤ port_limit
  pub rising : AllPairs (λ p q. p.number < q.number) ports.open_ports
  pub used : All (λ p. p.number ≤ ports.opened) ports.open_ports
  pub opened_fits : ports.opened < 2 ^ 64

-- no port was ever opened
abbrev pub no_ports : Address → Ports
no_ports station = record { station = station; open_ports = []; opened = 0 }

-- sixteen ports are open, or there is no next number in 64 bits
abbrev pub are_full : Ports → Bool
are_full ports = nat_le port_limit (length ports.open_ports) || not (nat_lt (ports.opened + 1) (2 ^ 64))

-- the port that is opened next
abbrev pub next_id : Ports → PortId
next_id ports = record { station = ports.station; number = ports.opened + 1 }

abbrev pub with_port : Ports → (pgn max_len : ℕ) → Ports
with_port ports pgn max_len = record {
  station = ports.station;
  open_ports = ports.open_ports ++ record { number = ports.opened + 1; pgn = pgn; max_len = max_len; paused = false } ∷ [];
  opened = ports.opened + 1;
}

-- the open port with this number
abbrev pub port_at : Ports → ℕ → Option Port
port_at ports number = find (λ p. p.number == number) ports.open_ports

abbrev pub is_open : Ports → ℕ → Bool
is_open ports number = is_some (port_at ports number)

abbrev pub is_paused : Ports → ℕ → Bool
is_paused ports number = option_map_or (λ p. p.paused) (port_at ports number) false

-- a port is paused
abbrev pub has_paused : List Port → Bool
has_paused ports = list_any (λ p. p.paused) ports

-- a port of the set is open and paused
abbrev pub is_any_paused : Ports → List ℕ → Bool
is_any_paused ports set = list_any (λ p. p.paused && has_number set p.number) ports.open_ports

-- the ports that have another number
abbrev pub less_port : ℕ → List Port → List Port
less_port number ports = filter (λ p. not (p.number == number)) ports

abbrev pub without_port : Ports → ℕ → Ports
without_port ports number = record ports { open_ports = less_port number ports.open_ports }

-- the port is paused, or no longer paused
abbrev pub marked : (number : ℕ) → (paused : Bool) → Port → Port
marked number paused p = if p.number == number then record p { paused = paused } else p

abbrev pub with_paused : Ports → (number : ℕ) → (paused : Bool) → Ports
with_paused ports number paused = record ports { open_ports = map (marked number paused) ports.open_ports }

-- the port receives a message of this PGN and length
abbrev pub receives : (pgn len : ℕ) → Port → Bool
receives pgn len p = (p.pgn == pgn) && nat_le len p.max_len

-- the numbers of the ports that pass a test
abbrev pub numbers_of : (Port → Bool) → List Port → List ℕ
numbers_of test ports = map (λ p. p.number) (filter test ports)

-- the open ports that receive it, by rising number
abbrev pub ports_for : Ports → (pgn len : ℕ) → List ℕ
ports_for ports pgn len = numbers_of (receives pgn len) ports.open_ports
