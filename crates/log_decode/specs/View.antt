-- A listener to a recorded bus.
use Rattle.std.specs.Prelude.{ℕ, List, [], unwrap_or}
use Rattle.std.specs.Map.{lookup}
use Rattle.indexmap.specs.IndexMap.{insert_entry}
use Rattle.log_fields.specs.declared.iface.Iface.{Iface}
use Rattle.log_reports.specs.Keys.{same_iface}
use Rattle.log_decode.specs.Sessions.{Sessions}

-- the time of the last frame of an interface, in microseconds; the messages under way on it
pub record Bus : Type 0 where
  pub time : ℕ
  pub sessions : Sessions

-- nothing was seen on it
abbrev pub new_bus : Bus
new_bus = record { time = 0; sessions = [] }

-- the buses, in the order in which their first frames were seen
abbrev pub Buses : Type 0
Buses = List (Iface × Bus)

abbrev pub bus_at : Iface → Buses → Bus
bus_at iface buses = unwrap_or (lookup (same_iface iface) buses) new_bus

abbrev pub put_bus : Iface → Bus → Buses → Buses
put_bus iface bus buses = insert_entry same_iface buses iface bus

-- the longest message that it takes, in bytes; the time of the last frame, in microseconds; each interface
pub record State : Type 0 where
  pub most : ℕ
  pub time : ℕ
  pub buses : Buses
