-- How a table is kept.
use Rattle.std.specs.Prelude.{◌≡◌, ◌<◌, ◌≤◌, All, vec_capacity}
use Rattle.port_table.specs.PortSet.{port_limit}
use Rattle.port_table.specs.Ports.{Ports, ArePorts, has_paused}
use Rattle.port_table.specs.declared.table.PortTable.TheInside.{Inside}

abbrev pub view_table : Inside → Ports
view_table t = record { station = t.station; open_ports = t.ports.items; opened = t.opened }

-- there is room for all sixteen ports, none has the number 0, and it is known whether one is paused
pub record IsTable (t : Inside) : Type 0 where
  pub valid : ArePorts (view_table t)
  pub room : port_limit ≤ vec_capacity t.ports
  pub above : All (λ p. 0 < p.number) t.ports.items
  pub paused : t.some_paused ≡ has_paused t.ports.items
