-- When two stations are equal.
use Rattle.std.specs.Prelude.{List, refl}
use Rattle.std.specs.Coded.{Coded, code_by, coded×, coded_ℕ, coded_list}
use Rattle.bus_frame.specs.Frames.{CanFrame}
use Rattle.bus_frame.specs.contracts.frame.Frame as frame
use Rattle.pgn_ids.specs.declared.address.Address.{Address}
use Rattle.pgn_ids.specs.contracts.address.Address as address
use Rattle.port_table.specs.Ports.{Ports}
use Rattle.port_table.specs.contracts.table.PortTable as ports
use Rattle.session_table.specs.Sessions.{sessions_code}
use Rattle.station_lanes.specs.Lanes.{Lanes, lanes_code}
use Rattle.station_sessions.specs.Receiving.{Inbound}
use Rattle.station_core.specs.Station.{Station}

abbrev Parts : Type 0
Parts = Address × (List CanFrame × (Lanes × (Inbound × Ports)))

-- stations are equal if their parts are
abbrev pub station_code : Coded Station
station_code =
    code_by Parts
    (coded× ((address.the_row).coded) (coded× (coded_list ((frame.the_row).coded)) (coded× lanes_code (coded× (sessions_code (coded_list coded_ℕ)) ((ports.the_row).coded)))))
    (λ s. (s.address, (s.queue, (s.lanes, (s.sessions, s.ports)))))
    (λ p. record { address = p.0; queue = p.1.0; lanes = p.1.1.0; sessions = p.1.1.1.0; ports = p.1.1.1.1 })
    (λ _. refl)
