-- A station as it is kept.
use Rattle.station_core.specs.Station.{Station, IsStation}
use Rattle.station_core.specs.declared.station.Station.TheInside.{Inside}

abbrev pub station_value : Inside → Station
station_value s = record { address = s.address; queue = s.queue; lanes = s.lanes; sessions = s.sessions; ports = s.ports }

abbrev pub IsStationInside : Inside → Type 0
IsStationInside s = IsStation (station_value s)
