-- When two segments are equal.
use Rattle.std.specs.Prelude.{ℕ, List, refl}
use Rattle.std.specs.Coded.{Coded, code_by, coded×, coded_ℕ, coded_list}
use Rattle.bus_order.specs.Bus.{Bus}
use Rattle.bus_order.specs.contracts.log.BusLog as bus
use Rattle.station_core.specs.Station.{Station}
use Rattle.station_core.specs.StationCode.{station_code}
use Rattle.segment_law.specs.Segment.{Segment}
use Rattle.segment_law.specs.declared.counts.Counts.{Counts}
use Rattle.segment_law.specs.contracts.counts.Counts as counts

abbrev Parts : Type 0
Parts = ℕ × (List Station × (Bus × Counts))

-- segments are equal if their parts are
abbrev pub segment_code : Coded Segment
segment_code =
    code_by Parts
    (coded× coded_ℕ (coded× (coded_list station_code) (coded× ((bus.the_row).coded) ((counts.the_row).coded))))
    (λ s. (s.now, (s.stations, (s.bus, s.counts))))
    (λ p. record { now = p.0; stations = p.1.0; bus = p.1.1.0; counts = p.1.1.1 })
    (λ _. refl)
