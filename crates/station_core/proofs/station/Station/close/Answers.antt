use Rattle.std.proofs.Common.{◌≡◌, ap, sym, ◌∙◌, arith}
use Rattle.port_table.specs.Ports.{without_port}
use Rattle.station_sessions.specs.Sources.{HasNoneBetween}
use Rattle.station_core.specs.Station.{Station}
use Rattle.station_core.specs.StationFields.{station_value}
use Rattle.station_core.specs.Closing.{closed_below}
use Rattle.station_core.proofs.Counting.{closed_from, passed_to}
use Rattle.station_core.proofs.station.Station.close.Goals as goal

pub returns-else-not-is_empty-clause-ok : goal.returns-else-not-is_empty-clause-ok
returns-else-not-is_empty-clause-ok c =
    let number = c.args.number in
    let was : Station = station_value c.self.inside in
    let left : Station = record was { ports = c.close.new.self } in
    let none : HasNoneBetween left.sessions 0 254 = λ s from below. c.if-not-is_empty.ensures.none s from (omega (arith, below)) in
    passed_to left left number 0 254 (sym (closed_from left number)) (omega arith) none
    ∙ ap (λ (x : Station). closed_below x number 254) ((λ i. record was { ports = c.in-Ok.ensures.ok i }) ∙ ap (λ (x : Station). record x { ports = without_port x.ports number }) c.self.view_is)
