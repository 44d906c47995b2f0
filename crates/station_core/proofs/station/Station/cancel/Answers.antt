use Rattle.std.proofs.Common.{sym, ap, ◌∙◌}
use Rattle.station_core.specs.StationFields.{station_value}
use Rattle.station_core.specs.Refusals.{cancelling_refusal}
use Rattle.station_core.proofs.Cancelling.{abort_has_place}
use Rattle.station_core.proofs.station.Station.cancel.Goals as goal

pub cancel-ended-requires : goal.cancel-ended-requires
cancel-ended-requires c aborts =
    abort_has_place (station_value c.self.inside) c.args.to c.args.number
    (ap (λ st. cancelling_refusal st c.args.to c.args.number) c.self.view_is ∙ sym c.cancel_refusal.ensures ∙ c.in_default.is) aborts
