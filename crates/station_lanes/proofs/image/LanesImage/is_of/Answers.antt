use Rattle.std.proofs.Common.{sym, ◌∙◌}
use Rattle.station_lanes.proofs.Imaged.{same_places, same_lanes}
use Rattle.station_lanes.proofs.image.LanesImage.is_of.Goals as goal

pub returns : goal.returns
returns c =
    let a = c.self.inside.places.items in
    let b = c.lanes.inside.slots.items in (
      λ is. sym c.self.view_is ∙ same_lanes a b (sym c.deref.ensures.value ∙ c.are_of.ensures.0 is ∙ c.deref-2.ensures.value) ∙ c.lanes.view_is,
      λ e. c.are_of.ensures.1 (c.deref.ensures.value ∙ same_places a b 256 c.self.invariant c.lanes.invariant.places (c.self.view_is ∙ e ∙ sym c.lanes.view_is) ∙ sym c.deref-2.ensures.value),
    )
