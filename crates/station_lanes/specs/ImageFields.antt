-- The lanes of a station as plain data: one place for each destination.
use Rattle.std.specs.Prelude.{◌≡◌, length}
use Rattle.station_lanes.specs.Lanes.{Lanes}
use Rattle.station_lanes.specs.LaneSlots.{lanes_below}
use Rattle.station_lanes.specs.declared.image.LanesImage.TheInside.{Inside}

abbrev pub lanes_image_value : Inside → Lanes
lanes_image_value l = lanes_below l.places.items (length l.places.items)

-- there is a place for each address
abbrev pub ArePlaces : Inside → Type 0
ArePlaces l = length l.places.items ≡ 256
