-- A lane as plain data.
use Rattle.lane_core.specs.declared.image.LaneImage.TheInside.{Inside}
use Rattle.lane_core.specs.declared.image.UnderWayImage.{UnderWayImage}
use Rattle.lane_core.specs.declared.image.UnderWayImage.TheVariants as image
use Rattle.lane_core.specs.declared.place.UnderWay.{UnderWay}
use Rattle.lane_core.specs.declared.place.UnderWay.TheVariants.{Nothing, Broadcast, Connection}
use Rattle.lane_core.specs.Lane.{Lane}

-- what was under way
abbrev pub under_way_value : UnderWayImage → UnderWay
under_way_value image.Nothing = Nothing
under_way_value (image.Broadcast s) = Broadcast s
under_way_value (image.Connection s) = Connection s

-- what the fields say
abbrev pub lane_image_value : Inside → Lane
lane_image_value l = record { from = l.from.0; to = l.to.0; sent = l.sent; pending = l.pending.items; under_way = under_way_value l.under_way; standing = l.standing; token = l.token }
