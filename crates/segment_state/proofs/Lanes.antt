-- What is read of the lanes of the station with an address.
use Rattle.std.proofs.Common.{◌≡◌, ℕ, ◌<◌, length, get_or, Option, Some, None, refl, sym, ap, ◌∙◌}
use Rattle.std.specs.Prelude.{slice_get, unwrap_or}
use Rattle.std.specs.Ordering.{nat_cmp}
use Rattle.std.specs.FinMap.{get-empty}
use Rattle.std.proofs.lemmas.Option.{slice_get_read}
use Rattle.pgn_ids.specs.declared.address.Address.{Address}
use Rattle.lane_core.specs.Lane.{Lane}
use Rattle.lane_core.specs.Pump.{missing}
use Rattle.lane_core.specs.Sight.{sight_of, nothing_seen}
use Rattle.lane_core.specs.declared.sight.LaneSight.{LaneSight}
use Rattle.station_lanes.specs.LaneReaders.{missing_at, sight_at}
use Rattle.station_core.specs.Station.{Station, new_station}
use Rattle.segment_law.specs.Segment.{Segment, place_of, station_at}

pub station_is : (seg : Segment) (a : Address) (i : ℕ) (st : Station) → place_of seg a ≡ Some i → i < length seg.stations → st ≡ get_or seg.stations i st → station_at seg a ≡ st
station_is seg a i st here lt is =
    ap (λ (o : Option ℕ). unwrap_or (elim o as (λ (_ : Option ℕ). Option Station) [ None ↦ None | Some k ↦ slice_get seg.stations k ]) (new_station a)) here
    ∙ ap (λ (o : Option Station). unwrap_or o (new_station a)) (slice_get_read seg.stations (length seg.stations) i st refl lt is)

pub nothing_missing : (seg : Segment) (a : Address) (to now : ℕ) → place_of seg a ≡ None → 0 ≡ missing_at (station_at seg a).lanes to now
nothing_missing seg a to now none =
    let st : station_at seg a ≡ new_station a = ap (λ (o : Option ℕ). unwrap_or (elim o as (λ (_ : Option ℕ). Option Station) [ None ↦ None | Some k ↦ slice_get seg.stations k ]) (new_station a)) none in
    sym (ap (λ (s : Station). missing_at s.lanes to now) st ∙ ap (λ (o : Option Lane). elim o as (λ (_ : Option Lane). ℕ) [ None ↦ 0 | Some lane ↦ missing lane now ]) (get-empty {X = Lane} nat_cmp to))

pub nothing_seen_at : (seg : Segment) (a : Address) (to : ℕ) → place_of seg a ≡ None → nothing_seen ≡ sight_at (station_at seg a).lanes to
nothing_seen_at seg a to none =
    let st : station_at seg a ≡ new_station a = ap (λ (o : Option ℕ). unwrap_or (elim o as (λ (_ : Option ℕ). Option Station) [ None ↦ None | Some k ↦ slice_get seg.stations k ]) (new_station a)) none in
    sym (ap (λ (s : Station). sight_at s.lanes to) st ∙ ap (λ (o : Option Lane). elim o as (λ (_ : Option Lane). LaneSight) [ None ↦ nothing_seen | Some lane ↦ sight_of lane ]) (get-empty {X = Lane} nat_cmp to))
