use Rattle.std.proofs.Common.{◌≡◌, ◌<◌, ◌≤◌, ◌++◌, ◌∷◌, [], length, map, subst, sym, ap, ◌∙◌}
use Rattle.std.proofs.lemmas.List.{length-replicate, length-map}
use Rattle.std.specs.Vec.{vec_capacity}
use Rattle.bus_order.specs.Bus.{start}
use Rattle.station_core.specs.Station.{new_station}
use Rattle.segment_state.specs.Places.{noted, ArePlaces}
use Rattle.segment_state.proofs.Placing.{none_placed, placed_on, added, how_many, vec_long, room_left, at_end, few_before, before_is, byte, stands_whole}
use Rattle.segment_law.specs.Segment.{no_counts, rising}
use Rattle.segment_law.proofs.New.{length_rising, new_reached}
use Rattle.station_addresses.proofs.Rising.{one_here, one_of, rising_few}
use Rattle.segment_state.proofs.Stations.{StandInPlace}
use Rattle.segment_state.proofs.state.SegmentState.of.Goals as goal

pub loop-place-init : goal.loop-place-init
loop-place-init c =
    let items : c.in_ok-stations.stations.items ≡ [] = c.in_ok-stations.ensures.items in (
      items,
      subst (λ n. n ≤ vec_capacity c.in_ok-stations.stations) (c.len.ensures ∙ sym (vec_long c.in_ok-rising.rising)) c.in_ok-stations.ensures.capacity,
      subst (λ l. ArePlaces c.new-places.result l) (sym items) (subst (λ p. ArePlaces p []) (sym c.new-places.ensures) none_placed),
    )

pub index-address-requires : goal.index-address-requires
index-address-requires c = subst (λ n. c.loop-place.place < n) c.len-place-end.ensures c.loop-place-test.true

pub overflow_cast-place : goal.overflow_cast-place
overflow_cast-place c =
    let within : c.loop-place.place < length c.in_ok-rising.rising.items = subst (λ n. c.loop-place.place < n) (c.len-place-end.ensures ∙ sym (vec_long c.in_ok-rising.rising)) c.loop-place-test.true in
    let few : length c.in_ok-rising.rising.items ≤ 32 = subst (λ l. length l ≤ 32) (sym c.in_ok-rising.ensures) (rising_few c.args.addresses.now c.requires) in
    byte c.loop-place.place (few_before c.loop-place.place (length c.in_ok-rising.rising.items) within few)

pub note-requires : goal.note-requires
note-requires c = c.loop-place.invariant.2.all

pub station_at-requires : goal.station_at-requires
station_at-requires c =
    let within : c.loop-place.place < length c.in_ok-rising.rising.items = subst (λ n. c.loop-place.place < n) (c.len-place-end.ensures ∙ sym (vec_long c.in_ok-rising.rising)) c.loop-place-test.true in
    one_of c.args.addresses.now c.in_ok-rising.rising.items c.loop-place.place c.index-address.result.now c.requires c.in_ok-rising.ensures within c.index-address.ensures

pub push_reserved-requires : goal.push_reserved-requires
push_reserved-requires c =
    let within : c.loop-place.place < length c.in_ok-rising.rising.items = subst (λ n. c.loop-place.place < n) (c.len-place-end.ensures ∙ sym (vec_long c.in_ok-rising.rising)) c.loop-place-test.true in
    let long : length c.loop-place.stations.items ≡ c.loop-place.place = how_many c.in_ok-rising.rising.items c.loop-place.stations.items c.loop-place.place c.loop-place.invariant.0 (before_is _ _ within) in
    room_left _ _ _ _ _ (vec_long c.loop-place.stations) long within c.loop-place.invariant.1

pub loop-place-preserved : goal.loop-place-preserved
loop-place-preserved c =
    let within : c.loop-place.place < length c.in_ok-rising.rising.items = subst (λ n. c.loop-place.place < n) (c.len-place-end.ensures ∙ sym (vec_long c.in_ok-rising.rising)) c.loop-place-test.true in
    let few : length c.in_ok-rising.rising.items ≤ 32 = subst (λ l. length l ≤ 32) (sym c.in_ok-rising.ensures) (rising_few c.args.addresses.now c.requires) in
    let one : c.index-address.result.now.0 < 256 = one_here c.args.addresses.now c.in_ok-rising.rising.items c.loop-place.place c.index-address.result.now c.requires c.in_ok-rising.ensures within c.index-address.ensures in
    let long : length c.loop-place.stations.items ≡ c.loop-place.place = how_many c.in_ok-rising.rising.items c.loop-place.stations.items c.loop-place.place c.loop-place.invariant.0 (before_is _ _ within) in
    let pushed : c.push_reserved.new.self.items ≡ c.loop-place.stations.items ++ new_station c.index-address.result.now ∷ [] = c.push_reserved.ensures.items ∙ ap (λ st. c.loop-place.stations.items ++ st ∷ []) c.in_ok-station_at.ensures in
    let placed : ArePlaces (noted c.loop-place.places c.index-address.result.now c.loop-place.place) (c.loop-place.stations.items ++ new_station c.index-address.result.now ∷ []) =
    subst (λ n. ArePlaces (noted c.loop-place.places c.index-address.result.now n) (c.loop-place.stations.items ++ new_station c.index-address.result.now ∷ [])) long
    (placed_on c.loop-place.places c.loop-place.stations.items c.index-address.result.now c.loop-place.invariant.2 one (few_before _ _ (subst (λ n. n < length c.in_ok-rising.rising.items) (sym long) within) few)) in (
      pushed ∙ added c.in_ok-rising.rising.items c.loop-place.stations.items c.loop-place.place c.index-address.result.now c.loop-place.invariant.0 within c.index-address.ensures,
      subst (λ n. length c.in_ok-rising.rising.items ≤ n) (sym c.push_reserved.ensures.capacity) c.loop-place.invariant.1,
      subst (λ p. ArePlaces p c.push_reserved.new.self.items) (sym c.note.ensures) (subst (λ l. ArePlaces (noted c.loop-place.places c.index-address.result.now c.loop-place.place) l) (sym pushed) placed),
    )

pub invariant_of-result : goal.invariant_of-result
invariant_of-result c =
    let rose = c.in_ok-rising.rising.items in
    let whole : c.loop-place.place ≡ length rose = at_end c.loop-place.place c.len-place-end.result (length rose) c.loop-place-test.false c.loop-place.auto.place-end (c.len-place-end.ensures ∙ sym (vec_long c.in_ok-rising.rising)) in
    let all_there : c.loop-place.stations.items ≡ map new_station (rising c.args.addresses.now) = stands_whole c.loop-place.place rose c.loop-place.stations.items (rising c.args.addresses.now) c.loop-place.invariant.0 whole c.in_ok-rising.ensures in
    let long : length c.loop-place.stations.items ≡ length (rising c.args.addresses.now) = ap length all_there ∙ length-map (rising c.args.addresses.now) new_station in
    record {
      few = subst (λ n. n ≤ 32) (sym long) (rising_few c.args.addresses.now c.requires);
      cursors = ap (λ b. length b.cursors) c.in_ok-new.ensures.new ∙ length-replicate (length c.args.addresses.now) start ∙ sym (long ∙ length_rising c.args.addresses.now);
      places = c.loop-place.invariant.2;
      in_place = subst StandInPlace (sym all_there) (new_reached c.args.addresses.now c.requires).places;
    }

pub returns : goal.returns
returns c =
    let rose = c.in_ok-rising.rising.items in
    let whole : c.loop-place.place ≡ length rose = at_end c.loop-place.place c.len-place-end.result (length rose) c.loop-place-test.false c.loop-place.auto.place-end (c.len-place-end.ensures ∙ sym (vec_long c.in_ok-rising.rising)) in
    let all_there : c.loop-place.stations.items ≡ map new_station (rising c.args.addresses.now) = stands_whole c.loop-place.place rose c.loop-place.stations.items (rising c.args.addresses.now) c.loop-place.invariant.0 whole c.in_ok-rising.ensures in
    λ k. record { now = c.new.ensures k; stations = all_there k; bus = c.in_ok-new.ensures.new k; counts = no_counts }
