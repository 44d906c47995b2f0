-- Which destination of a station is pumped next.
use Rattle.std.proofs.Common.{◌≡◌, ℕ, Bool, true, false, cond, ◌==◌, nat_lt, Option, Some, None, Err, refl, sym, ap, ◌∙◌, arith}
use Rattle.std.proofs.lemmas.Bool.{eqb-true}
use Rattle.std.specs.Prelude.{slice_get, is_ok, is_none}
use Rattle.std.specs.Option.{option_map}
use Rattle.std.specs.FinMap as map
use Rattle.pgn_ids.specs.Address.{null_address}
use Rattle.pgn_ids.specs.declared.address.Address.{Address}
use Rattle.tx_queue.specs.Queue.{free_places}
use Rattle.lane_core.specs.declared.refused.PumpRefused.{PumpRefused}
use Rattle.lane_core.specs.declared.refused.PumpRefused.TheVariants as of_lane
use Rattle.lane_core.specs.Lane.{Lane}
use Rattle.lane_core.specs.Pump.{pump_refusal}
use Rattle.station_lanes.specs.LaneReaders.{least_below, is_pumping, pumping_lane, refusal_at}
use Rattle.station_lanes.proofs.Counting.{same_up_to, least_same, none_from}
use Rattle.station_core.specs.Station.{Station}
use Rattle.station_core.specs.Sending as station
use Rattle.station_core.specs.Sending.{pumped}
use Rattle.segment_law.specs.Segment.{Segment, place_of, station_of}
use Rattle.segment_law.specs.Calls.{called, at_station, at_place, pumps, pumps_by, stepped}
use Rattle.segment_law.specs.declared.refusal.Refusal.TheVariants as refusal
use Rattle.segment_law.specs.Readers.{pumps_to, next_pump}
use Rattle.segment_state.proofs.Stations.{at_is, at_none}

-- of a station
pub pumps_to_is : (seg : Segment) (a : Address) (to i : ℕ) (st : Station) → place_of seg a ≡ Some i → slice_get seg.stations i ≡ Some st → pumps_to seg a to ≡ is_ok (pumps seg (record { 0 = to }) i st)
unfolding called
pumps_to_is seg a to i st here there = ap is_ok (at_is seg a i st (pumps seg (record { 0 = to })) here there)

pub pumps_to_none : (seg : Segment) (a : Address) (to : ℕ) → place_of seg a ≡ None → pumps_to seg a to ≡ false
unfolding called
pumps_to_none seg a to none = ap is_ok (at_none seg a (pumps seg (record { 0 = to })) none)

module _ (seg : Segment) (a : Address) (i : ℕ) (st : Station) (here : place_of seg a ≡ Some i) (there : slice_get seg.stations i ≡ Some st) where
  abbrev few : Bool
  few = nat_lt (free_places st.queue) 8

  -- a pump isn't refused where there is room, to a destination whose lane queues a frame
  flat : (to : ℕ) → is_ok (pumps seg (record { 0 = to }) i st) ≡ cond (to == null_address) false (cond few false (is_pumping st.lanes seg.now to))
  flat to = by (to == null_address) (refusal_at st.lanes to seg.now)
    where
      room : (b : Bool) → is_ok (cond b (Err refusal.TxFull) (stepped seg i (pumped st (record { 0 = to }) seg.now))) ≡ cond b false true
      room true = refl
      room false = refl

      neither : (b : Bool) → false ≡ cond b false false
      neither true = refl
      neither false = refl

      by : (null : Bool) (o : Option PumpRefused) → is_ok (cond null (Err refusal.NoSuchStation) (pumps_by seg (record { 0 = to }) i st o)) ≡ cond null false (cond few false (is_none o))
      by true o = refl
      by false (Some of_lane.NothingToSend) = neither few
      by false (Some of_lane.NotYet) = neither few
      by false None = room few

  all_refused : few ≡ true → least_below (pumps_to seg a) 256 ≡ None
  all_refused e = same_up_to (pumps_to seg a) 0 256 (omega arith) (λ n le below. pumps_to_is seg a n i st here there ∙ flat n ∙ ap (λ b. cond (n == null_address) false (cond b false (is_pumping st.lanes seg.now n))) e ∙ by (n == null_address)) ∙ none_from (pumps_to seg a)
    where
      by : (b : Bool) → cond b false false ≡ false
      by true = refl
      by false = refl

  -- a lane queues a frame
  abbrev queues : Option Lane → Bool
  queues o = is_none (elim o [ None ↦ Some of_lane.NothingToSend | Some lane ↦ pump_refusal lane seg.now ])

  as_lanes : few ≡ false → map.get st.lanes null_address ≡ None → (n : ℕ) → pumps_to seg a n ≡ is_pumping st.lanes seg.now n
  as_lanes e null n = pumps_to_is seg a n i st here there ∙ flat n ∙ ap (λ b. cond (n == null_address) false (cond b false (is_pumping st.lanes seg.now n))) e ∙ by (n == null_address) refl
    where
      by : (b : Bool) → (n == null_address) ≡ b → cond b false (is_pumping st.lanes seg.now n) ≡ is_pumping st.lanes seg.now n
      by true at = sym (ap (is_pumping st.lanes seg.now) (eqb-true n null_address at) ∙ ap queues null)
      by false at = refl

  least : map.get st.lanes null_address ≡ None → least_below (pumps_to seg a) 256 ≡ station.next_pump st seg.now
  least null = by few refl
    where
      by : (b : Bool) → few ≡ b → least_below (pumps_to seg a) 256 ≡ cond b None (pumping_lane st.lanes seg.now)
      by true e = all_refused e
      by false e = least_same (pumps_to seg a) (is_pumping st.lanes seg.now) 256 (λ n below. as_lanes e null n)

  -- the lowest such destination is the station's
  pub next_pump_is : (found : Option Address) → map.get st.lanes null_address ≡ None → option_map (λ to. to.0) found ≡ station.next_pump st seg.now → found ≡ next_pump seg a
  next_pump_is found null e = wrapped found ∙ ap (option_map (λ (to : ℕ). let r : Address = record { 0 = to } in r)) (e ∙ sym (least null))
    where
      wrapped : (found : Option Address) → found ≡ option_map (λ (to : ℕ). let r : Address = record { 0 = to } in r) (option_map (λ to. to.0) found)
      wrapped None = refl
      wrapped (Some a) = refl

-- no station has the address
pub next_pump_none : (seg : Segment) (a : Address) → place_of seg a ≡ None → next_pump seg a ≡ None
next_pump_none seg a none =
    ap (option_map (λ (to : ℕ). let r : Address = record { 0 = to } in r)) (same_up_to (pumps_to seg a) 0 256 (omega arith) (λ n le below. pumps_to_none seg a n none) ∙ none_from (pumps_to seg a))

-- whether a pump to a destination is refused depends on the station and the tick alone

abbrev queues_to : (tick : ℕ) → Option Station → ℕ → Bool
queues_to tick None to = false
queues_to tick (Some st) to = cond (to == null_address) false (cond (nat_lt (free_places st.queue) 8) false (is_pumping st.lanes tick to))

pumps_by_station : (seg : Segment) (a : Address) (to : ℕ) → pumps_to seg a to ≡ queues_to seg.now (station_of seg a) to
unfolding called
pumps_by_station seg a to = by (place_of seg a) refl
  where
    at : (i : ℕ) (o : Option Station) → place_of seg a ≡ Some i → slice_get seg.stations i ≡ o → pumps_to seg a to ≡ queues_to seg.now o to
    at i None here there = ap is_ok (ap (λ o. at_place seg o (pumps seg (record { 0 = to }))) here ∙ ap (λ o. at_station o (pumps seg (record { 0 = to }) i)) there)
    at i (Some st) here there = pumps_to_is seg a to i st here there ∙ flat seg a i st here there to

    by : (o : Option ℕ) → place_of seg a ≡ o → pumps_to seg a to ≡ queues_to seg.now (elim o as (λ (_ : Option ℕ). Option Station) [ None ↦ None | Some i ↦ slice_get seg.stations i ]) to
    by None none = pumps_to_none seg a to none
    by (Some i) here = at i (slice_get seg.stations i) here refl

-- and so does the lowest destination
pub next_pump_as : (seg next : Segment) (a : Address) → next.now ≡ seg.now → station_of next a ≡ station_of seg a → next_pump next a ≡ next_pump seg a
next_pump_as seg next a now same =
    ap (option_map (λ (to : ℕ). let r : Address = record { 0 = to } in r))
    (least_same (pumps_to next a) (pumps_to seg a) 256 (λ to below. pumps_by_station next a to ∙ (λ k. queues_to (now k) (same k) to) ∙ sym (pumps_by_station seg a to)))
