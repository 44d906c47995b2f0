-- A frame leaves the queue of a station in which a pump has its places: what the station has to do by itself stays the same.
use Rattle.std.proofs.Common.{◌≡◌, ℕ, suc, ◌-◌, ◌≤◌, Bool, true, false, cond, ◌||◌, ◌==◌, List, [], ◌∷◌, length, Option, Some, None, Err, refl, sym, ap, ◌∙◌, arith}
use Rattle.std.specs.Prelude.{slice_get, is_ok, is_some}
use Rattle.std.specs.Option.{option_map}
use Rattle.std.proofs.lemmas.Bool.{ltb-false, le-ltb}
use Rattle.bus_frame.specs.Frames.{CanFrame}
use Rattle.pgn_ids.specs.Address.{null_address}
use Rattle.pgn_ids.specs.declared.address.Address.{Address}
use Rattle.tx_queue.specs.Queue.{behind}
use Rattle.lane_core.specs.declared.refused.PumpRefused.{PumpRefused}
use Rattle.lane_core.specs.declared.refused.PumpRefused.TheVariants as of_lane
use Rattle.station_lanes.specs.LaneReaders.{refusal_at}
use Rattle.station_lanes.proofs.Counting.{least_same}
use Rattle.station_core.specs.Station.{Station}
use Rattle.station_core.specs.Sending.{pumped}
use Rattle.segment_law.specs.Segment.{Segment, place_of, station_of}
use Rattle.segment_law.specs.Calls.{pumps, pumps_by, stepped}
use Rattle.segment_law.specs.declared.refusal.Refusal.TheVariants as refusal
use Rattle.segment_law.specs.Readers.{pumps_to, next_pump, is_due, is_due_of}
use Rattle.segment_state.specs.Next.{at_tick, is_active}
use Rattle.segment_state.proofs.Pumping.{pumps_to_is}
use Rattle.watched_segment.specs.Calm.{lacks_places}

pub still_room : (queue : List CanFrame) → lacks_places queue ≡ false → lacks_places (behind queue) ≡ false
still_room [] e = refl
still_room (f ∷ fs) e = let h : 8 ≤ 64 - suc (length fs) = ltb-false (64 - suc (length fs)) 8 e in le-ltb (64 - length fs) 8 (omega (arith, h))

module _ (seg next : Segment) (tick i : ℕ) (st : Station) (queue : List CanFrame) (room : lacks_places st.queue ≡ false) (still : lacks_places queue ≡ false) where
  abbrev new : Station
  new = record st { queue = queue }

  abbrev was : Segment
  was = at_tick seg tick

  abbrev is : Segment
  is = at_tick next tick

  -- a pump isn't refused for want of places
  alike : (to : ℕ) → is_ok (pumps is (record { 0 = to }) i new) ≡ is_ok (pumps was (record { 0 = to }) i st)
  alike to = by (to == null_address) (refusal_at st.lanes to tick)
    where
      goes : (s : Segment) (t : Station) (b : Bool) → is_ok (cond b (Err refusal.TxFull) (stepped s i (pumped t (record { 0 = to }) s.now))) ≡ cond b false true
      goes s t true = refl
      goes s t false = refl

      by : (null : Bool) (o : Option PumpRefused) → is_ok (cond null (Err refusal.NoSuchStation) (pumps_by is (record { 0 = to }) i new o)) ≡ is_ok (cond null (Err refusal.NoSuchStation) (pumps_by was (record { 0 = to }) i st o))
      by true o = refl
      by false (Some of_lane.NothingToSend) = refl
      by false (Some of_lane.NotYet) = refl
      by false None = goes is new (lacks_places queue) ∙ ap (λ (b : Bool). cond b false true) (still ∙ sym room) ∙ sym (goes was st (lacks_places st.queue))

  module _ (a : Address) (here : place_of seg a ≡ Some i) (there : slice_get seg.stations i ≡ Some st) (here_then : place_of next a ≡ Some i) (there_then : slice_get next.stations i ≡ Some new) where
    found : (s : Segment) (t : Station) → place_of s a ≡ Some i → slice_get s.stations i ≡ Some t → station_of s a ≡ Some t
    found s t h e = ap (λ (o : Option ℕ). elim o as (λ (_ : Option ℕ). Option Station) [ None ↦ None | Some k ↦ slice_get s.stations k ]) h ∙ e

    due : is_due is a ≡ is_due was a
    due = ap (is_due_of is) (found is new here_then there_then) ∙ sym (ap (is_due_of was) (found was st here there))

    pump : next_pump is a ≡ next_pump was a
    pump =
        ap (option_map (λ (to : ℕ). let r : Address = record { 0 = to } in r))
        (least_same (pumps_to is a) (pumps_to was a) 256 (λ to below. pumps_to_is is a to i new here_then there_then ∙ alike to ∙ sym (pumps_to_is was a to i st here there)))

    pub active_still : is_active is a ≡ is_active was a
    active_still = λ k. due k || is_some (pump k)
