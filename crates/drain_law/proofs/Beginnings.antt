-- A new segment is ready, and no message waits on it.
use Rattle.std.proofs.Common.{◌≡◌, ℕ, ◌+◌, ◌-◌, ◌==◌, Bool, true, ◌&&◌, List, [], ◌∷◌, map, length, get_or, Option, Some, None, refl, sym, ap, ◌∙◌, subst, arith}
use Rattle.std.specs.Prelude.{All, slice_get, unwrap_or}
use Rattle.std.specs.FinMap as finmap
use Rattle.std.specs.FinMap.{get-empty}
use Rattle.std.specs.Ordering.{nat_cmp}
use Rattle.std.proofs.lemmas.Bool.{eq-eqb}
use Rattle.std.proofs.lemmas.List.Sums.{list_all-from_AllPass}
use Rattle.std.proofs.lemmas.Option.{slice_get-get_or}
use Rattle.pgn_ids.specs.declared.address.Address.{Address}
use Rattle.bus_order.specs.Bus.{waiting}
use Rattle.lane_core.specs.Lane.{Lane, new_lane}
use Rattle.lane_core.specs.declared.message.Pending.{Pending}
use Rattle.station_lanes.specs.LaneCalls.{lane_to}
use Rattle.station_core.specs.Station.{Station, new_station}
use Rattle.segment_law.specs.Segment.{Segment, place_of, station_at, lane_at, waiting_at, new_segment, rising}
use Rattle.segment_law.specs.Quiet.{is_at_rest}
use Rattle.segment_law.proofs.Booleans.{both}
use Rattle.record_law.proofs.Segments.{new_at}
use Rattle.segment_drain.specs.Chosen.{node}
use Rattle.drain_law.specs.Waiting.{IsReadyLane, MayEnd, IsReady, lane_messages, station_messages, messages_of}
use Rattle.drain_law.specs.Ended.{NewIsReady}
use Rattle.drain_law.proofs.Lists.{flat_none}

module _ (addresses : List Address) where
  abbrev seg : Segment
  seg = new_segment addresses

  -- a station, or an address without one, is as new
  record IsNew (st : Station) : Type 0 where
    is : st ≡ new_station st.address

  each_new : (a : Address) → IsNew (station_at seg a)
  each_new a = by (place_of seg a)
    where
      there : (i : ℕ) (o : Option Station) → slice_get seg.stations i ≡ o → IsNew (unwrap_or o (new_station a))
      there i None e = record { is = refl }
      there i (Some st) e = record { is = new_at (rising addresses) i st e }

      by : (o : Option ℕ) → IsNew (unwrap_or (elim o as (λ (_ : Option ℕ). Option Station) [ None ↦ None | Some i ↦ slice_get seg.stations i ]) (new_station a))
      by None = record { is = refl }
      by (Some i) = there i (slice_get seg.stations i) refl

  lane_is : (a to : Address) → lane_at seg a to ≡ new_lane (station_at seg a).address.0 to.0
  lane_is a to =
      ap (λ (st : Station). lane_to st.address st.lanes to.0) (each_new a).is
      ∙ ap (λ (o : Option Lane). elim o as (λ (_ : Option Lane). Lane) [ None ↦ new_lane (station_at seg a).address.0 to.0 | Some l ↦ l ]) (get-empty {X = Lane} nat_cmp to.0)

  none_waits : (a : Address) → waiting_at seg a ≡ 0
  none_waits a = by (place_of seg a)
    where
      by : (o : Option ℕ) → (elim o as (λ (_ : Option ℕ). ℕ) [ None ↦ 0 | Some i ↦ waiting seg.bus i ]) ≡ 0
      by None = refl
      by (Some i) = omega arith

  rests : is_at_rest seg ≡ true
  rests = list_all-from_AllPass (λ st. length st.queue == 0 && waiting_at seg st.address == 0) seg.stations one
    where
      one : All (λ (st : Station). (length st.queue == 0 && waiting_at seg st.address == 0) ≡ true) seg.stations
      one j default lt =
          let st : Station = get_or seg.stations j default in
          let is : st ≡ new_station st.address = new_at (rising addresses) j st (slice_get-get_or seg.stations j default lt) in
          let none : length st.queue ≡ 0 = ap (λ (z : Station). length z.queue) is in
          both (length st.queue == 0) (waiting_at seg st.address == 0) (eq-eqb (length st.queue) 0 none) (eq-eqb (waiting_at seg st.address) 0 (none_waits st.address))

  pub new_is_ready : IsReady seg
  new_is_ready = record {
    at_rest = rests;
    sessions = λ a. ap (λ (st : Station). st.sessions) (each_new a).is;
    lanes = λ a to. subst IsReadyLane (sym (lane_is a to)) (record { under_way = refl; standing = tt });
    messages = λ a to. subst (λ (l : Lane). MayEnd seg to l.pending) (sym (lane_is a to)) tt;
  }

  pub new_is_empty : messages_of seg ≡ []
  new_is_empty = flat_none (station_messages seg) 0 254 (λ a from under. flat_none (lane_messages seg a) 0 256 (λ to f u. ap (λ (l : Lane). map (λ (m : Pending). (node a, node to, m)) l.pending) (lane_is (node a) (node to))))

pub new_ready : NewIsReady
new_ready addresses = (new_is_ready addresses, new_is_empty addresses)
