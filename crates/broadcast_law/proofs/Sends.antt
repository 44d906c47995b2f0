-- Ports open and close, messages are sent, pumped and cancelled, and timers fire: the bus stays, and a stream stands on.
use Rattle.std.proofs.Common.{◌≡◌, inr, ℕ, ◌^◌, ◌<◌, ◌≤◌, ◌==◌, nat_lt, Bool, true, false, cond, List, [], ◌∷◌, ◌++◌, length, set, Option, Some, None, refl, sym, ap, ◌∙◌, subst, arith, append-nil, eqb-true, eq-eqb, ltb-false, ◌+◌}
use Rattle.std.specs.Prelude.{slice_get}
use Rattle.std.proofs.lemmas.Bool.{eqb-false, and_parts, and_from}
use Rattle.std.specs.FinMap as finmap
use Rattle.pgn_ids.specs.Address.{is_one}
use Rattle.pgn_ids.specs.Pgn.{is_pgn, clean}
use Rattle.pgn_ids.specs.declared.address.Address.{Address}
use Rattle.tp_wire.specs.declared.constants.TheConstants.{MIN_SIZE}
use Rattle.port_table.specs.Ports.{with_port, with_paused, next_id}
use Rattle.port_table.specs.declared.port.PortId.{PortId}
use Rattle.lane_core.specs.Lane.{Lane, new_lane, pushed}
use Rattle.lane_core.specs.Pump as lane-pump
use Rattle.lane_core.specs.Cancel as lane-cancel
use Rattle.lane_core.specs.Step.{LaneStep}
use Rattle.station_lanes.specs.LaneCalls.{lane_to}
use Rattle.station_lanes.specs.LaneReaders.{is_pending_at}
use Rattle.station_core.specs.Station.{Station, by_lane}
use Rattle.station_core.specs.Sending.{lane_of, sent, pumped, cancelled}
use Rattle.station_core.specs.Timers.{fired}
use Rattle.station_core.specs.Closing.{closed}
use Rattle.segment_law.specs.Told.{is_lane}
use Rattle.segment_law.specs.Segment.{Segment, with_station, counted}
use Rattle.segment_law.specs.Reached.{IsReached}
use Rattle.segment_law.specs.declared.call.Call.TheVariants.{Open, Close, Send, Pump, Fire, Cancel, Pause, Resume}
use Rattle.segment_law.specs.declared.counts.Counts.{Counts}
use Rattle.segment_law.specs.declared.reply.Reply.TheVariants.{Opened, Sent, Done}
use Rattle.record_law.proofs.EachCall.{stepped}
use Rattle.record_law.proofs.Maps.{lane_here, lane_else}
use Rattle.record_law.proofs.Readings.{GivesBack, ReadsBack}
use Rattle.record_law.proofs.Segments.{same_address}
use Rattle.record_law.proofs.Tests.{on_test}
use Rattle.record_law.proofs.Told.{clean_is}
use Rattle.broadcast_law.proofs.Carried.{all}
use Rattle.broadcast_law.proofs.Endings.{does_fired, fired_calm, closes as station_closes}
use Rattle.broadcast_law.proofs.Good.{Good, GoodBy, small, is_of, is_here, good_step, good_calm, good_lane, good_all}
use Rattle.broadcast_law.proofs.LaneSteps.{IsLaneOf, Fits, fits_new, fits_pushed, fits_pumped, fits_cancelled}
use Rattle.broadcast_law.proofs.LaneToAll.{all_cancelled}
use Rattle.broadcast_law.proofs.Places.{AllOwn, apart_places, station_in, view, at_it, receives_calmly}
use Rattle.broadcast_law.proofs.Ports.{ports_opened, ports_paused, one_of_none}
use Rattle.broadcast_law.proofs.Receptions.{key_all}
use Rattle.broadcast_law.proofs.Send.{AreSeven, stepped_view, pushes, pumps as view_pumps, cancels as view_cancels}
use Rattle.broadcast_law.proofs.Stations.{IsOwn, put_lane, does_ports}
use Rattle.broadcast_law.proofs.View.{View, Stands, GoesOn}

module _ (s listener : Address) (one : is_one s.0 ≡ true) (goes : GoesOn) (gives : GivesBack) (reads : ReadsBack) (seven : AreSeven)
    (seg : Segment) (r : IsReached seg) (each : AllOwn seg) (i : ℕ) (st : Station) (at : slice_get seg.stations i ≡ Some st) where
  abbrev a : Address
  a = st.address

  own : IsOwn a st
  own = each i st at

  low : a.0 < 254
  low = small s listener goes seg r each i st at

  pub opens_good : (station : Address) (pgn max_len : ℕ) → GoodBy s listener seg (Open station pgn max_len) (with_station seg i (record st { ports = with_port st.ports pgn max_len }), Opened (next_id st.ports))
  opens_good station pgn max_len = good_calm s listener goes seg r each i st at seg.now seg.counts (record st { ports = with_port st.ports pgn max_len }) [] (does_ports a st (with_port st.ports pgn max_len) own (ports_opened a st.ports own.ports pgn max_len)) (inr refl) tt

  pub closes_good : (port : PortId) → GoodBy s listener seg (Close port) (with_station seg i (closed st port.number), Done [])
  closes_good port = let c = station_closes gives a low st port.number own in good_calm s listener goes seg r each i st at seg.now seg.counts (closed st port.number) [] c.0 (c.1 (key_all s)) tt

  pub pauses_good : (port : PortId) → GoodBy s listener seg (Pause port) (with_station seg i (record st { ports = with_paused st.ports port.number true }), Done [])
  pauses_good port = good_calm s listener goes seg r each i st at seg.now seg.counts (record st { ports = with_paused st.ports port.number true }) [] (does_ports a st (with_paused st.ports port.number true) own (ports_paused a st.ports own.ports port.number true)) (inr refl) tt

  pub resumes_good : (port : PortId) → GoodBy s listener seg (Resume port) (with_station seg i (record st { ports = with_paused st.ports port.number false }), Done [])
  resumes_good port = good_calm s listener goes seg r each i st at seg.now seg.counts (record st { ports = with_paused st.ports port.number false }) [] (does_ports a st (with_paused st.ports port.number false) own (ports_paused a st.ports own.ports port.number false)) (inr refl) tt

  pub fires_good : (station : Address) → GoodBy s listener seg (Fire station) (stepped seg i (fired st seg.now))
  fires_good station = let c = fired_calm gives a low s st seg.now own in good_calm s listener goes seg r each i st at seg.now (counted seg.counts (fired st seg.now).events) (fired st seg.now).station (fired st seg.now).events (does_fired gives a low st seg.now own) c.1 c.0

  -- A lane makes a step

  by_lane_good : (to : Address) (step : Lane → Lane × LaneStep) → ((n : ℕ) (l : Lane) → IsLaneOf a.0 n l → Fits a.0 n (step l))
      → ((l : Lane) → IsLaneOf a.0 255 l → a.0 ≡ s.0 → (v : View) → v.lane ≡ l → Stands s v → Stands s (stepped_view v (step l)))
      → (counts : Counts) → Good s listener seg (record { now = seg.now; stations = set seg.stations i (by_lane st to step).station; bus = seg.bus; counts = counts }) [] (by_lane st to step).events
  by_lane_good to step fits shows counts = on_test (λ b. (to.0 == 255) ≡ b → Goal to) (to.0 == 255)
      (λ _ e. subst Goal (sym (same_address to all (eqb-true to.0 255 e))) (good_all s listener goes seg r each i st at gives step (fits 255) shows seg.now counts))
      (λ _ e. good_lane s listener goes seg r each i st at gives to step (fits to.0) seg.now counts (eqb-false to.0 255 e)) refl
    where
      Goal : Address → Type 0
      Goal z = Good s listener seg (record { now = seg.now; stations = set seg.stations i (by_lane st z step).station; bus = seg.bus; counts = counts }) [] (by_lane st z step).events

  pub pumps_good : (station to : Address) → GoodBy s listener seg (Pump station to) (stepped seg i (pumped st to seg.now))
  pumps_good station to = by_lane_good to (λ l. lane-pump.pumped l seg.now) (λ n l. fits_pumped a.0 n l seg.now)
      (λ l k same v e h. subst (λ x. Stands s (stepped_view v (lane-pump.pumped x seg.now))) e (view_pumps s goes one reads seven v seg.now h)) (counted seg.counts (pumped st to seg.now).events)

  pub cancels_good : (from to : Address) (number : ℕ) → is_pending_at st.lanes to.0 number ≡ true → GoodBy s listener seg (Cancel from to number) (stepped seg i (cancelled st to number))
  cancels_good from to number pending =
      by_lane_good to (λ l. lane-cancel.cancelled l number) (λ n l. fits_cancelled a.0 n l number) shows (counted seg.counts (cancelled st to number).events)
    where
      shows : (l : Lane) → IsLaneOf a.0 255 l → a.0 ≡ s.0 → (v : View) → v.lane ≡ l → Stands s v → Stands s (stepped_view v (lane-cancel.cancelled l number))
      shows l k same v e h =
          let none : v.queue ++ (lane-cancel.cancelled l number).1.frames ≡ v.queue = ap (λ fs. v.queue ++ fs) (all_cancelled a.0 l number k) ∙ append-nil v.queue in
          subst (Stands s) (λ j. (let w : View = record v { lane = (lane-cancel.cancelled (e j) number).0; queue = sym none j } in w)) (view_cancels s goes v number h)

  -- A message is sent

  lane_fits : (to : Address) → to.0 < 256 → IsLaneOf a.0 to.0 (lane_of st to)
  lane_fits to l = by (finmap.get st.lanes to.0) refl
    where
      by : (o : Option Lane) → finmap.get st.lanes to.0 ≡ o → IsLaneOf a.0 to.0 (elim o [ None ↦ new_lane a.0 to.0 | Some x ↦ x ])
      by None e = fits_new a.0 to.0 l
      by (Some x) e = own.lanes to.0 x e

  sent_own : (to : Address) (pgn : ℕ) (bytes : List ℕ) → to.0 < 256 → IsOwn a (sent st to pgn bytes)
  sent_own to pgn bytes l = record {
    address = own.address;
    ports = own.ports;
    sessions = own.sessions;
    lanes = put_lane a.0 st.lanes to.0 (λ x. (x, record { frames = []; ended = None })) own.lanes (pushed (lane_of st to) pgn bytes) (fits_pushed a.0 to.0 (lane_of st to) pgn bytes (lane_fits to l));
    queue = own.queue;
  }

  sent_good : (from to : Address) (pgn : ℕ) (bytes : List ℕ) → from.0 ≡ a.0 → to.0 < 256 → is_pgn pgn ≡ true → 0 < length bytes → (b : Bool) → is_lane s all from to ≡ b → Good s listener seg (with_station seg i (sent st to pgn bytes)) (cond b ((pgn, bytes) ∷ []) []) []
  sent_good from to pgn bytes is l pgn_is long true e =
      let q : ((from.0 == s.0) ≡ true) × ((to.0 == 255) ≡ true) = and_parts (from.0 == s.0) (to.0 == 255) e in
      let mine' : a.0 ≡ s.0 = sym is ∙ eqb-true from.0 s.0 q.0 in
      let g : to.0 ≡ 255 = eqb-true to.0 255 q.1 in
      let c : (pgn < 2 ^ 18) × (clean pgn ≡ pgn) = clean_is pgn pgn_is in
      let new : Station = sent st to pgn bytes in
      good_step s listener goes seg r each i st at seg.now seg.bus seg.counts new ((pgn, bytes) ∷ []) [] (sent_own to pgn bytes l) (λ x y sent given at_x at_y n v.
      let n' : x ≡ y → ⊥ = apart_places seg x y s listener at_x at_y n in
      let xs : Station = station_in s seg.stations x in
      record {
        sends = λ h.
            let st_is : xs ≡ st = at_it s x y n' seg.stations i st new at seg.bus sent given [] x h in
            let lane : lane_to s new.lanes 255 ≡ pushed (lane_to s xs.lanes 255) pgn bytes =
            (λ k. lane_to s (finmap.insert st.lanes (g k) (pushed (lane_to (same_address a s mine' k) st.lanes (g k)) pgn bytes)) 255)
            ∙ ap (λ (o : Option Lane). elim o as (λ (_ : Option Lane). Lane) [ None ↦ new_lane s.0 255 | Some z ↦ z ]) (lane_here st.lanes 255 (pushed (lane_to s st.lanes 255) pgn bytes))
            ∙ ap (λ (z : Station). pushed (lane_to s z.lanes 255) pgn bytes) (sym st_is) in
            subst (Stands s) (sym (λ k. (let w : View = record (view s x y seg (sent ++ (pgn, bytes) ∷ []) given) { lane = lane k; queue = sym (ap (λ (z : Station). z.queue) st_is) k } in w)))
            (pushes s goes (view s x y seg sent given) pgn bytes v long c.0 c.1);
        receives = λ h. absurd (n (sym mine' ∙ is_of s listener goes seg r each i st at y listener at_y h));
        other = λ h _. absurd (h (is_here s listener goes seg r each i st at x s at_x mine'));
      }) (λ _ _ _. refl) (λ _. refl) (one_of_none [] refl)
  sent_good from to pgn bytes is l pgn_is long false e =
      let new : Station = sent st to pgn bytes in
      good_step s listener goes seg r each i st at seg.now seg.bus seg.counts new [] [] (sent_own to pgn bytes l) (λ x y sent given at_x at_y n v.
      let n' : x ≡ y → ⊥ = apart_places seg x y s listener at_x at_y n in
      let xs : Station = station_in s seg.stations x in
      let w : Stands s (view s x y seg (sent ++ []) given) = subst (λ ms. Stands s (view s x y seg ms given)) (sym (append-nil sent)) v in
      record {
        sends = λ h.
            let st_is : xs ≡ st = at_it s x y n' seg.stations i st new at seg.bus sent given [] x h in
            let mine' : from.0 ≡ s.0 = is ∙ is_of s listener goes seg r each i st at x s at_x h in
            let apart : 255 ≡ to.0 → ⊥ = λ g. (let t : is_lane s all from to ≡ true = and_from (from.0 == s.0) (to.0 == 255) (eq-eqb from.0 s.0 mine') (eq-eqb to.0 255 (sym g)) in let u : true ≡ false = sym t ∙ e in cc) in
            let lane : lane_to s new.lanes 255 ≡ lane_to s xs.lanes 255 =
            ap (λ (o : Option Lane). elim o as (λ (_ : Option Lane). Lane) [ None ↦ new_lane s.0 255 | Some z ↦ z ]) (lane_else st.lanes to.0 255 (pushed (lane_of st to) pgn bytes) apart)
            ∙ ap (λ (z : Station). lane_to s z.lanes 255) (sym st_is) in
            subst (Stands s) (sym (λ k. (let u : View = record (view s x y seg (sent ++ []) given) { lane = lane k; queue = sym (ap (λ (z : Station). z.queue) st_is) k } in u))) w;
        receives = λ h. receives_calmly s x y n' seg.stations i st new at seg.bus (sent ++ []) given [] goes (inr refl) refl h w;
        other = λ _ _. w;
      }) (λ _ _ _. refl) (λ _. refl) (one_of_none [] refl)

  pub sends_good : (from to : Address) (pgn : ℕ) (bytes : List ℕ) → from.0 ≡ a.0 → to.0 < 256 → is_pgn pgn ≡ true → nat_lt (length bytes) MIN_SIZE ≡ false → GoodBy s listener seg (Send from to pgn bytes) (with_station seg i (sent st to pgn bytes), Sent ((lane_of st to).sent + 1))
  sends_good from to pgn bytes is l pgn_is long =
      sent_good from to pgn bytes is l pgn_is (let m : MIN_SIZE ≤ length bytes = ltb-false (length bytes) MIN_SIZE long in omega (arith, m)) (is_lane s all from to) refl
