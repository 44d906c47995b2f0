-- Timers that fire, an overrun, and a port that closes: none changes what a station says to all, and a session is as it was or ends.
use Rattle.std.proofs.Common.{◌≡◌, inr, ℕ, zero, suc, ◌<◌, ◌==◌, nat_lt, [], ◌∷◌, ◌++◌, length, Option, Some, None, refl, sym, ap, ◌∙◌, subst, arith, append-nil, eqb-true}
use Rattle.std.specs.Prelude.{option_to_list}
use Rattle.std.proofs.lemmas.Bool.{eqb-false}
use Rattle.std.specs.FinMap as finmap
use Rattle.bus_frame.specs.Frames.{CanFrame}
use Rattle.pgn_ids.specs.declared.address.Address.{Address}
use Rattle.tx_queue.specs.Queue.{queue_limit}
use Rattle.port_table.specs.Ports.{without_port}
use Rattle.lane_core.specs.Lane.{Lane}
use Rattle.lane_core.specs.Step.{nothing_to_do, LaneStep}
use Rattle.lane_core.specs.Overrun.{overrun as lane_overrun}
use Rattle.lane_core.specs.Fire.{fired as lane_fires}
use Rattle.session_table.specs.declared.key.Key.{Key}
use Rattle.session_table.specs.declared.key.SessionKind.{SessionKind}
use Rattle.session_table.specs.declared.key.SessionKind.TheVariants as session
use Rattle.session_table.specs.DueOrder.{first_due}
use Rattle.station_lanes.specs.Lanes.{Lanes}
use Rattle.station_lanes.specs.LaneCalls.{stepped_lanes, step_at, outcome_of}
use Rattle.station_lanes.specs.LaneReaders.{overrun_lanes, overrun_events, due_lane}
use Rattle.station_sessions.specs.Receiving.{Inbound, fired_at, unbound_at}
use Rattle.station_core.specs.Station.{Station, StationStep, by_session, by_lane}
use Rattle.station_sessions.specs.Opening.{key_of}
use Rattle.station_core.specs.Closing.{if_free, unbound_session, unbound_source, closed_below, closed}
use Rattle.station_core.specs.Overruns.{overrun}
use Rattle.station_core.specs.Timers.{lane_fired, fired}
use Rattle.record_law.proofs.Lists.{Each, each_append}
use Rattle.record_law.proofs.Maps.{OfEach, of_each_none, StaysOrEnds, stays_or_ends, session_at}
use Rattle.record_law.proofs.Readings.{GivesBack}
use Rattle.record_law.proofs.Tests.{on_test, either}
use Rattle.broadcast_law.proofs.Carried.{IsSaid}
use Rattle.broadcast_law.proofs.Ports.{ports_closed, IsUntold}
use Rattle.broadcast_law.proofs.LaneSteps.{fits_overrun, fits_fired}
use Rattle.broadcast_law.proofs.LaneToAll.{all_fired, all_overrun}
use Rattle.broadcast_law.proofs.Receptions.{IsSessionOf, Settles, settles_fired, fired_calmly, key_all, settles_unbound, unbound_stays}
use Rattle.broadcast_law.proofs.Stations.{AreLanes, IsOwn, Does, does_none, does_then, does_ports, does_sessions, does_reception, does_lane, does_still, lanes_stepped, lanes_else, lanes_still, outcome_untold}

module _ (gives : GivesBack) (a : Address) (small : a.0 < 254) where
  -- Timers

  lane_of_any : (st : Station) (now to : ℕ) → IsOwn a st → (lane : Lane) → finmap.get st.lanes to ≡ Some lane → to < 256
  lane_of_any st now to h lane e = (h.lanes to lane e).small

  lane_fires_own : (st : Station) (now to : ℕ) → IsOwn a st → Does a st (by_lane st (record { 0 = to }) (λ l. lane_fires l now)).station
  lane_fires_own st now to h = on_test (λ b. (to == 255) ≡ b → Goal to) (to == 255)
      (λ t e. subst Goal (sym (eqb-true to 255 e)) (does_still gives a small st (λ l. lane_fires l now) h (λ lane k. fits_fired a.0 255 lane now k) (λ lane k. all_fired a.0 lane now k)))
      (λ t e. by (finmap.get st.lanes to) refl (eqb-false to 255 e)) refl
    where
      Goal : ℕ → Type 0
      Goal n = Does a st (by_lane st (record { 0 = n }) (λ l. lane_fires l now)).station

      less : (n : ℕ) → n < 256 → (n ≡ 255 → ⊥) → n < 255
      less n l q = omega arith

      nothing : finmap.get st.lanes to ≡ None → by_lane st (record { 0 = to }) (λ l. lane_fires l now) ≡ record { station = record st { queue = st.queue ++ [] }; events = [] }
      nothing e = ap (λ (o : Option Lane). (let r : StationStep = record { station = record st { queue = st.queue ++ (elim o as (λ (_ : Option Lane). LaneStep) [ None ↦ nothing_to_do | Some l ↦ (lane_fires l now).1 ]).frames; lanes = elim o as (λ (_ : Option Lane). Lanes) [ None ↦ st.lanes | Some l ↦ finmap.insert st.lanes to (lane_fires l now).0 ] }; events = outcome_of st.address (record { 0 = to }) (elim o as (λ (_ : Option Lane). LaneStep) [ None ↦ nothing_to_do | Some l ↦ (lane_fires l now).1 ]).ended } in r)) e

      by : (o : Option Lane) → finmap.get st.lanes to ≡ o → (to ≡ 255 → ⊥) → Goal to
      by None e n = subst (λ (r : StationStep). Does a st r.station) (sym (nothing e)) (does_sessions gives a small st st.sessions [] 0 h h.sessions (omega arith) tt)
      by (Some lane) e n = does_lane gives a small st (record { 0 = to }) (λ l. lane_fires l now) h (less to (lane_of_any st now to h lane e) n) (λ l k. fits_fired a.0 to l now k)

  does_fired_lane : (st : Station) (now : ℕ) (o : Option ℕ) → IsOwn a st → Does a st (lane_fired st now o).station
  does_fired_lane st now None h = does_none a st h
  does_fired_lane st now (Some to) h = lane_fires_own st now to h

  abbrev fired_by_key : Station → ℕ → Option Key → StationStep
  fired_by_key st now o = elim o as (λ (_ : Option Key). StationStep) [ None ↦ lane_fired st now (due_lane st.lanes now) | Some key ↦ by_session st (fired_at st.ports key now st.sessions) ]

  pub does_fired : (st : Station) (now : ℕ) → IsOwn a st → Does a st (fired st now).station
  does_fired st now h = by (first_due st.sessions now)
    where
      by : (o : Option Key) → Does a st (fired_by_key st now o).station
      by None = does_fired_lane st now (due_lane st.lanes now) h
      by (Some key) = does_reception gives a small st key (fired_at st.ports key now st.sessions) h (settles_fired a st.ports h.ports.station small key st.sessions h.sessions now)

  lane_untold : (s : Address) (st : Station) (now : ℕ) (o : Option ℕ) → Each (IsUntold s) (lane_fired st now o).events
  lane_untold s st now None = tt
  lane_untold s st now (Some to) = outcome_untold s st.address (record { 0 = to }) (step_at st.lanes to (λ l. lane_fires l now)).ended

  lane_sessions : (st : Station) (now : ℕ) (o : Option ℕ) (q : Key) → StaysOrEnds (session_at (lane_fired st now o).station.sessions q) (session_at st.sessions q)
  lane_sessions st now None q = inr refl
  lane_sessions st now (Some to) q = inr refl

  -- nothing is given of the broadcasts of s, and their session is as it was or ends
  pub fired_calm : (s : Address) (st : Station) (now : ℕ) → IsOwn a st → Each (IsUntold s) (fired st now).events × StaysOrEnds (session_at (fired st now).station.sessions (key_all s)) (session_at st.sessions (key_all s))
  fired_calm s st now h = by (first_due st.sessions now)
    where
      by : (o : Option Key) → Each (IsUntold s) (fired_by_key st now o).events × StaysOrEnds (session_at (fired_by_key st now o).station.sessions (key_all s)) (session_at st.sessions (key_all s))
      by None = (lane_untold s st now (due_lane st.lanes now), lane_sessions st now (due_lane st.lanes now) (key_all s))
      by (Some key) = fired_calmly a st.ports h.ports.station small key st.sessions h.sessions s now

  -- An overrun

  overrun_own : (lanes : Lanes) (n : ℕ) → AreLanes a.0 lanes → AreLanes a.0 (overrun_lanes lanes n)
  unfolding overrun_lanes
  overrun_own lanes zero h = h
  overrun_own lanes (suc n) h = lanes_stepped a.0 (overrun_lanes lanes n) n lane_overrun (overrun_own lanes n h) (λ lane k. (fits_overrun a.0 n lane k).0)

  overrun_all : (lanes : Lanes) (n : ℕ) → AreLanes a.0 lanes → finmap.get (overrun_lanes lanes n) 255 ≡ finmap.get lanes 255
  unfolding overrun_lanes
  overrun_all lanes zero h = refl
  overrun_all lanes (suc n) h = on_test (λ b. (n == 255) ≡ b → finmap.get (stepped_lanes (overrun_lanes lanes n) n lane_overrun) 255 ≡ finmap.get (overrun_lanes lanes n) 255) (n == 255)
      (λ t e. subst (λ k. finmap.get (stepped_lanes (overrun_lanes lanes n) k lane_overrun) 255 ≡ finmap.get (overrun_lanes lanes n) 255) (sym (eqb-true n 255 e)) (lanes_still a.0 (overrun_lanes lanes n) lane_overrun (overrun_own lanes n h) (λ lane k. all_overrun a.0 lane k)))
      (λ t e. lanes_else a.0 (overrun_lanes lanes n) n lane_overrun (overrun_own lanes n h) (eqb-false n 255 e)) refl
      ∙ overrun_all lanes n h

  pub does_overrun : (st : Station) → IsOwn a st → Does a st (overrun st).station
  does_overrun st h = record {
    own = record { address = h.address; ports = h.ports; sessions = of_each_none (IsSessionOf a.0); lanes = overrun_own st.lanes 256 h.lanes; queue = h.queue };
    lane = overrun_all st.lanes 256 h.lanes;
    frames = [];
    queue = sym (append-nil st.queue);
    quiet = tt;
  }

  pub overrun_untold : (s from : Address) (lanes : Lanes) (n : ℕ) → Each (IsUntold s) (overrun_events from lanes n)
  unfolding overrun_events
  overrun_untold s from lanes zero = tt
  overrun_untold s from lanes (suc n) = each_append (IsUntold s) (overrun_events from lanes n) _ (overrun_untold s from lanes n) (outcome_untold s from (record { 0 = n }) (step_at (overrun_lanes lanes n) n lane_overrun).ended)

  -- A port closes

  abbrev pub AllStay : (st new : Station) → Type 0
  AllStay st new = (q : Key) → StaysOrEnds (session_at new.sessions q) (session_at st.sessions q)

  stay_then : (x y z : Station) → AllStay x y → AllStay y z → AllStay x z
  stay_then x y z h k q = stays_or_ends (session_at x.sessions q) (session_at y.sessions q) (session_at z.sessions q) (h q) (k q)

  if_free_frames : (st : Station) (sessions : Inbound) (frame : Option CanFrame) (to : ℕ) → IsOwn a st → OfEach (IsSessionOf a.0) sessions → to < 254 → Each (IsSaid a.0 to) (option_to_list frame) → Does a st (record st { queue = if_free st.queue frame; sessions = sessions })
  if_free_frames st sessions None to h k l e = subst (λ q. Does a st (record st { queue = q; sessions = sessions })) (append-nil st.queue) (does_sessions gives a small st sessions [] to h k l tt)
  if_free_frames st sessions (Some frame) to h k l e = either (λ q. Does a st (record st { queue = q; sessions = sessions })) (nat_lt (length st.queue) queue_limit) (st.queue ++ frame ∷ []) st.queue
      (does_sessions gives a small st sessions (frame ∷ []) to h k l e)
      (subst (λ q. Does a st (record st { queue = q; sessions = sessions })) (append-nil st.queue) (does_sessions gives a small st sessions [] to h k l tt))

  abbrev Closes : (st new : Station) → Type 0
  Closes st new = Does a st new × AllStay st new

  closes_then : (x y z : Station) → Closes x y → Closes y z → Closes x z
  closes_then x y z h k = (does_then a x y z h.0 k.0, stay_then x y z h.1 k.1)

  closes_session : (st : Station) (source : Address) (kind : SessionKind) (number : ℕ) → IsOwn a st → Closes st (unbound_session st source kind number)
  closes_session st source kind number h =
      let s : Settles a (key_of source kind) st.sessions (unbound_at (key_of source kind) number st.sessions) = settles_unbound a st.ports h.ports.station small (key_of source kind) st.sessions h.sessions number in (
        if_free_frames st (unbound_at (key_of source kind) number st.sessions).sessions (unbound_at (key_of source kind) number st.sessions).frame s.frame.0 h s.sessions s.frame.1 s.frame.2,
        unbound_stays a st.ports h.ports.station small (key_of source kind) st.sessions h.sessions number,
      )

  closes_source : (st : Station) (source : Address) (number : ℕ) → IsOwn a st → Closes st (unbound_source st source number)
  closes_source st source number h =
      let x : Station = unbound_session st source session.Broadcast number in
      let y : Station = unbound_session x source session.Tp number in
      let one : Closes st x = closes_session st source session.Broadcast number h in
      let two : Closes x y = closes_session x source session.Tp number one.0.own in
      let three : Closes y (unbound_session y source session.Etp number) = closes_session y source session.Etp number two.0.own in
      closes_then st x (unbound_session y source session.Etp number) one (closes_then x y (unbound_session y source session.Etp number) two three)

  closes_below : (st : Station) (number n : ℕ) → IsOwn a st → Closes st (closed_below st number n)
  unfolding closed_below
  closes_below st number zero h = (does_none a st h, λ q. inr refl)
  closes_below st number (suc n) h =
      let x : Station = closed_below st number n in
      let one : Closes st x = closes_below st number n h in
      closes_then st x (unbound_source x (record { 0 = n }) number) one (closes_source x (record { 0 = n }) number one.0.own)

  pub closes : (st : Station) (number : ℕ) → IsOwn a st → Closes st (closed st number)
  closes st number h =
      let x : Station = record st { ports = without_port st.ports number } in
      let one : Does a st x = does_ports a st (without_port st.ports number) h (ports_closed a st.ports h.ports number) in
      let rest : Closes x (closed_below x number 254) = closes_below x number 254 one.own in
      closes_then st x (closed_below x number 254) (one, λ q. inr refl) rest
