-- On a segment that is ready the lanes that can be pumped are those in which a message waits, and nothing else can be done.
use Rattle.std.proofs.Common.{◌≡◌, ◌≢◌, ◌⊎◌, inl, inr, ℕ, ◌+◌, ◌-◌, ◌^◌, ◌<◌, ◌≤◌, ◌==◌, nat_lt, Bool, true, false, cond, not, ◌&&◌, ◌||◌, List, [], ◌∷◌, ◌++◌, map, length, get_or, Option, Some, None, Ok, Err, refl, sym, ap, ◌∙◌, subst, arith}
use Rattle.std.specs.Prelude.{All, slice_get, is_some, is_none, is_ok, unwrap_or, flat_map, ⊤}
use Rattle.std.specs.Option.{option_map}
use Rattle.std.specs.List.{list_all, list_any, range_with_len}
use Rattle.std.specs.FinMap as finmap
use Rattle.std.specs.FinMap.{get-empty}
use Rattle.std.specs.Ordering.{nat_cmp}
use Rattle.std.proofs.lemmas.Bool.{true≢false, eqb-true, ne_eqb, eq-eqb, ltb-true, lt-ltb}
use Rattle.std.proofs.lemmas.List.Elements.{All-head}
use Rattle.std.proofs.lemmas.List.Folds.{list_any_none}
use Rattle.std.proofs.lemmas.List.Sums.{AllPass-from_list_all}
use Rattle.std.proofs.lemmas.Option.{none-some, same_Some, slice_get_within, get_or_from_slice_get}
use Rattle.bus_frame.specs.Frames.{CanFrame}
use Rattle.pgn_ids.specs.declared.address.Address.{Address}
use Rattle.bus_order.specs.Bus.{bus_len, cursor_at, next_frame, waiting}
use Rattle.bus_order.proofs.Order.{frame_past}
use Rattle.lane_core.specs.Lane.{Lane, new_lane}
use Rattle.lane_core.specs.Pump.{pump_refusal, refusal_by, idle_refusal}
use Rattle.lane_core.specs.Fire as lane-fire
use Rattle.lane_core.specs.declared.message.Pending.{Pending}
use Rattle.lane_core.specs.declared.place.UnderWay.{UnderWay}
use Rattle.lane_core.specs.declared.place.UnderWay.TheVariants.{Nothing}
use Rattle.lane_core.specs.declared.probe.Standing.{Standing}
use Rattle.lane_core.specs.declared.probe.Standing.TheVariants.{Settled, InDoubt, Probing}
use Rattle.lane_core.specs.declared.refused.PumpRefused.{PumpRefused}
use Rattle.lane_core.specs.declared.refused.PumpRefused.TheVariants as pump
use Rattle.session_table.specs.DueOrder.{first_due}
use Rattle.session_table.specs.Sessions.{state_at}
use Rattle.session_table.specs.declared.key.Key.{Key}
use Rattle.station_lanes.specs.Lanes.{Lanes}
use Rattle.station_lanes.specs.LaneCalls.{lane_to}
use Rattle.station_lanes.specs.LaneReaders.{least_below, refusal_at, is_due_at, due_lane}
use Rattle.station_sessions.specs.Receiving.{Inbound}
use Rattle.station_core.specs.Station.{Station, new_station}
use Rattle.station_core.specs.Timers.{is_due, fired}
use Rattle.segment_law.specs.Segment.{Segment, place_of, has_station, station_at, lane_at, waiting_at}
use Rattle.segment_law.specs.Calls.{Answer, no_place, called, fires, stepped, at_station, at_place}
use Rattle.segment_law.specs.Reached.{IsFitStation, IsReached}
use Rattle.segment_law.specs.Readers.{pumps_to, next_pump}
use Rattle.segment_law.specs.Quiet.{is_at_rest}
use Rattle.segment_law.specs.declared.call.Call.TheVariants.{Transmit, Take, Fire}
use Rattle.segment_law.specs.declared.refusal.Refusal.TheVariants as refusal
use Rattle.record_law.proofs.Maps.{state_empty}
use Rattle.record_law.proofs.Segments.{found_there, has_address}
use Rattle.segment_state.specs.Answers.{refusal_of}
use Rattle.segment_state.specs.Next.{at_tick, passes, has_work, any_work}
use Rattle.exchange_law.proofs.broadcasts.Quiets.{station_is, queues, rests}
use Rattle.exchange_law.proofs.broadcasts.Turns.{Rests}
use Rattle.work_law.proofs.StationCalls.{least_found, due_there}
use Rattle.segment_drain.specs.Chosen.{node, can, lowest, next_tick, or_else, pump_of, waits_until, unblocked, next_of}
use Rattle.segment_drain.specs.declared.choosing.Next.{Next}
use Rattle.segment_drain.specs.declared.choosing.Next.TheVariants.{Make, End}
use Rattle.segment_drain.specs.declared.end.DrainEnd.TheVariants as end
use Rattle.segment_drain.specs.declared.kind.Kind.TheVariants as kind
use Rattle.station_lanes.proofs.Counting.{same_up_to, none_from}
use Rattle.drain_law.specs.Waiting.{BeginsAtOnce, IsReadyLane, MayEnd, IsReady, lane_messages, station_messages, messages_of}
use Rattle.drain_law.proofs.Choices.{each_at, none_can, unblocked_next, no_take, no_transmit, no_pump, would_pump, AreStill, pumps_at}
use Rattle.drain_law.proofs.Lists.{flat_none}

-- ---- a lane that is ready

module _ (lane : Lane) (h : IsReadyLane lane) (now : ℕ) where
  -- it can be pumped if a message waits
  ready_refusal : pump_refusal lane now ≡ idle_refusal lane.standing lane.pending
  ready_refusal = ap (λ (u : UnderWay). refusal_by u lane now) h.under_way

  idle_empty : (standing : Standing) (ms : List Pending) → BeginsAtOnce standing ms → is_none (idle_refusal standing ms) ≡ false → ms ≡ []
  idle_empty standing [] b e = refl
  idle_empty Settled (m ∷ ms) b e = absurd (true≢false e)
  idle_empty InDoubt (m ∷ ms) b e = absurd b
  idle_empty (Probing count timer) (m ∷ ms) b e = absurd b

  pub none_waits : is_none (pump_refusal lane now) ≡ false → lane.pending ≡ []
  none_waits e = idle_empty lane.standing lane.pending h.standing (ap (λ (o : Option PumpRefused). is_none o) (sym ready_refusal) ∙ e)

  pub record HasFront : Type 0 where
    pub m : Pending
    pub more : List Pending
    pub is : lane.pending ≡ m ∷ more
    pub settled : lane.standing ≡ Settled

  idle_front : (standing : Standing) (ms : List Pending) → lane.standing ≡ standing → lane.pending ≡ ms → BeginsAtOnce standing ms → is_none (idle_refusal standing ms) ≡ true → HasFront
  idle_front standing [] s p b e = absurd (true≢false (sym e))
  idle_front Settled (m ∷ ms) s p b e = record { m = m; more = ms; is = p; settled = s }
  idle_front InDoubt (m ∷ ms) s p b e = absurd b
  idle_front (Probing count timer) (m ∷ ms) s p b e = absurd b

  pub front_waits : is_none (pump_refusal lane now) ≡ true → HasFront
  front_waits e = idle_front lane.standing lane.pending refl refl h.standing (ap (λ (o : Option PumpRefused). is_none o) (sym ready_refusal) ∙ e)

  none_due : (standing : Standing) → BeginsAtOnce standing lane.pending → lane-fire.is_probe_due standing now ≡ false
  none_due Settled b = refl
  none_due InDoubt b = refl
  none_due (Probing count timer) b = absurd b

  pub never_due : lane-fire.is_lane_due lane now ≡ false
  never_due = ap (λ (u : UnderWay). lane-fire.due_by u lane.standing now) h.under_way ∙ none_due lane.standing h.standing

module _ (seg : Segment) (r : IsReached seg) (h : IsReady seg) where
  empty : (i : ℕ) (st : Station) → slice_get seg.stations i ≡ Some st → st.queue ≡ []
  empty i st at = each_at (λ (z : Station). z.queue ≡ []) seg.stations i st (queues seg r h.at_rest) at

  all_taken : Rests (length seg.stations) (bus_len seg.bus) seg.bus
  all_taken = rests seg r h.at_rest

  -- the lane of a station, and that of an address without one
  lane_is : (i : ℕ) (st : Station) → slice_get seg.stations i ≡ Some st → (to : ℕ) → lane_at seg st.address (node to) ≡ lane_to st.address st.lanes to
  lane_is i st at to = ap (λ (z : Station). lane_to z.address z.lanes to) (station_is seg r i st at)

  pub no_lane : (a : Address) → place_of seg a ≡ None → (to : Address) → (lane_at seg a to).pending ≡ []
  no_lane a none to = ap (λ (o : Option ℕ). (lane_by (unwrap_or (elim o as (λ (_ : Option ℕ). Option Station) [ None ↦ None | Some i ↦ slice_get seg.stations i ]) (new_station a))).pending) none ∙ ap (λ (o : Option Lane). (elim o as (λ (_ : Option Lane). Lane) [ None ↦ new_lane a.0 to.0 | Some l ↦ l ]).pending) (get-empty {X = Lane} nat_cmp to.0)
    where
      lane_by : Station → Lane
      lane_by st = lane_to st.address st.lanes to.0

  -- no message waits for the null address
  none_for_null : (a : Address) → (lane_at seg a (node 254)).pending ≡ []
  none_for_null a = by (lane_at seg a (node 254)).pending (h.messages a (node 254))
    where
      no_station : has_station seg (node 254) ≡ false
      no_station = by_place (place_of seg (node 254)) refl
        where
          by_place : (o : Option ℕ) → place_of seg (node 254) ≡ o → is_some o ≡ false
          by_place None e = refl
          by_place (Some i) e =
              let at : slice_get seg.stations i ≡ Some (get_or seg.stations i (new_station (node 254))) = found_there (λ (z : Station). z.address.0 == 254) seg.stations i (new_station (node 254)) e in
              let is : (get_or seg.stations i (new_station (node 254))).address.0 ≡ 254 = has_address seg (node 254) i (get_or seg.stations i (new_station (node 254))) e at in
              let fit : IsFitStation (get_or seg.stations i (new_station (node 254))) = each_at IsFitStation seg.stations i (get_or seg.stations i (new_station (node 254))) r.stations at in
              let below : (get_or seg.stations i (new_station (node 254))).address.0 < 254 = ltb-true (get_or seg.stations i (new_station (node 254))).address.0 254 fit.own in
              absurd (omega (arith, is, below))

      fails : (b : Bool) (x : Bool) → b ≡ false → (b && x) ≡ true → ⊥
      fails true x e q = true≢false e
      fails false x e q = true≢false (sym q)

      by : (ms : List Pending) → MayEnd seg (node 254) ms → ms ≡ []
      by [] all = refl
      by (m ∷ ms) all = absurd (fails (has_station seg (node 254)) _ no_station all.0)

  module _ (i : ℕ) (st : Station) (at : slice_get seg.stations i ≡ Some st) where
    place : place_of seg st.address ≡ Some i
    place = r.places i st at

    ready_lane : (to : ℕ) → IsReadyLane (lane_to st.address st.lanes to)
    ready_lane to = subst IsReadyLane (lane_is i st at to) (h.lanes st.address (node to))

    refusal_is : (to : ℕ) → is_none (refusal_at st.lanes to seg.now) ≡ is_none (pump_refusal (lane_to st.address st.lanes to) seg.now)
    refusal_is to = by (finmap.get st.lanes to)
      where
        by : (o : Option Lane) → is_none (elim o as (λ (_ : Option Lane). Option PumpRefused) [ None ↦ Some pump.NothingToSend | Some lane ↦ pump_refusal lane seg.now ])
            ≡ is_none (pump_refusal (elim o as (λ (_ : Option Lane). Lane) [ None ↦ new_lane st.address.0 to | Some lane ↦ lane ]) seg.now)
        by None = refl
        by (Some lane) = refl

    pub no_message : (to : ℕ) → pumps_to seg st.address to ≡ false → (lane_at seg st.address (node to)).pending ≡ []
    no_message to e = by (to == 254) refl (sym (pumps_at seg st.address i st place at (empty i st at) to) ∙ e)
      where
        by : (b : Bool) → (to == 254) ≡ b → (not b && is_none (refusal_at st.lanes to seg.now)) ≡ false → (lane_at seg st.address (node to)).pending ≡ []
        by true t q = subst (λ (k : ℕ). (lane_at seg st.address (node k)).pending ≡ []) (sym (eqb-true to 254 t)) (none_for_null st.address)
        by false t q = ap (λ (l : Lane). l.pending) (lane_is i st at to) ∙ none_waits (lane_to st.address st.lanes to) (ready_lane to) seg.now (sym (refusal_is to) ∙ q)

    pub a_message : (to : ℕ) → pumps_to seg st.address to ≡ true → HasFront (lane_at seg st.address (node to)) (h.lanes st.address (node to)) seg.now
    a_message to e = by (to == 254) (sym (pumps_at seg st.address i st place at (empty i st at) to) ∙ e)
      where
        by : (b : Bool) → (not b && is_none (refusal_at st.lanes to seg.now)) ≡ true → HasFront (lane_at seg st.address (node to)) (h.lanes st.address (node to)) seg.now
        by true q = absurd (true≢false (sym q))
        by false q =
            let f = front_waits (lane_to st.address st.lanes to) (ready_lane to) seg.now (sym (refusal_is to) ∙ q) in
            record { m = f.m; more = f.more; is = ap (λ (l : Lane). l.pending) (lane_is i st at to) ∙ f.is; settled = ap (λ (l : Lane). l.standing) (lane_is i st at to) ∙ f.settled }

    none_open : (tick : ℕ) → is_some (first_due st.sessions tick) ≡ false
    none_open tick = by (first_due st.sessions tick) refl
      where
        by : (o : Option Key) → first_due st.sessions tick ≡ o → is_some o ≡ false
        by None e = refl
        by (Some key) e =
            let v = due_there st.sessions tick key e in
            absurd (none-some v.0 (sym (state_empty key) ∙ ap (λ (m : Inbound). state_at m key) (sym (h.sessions st.address) ∙ ap (λ (z : Station). z.sessions) (station_is seg r i st at)) ∙ v.1))

    none_due_lane : (tick : ℕ) → is_some (due_lane st.lanes tick) ≡ false
    none_due_lane tick = by (due_lane st.lanes tick) refl
      where
        at_lane : (to : ℕ) (o : Option Lane) → finmap.get st.lanes to ≡ o → (elim o as (λ (_ : Option Lane). Bool) [ None ↦ false | Some lane ↦ lane-fire.is_lane_due lane tick ]) ≡ false
        at_lane to None e = refl
        at_lane to (Some lane) e =
            let it : lane_to st.address st.lanes to ≡ lane = ap (λ (o : Option Lane). elim o as (λ (_ : Option Lane). Lane) [ None ↦ new_lane st.address.0 to | Some l ↦ l ]) e in
            never_due lane (subst IsReadyLane it (ready_lane to)) tick

        by : (o : Option ℕ) → due_lane st.lanes tick ≡ o → is_some o ≡ false
        by None e = refl
        by (Some to) e = absurd (true≢false (sym (least_found (is_due_at st.lanes tick) 256 to e).0 ∙ at_lane to (finmap.get st.lanes to) refl))

    nothing_due : (tick : ℕ) → is_due st tick ≡ false
    nothing_due tick = (λ k. none_open tick k || none_due_lane tick k)

  -- ---- where no message waits, nothing can be done at any tick

  module _ (none : (a to : ℕ) → a < 254 → to < 256 → (lane_at seg (node a) (node to)).pending ≡ []) where
    never : (b : Bool) → (b && false) ≡ false
    never true = refl
    never false = refl

    still : (i : ℕ) (st : Station) → slice_get seg.stations i ≡ Some st → (tick : ℕ) → AreStill tick st.lanes 256
    still i st at tick to under = by (finmap.get st.lanes to) refl
      where
        by : (o : Option Lane) → finmap.get st.lanes to ≡ o → (not (to == 254) && is_none (elim o as (λ (_ : Option Lane). Option PumpRefused) [ None ↦ Some pump.NothingToSend | Some lane ↦ pump_refusal lane tick ])) ≡ false
        by None e = never (not (to == 254))
        by (Some lane) e =
            let it : lane_to st.address st.lanes to ≡ lane = ap (λ (o : Option Lane). elim o as (λ (_ : Option Lane). Lane) [ None ↦ new_lane st.address.0 to | Some l ↦ l ]) e in
            let ready : IsReadyLane lane = subst IsReadyLane it (ready_lane i st at to) in
            let waits : lane.pending ≡ [] = ap (λ (l : Lane). l.pending) (sym it ∙ sym (lane_is i st at to)) ∙ none st.address.0 to (ltb-true st.address.0 254 (each_at IsFitStation seg.stations i st r.stations at).own) under in
            ap (λ (o : Option PumpRefused). not (to == 254) && is_none o) (ready_refusal lane ready tick ∙ ap (idle_refusal lane.standing) waits) ∙ never (not (to == 254))

    module _ (tick : ℕ) where
      abbrev then : Segment
      then = at_tick seg tick

      fails : (x : Answer) → is_none (refusal_of x) ≡ false → is_ok x ≡ false
      fails (Ok step) e = absurd (true≢false e)
      fails (Err cause) e = refl

      none_next : (a : Address) (i : ℕ) → place_of then a ≡ Some i → next_frame then.bus i ≡ None
      none_next a i e =
          let at : slice_get seg.stations i ≡ Some (get_or seg.stations i (new_station a)) = found_there (λ (z : Station). z.address.0 == a.0) seg.stations i (new_station a) e in
          let l : i < length seg.stations = slice_get_within seg.stations i (get_or seg.stations i (new_station a)) at in
          let p : (cursor_at seg.bus i).place ≡ bus_len seg.bus = all_taken.took i l in
          frame_past seg.bus ((cursor_at seg.bus i).place + 1) (omega (arith, p))

      pub takes_none : (a : Address) → can then kind.Take a ≡ false
      takes_none a = no_take then a (λ i e. none_next a i e)

      pub transmits_none : (a : Address) → (can then kind.Transmit a ≡ false) × (can then kind.Blocked a ≡ false)
      transmits_none a = no_transmit then a (λ i st e at. empty i st at)

      pub pumps_none : (a : Address) → next_pump then a ≡ None
      pumps_none a = no_pump then a (λ i st e at. (empty i st at, still i st at tick))

      fires_none : (a : Address) → can then kind.Fire a ≡ false
      unfolding called
      fires_none a = by (place_of then a)
        where
          there : (i : ℕ) (o : Option Station) → slice_get seg.stations i ≡ o → is_none (refusal_of (at_station o (fires then i))) ≡ false
          there i None e = refl
          there i (Some st) e = (λ k. is_none (refusal_of (fires_if st (nothing_due i st e tick k))))
            where
              fires_if : Station → Bool → Answer
              fires_if st due = cond (not due) (Err refusal.NothingDue) (cond (no_place st) (Err refusal.TxFull) (stepped then i (fired st tick)))

          by : (o : Option ℕ) → is_none (refusal_of (at_place then o (fires then))) ≡ false
          by None = refl
          by (Some i) = there i (slice_get seg.stations i) refl

      works_none : (a : Address) → has_work then a ≡ false
      works_none a =
          (λ k. (fails (called then (Transmit a)) (transmits_none a).0 k || fails (called then (Take a true)) (takes_none a) k) || (is_some (pumps_none a k) || fails (called then (Fire a)) (fires_none a) k))

      pub nothing_then : any_work seg tick ≡ false
      nothing_then = list_any_none (λ (st : Station). has_work then st.address) seg.stations (λ i default lt. works_none (get_or seg.stations i default).address)

    no_tick : next_tick seg ≡ None
    no_tick = ap (option_map (λ (k : ℕ). seg.now + k)) (same_up_to (λ k. any_work seg (seg.now + k)) 0 (2 ^ 64 - seg.now) (omega arith) (λ k from under. nothing_then (seg.now + k)) ∙ none_from (λ k. any_work seg (seg.now + k)))

    pub ends_here : next_of seg ≡ End end.Rest
    ends_here =
        unblocked_next seg
        (none_can seg kind.Take (λ n below. takes_none seg.now (node n)))
        (none_can seg kind.Transmit (λ n below. (transmits_none seg.now (node n)).0))
        (none_can seg kind.Blocked (λ n below. (transmits_none seg.now (node n)).1))
        ∙ ap (λ (o : Option Address). or_else o (pump_of seg) (or_else (lowest seg kind.Fire) Fire (waits_until seg.now (next_tick seg)))) (none_can seg kind.Pump (λ n below. ap (λ (o : Option Address). is_some o) (pumps_none seg.now (node n))))
        ∙ ap (λ (o : Option Address). or_else o Fire (waits_until seg.now (next_tick seg))) (none_can seg kind.Fire (λ n below. fires_none seg.now (node n)))
        ∙ ap (waits_until seg.now) no_tick

    pub no_messages : messages_of seg ≡ []
    no_messages = flat_none (station_messages seg) 0 254 (λ a from under. flat_none (lane_messages seg a) 0 256 (λ to f u. ap (map (λ (m : Pending). (node a, node to, m))) (none a to (omega (arith, under)) (omega (arith, u)))))
