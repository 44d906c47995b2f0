-- What is shown of every call: it leads from a segment whose broadcasts a stream stands for to another one.
use Rattle.std.proofs.Common.{◌≡◌, ◌⊎◌, inl, inr, ℕ, ◌<◌, List, [], ◌++◌, set, Option, Some, None, refl, sym, ap, ◌∙◌, subst, arith, append-nil, ltb-true}
use Rattle.std.specs.Prelude.{slice_get}
use Rattle.std.proofs.lemmas.Option.{same_Some}
use Rattle.std.specs.FinMap as finmap
use Rattle.pgn_ids.specs.declared.address.Address.{Address}
use Rattle.bus_order.specs.Bus.{Bus, frame_again}
use Rattle.lane_core.specs.Lane.{Lane, new_lane}
use Rattle.lane_core.specs.Step.{nothing_to_do, LaneStep}
use Rattle.station_lanes.specs.LaneCalls.{step_at, lane_to}
use Rattle.station_lanes.specs.Lanes.{Lanes}
use Rattle.message_events.specs.declared.event.Event.{Event}
use Rattle.station_core.specs.Station.{Station, by_lane}
use Rattle.segment_law.specs.Told as told
use Rattle.segment_law.specs.Told.{sent_by}
use Rattle.segment_law.specs.Segment.{Segment}
use Rattle.segment_law.specs.Calls.{events_of}
use Rattle.segment_law.specs.Reached.{IsReached}
use Rattle.segment_law.specs.declared.call.Call.{Call}
use Rattle.segment_law.specs.declared.counts.Counts.{Counts}
use Rattle.segment_law.specs.declared.refusal.Refusal.{Refusal}
use Rattle.segment_law.specs.declared.reply.Reply.TheVariants.{Refused}
use Rattle.segment_law.proofs.Reaching.{as_it_is}
use Rattle.segment_law.specs.declared.reply.Reply.{Reply}
use Rattle.record_law.proofs.Told.{none_refused}
use Rattle.record_law.proofs.Lists.{Each}
use Rattle.record_law.proofs.Maps.{session_at, StaysOrEnds, lane_here}
use Rattle.record_law.proofs.Readings.{GivesBack}
use Rattle.record_law.proofs.Segments.{same_address}
use Rattle.broadcast_law.proofs.Buses.{ahead_of}
use Rattle.broadcast_law.proofs.Carried.{all}
use Rattle.broadcast_law.proofs.LaneSteps.{IsLaneOf, Fits}
use Rattle.broadcast_law.proofs.Places.{IsAt, AllOwn, one_place, apart_places, own_next, at_next, at_before, parts, station_in, view, in_roles, sends_calmly, receives_calmly, at_it}
use Rattle.broadcast_law.proofs.Ports.{IsUntold, IsOneGiving, one_of_none, station_told, first_message, told_to, none_told}
use Rattle.broadcast_law.proofs.Receptions.{key_all}
use Rattle.broadcast_law.proofs.Send.{stepped_view}
use Rattle.broadcast_law.proofs.Stations.{IsOwn, Does, own_lane, does_lane, does_sessions, outcome_untold}
use Rattle.broadcast_law.proofs.View.{View, Stands, GoesOn}

module _ (s listener : Address) where
  -- the listener is s itself, or no station
  abbrev pub Silent : Segment → Type 0
  Silent seg = (s.0 ≡ listener.0) ⊎ ((j : ℕ) → IsAt seg j listener → ⊥)

  -- and is so where no station came
  pub still : (seg next : Segment) → Silent seg → ((x : ℕ) (a : Address) → IsAt next x a → IsAt seg x a) → Silent next
  still seg next (inl e) back = inl e
  still seg next (inr n) back = inr (λ j h. n j (back j listener h))

  pub record Good (seg next : Segment) (more : List told.Message) (events : List Event) : Type 0 where
    pub each : AllOwn next
    pub there : (x : ℕ) (a : Address) → IsAt seg x a → IsAt next x a
    pub before : (x : ℕ) (a : Address) → IsAt next x a → IsAt seg x a
    pub stands : (x y : ℕ) (sent given : List told.Message) → IsAt seg x s → IsAt seg y listener → (s.0 ≡ listener.0 → ⊥) → Stands s (view s x y seg sent given) → Stands s (view s x y next (sent ++ more) (given ++ told_to listener s events))
    pub silent : Silent seg → station_told listener s events ≡ []
    pub one : IsOneGiving (station_told listener s events)

  abbrev pub GoodBy : Segment → Call → Segment × Reply → Type 0
  GoodBy seg call step = Good seg step.0 (sent_by s all call step.1) (events_of step.1)

  -- nothing is sent or told
  pub nothing_more : (v : View) → Stands s v → Stands s (record v { sent = v.sent ++ []; given = v.given ++ [] })
  nothing_more v h = subst (Stands s) (sym (λ k. (let w : View = record v { sent = append-nil v.sent k; given = append-nil v.given k } in w))) h

  pub good_same : (seg : Segment) → AllOwn seg → Good seg seg [] []
  good_same seg each = record {
    each = each;
    there = λ x a h. h;
    before = λ x a h. h;
    stands = λ x y sent given at_x at_y n h. nothing_more (view s x y seg sent given) h;
    silent = λ q. refl;
    one = one_of_none [] refl;
  }

  pub refused_good : (seg : Segment) → AllOwn seg → (call : Call) (cause : Refusal) → GoodBy seg call (seg, Refused cause)
  refused_good seg each call cause = subst (λ ms. Good seg seg ms []) (sym (none_refused s all call cause)) (good_same seg each)

  -- the same stations and the same to come
  pub bus_same : (xs ys : Station) (before after : Bus) (y : ℕ) (sent given : List told.Message) → ahead_of after y ≡ ahead_of before y → frame_again after y ≡ frame_again before y → Stands s (parts s xs ys before y sent given) → Stands s (parts s xs ys after y sent given)
  bus_same xs ys before after y sent given e f h = subst (Stands s) (sym (λ k. (let w : View = record (parts s xs ys before y sent given) { ahead = e k; again = f k } in w))) h

  module _ (goes : GoesOn) (seg : Segment) (r : IsReached seg) (each : AllOwn seg) (i : ℕ) (st : Station) (at : slice_get seg.stations i ≡ Some st) where
    abbrev pub a : Address
    a = st.address

    pub mine : IsOwn a st
    mine = each i st at

    pub small : a.0 < 254
    small = ltb-true a.0 254 (as_it_is seg r i st at).fit.own

    pub is_of : (x : ℕ) (b : Address) → IsAt seg x b → i ≡ x → a.0 ≡ b.0
    is_of x b (u, at_x, is) e = ap (λ (z : Station). z.address.0) (same_Some st u (sym at ∙ ap (slice_get seg.stations) e ∙ at_x)) ∙ is

    pub is_here : (x : ℕ) (b : Address) → IsAt seg x b → a.0 ≡ b.0 → i ≡ x
    is_here x b h e = one_place seg r i x a b (st, at, refl) h e

    abbrev pub next_of : ℕ → Bus → Counts → Station → Segment
    next_of now b counts new = record { now = now; stations = set seg.stations i new; bus = b; counts = counts }

    -- the roles of a station in a call
    pub record Roles (b : Bus) (new : Station) (more : List told.Message) (events : List Event) (x y : ℕ) (sent given : List told.Message) : Type 0 where
      pub sends : i ≡ x → Stands s (parts s new (station_in s seg.stations y) b y (sent ++ more) given)
      pub receives : i ≡ y → Stands s (parts s (station_in s seg.stations x) new b y (sent ++ more) (given ++ told_to listener s events))
      pub other : (i ≡ x → ⊥) → (i ≡ y → ⊥) → Stands s (parts s (station_in s seg.stations x) (station_in s seg.stations y) b y (sent ++ more) given)

    pub good_step : (now : ℕ) (b : Bus) (counts : Counts) (new : Station) (more : List told.Message) (events : List Event) → IsOwn a new
        → ((x y : ℕ) (sent given : List told.Message) → IsAt seg x s → IsAt seg y listener → (s.0 ≡ listener.0 → ⊥) → Stands s (view s x y seg sent given) → Roles b new more events x y sent given)
        → ((y : ℕ) → IsAt seg y listener → (i ≡ y → ⊥) → told_to listener s events ≡ [])
        → (Silent seg → station_told listener s events ≡ [])
        → IsOneGiving (station_told listener s events)
        → Good seg (next_of now b counts new) more events
    good_step now b counts new more events h roles none silent one = record {
      each = own_next seg (next_of now b counts new) i st new at h.address refl each h;
      there = at_next seg (next_of now b counts new) i st new at h.address refl;
      before = at_before seg (next_of now b counts new) i st new at h.address refl;
      stands = λ x y sent given at_x at_y n v.
          let q : Roles b new more events x y sent given = roles x y sent given at_x at_y n v in
          in_roles s x y (apart_places seg x y s listener at_x at_y n) seg.stations i st new at b (sent ++ more) given (told_to listener s events) q.sends q.receives q.other (none y at_y);
      silent = silent;
      one = one;
    }

    -- a step that is calm in each role
    pub good_calm : (now : ℕ) (counts : Counts) (new : Station) (events : List Event) → Does a st new → StaysOrEnds (session_at new.sessions (key_all s)) (session_at st.sessions (key_all s)) → Each (IsUntold s) events → Good seg (next_of now seg.bus counts new) [] events
    good_calm now counts new events d o u =
        let none_at : station_told listener s events ≡ [] = none_told listener s events u in
        let none : told_to listener s events ≡ [] = ap first_message none_at in
        good_step now seg.bus counts new [] events d.own (λ x y sent given at_x at_y n v.
        let n' : x ≡ y → ⊥ = apart_places seg x y s listener at_x at_y n in
        let w : Stands s (view s x y seg (sent ++ []) given) = subst (λ ms. Stands s (view s x y seg ms given)) (sym (append-nil sent)) v in
        record {
          sends = λ e. sends_calmly s x y n' seg.stations i st new at seg.bus (sent ++ []) given (told_to listener s events) goes (subst (λ z. Does z st new) (same_address a s (is_of x s at_x e)) d) e w;
          receives = λ e. receives_calmly s x y n' seg.stations i st new at seg.bus (sent ++ []) given (told_to listener s events) goes o none e w;
          other = λ _ _. w;
        }) (λ _ _ _. none) (λ _. none_at) (one_of_none _ none_at)

    module _ (gives : GivesBack) (to : Address) (step : Lane → Lane × LaneStep) (fits : (lane : Lane) → IsLaneOf a.0 to.0 lane → Fits a.0 to.0 (step lane)) where
      abbrev stepped : Station
      stepped = (by_lane st to step).station

      no_lane : finmap.get st.lanes to.0 ≡ None → Does a st stepped
      no_lane e = subst (Does a st) (sym (λ k. after (e k))) (does_sessions gives a small st st.sessions [] 0 mine mine.sessions (omega arith) tt)
        where
          after : Option Lane → Station
          after o = record st { queue = st.queue ++ (elim o as (λ (_ : Option Lane). LaneStep) [ None ↦ nothing_to_do | Some l ↦ (step l).1 ]).frames; lanes = elim o as (λ (_ : Option Lane). Lanes) [ None ↦ st.lanes | Some l ↦ finmap.insert st.lanes to.0 (step l).0 ] }

      less : (n : ℕ) → n < 256 → (n ≡ 255 → ⊥) → n < 255
      less n l q = omega arith

      -- the lane to one node makes a step
      pub good_lane : (now : ℕ) (counts : Counts) → (to.0 ≡ 255 → ⊥) → Good seg (next_of now seg.bus counts stepped) [] (by_lane st to step).events
      good_lane now counts n = good_calm now counts stepped (by_lane st to step).events (by (finmap.get st.lanes to.0) refl) (inr refl) (outcome_untold s st.address to (step_at st.lanes to.0 step).ended)
        where
          by : (o : Option Lane) → finmap.get st.lanes to.0 ≡ o → Does a st stepped
          by None e = no_lane e
          by (Some lane) e = does_lane gives a small st to step mine (less to.0 (mine.lanes to.0 lane e).small n) fits

    -- the lane to all makes a step
    module _ (gives : GivesBack) (step : Lane → Lane × LaneStep) (fits : (lane : Lane) → IsLaneOf a.0 255 lane → Fits a.0 255 (step lane))
        (shows : (lane : Lane) → IsLaneOf a.0 255 lane → a.0 ≡ s.0 → (v : View) → v.lane ≡ lane → Stands s v → Stands s (stepped_view v (step lane))) where
      abbrev after_all : Option Lane → Station
      after_all o = record st { queue = st.queue ++ (elim o as (λ (_ : Option Lane). LaneStep) [ None ↦ nothing_to_do | Some l ↦ (step l).1 ]).frames; lanes = elim o as (λ (_ : Option Lane). Lanes) [ None ↦ st.lanes | Some l ↦ finmap.insert st.lanes 255 (step l).0 ] }

      sends_all : (o : Option Lane) → finmap.get st.lanes 255 ≡ o → a.0 ≡ s.0 → (ys : Station) (y : ℕ) (sent given : List told.Message) → Stands s (parts s st ys seg.bus y sent given) → Stands s (parts s (after_all o) ys seg.bus y sent given)
      sends_all None e same ys y sent given v = subst (λ q. Stands s (record (parts s st ys seg.bus y sent given) { queue = q })) (sym (append-nil st.queue)) v
      sends_all (Some l) e same ys y sent given v =
          let is : lane_to s st.lanes 255 ≡ l = ap (λ (o : Option Lane). elim o as (λ (_ : Option Lane). Lane) [ None ↦ new_lane s.0 255 | Some x ↦ x ]) e in
          let now : lane_to s (finmap.insert st.lanes 255 (step l).0) 255 ≡ (step l).0 = ap (λ (o : Option Lane). elim o as (λ (_ : Option Lane). Lane) [ None ↦ new_lane s.0 255 | Some x ↦ x ]) (lane_here st.lanes 255 (step l).0) in
          subst (λ x. Stands s (record (parts s st ys seg.bus y sent given) { lane = x; queue = st.queue ++ (step l).1.frames })) (sym now) (shows l (mine.lanes 255 l e) same (parts s st ys seg.bus y sent given) is v)

      pub good_all : (now : ℕ) (counts : Counts) → Good seg (next_of now seg.bus counts (by_lane st all step).station) [] (by_lane st all step).events
      good_all now counts =
          let new : Station = (by_lane st all step).station in
          let events : List Event = (by_lane st all step).events in
          let none_at : station_told listener s events ≡ [] = none_told listener s events (outcome_untold s st.address all (step_at st.lanes 255 step).ended) in
          let none : told_to listener s events ≡ [] = ap first_message none_at in
          good_step now seg.bus counts new [] events (own_lane gives a small st all step mine (omega arith) fits) (λ x y sent given at_x at_y n v.
          let n' : x ≡ y → ⊥ = apart_places seg x y s listener at_x at_y n in
          let w : Stands s (view s x y seg (sent ++ []) given) = subst (λ ms. Stands s (view s x y seg ms given)) (sym (append-nil sent)) v in
          record {
            sends = λ e. sends_all (finmap.get st.lanes 255) refl (is_of x s at_x e) (station_in s seg.stations y) y (sent ++ []) given
                (subst (λ z. Stands s (parts s z (station_in s seg.stations y) seg.bus y (sent ++ []) given)) (at_it s x y n' seg.stations i st new at seg.bus (sent ++ []) given (told_to listener s events) x e) w);
            receives = λ e. receives_calmly s x y n' seg.stations i st new at seg.bus (sent ++ []) given (told_to listener s events) goes (inr refl) none e w;
            other = λ _ _. w;
          }) (λ _ _ _. none) (λ _. none_at) (one_of_none _ none_at)
