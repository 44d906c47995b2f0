-- Each call, in the table's order: a call acts on one station at most, whose count of opened ports never falls, and gives only
-- where a frame is taken with room.
use Rattle.std.proofs.Common.{◌≡◌, ◌⊎◌, inl, inr, ℕ, ◌+◌, ◌≤◌, ◌==◌, Bool, true, false, cond, ◌&&◌, List, [], ◌∷◌, length, set, Option, Some, None, refl, sym, ap, ◌∙◌, subst, arith, eqb-true, ne_eqb}
use Rattle.std.specs.Prelude.{slice_get}
use Rattle.std.proofs.lemmas.Option.{same_Some}
use Rattle.bus_frame.specs.Frames.{CanFrame}
use Rattle.pgn_ids.specs.declared.address.Address.{Address}
use Rattle.tx_queue.specs.Queue.{behind}
use Rattle.bus_order.specs.Bus as bus
use Rattle.port_table.specs.Ports.{Ports, next_id, with_port, with_paused}
use Rattle.port_table.specs.declared.port.Port.{Port}
use Rattle.port_table.specs.declared.port.PortId.{PortId}
use Rattle.lane_core.specs.Pump as lane-pump
use Rattle.lane_core.specs.Cancel as lane-cancel
use Rattle.message_events.specs.declared.event.Event.{Event}
use Rattle.message_events.specs.declared.event.Event.TheVariants as event
use Rattle.station_core.specs.Station.{Station, StationStep}
use Rattle.station_core.specs.Sending.{lane_of, sent, pumped, cancelled}
use Rattle.station_core.specs.Timers.{fired}
use Rattle.station_core.specs.Taking as taking
use Rattle.station_core.specs.Taking.{taken}
use Rattle.station_core.specs.Overruns.{overrun}
use Rattle.station_core.specs.Closing.{closed}
use Rattle.segment_law.specs.Segment.{Segment, place_of, with_station, counted_repeat}
use Rattle.segment_law.specs.Calls.{no_place, events_of}
use Rattle.segment_law.specs.Told.{same_port}
use Rattle.segment_law.specs.Readers.{ports_given, wanted, wanted_with, frame_for}
use Rattle.segment_law.specs.Reached.{IsReached}
use Rattle.segment_law.specs.declared.call.Call.{Call}
use Rattle.segment_law.specs.declared.call.Call.TheVariants.{Open, Close, Send, Pump, Transmit, Take, TakeAgain, Overrun, Tick, Fire, Cancel, Inject, Pause, Resume}
use Rattle.segment_law.specs.declared.reply.Reply.{Reply}
use Rattle.segment_law.specs.declared.reply.Reply.TheVariants.{Opened, Sent, Done}
use Rattle.segment_law.proofs.Reaching.{slice_get_same, slice_get_other}
use Rattle.record_law.proofs.Lists.{Each, In}
use Rattle.record_law.proofs.EachCall.{looked, OfStation, Accepted}
use Rattle.record_law.proofs.Segments.{has_address, same_address}
use Rattle.record_law.proofs.Tests.{equal_or_not}
use Rattle.record_law.proofs.ports.Calls.{IsSound}
use Rattle.record_law.proofs.ports.Closing.{closes as closing_is}
use Rattle.record_law.proofs.ports.Ports.{IsAllowed, Opens}
use Rattle.record_law.proofs.ports.Stations.{Acts, acts_lane, acts_taken, acts_fired, acts_overrun}
use Rattle.reply_law.specs.Replies.{IsRefusal, IsAnsweredBy, expected, EachAt, IsKnown, EachKnown, EachShort}
use Rattle.reply_law.proofs.Gives.{taken_none, taken_short, by_lane_none, fired_none, overrun_none}

-- nothing is given
none_at : (a : Address) (n : ℕ) (es : List Event) → ports_given es ≡ [] → EachAt a n es
none_at a n [] e = tt
none_at a n (event.Given p f t g b ∷ es) e = absurd (let q : p.number ∷ ports_given es ≡ [] = e in cc)
none_at a n (event.Outcome f t k o ∷ es) e = (tt, none_at a n es e)

none_known : (seg : Segment) (es : List Event) → ports_given es ≡ [] → EachKnown seg es
none_known seg [] e = tt
none_known seg (event.Given p f t g b ∷ es) e = absurd (let q : p.number ∷ ports_given es ≡ [] = e in cc)
none_known seg (event.Outcome f t k o ∷ es) e = (tt, none_known seg es e)

-- In each or several, by numbers

used_in : (pgn len number opened : ℕ) (qs : List Port) → In (Opens pgn len number) qs → Each (λ (q : Port). q.number ≤ opened) qs → number ≤ opened
used_in pgn len number opened [] h u = absurd h
used_in pgn len number opened (q ∷ qs) (inl o) u = let e : q.number ≡ number = o.0 in let l : q.number ≤ opened = u.0 in omega (arith, e, l)
used_in pgn len number opened (q ∷ qs) (inr r) u = used_in pgn len number opened qs r u.1

-- a call gives where it takes a frame with room
abbrev pub takes_with_room : Call → Bool
takes_with_room (Take station true) = true
takes_with_room (TakeAgain station true) = true
takes_with_room _ = false

-- what follows a call that isn't refused
pub record Goes (seg : Segment) (call : Call) (next : Segment) (reply : Reply) : Type 0 where
  pub goes : IsRefusal reply → ⊥
  pub kind : IsAnsweredBy call reply
  pub fits : EachAt (expected seg call).0 (expected seg call).1.1 (events_of reply)
  pub known : EachKnown next (events_of reply)
  pub stays : (p : PortId) → IsKnown p seg → IsKnown p next
  pub opened : (p : PortId) → reply ≡ Opened p → IsKnown p next × ((q : PortId) → IsKnown q seg → same_port q p ≡ false)
  pub none : takes_with_room call ≡ false → ports_given (events_of reply) ≡ []

abbrev KnownIn : PortId → List Station → Type 0
KnownIn p stations = (i : ℕ) (st : Station) → slice_get stations i ≡ Some st → st.address.0 ≡ p.station.0 → p.number ≤ st.ports.opened

not_opened : (es : List Event) (p : PortId) → Done es ≡ Opened p → ⊥
not_opened es p e = cc

not_sent_opened : (n : ℕ) (p : PortId) → Sent n ≡ Opened p → ⊥
not_sent_opened n p e = cc

module _ (seg : Segment) (r : IsReached seg) (sound : (j : ℕ) (st : Station) → slice_get seg.stations j ≡ Some st → IsSound st) where
  abbrev pub GoesBy : Call → Segment × Reply → Type 0
  GoesBy call step = Goes seg call step.0 step.1

  -- the stations are as they were
  goes_same : (call : Call) (next : Segment) → next.stations ≡ seg.stations → IsAnsweredBy call (Done []) → Goes seg call next (Done [])
  goes_same call next same kind = record {
    goes = λ h. h;
    kind = kind;
    fits = tt;
    known = tt;
    stays = λ p h. subst (KnownIn p) (sym same) h;
    opened = λ p e. absurd (not_opened [] p e);
    none = λ _. refl;
  }

  module _ (i : ℕ) (st : Station) (at : slice_get seg.stations i ≡ Some st) where
    it_is : IsSound st
    it_is = sound i st at

    module _ (new : Station) (address : new.address ≡ st.address) (rises : st.ports.opened ≤ new.ports.opened) where
      -- what was known stays known
      stays_in : (p : PortId) → KnownIn p seg.stations → KnownIn p (set seg.stations i new)
      stays_in p h j u e own = by (equal_or_not j i)
        where
          by : (j ≡ i) ⊎ (j ≡ i → ⊥) → p.number ≤ u.ports.opened
          by (inl q) =
              let is : new ≡ u = same_Some new u (sym (slice_get_same seg.stations i st new at address) ∙ ap (slice_get (set seg.stations i new)) (sym q) ∙ e) in
              let before : p.number ≤ st.ports.opened = h i st at (ap (λ (a : Address). a.0) (sym address) ∙ ap (λ (z : Station). z.address.0) is ∙ own) in
              let l : new.ports.opened ≡ u.ports.opened = ap (λ (z : Station). z.ports.opened) is in
              omega (arith, before, rises, l)
          by (inr apart) = h j u (slice_get_other seg.stations i st new at address j u apart e) own

      -- a port of the station whose number it has opened is known
      known_here : (p : PortId) → st.address.0 ≡ p.station.0 → p.number ≤ new.ports.opened → KnownIn p (set seg.stations i new)
      known_here p own less j u e other = by (equal_or_not j i)
        where
          by : (j ≡ i) ⊎ (j ≡ i → ⊥) → p.number ≤ u.ports.opened
          by (inl q) =
              let is : new ≡ u = same_Some new u (sym (slice_get_same seg.stations i st new at address) ∙ ap (slice_get (set seg.stations i new)) (sym q) ∙ e) in
              let l : new.ports.opened ≡ u.ports.opened = ap (λ (z : Station). z.ports.opened) is in
              omega (arith, less, l)
          by (inr apart) =
              let before : slice_get seg.stations j ≡ Some u = slice_get_other seg.stations i st new at address j u apart e in
              let same : u.address ≡ st.address = same_address u.address st.address (other ∙ sym own) in
              let places : Some j ≡ Some i = sym (r.places j u before) ∙ ap (place_of seg) same ∙ r.places i st at in
              absurd (apart (same_Some j i places))

      -- nothing is given
      goes_set : (call : Call) (next : Segment) (es : List Event) → next.stations ≡ set seg.stations i new → ports_given es ≡ [] → IsAnsweredBy call (Done es) → Goes seg call next (Done es)
      goes_set call next es is none kind = record {
        goes = λ h. h;
        kind = kind;
        fits = none_at (expected seg call).0 (expected seg call).1.1 es none;
        known = none_known next es none;
        stays = λ p h. subst (KnownIn p) (sym is) (stays_in p h);
        opened = λ p e. absurd (not_opened es p e);
        none = λ _. none;
      }

    -- Ports

    goes_opened : (station : Address) (pgn max_len : ℕ) → GoesBy (Open station pgn max_len) (with_station seg i (record st { ports = with_port st.ports pgn max_len }), Opened (next_id st.ports))
    goes_opened station pgn max_len = record {
      goes = λ h. h;
      kind = refl;
      fits = tt;
      known = tt;
      stays = λ p h. stays_in new refl rises p h;
      opened = λ p e. of p (port_is p e);
      none = λ _. refl;
    }
      where
        new : Station
        new = record st { ports = with_port st.ports pgn max_len }

        rises : st.ports.opened ≤ new.ports.opened
        rises = omega arith

        id : PortId
        id = record { station = st.ports.station; number = st.ports.opened + 1 }

        port_is : (p : PortId) → Opened id ≡ Opened p → id ≡ p
        port_is p e = cc

        fresh : (q : PortId) → IsKnown q seg → same_port q id ≡ false
        fresh q h = by (q.station.0 == st.ports.station.0) refl
          where
            by : (b : Bool) → (q.station.0 == st.ports.station.0) ≡ b → (b && (q.number == st.ports.opened + 1)) ≡ false
            by false e = refl
            by true e =
                let own : st.address.0 ≡ q.station.0 = sym (ap (λ (a : Address). a.0) it_is.own) ∙ sym (eqb-true q.station.0 st.ports.station.0 e) in
                let l : q.number ≤ st.ports.opened = h i st at own in
                ne_eqb q.number (st.ports.opened + 1) (λ same. absurd (omega (arith, same, l)))

        of : (p : PortId) → id ≡ p → KnownIn p (set seg.stations i new) × ((q : PortId) → IsKnown q seg → same_port q p ≡ false)
        of p e = subst (λ (x : PortId). KnownIn x (set seg.stations i new) × ((q : PortId) → IsKnown q seg → same_port q x ≡ false)) e
            (known_here new refl rises id (sym (ap (λ (a : Address). a.0) it_is.own)) (omega arith), fresh)

    goes_closed : (port : PortId) → GoesBy (Close port) (with_station seg i (closed st port.number), Done [])
    goes_closed port =
        let h = closing_is st port.number it_is.sessions in
        let same : (closed st port.number).ports.opened ≡ st.ports.opened = ap (λ (x : Ports). x.opened) h.ports in
        goes_set (closed st port.number) h.address (omega (arith, same)) (Close port) _ [] refl refl (refl, refl)

    marks : (number : ℕ) (paused : Bool) (call : Call) → IsAnsweredBy call (Done []) → Goes seg call (record seg { stations = set seg.stations i (record st { ports = with_paused st.ports number paused }) }) (Done [])
    marks number paused call kind = goes_set (record st { ports = with_paused st.ports number paused }) refl (omega arith) call _ [] refl refl kind

    -- Messages

    goes_sent : (from to : Address) (pgn : ℕ) (bytes : List ℕ) → GoesBy (Send from to pgn bytes) (with_station seg i (sent st to pgn bytes), Sent ((lane_of st to).sent + 1))
    goes_sent from to pgn bytes = record {
      goes = λ h. h;
      kind = refl;
      fits = tt;
      known = tt;
      stays = λ p h. stays_in (sent st to pgn bytes) refl (omega arith) p h;
      opened = λ p e. absurd (not_sent_opened _ p e);
      none = λ _. refl;
    }

    -- a step that leaves the ports as they are
    quiet_step : (call : Call) (next : Segment) (step : StationStep) → next.stations ≡ set seg.stations i step.station → Acts st step → ports_given step.events ≡ [] → IsAnsweredBy call (Done step.events) → Goes seg call next (Done step.events)
    quiet_step call next step is h none kind = let same : step.station.ports.opened ≡ st.ports.opened = ap (λ (x : Ports). x.opened) h.ports in
        goes_set step.station h.address (omega (arith, same)) call next step.events is none kind

    -- Frames

    module _ (a : Address) (place : place_of seg a ≡ Some i) where
      own_address : st.address.0 ≡ a.0
      own_address = has_address seg a i st place at

      abbrev looked_up : (again : Bool) → Option ℕ → List ℕ × ℕ
      looked_up again p = elim p as (λ (_ : Option ℕ). List ℕ × ℕ) [ None ↦ ([], 0) | Some k ↦ wanted_with (elim p as (λ (_ : Option ℕ). Option Station) [ None ↦ None | Some j ↦ slice_get seg.stations j ]) (frame_for seg again k) ]

      wanted_is : (again : Bool) (f : CanFrame) → frame_for seg again i ≡ Some f → no_place st ≡ false → wanted seg a again ≡ taking.wanted st f
      wanted_is again f e free =
          ap (looked_up again) place
          ∙ ap (λ (o : Option Station). wanted_with o (frame_for seg again i)) at
          ∙ ap (λ (o : Option CanFrame). wanted_with (Some st) o) e
          ∙ ap (λ (b : Bool). cond {A = List ℕ × ℕ} b ([], 0) (taking.wanted st f)) free

      each_at : (n : ℕ) (es : List Event) → Each (IsAllowed st.ports) es → EachShort n es → EachAt a n es
      each_at n [] h s = tt
      each_at n (event.Given p f t g b ∷ es) h s = ((h.0.0 ∙ it_is.own ∙ same_address st.address a own_address, s.0), each_at n es h.1 s.1)
      each_at n (event.Outcome f t k o ∷ es) h s = (tt, each_at n es h.1 s.1)

      each_known : (next : Segment) (new : Station) → new.address ≡ st.address → st.ports.opened ≤ new.ports.opened → next.stations ≡ set seg.stations i new → (es : List Event) → Each (IsAllowed st.ports) es → EachKnown next es
      each_known next new address rises is [] h = tt
      each_known next new address rises is (event.Given p f t g b ∷ es) h =
          let used : p.number ≤ st.ports.opened = used_in g (length b) p.number st.ports.opened st.ports.open_ports h.0.2 it_is.used in
          let here : st.address.0 ≡ p.station.0 = sym (ap (λ (x : Address). x.0) (h.0.0 ∙ it_is.own)) in
          (subst (KnownIn p) (sym is) (known_here new address rises p here (omega (arith, used, rises))), each_known next new address rises is es h.1)
      each_known next new address rises is (event.Outcome f t k o ∷ es) h = (tt, each_known next new address rises is es h.1)

      -- a frame is taken with room
      taken_keeps : (call : Call) (again : Bool) (next : Segment) (f : CanFrame) → expected seg call ≡ (a, wanted seg a again) → takes_with_room call ≡ true → IsAnsweredBy call (Done []) → frame_for seg again i ≡ Some f → no_place st ≡ false
          → next.stations ≡ set seg.stations i (taken st f true seg.now).station → Goes seg call next (Done (taken st f true seg.now).events)
      taken_keeps call again next f e gives kind frame free is =
          let step : StationStep = taken st f true seg.now in
          let h : Acts st step = acts_taken st it_is.own it_is.sessions f true seg.now in
          let rises : st.ports.opened ≤ step.station.ports.opened = (let same : step.station.ports.opened ≡ st.ports.opened = ap (λ (x : Ports). x.opened) h.ports in omega (arith, same)) in
          let w : expected seg call ≡ (a, taking.wanted st f) = e ∙ ap (λ (x : List ℕ × ℕ). (a, x)) (wanted_is again f frame free) in
          record {
            goes = λ x. x;
            kind = kind;
            fits = subst (λ (x : Address × (List ℕ × ℕ)). EachAt x.0 x.1.1 step.events) (sym w) (each_at (taking.wanted st f).1 step.events h.events (taken_short st seg.now it_is.sessions f));
            known = each_known next step.station h.address rises is step.events h.events;
            stays = λ p k. subst (KnownIn p) (sym is) (stays_in step.station h.address rises p k);
            opened = λ p x. absurd (not_opened step.events p x);
            none = λ x. absurd (let y : true ≡ false = sym gives ∙ x in cc);
          }

      take_goes : (room : Bool) (f : CanFrame) → bus.next_frame seg.bus i ≡ Some f → no_place st ≡ false → GoesBy (Take a room) (looked (record seg { bus = bus.released (bus.taken seg.bus i) }) room i st f)
      take_goes true f e free = taken_keeps (Take a true) false _ f refl refl (refl, refl) e free refl
      take_goes false f e free = quiet_step (Take a false) _ (taken st f false seg.now) refl (acts_taken st it_is.own it_is.sessions f false seg.now) (taken_none st seg.now f) (refl, refl)

      repeat_goes : (room : Bool) (f : CanFrame) → bus.frame_again seg.bus i ≡ Some f → no_place st ≡ false → GoesBy (TakeAgain a room) (looked (record seg { counts = counted_repeat seg.counts }) room i st f)
      repeat_goes true f e free = taken_keeps (TakeAgain a true) true _ f refl refl (refl, refl) e free refl
      repeat_goes false f e free = quiet_step (TakeAgain a false) _ (taken st f false seg.now) refl (acts_taken st it_is.own it_is.sessions f false seg.now) (taken_none st seg.now f) (refl, refl)

    of_station : OfStation seg GoesBy i st
    of_station = record {
      opens = λ a pgn max_len q. goes_opened a pgn max_len;
      closes = λ port q is. goes_closed port;
      sends = λ from to pgn bytes q other long short. goes_sent from to pgn bytes;
      pumps = λ a to q. quiet_step (Pump a to) _ (pumped st to seg.now) refl (acts_lane st it_is.own it_is.sessions to (λ l. lane-pump.pumped l seg.now)) (by_lane_none st seg.now to (λ l. lane-pump.pumped l seg.now)) (refl, refl);
      transmits = λ a f q e free. goes_set (record st { queue = behind st.queue }) refl (omega arith) (Transmit a) _ [] refl refl (refl, refl);
      takes = λ a room f q e free. take_goes a q room f e free;
      repeats = λ a room f q e free. repeat_goes a q room f e free;
      overruns = λ a k q few. quiet_step (Overrun a k) _ (overrun st) refl (acts_overrun st it_is.own it_is.sessions) (overrun_none st) (refl, refl);
      fires = λ a q. quiet_step (Fire a) _ (fired st seg.now) refl (acts_fired st it_is.own it_is.sessions seg.now) (fired_none st seg.now) (refl, refl);
      cancels = λ from to number q pending. quiet_step (Cancel from to number) _ (cancelled st to number) refl (acts_lane st it_is.own it_is.sessions to (λ l. lane-cancel.cancelled l number)) (by_lane_none st seg.now to (λ l. lane-cancel.cancelled l number)) (refl, refl);
      pauses = λ port q. marks port.number true (Pause port) (refl, refl);
      resumes = λ port q. marks port.number false (Resume port) (refl, refl);
    }

  pub accepted : Accepted seg GoesBy
  accepted = record {
    station = of_station;
    ticks = λ k. goes_same (Tick k) _ refl (refl, refl);
    injects = λ f foreign free. goes_same (Inject f) _ refl (refl, refl);
  }
