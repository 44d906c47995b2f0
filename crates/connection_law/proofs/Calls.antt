-- A call on a station that leaves the bus as it is changes one end of the lane, or neither.
use Rattle.std.proofs.Common.{◌≡◌, inl, ℕ, ◌^◌, ◌<◌, ◌≤◌, ◌==◌, nat_lt, Bool, true, false, cond, List, [], ◌∷◌, ◌++◌, length, set, Some, refl, sym, ap, ◌∙◌, subst, arith, append-nil, eqb-true, eq-eqb, ltb-false, true≢false, ◌+◌}
use Rattle.std.specs.Prelude.{slice_get}
use Rattle.std.proofs.lemmas.Bool.{and_parts, and_from}
use Rattle.pgn_ids.specs.Pgn.{is_pgn, clean}
use Rattle.pgn_ids.specs.declared.address.Address.{Address}
use Rattle.tp_wire.specs.declared.wire.Kind.{Kind}
use Rattle.tp_wire.specs.declared.constants.TheConstants.{MIN_SIZE, ETP_MAX_SIZE}
use Rattle.bus_order.specs.Bus.{Bus}
use Rattle.port_table.specs.Ports.{Ports, next_id, with_port, with_paused}
use Rattle.port_table.specs.declared.port.PortId.{PortId}
use Rattle.lane_core.specs.Lane.{longest_to}
use Rattle.station_lanes.specs.LaneReaders.{is_pending_at}
use Rattle.station_core.specs.Station.{Station, StationStep, quietly}
use Rattle.station_core.specs.Sending.{lane_of, sent, pumped, cancelled}
use Rattle.station_core.specs.Timers.{fired}
use Rattle.station_core.specs.Closing.{closed}
use Rattle.segment_law.specs.Told.{is_lane}
use Rattle.segment_law.specs.Segment.{Segment, with_station, counted}
use Rattle.segment_law.specs.Reached.{IsReached}
use Rattle.segment_law.specs.declared.call.Call.TheVariants.{Open, Close, Send, Pump, Fire, Cancel, Pause, Resume}
use Rattle.segment_law.specs.declared.reply.Reply.TheVariants.{Opened, Sent, Done}
use Rattle.segment_law.specs.declared.counts.Counts.{Counts}
use Rattle.record_law.proofs.EachCall.{stepped}
use Rattle.record_law.proofs.Segments.{same_address}
use Rattle.record_law.proofs.Tests.{on_test}
use Rattle.record_law.proofs.Told.{clean_is}
use Rattle.lane_law.specs.Choice.{IsChoice}
use Rattle.lane_law.specs.Lane as machine
use Rattle.broadcast_law.proofs.Buses.{ahead_of}
use Rattle.broadcast_law.proofs.Places.{AllOwn}
use Rattle.broadcast_law.proofs.Stations.{IsOwn}
use Rattle.connection_law.proofs.Roles.{sender_view, receiver_view, IsSenderOf, IsReceiverOf, station_told, told_to, ended_in}
use Rattle.connection_law.proofs.View.{Laws, IsPair, Mark, View, Sim, Still, next_still, still_same}
use Rattle.connection_law.proofs.Marks.{less_mark}
use Rattle.connection_law.proofs.Turns.{opened_at, none_opened, Turns, turns_opened, opens_elsewhere, turns_paused, turns_closed, fired_ports, closed_ports}
use Rattle.connection_law.proofs.Events.{Tells, tells_none, tells_lane, tells_fire}
use Rattle.connection_law.proofs.Segments.{Ghost, parts, station_in, Goes, goes_quietly, TurnsAt, turns_none, Good, GoodBy, is_of, is_here, at_it, good_step}
use Rattle.connection_law.proofs.StepsOut.{out_ports, out_closes, aside as out_aside, sender_pumps, sender_cancels, sender_fires, sender_sends_here, sender_sends_else}
use Rattle.connection_law.proofs.ClosesIn.{receiver_closes}
use Rattle.connection_law.proofs.StepsIn.{in_ports, in_pumps, in_cancels, in_sends, aside as in_aside, receiver_fires}

module _ (laws : Laws) (choose : machine.OnEachLane (λ lane. IsChoice lane.stream.given lane.stream.sent)) (s d : Address) (pair : IsPair s d)
    (seg : Segment) (r : IsReached seg) (each : AllOwn seg) (i : ℕ) (st : Station) (at : slice_get seg.stations i ≡ Some st) where
  own : IsOwn st.address st
  own = each i st at

  own_as : (c : Address) → st.address.0 ≡ c.0 → IsOwn c st
  own_as c e = subst (λ x. IsOwn x st) (same_address st.address c e) own

  -- what a step makes of each end, at whatever lane
  record Ends (step : StationStep) : Type 0 where
    out : IsOwn s st → (v : View) (l : machine.Lane) (ahead : List _) → IsSenderOf laws s d pair v ahead st → Sim s d v l → Still s d l (sender_view laws s d pair v ahead step)
    in_it : IsOwn d st → (v : View) (l : machine.Lane) (behind : List _) → IsReceiverOf laws s d pair v behind st → Sim s d v l → Still s d l (receiver_view laws s d pair v behind step)

  -- what the sender's end shows
  pub sends_so : {table : Ports} (b : Bus) (step : StationStep) (x y : ℕ) (g : Ghost) (l : machine.Lane) (e : i ≡ x) → Still s d l (sender_view laws s d pair (parts laws s d pair st (station_in laws s d pair seg.stations y) b x y g) (ahead_of b y) step) → Goes laws s d pair table [] step.station (station_in laws s d pair seg.stations y) b x y g [] [] (ended_in s d step.events) l
  sends_so b step x y g l e h = record {
    opened = g.opened;
    marks = λ k. inl refl;
    next = next_still s d l _ (subst (Still s d l) (sym (λ j. parts laws s d pair step.station (station_in laws s d pair seg.stations y) b x y (let w : Ghost = record { sent = append-nil g.sent j; given = append-nil g.given j; ended = g.ended ++ ended_in s d step.events; opened = g.opened } in w))) h);
  }

  pub receives_so : {table : Ports} (b : Bus) (step : StationStep) (x y : ℕ) (g : Ghost) (l : machine.Lane) → Still s d l (receiver_view laws s d pair (parts laws s d pair (station_in laws s d pair seg.stations x) st b x y g) (ahead_of b x) step) → Goes laws s d pair table [] (station_in laws s d pair seg.stations x) step.station b x y g [] (station_told d s d step.events) [] l
  receives_so b step x y g l h = record {
    opened = g.opened;
    marks = λ k. inl refl;
    next = next_still s d l _ (subst (Still s d l) (sym (λ j. parts laws s d pair (station_in laws s d pair seg.stations x) step.station b x y (let w : Ghost = record { sent = append-nil g.sent j; given = g.given ++ told_to d s d step.events; ended = append-nil g.ended j; opened = g.opened } in w))) h);
  }

  -- a step that leaves the bus as it is
  good_plain : (counts : Counts) (step : StationStep) (opened : ℕ → List (ℕ × ℕ)) → TurnsAt laws s d pair seg r i st at opened [] step.station → Tells s d st.address step.events → Ends step → Good laws s d pair seg (record { now = seg.now; stations = set seg.stations i step.station; bus = seg.bus; counts = counts }) [] opened [] step.events
  good_plain counts step opened turns tells ends = good_step laws s d pair seg r i st at seg.now seg.bus counts step [] opened [] tells turns (λ x y g l at_x at_y h. record {
    sends = λ e.
        let v : View = parts laws s d pair st (station_in laws s d pair seg.stations y) seg.bus x y g in
        let h' : Sim s d v l = subst (λ (z : Station). Sim s d (parts laws s d pair z (station_in laws s d pair seg.stations y) seg.bus x y g) l) (at_it laws s d pair seg r i st at x e) h in
        sends_so seg.bus step x y g l e (ends.out (own_as s (is_of laws s d pair seg r i st at x s at_x e)) v l (ahead_of seg.bus y) (record { lane = refl; forward = refl }) h');
    receives = λ e.
        let v : View = parts laws s d pair (station_in laws s d pair seg.stations x) st seg.bus x y g in
        let h' : Sim s d v l = subst (λ (z : Station). Sim s d (parts laws s d pair (station_in laws s d pair seg.stations x) z seg.bus x y g) l) (at_it laws s d pair seg r i st at y e) h in
        receives_so seg.bus step x y g l (ends.in_it (own_as d (is_of laws s d pair seg r i st at y d at_y e)) v l (ahead_of seg.bus x) (record { tp = refl; etp = refl; answers = refl }) h');
    other = λ _ _. goes_quietly laws s d pair (station_in laws s d pair seg.stations x) (station_in laws s d pair seg.stations y) seg.bus x y g l (still_same s d l _ h);
  })

  good_ports : (counts : Counts) (ports : Ports) (opened : ℕ → List (ℕ × ℕ)) → TurnsAt laws s d pair seg r i st at opened [] (record st { ports = ports }) → Good laws s d pair seg (record { now = seg.now; stations = set seg.stations i (record st { ports = ports }); bus = seg.bus; counts = counts }) [] opened [] []
  good_ports counts ports opened turns = good_plain counts (quietly (record st { ports = ports })) opened turns (tells_none s d st.address) (record {
    out = λ k v l ahead is h. out_aside laws s d pair v ahead l st k is h _ (out_ports laws s d pair st ports);
    in_it = λ k v l behind is h. in_aside laws choose s d pair v behind l st k is h _ (in_ports laws choose s d pair st ports);
  })

  pub opens_good : (station : Address) (pgn max_len : ℕ) → GoodBy laws s d pair seg (Open station pgn max_len) (with_station seg i (record st { ports = with_port st.ports pgn max_len }), Opened (next_id st.ports))
  opens_good station pgn max_len = good_ports seg.counts (with_port st.ports pgn max_len) (opened_at d (Open station pgn max_len) (Opened (next_id st.ports))) (record {
    here = λ _. turns_opened d st.ports pgn max_len;
    elsewhere = λ n p o h. opens_elsewhere d st.ports pgn max_len p o (λ e. n (sym (ap (λ (x : Address). x.0) own.ports.station) ∙ e)) h;
  })

  -- a port closes: it is one of d, or of another station
  closes_by : (port : PortId) → st.address.0 ≡ port.station.0 → (b : Bool) → (port.station.0 == d.0) ≡ b → Good laws s d pair seg (with_station seg i (closed st port.number)) [] none_opened (cond b (port.number ∷ []) []) []
  closes_by port is true e = good_step laws s d pair seg r i st at seg.now seg.bus seg.counts step [] none_opened (port.number ∷ []) (tells_none s d st.address)
      (record { here = λ _. subst (Turns none_opened (port.number ∷ []) st.ports) (sym (closed_ports st port.number)) (turns_closed st.ports port.number); elsewhere = λ n p o h. h })
      (λ x y g l at_x at_y h. record {
        sends = λ q. absurd (pair.apart (sym (is_of laws s d pair seg r i st at x s at_x q) ∙ mine));
        receives = λ q.
            let v : View = parts laws s d pair (station_in laws s d pair seg.stations x) st seg.bus x y g in
            let h' : Sim s d v l = subst (λ (z : Station). Sim s d (parts laws s d pair (station_in laws s d pair seg.stations x) z seg.bus x y g) l) (at_it laws s d pair seg r i st at y q) h in
            let less : Kind → Mark = λ k. less_mark (port.number ∷ []) (g.opened k) in
            record {
              opened = less;
              marks = λ k. inl refl;
              next = next_still s d l _ (subst (Still s d l) (sym (λ j. parts laws s d pair (station_in laws s d pair seg.stations x) step.station seg.bus x y (let w : Ghost = record { sent = append-nil g.sent j; given = g.given ++ []; ended = append-nil g.ended j; opened = less } in w)))
                  (receiver_closes laws choose s d pair v (ahead_of seg.bus x) st port.number l (record { tp = refl; etp = refl; answers = refl }) (own_as d mine) h'));
            };
        other = λ _ n. absurd (n (is_here laws s d pair seg r i st at y d at_y mine));
      })
    where
      step : StationStep
      step = quietly (closed st port.number)

      mine : st.address.0 ≡ d.0
      mine = is ∙ eqb-true port.station.0 d.0 e
  closes_by port is false e = good_step laws s d pair seg r i st at seg.now seg.bus seg.counts step [] none_opened [] (tells_none s d st.address)
      (record { here = λ m. absurd (foreign m); elsewhere = λ n p o h. h })
      (λ x y g l at_x at_y h. record {
        sends = λ q.
            let v : View = parts laws s d pair st (station_in laws s d pair seg.stations y) seg.bus x y g in
            let h' : Sim s d v l = subst (λ (z : Station). Sim s d (parts laws s d pair z (station_in laws s d pair seg.stations y) seg.bus x y g) l) (at_it laws s d pair seg r i st at x q) h in
            let k : IsOwn s st = own_as s (is_of laws s d pair seg r i st at x s at_x q) in
            sends_so seg.bus step x y g l q (out_aside laws s d pair v (ahead_of seg.bus y) l st k (record { lane = refl; forward = refl }) h' _ (out_closes laws s d pair st port.number k));
        receives = λ q. absurd (foreign (is_of laws s d pair seg r i st at y d at_y q));
        other = λ _ _. goes_quietly laws s d pair (station_in laws s d pair seg.stations x) (station_in laws s d pair seg.stations y) seg.bus x y g l (still_same s d l _ h);
      })
    where
      step : StationStep
      step = quietly (closed st port.number)

      foreign : st.address.0 ≡ d.0 → ⊥
      foreign m = true≢false (sym (eq-eqb port.station.0 d.0 (sym is ∙ m)) ∙ e)

  pub closes_good : (port : PortId) → st.address.0 ≡ port.station.0 → GoodBy laws s d pair seg (Close port) (with_station seg i (closed st port.number), Done [])
  closes_good port is = closes_by port is (port.station.0 == d.0) refl

  pub pauses_good : (port : PortId) → GoodBy laws s d pair seg (Pause port) (with_station seg i (record st { ports = with_paused st.ports port.number true }), Done [])
  pauses_good port = good_ports seg.counts (with_paused st.ports port.number true) none_opened (record { here = λ _. turns_paused st.ports port.number true; elsewhere = λ n p o h. h })

  pub resumes_good : (port : PortId) → GoodBy laws s d pair seg (Resume port) (with_station seg i (record st { ports = with_paused st.ports port.number false }), Done [])
  resumes_good port = good_ports seg.counts (with_paused st.ports port.number false) none_opened (record { here = λ _. turns_paused st.ports port.number false; elsewhere = λ n p o h. h })

  pub fires_good : (station : Address) → GoodBy laws s d pair seg (Fire station) (stepped seg i (fired st seg.now))
  fires_good station = good_plain (counted seg.counts (fired st seg.now).events) (fired st seg.now) none_opened (turns_none laws s d pair seg r i st at (fired st seg.now).station (fired_ports st seg.now)) (tells_fire s d st.address st own seg.now) (record {
    out = λ k v l ahead is h. sender_fires laws s d pair v ahead l st k is h seg.now;
    in_it = λ k v l behind is h. receiver_fires laws choose s d pair v behind l st k is h seg.now;
  })

  pub pumps_good : (station to : Address) → GoodBy laws s d pair seg (Pump station to) (stepped seg i (pumped st to seg.now))
  pumps_good station to = good_plain (counted seg.counts (pumped st to seg.now).events) (pumped st to seg.now) none_opened (turns_none laws s d pair seg r i st at (pumped st to seg.now).station refl) (tells_lane s d st.address st own to (λ l. Rattle.lane_core.specs.Pump.pumped l seg.now)) (record {
    out = λ k v l ahead is h. sender_pumps laws s d pair v ahead l st k is h to seg.now;
    in_it = λ k v l behind is h. in_aside laws choose s d pair v behind l st k is h _ (in_pumps laws choose s d pair st k to seg.now);
  })

  pub cancels_good : (from to : Address) (number : ℕ) → is_pending_at st.lanes to.0 number ≡ true → GoodBy laws s d pair seg (Cancel from to number) (stepped seg i (cancelled st to number))
  cancels_good from to number pending =
      good_plain (counted seg.counts (cancelled st to number).events) (cancelled st to number) none_opened (turns_none laws s d pair seg r i st at (cancelled st to number).station refl) (tells_lane s d st.address st own to (λ l. Rattle.lane_core.specs.Cancel.cancelled l number)) (record {
        out = λ k v l ahead is h. sender_cancels laws s d pair v ahead l st k is h to number pending;
        in_it = λ k v l behind is h. in_aside laws choose s d pair v behind l st k is h _ (in_cancels laws choose s d pair st k to number);
      })

  -- A message is sent

  sent_good : (from to : Address) (pgn : ℕ) (bytes : List ℕ) → from.0 ≡ st.address.0 → is_pgn pgn ≡ true → 0 < length bytes → length bytes ≤ ETP_MAX_SIZE → (b : Bool) → is_lane s d from to ≡ b → Good laws s d pair seg (with_station seg i (sent st to pgn bytes)) (cond b ((pgn, bytes) ∷ []) []) none_opened [] []
  sent_good from to pgn bytes is pgn_is long most true e = good_step laws s d pair seg r i st at seg.now seg.bus seg.counts step ((pgn, bytes) ∷ []) none_opened [] (tells_none s d st.address) (turns_none laws s d pair seg r i st at step.station refl) (λ x y g l at_x at_y h. record {
    sends = λ q.
        let v : View = parts laws s d pair st (station_in laws s d pair seg.stations y) seg.bus x y g in
        let h' : Sim s d v l = subst (λ (z : Station). Sim s d (parts laws s d pair z (station_in laws s d pair seg.stations y) seg.bus x y g) l) (at_it laws s d pair seg r i st at x q) h in
        record {
          opened = g.opened;
          marks = λ k. inl refl;
          next = next_still s d l _ (subst (Still s d l) (sym (λ j. parts laws s d pair step.station (station_in laws s d pair seg.stations y) seg.bus x y (let w : Ghost = record { sent = g.sent ++ (pgn, bytes) ∷ []; given = append-nil g.given j; ended = g.ended ++ []; opened = g.opened } in w)))
              (sender_sends_here laws s d pair v (ahead_of seg.bus y) l st (own_as s (is_of laws s d pair seg r i st at x s at_x q)) (record { lane = refl; forward = refl }) h' to pgn bytes goal long most c.0 c.1));
        };
    receives = λ q. absurd (pair.apart (sym mine ∙ is_of laws s d pair seg r i st at y d at_y q));
    other = λ n _. absurd (n (is_here laws s d pair seg r i st at x s at_x mine));
  })
    where
      step : StationStep
      step = quietly (sent st to pgn bytes)

      p : ((from.0 == s.0) ≡ true) × ((to.0 == d.0) ≡ true)
      p = and_parts (from.0 == s.0) (to.0 == d.0) e

      mine : st.address.0 ≡ s.0
      mine = sym is ∙ eqb-true from.0 s.0 p.0

      goal : to.0 ≡ d.0
      goal = eqb-true to.0 d.0 p.1

      c : (pgn < 2 ^ 18) × (clean pgn ≡ pgn)
      c = clean_is pgn pgn_is
  sent_good from to pgn bytes is pgn_is long most false e = good_plain seg.counts (quietly (sent st to pgn bytes)) none_opened (turns_none laws s d pair seg r i st at (sent st to pgn bytes) refl) (tells_none s d st.address) (record {
    out = λ k v l ahead is' h. sender_sends_else laws s d pair v ahead l st k is' h to pgn bytes (λ q. apart k q);
    in_it = λ k v l behind is' h. in_aside laws choose s d pair v behind l st k is' h _ (in_sends laws choose s d pair st to pgn bytes);
  })
    where
      apart : IsOwn s st → to.0 ≡ d.0 → ⊥
      apart k q =
          let f : from.0 ≡ s.0 = is ∙ ap (λ (x : Address). x.0) k.address in
          let t : is_lane s d from to ≡ true = and_from (from.0 == s.0) (to.0 == d.0) (eq-eqb from.0 s.0 f) (eq-eqb to.0 d.0 q) in
          let u : true ≡ false = sym t ∙ e in cc

  pub sends_good : (from to : Address) (pgn : ℕ) (bytes : List ℕ) → from.0 ≡ st.address.0 → is_pgn pgn ≡ true → nat_lt (length bytes) MIN_SIZE ≡ false → nat_lt (longest_to to.0) (length bytes) ≡ false → GoodBy laws s d pair seg (Send from to pgn bytes) (with_station seg i (sent st to pgn bytes), Sent ((lane_of st to).sent + 1))
  sends_good from to pgn bytes is pgn_is long most =
      sent_good from to pgn bytes is pgn_is (let m : MIN_SIZE ≤ length bytes = ltb-false (length bytes) MIN_SIZE long in omega (arith, m)) (at_most most) (is_lane s d from to) refl
    where
      at_most : nat_lt (longest_to to.0) (length bytes) ≡ false → length bytes ≤ ETP_MAX_SIZE
      at_most e = on_test (λ b. (to.0 == 255) ≡ b → length bytes ≤ cond b Rattle.tp_wire.specs.declared.constants.TheConstants.TP_MAX_SIZE ETP_MAX_SIZE → length bytes ≤ ETP_MAX_SIZE) (to.0 == 255) (λ _ _ l. omega (arith, l)) (λ _ _ l. l) refl (ltb-false (longest_to to.0) (length bytes) e)
