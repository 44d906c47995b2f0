-- A station alone on a segment of its own: along its record it stays the only one, its table has the ports that were opened and not closed,
-- and of its lane to one destination what each step keeps is still so.
use Rattle.std.proofs.Common.{◌≡◌, ◌⊎◌, inl, ℕ, ◌+◌, ◌<◌, ◌≤◌, ◌==◌, ◌&&◌, Bool, true, false, cond, List, [], ◌∷◌, ◌++◌, map, length, set, Option, Some, None, refl, sym, ap, ◌∙◌, subst, arith, append-nil, eq-eqb}
use Rattle.std.specs.Prelude.{slice_get}
use Rattle.std.specs.FinMap.{get-empty}
use Rattle.std.specs.Ordering.{nat_cmp}
use Rattle.std.proofs.lemmas.List.{map-append}
use Rattle.std.proofs.lemmas.Option.{slice_get_within, same_Some}
use Rattle.pgn_ids.specs.Pgn.{is_pgn}
use Rattle.pgn_ids.specs.declared.address.Address.{Address}
use Rattle.tp_wire.specs.declared.wire.Kind.{Kind}
use Rattle.port_table.specs.Ports.{Ports, no_ports, next_id, with_port, with_paused}
use Rattle.lane_core.specs.Lane.{Lane, new_lane}
use Rattle.station_lanes.specs.LaneCalls.{lane_to}
use Rattle.station_lanes.specs.Lanes.{Lanes}
use Rattle.station_core.specs.Closing.{closed}
use Rattle.station_core.specs.Sending.{lane_of}
use Rattle.station_core.specs.Station.{Station, new_station}
use Rattle.station_core.specs.Taking.{taken}
use Rattle.station_core.specs.Timers.{fired}
use Rattle.bus_order.specs.Bus.{Bus}
use Rattle.segment_law.specs.Segment.{Segment, new_segment, rising, place_of}
use Rattle.segment_law.specs.declared.counts.Counts.{Counts}
use Rattle.segment_law.specs.Calls.{applied, is_address, are_bytes, is_call}
use Rattle.segment_law.specs.Headline.{port_of}
use Rattle.segment_law.specs.Record.{Step, Record}
use Rattle.segment_law.specs.Drift.{at_tick, DriftsTo}
use Rattle.segment_law.specs.Reached.{IsReached}
use Rattle.segment_law.specs.Told.{Message, Placed, told_from, items_of, sent_by, sends, sent}
use Rattle.segment_law.specs.declared.call.Call.{Call}
use Rattle.segment_law.specs.declared.call.Call.TheVariants.{Open, Close, Send, Pump, Transmit, Take, TakeAgain, Overrun, Fire, Cancel, Pause, Resume}
use Rattle.segment_law.specs.declared.refusal.Refusal.{Refusal}
use Rattle.segment_law.specs.declared.reply.Reply.{Reply}
use Rattle.segment_law.specs.declared.reply.Reply.TheVariants.{Opened, Sent, Refused, Done}
use Rattle.segment_law.proofs.Booleans.{both_pass}
use Rattle.segment_law.proofs.FitStations.{Stays, taken_stays, pumped_stays, cancelled_stays, fired_stays, overrun_stays, closed_stays}
use Rattle.segment_law.proofs.Reaching.{as_it_is}
use Rattle.record_law.proofs.AlongDrifts.{at_drift}
use Rattle.record_law.proofs.EachCall.{Accepted, each_applied}
use Rattle.record_law.proofs.Lists.{Each, each_append, each_map, each_of_all, each_weaker}
use Rattle.record_law.proofs.Maps.{of_each_none}
use Rattle.record_law.proofs.Segments.{has_address, new_at}
use Rattle.record_law.proofs.Told.{told_last, items_placed, none_refused}
use Rattle.record_law.proofs.ports.Calls.{IsSound, HasLife, Good}
use Rattle.record_law.proofs.ports.Every.{goes_call}
use Rattle.record_law.proofs.ports.Lives.{lives_first}
use Rattle.record_law.proofs.ports.Receptions.{IsBound}
use Rattle.broadcast_law.proofs.Beginning.{new_own}
use Rattle.broadcast_law.proofs.Places.{AllOwn}
use Rattle.connection_law.proofs.Kept.{Kept, kept_next}
use Rattle.connection_law.proofs.Marks.{less_mark}
use Rattle.connection_law.proofs.Openings.{no_mark, marked_none}
use Rattle.connection_law.proofs.Turns.{opened_at, closed_at, refused_none, Turns, turns_same, turns_paused, turns_closed, turns_opened, taken_ports, fired_ports, closed_ports}
use Rattle.connection_law.proofs.Tables.{Stands}
use Rattle.connection_law.proofs.View.{Mark, Has}
use Rattle.network_law.proofs.Runs.{KeepsOwn}
use Rattle.restart_law.proofs.Lanes.{IsKept, taken_kept, fired_kept, pumped_kept, cancelled_kept, overrun_kept, sent_kept, closed_lanes}

-- One call

module _ (d x : Address) (Q : List Message → Lane → Type 0) (keeps_lane : IsKept Q) (seg : Segment) (r : IsReached seg) (st : Station) (one : seg.stations ≡ st ∷ []) (is : st.address ≡ d) where
  -- what is known of the lane goes on, whatever was sent before
  abbrev GoesOn : List Message → Lanes → Lanes → Type 0
  GoesOn more old new = (ms : List Message) → Q ms (lane_to d old x.0) → Q (ms ++ more) (lane_to d new x.0)

  -- the station is still the only one, and what became of its ports is what the call tells
  pub record Turned (call : Call) (step : Segment × Reply) : Type 0 where
    pub new : Station
    pub single : step.0.stations ≡ new ∷ []
    pub address : new.address ≡ d
    pub turns : Turns (opened_at d call step.1) (closed_at d call step.1) st.ports new.ports
    pub lane : is_call call ≡ true → GoesOn (sent_by d x call step.1) st.lanes new.lanes

  it : slice_get seg.stations 0 ≡ Some st
  it = ap (λ (ss : List Station). slice_get ss 0) one

  module _ (i : ℕ) (u : Station) (at : slice_get seg.stations i ≡ Some u) where
    zero_is : i ≡ 0
    zero_is = let l : i < length seg.stations = slice_get_within seg.stations i u at in let e : length seg.stations ≡ 1 = ap (λ (ss : List Station). length ss) one in omega (arith, l, e)

    same : u ≡ st
    same = same_Some u st (sym at ∙ ap (slice_get seg.stations) zero_is ∙ it)

    stays : Stays u.address u
    stays = as_it_is seg r i u at

    moved : (call : Call) (reply : Reply) (now : ℕ) (b : Bus) (counts : Counts) (new : Station) → new.address ≡ u.address → Turns (opened_at d call reply) (closed_at d call reply) u.ports new.ports → (is_call call ≡ true → GoesOn (sent_by d x call reply) u.lanes new.lanes)
        → Turned call (record { now = now; stations = set seg.stations i new; bus = b; counts = counts }, reply)
    moved call reply now b counts new address turns lane = record {
      new = new;
      single = λ k. set (one k) (zero_is k) new;
      address = address ∙ ap (λ (z : Station). z.address) same ∙ is;
      turns = subst (λ (z : Station). Turns (opened_at d call reply) (closed_at d call reply) z.ports new.ports) same turns;
      lane = λ fit. subst (λ (z : Station). GoesOn (sent_by d x call reply) z.lanes new.lanes) same (lane fit);
    }

    shuts_here : (n : ℕ) (b : Bool) → b ≡ true → Turns (λ p. []) (cond b (n ∷ []) []) u.ports (closed u n).ports
    shuts_here n b e = subst (λ (z : Bool × Ports). Turns (λ p. []) (cond z.0 (n ∷ []) []) u.ports z.1) (λ k. (sym e k, sym (closed_ports u n) k)) (turns_closed u.ports n)

    -- nothing is sent
    none_sent : (new : Lanes) → ((ms : List Message) → Q ms (lane_to d u.lanes x.0) → Q ms (lane_to d new x.0)) → GoesOn [] u.lanes new
    none_sent new keeps ms h = subst (λ (xs : List Message). Q xs (lane_to d new x.0)) (sym (append-nil ms)) (keeps ms h)

    address_is : u.address ≡ d
    address_is = ap (λ (z : Station). z.address) same ∙ is

    is_here : (a : Address) → place_of seg a ≡ Some i → (a.0 == d.0) ≡ true
    is_here a q = eq-eqb a.0 d.0 (sym (has_address seg a i u q at) ∙ ap (λ (z : Address). z.0) address_is)

  stays_so : GoesOn [] st.lanes st.lanes
  stays_so ms h = subst (λ (xs : List Message). Q xs (lane_to d st.lanes x.0)) (sym (append-nil ms)) h

  all_turned : Accepted seg Turned
  all_turned = record {
    station = λ i u at. record {
      opens = λ a pgn max_len q. moved i u at (Open a pgn max_len) (Opened (next_id u.ports)) _ _ _ (record u { ports = with_port u.ports pgn max_len }) refl (turns_opened d u.ports pgn max_len) (λ fit. none_sent i u at _ (λ ms h. h));
      closes = λ port q was. moved i u at (Close port) (Done []) _ _ _ (closed u port.number) (closed_stays u.address u port.number (stays i u at)).address
          (shuts_here i u at port.number (port.station.0 == d.0) (is_here i u at port.station q)) (λ fit. none_sent i u at _ (λ ms h. subst (λ (z : Lanes). Q ms (lane_to d z x.0)) (sym (closed_lanes u port.number)) h));
      sends = λ from to pgn bytes q apart long short. moved i u at (Send from to pgn bytes) (Sent ((lane_of u to).sent + 1)) _ _ _ _ refl (turns_same u.ports u.ports refl)
          (λ fit ms h. sent_kept d x.0 Q keeps_lane ms u h (address_is i u at) from to x refl pgn bytes (is_here i u at from q) (both_pass (is_address to) (is_pgn pgn) (both_pass (is_address to && is_pgn pgn) (are_bytes bytes) fit).0).1 long short ((lane_of u to).sent + 1));
      pumps = λ a to q. moved i u at (Pump a to) _ _ _ _ _ (pumped_stays u.address u to seg.now (stays i u at)).address (turns_same u.ports u.ports refl) (λ fit. none_sent i u at _ (λ ms h. pumped_kept d x.0 Q keeps_lane ms u h to seg.now));
      transmits = λ a f q e free. moved i u at (Transmit a) (Done []) _ _ _ _ refl (turns_same u.ports u.ports refl) (λ fit. none_sent i u at _ (λ ms h. h));
      takes = λ a room f q e free. moved i u at (Take a room) (Done (taken u f room seg.now).events) _ _ _ (taken u f room seg.now).station (taken_stays u.address u f room seg.now (stays i u at)).address (turns_same u.ports (taken u f room seg.now).station.ports (taken_ports u f room seg.now)) (λ fit. none_sent i u at _ (λ ms h. taken_kept d x.0 Q keeps_lane ms u h f room seg.now));
      repeats = λ a room f q e free. moved i u at (TakeAgain a room) (Done (taken u f room seg.now).events) _ _ _ (taken u f room seg.now).station (taken_stays u.address u f room seg.now (stays i u at)).address (turns_same u.ports (taken u f room seg.now).station.ports (taken_ports u f room seg.now)) (λ fit. none_sent i u at _ (λ ms h. taken_kept d x.0 Q keeps_lane ms u h f room seg.now));
      overruns = λ a n q few. moved i u at (Overrun a n) _ _ _ _ _ (overrun_stays u.address u (stays i u at)).address (turns_same u.ports u.ports refl) (λ fit. none_sent i u at _ (λ ms h. overrun_kept d x.0 Q keeps_lane ms u h));
      fires = λ a q. moved i u at (Fire a) (Done (fired u seg.now).events) _ _ _ (fired u seg.now).station (fired_stays u.address u seg.now (stays i u at)).address (turns_same u.ports (fired u seg.now).station.ports (fired_ports u seg.now)) (λ fit. none_sent i u at _ (λ ms h. fired_kept d x.0 Q keeps_lane ms u h seg.now));
      cancels = λ from to number q pending. moved i u at (Cancel from to number) _ _ _ _ _ (cancelled_stays u.address u to number (stays i u at)).address (turns_same u.ports u.ports refl) (λ fit. none_sent i u at _ (λ ms h. cancelled_kept d x.0 Q keeps_lane ms u h to number pending));
      pauses = λ port q. moved i u at (Pause port) (Done []) _ _ _ (record u { ports = with_paused u.ports port.number true }) refl (turns_paused u.ports port.number true) (λ fit. none_sent i u at _ (λ ms h. h));
      resumes = λ port q. moved i u at (Resume port) (Done []) _ _ _ (record u { ports = with_paused u.ports port.number false }) refl (turns_paused u.ports port.number false) (λ fit. none_sent i u at _ (λ ms h. h));
    };
    ticks = λ n. record { new = st; single = one; address = is; turns = turns_same st.ports st.ports refl; lane = λ fit. stays_so };
    injects = λ f foreign free. record { new = st; single = one; address = is; turns = turns_same st.ports st.ports refl; lane = λ fit. stays_so };
  }

  refused_turned : (call : Call) (cause : Refusal) → Turned call (seg, Refused cause)
  refused_turned call cause = record {
    new = st;
    single = one;
    address = is;
    turns = λ p pgn len h no. turns_same st.ports st.ports refl p pgn len (subst (λ (xs : List (ℕ × ℕ)). Stands p pgn len st.ports.open_ports ⊎ Has xs (pgn, len)) (refused_none d call cause p) h) no;
    lane = λ fit. subst (λ (xs : List Message). GoesOn xs st.lanes st.lanes) (sym (none_refused d x call cause)) stays_so;
  }

  pub turned : (call : Call) → Turned call (applied seg call)
  turned call = each_applied seg Turned all_turned refused_turned call

-- Along a record

-- what steps tell stands within them
pub told_within : {A : Type 0} (tells : Step → List A) (place : ℕ) (steps : Record) → Each (λ (x : Placed A). x.0 < place + length steps) (told_from tells place steps)
told_within tells place [] = tt
told_within {A} tells place (step ∷ steps) = each_append (λ (x : Placed A). x.0 < place + length (step ∷ steps)) (map (λ x. (place, x)) (tells step)) (told_from tells (place + 1) steps)
    (each_map (λ (x : Placed A). x.0 < place + length (step ∷ steps)) (λ x. (place, x)) (tells step) (each_of_all (λ x. place < place + length (step ∷ steps)) (λ x. omega arith) (tells step)))
    (each_weaker (λ (x : Placed A). x.0 < (place + 1) + length steps) (λ (x : Placed A). x.0 < place + length (step ∷ steps)) (λ x l. omega (arith, l)) (told_from tells (place + 1) steps) (told_within tells (place + 1) steps))

abbrev pub no_marks : Kind → Mark
no_marks k = no_mark

abbrev pub no_places : Kind → ℕ
no_places k = 0

less_none : (closed : List ℕ) → no_mark ≡ less_mark closed no_mark
less_none [] = refl
less_none (n ∷ closed) = refl

module _ (keeps : KeepsOwn) (s d x : Address) (Q : List Message → Lane → Type 0) (keeps_lane : IsKept Q) (begins : Q [] (new_lane d.0 x.0)) where
  pub record IsAlone (steps : Record) (seg : Segment) : Type 0 where
    pub st : Station
    pub single : seg.stations ≡ st ∷ []
    pub address : st.address ≡ d
    pub each : AllOwn seg
    pub lane : Q (sent steps d x) (lane_to d st.lanes x.0)
    pub kept : Kept s d steps seg.stations st.ports no_marks no_places []

  alone_next : (steps : Record) (seg : Segment) (call : Call) → IsReached seg → is_call call ≡ true → IsAlone steps seg → IsAlone (steps ++ (call, (applied seg call).1) ∷ []) (applied seg call).0
  alone_next steps seg call r fit h =
      let t : Turned d x Q keeps_lane seg r h.st h.single h.address call (applied seg call) = turned d x Q keeps_lane seg r h.st h.single h.address call in
      record {
        st = t.new;
        single = t.single;
        address = t.address;
        each = keeps seg call r fit h.each;
        lane = subst (λ (ms : List Message). Q ms (lane_to d t.new.lanes x.0)) (sym sent_more) (t.lane fit (sent steps d x) h.lane);
        kept = kept_next s d steps call (applied seg call).1 seg.stations (applied seg call).0.stations h.st.ports t.new.ports no_marks no_places [] h.kept
            0 h.st (ap (λ (ss : List Station). slice_get ss 0) h.single) (ap (λ (z : Address). z.0) h.address) refl past [] no_marks (λ k. inl (less_none (closed_at d call (applied seg call).1)))
            t.turns (λ p n os cs good. goes_call (port_of d p) n os cs seg r good call) [] tt;
      }
    where
      more : List Message
      more = sent_by d x call (applied seg call).1

      sent_more : sent (steps ++ (call, (applied seg call).1) ∷ []) d x ≡ sent steps d x ++ more
      sent_more = ap (λ (xs : List (Placed Message)). items_of xs) (told_last (λ step. sent_by d x step.0 step.1) 1 steps (call, (applied seg call).1)) ∙ map-append (λ (z : Placed Message). z.1) (sends steps d x) (map (λ (m : Message). (1 + length steps, m)) more)
          ∙ ap (λ xs. sent steps d x ++ xs) (items_placed (1 + length steps) more)

      past : Each (λ (x : Placed Message). x.0 ≤ length steps) (sends steps s d)
      past = each_weaker (λ (x : Placed Message). x.0 < 1 + length steps) (λ (x : Placed Message). x.0 ≤ length steps) (λ x l. omega (arith, l)) (sends steps s d) (told_within (λ step. sent_by s d step.0 step.1) 1 steps)

  alone_at : (steps : Record) (seg : Segment) (tick : ℕ) → IsAlone steps seg → IsAlone steps (at_tick seg tick)
  alone_at steps seg tick h = record { st = h.st; single = h.single; address = h.address; each = h.each; lane = h.lane; kept = h.kept }

  new_alone : IsAlone [] (new_segment (d ∷ []))
  new_alone = record {
    st = new_station d;
    single = refl;
    address = refl;
    each = new_own (d ∷ []);
    lane = subst (Q []) (sym (ap (λ (o : Option Lane). elim o as (λ (_ : Option Lane). Lane) [ None ↦ new_lane d.0 x.0 | Some z ↦ z ]) (get-empty {X = Lane} nat_cmp x.0))) begins;
    kept = record { lives = new_lives; stands = λ p pgn len i e. absurd i; marked = λ k. marked_none s d; all_opened = tt };
  }
    where
      new_lives : (p : ℕ) → Good (port_of d p) 0 [] [] (new_segment (d ∷ [])).stations
      new_lives p j st e = subst (λ (z : Station). IsSound z × HasLife (port_of d p) 0 [] [] z) (sym (new_at (rising (d ∷ [])) j st e))
          (record { own = refl; used = tt; sessions = of_each_none (IsBound (no_ports st.address)) }, λ _. lives_first p 0 st.address)

  pub alone : (steps : Record) (seg : Segment) → DriftsTo (d ∷ []) steps seg → IsAlone steps seg
  alone steps seg h = at_drift IsAlone alone_next alone_at (d ∷ []) steps seg h new_alone
