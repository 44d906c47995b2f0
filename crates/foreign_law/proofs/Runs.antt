-- Along every run, call by call: the sessions of each station with an address are from openings that it took, and what it was given was
-- put together.
use Rattle.std.proofs.Common.{◌≡◌, ◌⊎◌, inl, inr, ℕ, ◌+◌, ◌≤◌, ◌==◌, Bool, true, false, cond, List, [], ◌∷◌, ◌++◌, map, filter_map, set, Some, None, refl, sym, ap, ◌∙◌, subst, append-nil, append_assoc, eq-eqb, ne_eqb, ⊎_elim}
use Rattle.std.specs.Prelude.{Contains, slice_get}
use Rattle.std.specs.List.{list_all, cons_option}
use Rattle.std.proofs.lemmas.Option.{same_Some}
use Rattle.bus_frame.specs.Frames.{CanFrame}
use Rattle.pgn_ids.specs.declared.address.Address.{Address}
use Rattle.port_table.specs.Ports.{Ports, no_ports, with_port, with_paused}
use Rattle.port_table.specs.declared.port.PortId.{PortId}
use Rattle.lane_core.specs.Pump as lane-pump
use Rattle.lane_core.specs.Cancel as lane-cancel
use Rattle.message_events.specs.declared.event.Event.{Event}
use Rattle.message_events.specs.declared.event.Event.TheVariants as event
use Rattle.lane_core.specs.Lane.{Lane}
use Rattle.lane_core.specs.Step.{LaneStep}
use Rattle.station_core.specs.Station.{Station, StationStep, new_station, by_lane}
use Rattle.station_core.specs.Sending.{sent}
use Rattle.station_core.specs.Timers.{fired}
use Rattle.station_core.specs.Taking.{taken}
use Rattle.station_core.specs.Overruns.{overrun}
use Rattle.station_core.specs.Closing.{closed}
use Rattle.segment_law.specs.Segment.{Segment, new_segment, place_of, rising}
use Rattle.segment_law.specs.Calls.{applied, is_call, events_of}
use Rattle.segment_law.specs.Readers.{frame_for}
use Rattle.segment_law.specs.Record.{Step, Record, calls_of}
use Rattle.segment_law.specs.Drift.{at_tick, Drift, DriftsTo}
use Rattle.segment_law.specs.Reached.{IsReached}
use Rattle.segment_law.specs.Told.{Placed, told_from}
use Rattle.segment_law.specs.declared.call.Call.{Call}
use Rattle.segment_law.specs.declared.reply.Reply.{Reply}
use Rattle.segment_law.proofs.Booleans.{both_pass}
use Rattle.segment_law.proofs.Drifting.{reached_at}
use Rattle.segment_law.proofs.New.{new_reached}
use Rattle.segment_law.proofs.Reaching.{reached_call, slice_get_same, slice_get_other}
use Rattle.record_law.proofs.EachCall.{OfStation, each_applied}
use Rattle.record_law.proofs.Lists.{Each}
use Rattle.record_law.proofs.Maps.{of_each_none}
use Rattle.record_law.proofs.Segments.{has_address, same_address, new_each}
use Rattle.record_law.proofs.Tests.{equal_or_not}
use Rattle.record_law.proofs.ports.Calls.{IsSound, HasLife, Good}
use Rattle.record_law.proofs.ports.Every.{goes_call}
use Rattle.record_law.proofs.ports.Lives.{Openings, Closings, lives_first}
use Rattle.record_law.proofs.ports.Ports.{IsAllowed}
use Rattle.record_law.proofs.ports.Receptions.{IsBound}
use Rattle.record_law.proofs.ports.Closing.{closes}
use Rattle.record_law.proofs.ports.Stations.{Acts, acts_taken, acts_lane, acts_fired, acts_overrun}
use Rattle.foreign_law.specs.Taken.{Message, Seen, frame_at, seen_of, seen_by, seen_from, seen_in, message_at, given_by, given_at}
use Rattle.foreign_law.specs.Assembled.{AreAssembled}
use Rattle.foreign_law.proofs.Later.{AreNext, within}
use Rattle.foreign_law.proofs.Messages.{still_assembled, still_ended}
use Rattle.foreign_law.proofs.Sessions.{told, in_none, in_first, IsFromOpening, AreFromOpenings, Settles}
use Rattle.foreign_law.proofs.Stations.{taken_acts, lane_acts, fired_acts, missed_now, next_missed, overrun_acts, stays_as, closed_acts}

-- a station with another address gives nothing at this one
none_elsewhere : (a : Address) (place : ℕ) (ports : Ports) → (ports.station.0 ≡ a.0 → ⊥) → (es : List Event) → Each (IsAllowed ports) es → told a place es ≡ []
none_elsewhere a place ports other [] h = refl
none_elsewhere a place ports other (event.Outcome from to number outcome ∷ es) h = none_elsewhere a place ports other es h.1
none_elsewhere a place ports other (event.Given port from to pgn bytes ∷ es) h =
    let no : (port.station.0 == a.0) ≡ false = ne_eqb port.station.0 a.0 (λ e. other (sym (ap (λ (x : Address). x.0) h.0.0) ∙ e)) in
    ap (λ b. map (λ (m : Message). (place, m)) (cons_option (cond b (Some (record { from = from; to = to; pgn = pgn; bytes = bytes })) None) (filter_map (message_at a) es))) no ∙ none_elsewhere a place ports other es h.1

-- what is taken by one call has its place
all_now : {A : Type 0} (place : ℕ) (xs : List A) (x : Placed A) → Contains (map (λ (y : A). (place, y)) xs) x → x.0 ≡ place
all_now place [] x c = absurd (in_none x c)
all_now {A} place (y ∷ ys) x c = ⊎_elim (λ (e : (place, y) ≡ x). sym (ap (λ (z : Placed A). z.0) e)) (λ rest. all_now place ys x rest) (in_first (place, y) (map (λ (z : A). (place, z)) ys) x c)

module _ (a : Address) where
  -- after n calls
  pub record Holds (n : ℕ) (before : List (Placed Seen)) (given : List (Placed Message)) (stations : List Station) : Type 0 where
    pub within_n : (x : Placed Seen) → Contains before x → x.0 ≤ n
    pub ended : (g : Placed Message) → Contains given g → g.0 ≤ n
    pub assembled : AreAssembled before given
    pub sessions : (j : ℕ) (st : Station) → slice_get stations j ≡ Some st → st.address.0 ≡ a.0 → AreFromOpenings a before given n st.sessions

  -- what a call takes and gives at the station with the address
  abbrev takes : ℕ → Segment → Step → List (Placed Seen)
  takes n seg step = map (λ (x : Seen). (n + 1, x)) (seen_by a seg step)

  abbrev gives : ℕ → Step → List (Placed Message)
  gives n step = told a (n + 1) (events_of step.1)

  module _ (n : ℕ) (before : List (Placed Seen)) (given : List (Placed Message)) (seg : Segment) (r : IsReached seg) (h : Holds n before given seg.stations)
      (sound : (j : ℕ) (st : Station) → slice_get seg.stations j ≡ Some st → IsSound st) where
    abbrev HoldsBy : Call → Segment × Reply → Type 0
    HoldsBy call step = Holds (n + 1) (before ++ takes n seg (call, step.1)) (given ++ gives n (call, step.1)) step.0.stations

    none_next : AreNext n before []
    none_next = record { before = h.within_n; now = λ x c. absurd (in_none x c) }

    -- nothing is taken or given, and no session changes
    stays_all : (stations : List Station) → ((j : ℕ) (st : Station) → slice_get stations j ≡ Some st → st.address.0 ≡ a.0 → AreFromOpenings a (before ++ []) (given ++ []) (n + 1) st.sessions) → Holds (n + 1) (before ++ []) (given ++ []) stations
    stays_all stations each = record {
      within_n = within n before [] none_next;
      ended = still_ended a n before [] none_next given h.ended h.assembled [] (inl refl);
      assembled = still_assembled a n before [] none_next given h.ended h.assembled [] (inl refl);
      sessions = each;
    }

    as_before : (j : ℕ) (st : Station) → slice_get seg.stations j ≡ Some st → st.address.0 ≡ a.0 → AreFromOpenings a (before ++ []) (given ++ []) (n + 1) st.sessions
    as_before j st e own = stays_as a n before h.within_n given h.ended st own (h.sessions j st e own)

    holds_same : Holds (n + 1) (before ++ []) (given ++ []) seg.stations
    holds_same = stays_all seg.stations as_before

    module _ (i : ℕ) (st : Station) (at : slice_get seg.stations i ≡ Some st) where
      -- the station isn't the one with the address
      holds_other : (new : Station) → new.address ≡ st.address → (st.address.0 ≡ a.0 → ⊥) → Holds (n + 1) (before ++ []) (given ++ []) (set seg.stations i new)
      holds_other new address other = stays_all (set seg.stations i new) (λ j u e own. by j u e own (equal_or_not j i))
        where
          by : (j : ℕ) (u : Station) → slice_get (set seg.stations i new) j ≡ Some u → u.address.0 ≡ a.0 → (j ≡ i) ⊎ (j ≡ i → ⊥) → AreFromOpenings a (before ++ []) (given ++ []) (n + 1) u.sessions
          by j u e own (inl q) =
              let is : new ≡ u = same_Some new u (sym (slice_get_same seg.stations i st new at address) ∙ ap (slice_get (set seg.stations i new)) (sym q) ∙ e) in
              absurd (other (sym (ap (λ (x : Address). x.0) address) ∙ ap (λ (z : Station). z.address.0) is ∙ own))
          by j u e own (inr apart) = as_before j u (slice_get_other seg.stations i st new at address j u apart e) own

      -- it is
      module _ (own : st.address.0 ≡ a.0) where
        abbrev mine : AreFromOpenings a before given n st.sessions
        mine = h.sessions i st at own

        holds_own : (more : List (Placed Seen)) → AreNext n before more → (gs : List (Placed Message)) (new : Station) → new.address ≡ st.address → Settles a n before more given gs new.sessions → Holds (n + 1) (before ++ more) (given ++ gs) (set seg.stations i new)
        holds_own more next gs new address s = record {
          within_n = within n before more next;
          ended = still_ended a n before more next given h.ended h.assembled gs s.gives;
          assembled = still_assembled a n before more next given h.ended h.assembled gs s.gives;
          sessions = λ j u e same. by j u e same (equal_or_not j i);
        }
          where
            by : (j : ℕ) (u : Station) → slice_get (set seg.stations i new) j ≡ Some u → u.address.0 ≡ a.0 → (j ≡ i) ⊎ (j ≡ i → ⊥) → AreFromOpenings a (before ++ more) (given ++ gs) (n + 1) u.sessions
            by j u e same (inl q) =
                let is : new ≡ u = same_Some new u (sym (slice_get_same seg.stations i st new at address) ∙ ap (slice_get (set seg.stations i new)) (sym q) ∙ e) in
                subst (λ (z : Station). AreFromOpenings a (before ++ more) (given ++ gs) (n + 1) z.sessions) is s.leaves
            by j u e same (inr apart) =
                let there : slice_get seg.stations j ≡ Some u = slice_get_other seg.stations i st new at address j u apart e in
                let one : u.address ≡ st.address = same_address u.address st.address (same ∙ sym own) in
                let places : Some j ≡ Some i = sym (r.places j u there) ∙ ap (place_of seg) one ∙ r.places i st at in
                absurd (apart (same_Some j i places))

      -- a call that takes no frame and gives nothing
      quiet : (new : Station) → new.address ≡ st.address → (st.address.0 ≡ a.0 → AreFromOpenings a (before ++ []) (given ++ []) (n + 1) new.sessions) → Holds (n + 1) (before ++ []) (given ++ []) (set seg.stations i new)
      quiet new address each = by (equal_or_not st.address.0 a.0)
        where
          by : (st.address.0 ≡ a.0) ⊎ (st.address.0 ≡ a.0 → ⊥) → Holds (n + 1) (before ++ []) (given ++ []) (set seg.stations i new)
          by (inl own) = holds_own own [] none_next [] new address (record { gives = inl refl; leaves = each own })
          by (inr other) = holds_other new address other

      unchanged : (new : Station) → new.address ≡ st.address → new.sessions ≡ st.sessions → Holds (n + 1) (before ++ []) (given ++ []) (set seg.stations i new)
      unchanged new address same = quiet new address (λ own. subst (λ m. AreFromOpenings a (before ++ []) (given ++ []) (n + 1) m) (sym same) (as_before i st at own))

      -- a step of the station that takes no frame
      step_holds : (step : StationStep) → step.station.address ≡ st.address → Each (IsAllowed st.ports) step.events → (st.address.0 ≡ a.0 → Settles a n before [] given (told a (n + 1) step.events) step.station.sessions)
          → Holds (n + 1) (before ++ []) (given ++ told a (n + 1) step.events) (set seg.stations i step.station)
      step_holds step address allowed settles = by (equal_or_not st.address.0 a.0)
        where
          by : (st.address.0 ≡ a.0) ⊎ (st.address.0 ≡ a.0 → ⊥) → Holds (n + 1) (before ++ []) (given ++ told a (n + 1) step.events) (set seg.stations i step.station)
          by (inl own) = holds_own own [] none_next (told a (n + 1) step.events) step.station address (settles own)
          by (inr other) = subst (λ gs. Holds (n + 1) (before ++ []) (given ++ gs) (set seg.stations i step.station)) (sym (elsewhere other step.events allowed)) (holds_other step.station address other)
            where
              elsewhere : (st.address.0 ≡ a.0 → ⊥) → (es : List Event) → Each (IsAllowed st.ports) es → told a (n + 1) es ≡ []
              elsewhere other es h = none_elsewhere a (n + 1) st.ports (λ e. other (sym (ap (λ (x : Address). x.0) (sound i st at).own) ∙ e)) es h

      -- A frame is taken

      abbrev shown : List Seen → List (Placed Seen)
      shown xs = map (λ (x : Seen). (n + 1, x)) xs

      module _ (b : Address) (place : place_of seg b ≡ Some i) (again : Bool) (f : CanFrame) (frame : frame_for seg again i ≡ Some f) (room : Bool) where
        abbrev step : StationStep
        step = taken st f room seg.now

        abbrev goes : Acts st step
        goes = acts_taken st (sound i st at).own (sound i st at).sessions f room seg.now

        abbrev looked_at : List (Placed Seen)
        looked_at = shown (cond (b.0 == a.0) (seen_of a (frame_at seg again (place_of seg b))) [])

        it_is : st.address.0 ≡ b.0
        it_is = has_address seg b i st place at

        frame_holds : Holds (n + 1) (before ++ looked_at) (given ++ told a (n + 1) step.events) (set seg.stations i step.station)
        frame_holds = by (equal_or_not st.address.0 a.0)
          where
            by : (st.address.0 ≡ a.0) ⊎ (st.address.0 ≡ a.0 → ⊥) → Holds (n + 1) (before ++ looked_at) (given ++ told a (n + 1) step.events) (set seg.stations i step.station)
            by (inl own) =
                let here : looked_at ≡ shown (seen_of a (Some f)) =
                ap (λ t. shown (cond t (seen_of a (frame_at seg again (place_of seg b))) [])) (eq-eqb b.0 a.0 (sym it_is ∙ own))
                ∙ ap (λ p. shown (seen_of a (frame_at seg again p))) place
                ∙ ap (λ o. shown (seen_of a o)) frame in
                subst (λ xs. Holds (n + 1) (before ++ xs) (given ++ told a (n + 1) step.events) (set seg.stations i step.station)) (sym here)
                (holds_own own (shown (seen_of a (Some f))) (record { before = h.within_n; now = λ x c. all_now (n + 1) (seen_of a (Some f)) x c }) (told a (n + 1) step.events) step.station goes.address
                (taken_acts a n before h.within_n given h.ended st own (h.sessions i st at own) f room seg.now))
            by (inr other) =
                let none : looked_at ≡ [] = ap (λ t. shown (cond t (seen_of a (frame_at seg again (place_of seg b))) [])) (ne_eqb b.0 a.0 (λ e. other (it_is ∙ e))) in
                let nothing : told a (n + 1) step.events ≡ [] = none_elsewhere a (n + 1) st.ports (λ e. other (sym (ap (λ (x : Address). x.0) (sound i st at).own) ∙ e)) step.events goes.events in
                subst (λ xs. Holds (n + 1) (before ++ xs) (given ++ told a (n + 1) step.events) (set seg.stations i step.station)) (sym none)
                (subst (λ gs. Holds (n + 1) (before ++ []) (given ++ gs) (set seg.stations i step.station)) (sym nothing) (holds_other step.station goes.address other))

      -- Frames are missed

      overrun_holds : (b : Address) → place_of seg b ≡ Some i → Holds (n + 1) (before ++ shown (cond (b.0 == a.0) (None ∷ []) [])) (given ++ told a (n + 1) (overrun st).events) (set seg.stations i (overrun st).station)
      overrun_holds b place = by (equal_or_not st.address.0 a.0)
        where
          it_is : st.address.0 ≡ b.0
          it_is = has_address seg b i st place at

          by : (st.address.0 ≡ a.0) ⊎ (st.address.0 ≡ a.0 → ⊥) → Holds (n + 1) (before ++ shown (cond (b.0 == a.0) (None ∷ []) [])) (given ++ told a (n + 1) (overrun st).events) (set seg.stations i (overrun st).station)
          by (inl own) = subst (λ t. Holds (n + 1) (before ++ shown (cond t (None ∷ []) [])) (given ++ told a (n + 1) (overrun st).events) (set seg.stations i (overrun st).station)) (sym (eq-eqb b.0 a.0 (sym it_is ∙ own)))
              (holds_own own (missed_now a n before h.within_n given h.ended st own mine_at) (next_missed a n before h.within_n given h.ended st own mine_at) (told a (n + 1) (overrun st).events) (overrun st).station refl
              (overrun_acts a n before h.within_n given h.ended st own mine_at))
            where
              mine_at : AreFromOpenings a before given n st.sessions
              mine_at = h.sessions i st at own
          by (inr other) = subst (λ t. Holds (n + 1) (before ++ shown (cond t (None ∷ []) [])) (given ++ told a (n + 1) (overrun st).events) (set seg.stations i (overrun st).station)) (sym (ne_eqb b.0 a.0 (λ e. other (it_is ∙ e))))
              (step_holds (overrun st) refl (acts_overrun st (sound i st at).own (sound i st at).sessions).events (λ own. absurd (other own)))

      -- Each call of the station

      lane_holds : (to : Address) (does : Lane → Lane × LaneStep) → Holds (n + 1) (before ++ []) (given ++ told a (n + 1) (by_lane st to does).events) (set seg.stations i (by_lane st to does).station)
      lane_holds to does = step_holds (by_lane st to does) refl (acts_lane st (sound i st at).own (sound i st at).sessions to does).events
          (λ own. lane_acts a n before h.within_n given h.ended st own (h.sessions i st at own) to does)

      of_station : OfStation seg HoldsBy i st
      of_station = record {
        opens = λ b pgn max_len q. unchanged (record st { ports = with_port st.ports pgn max_len }) refl refl;
        closes = λ port q is. quiet (closed st port.number) (closes st port.number (sound i st at).sessions).address (λ own. closed_acts a n before h.within_n given h.ended st own (h.sessions i st at own) port.number);
        sends = λ from to pgn bytes q other long short. unchanged (sent st to pgn bytes) refl refl;
        pumps = λ b to q. lane_holds to (λ l. lane-pump.pumped l seg.now);
        transmits = λ b f q e free. unchanged _ refl refl;
        takes = λ b room f q e free. frame_holds b q false f e room;
        repeats = λ b room f q e free. frame_holds b q true f e room;
        overruns = λ b k q few. overrun_holds b q;
        fires = λ b q. step_holds (fired st seg.now) (acts_fired st (sound i st at).own (sound i st at).sessions seg.now).address (acts_fired st (sound i st at).own (sound i st at).sessions seg.now).events
            (λ own. fired_acts a n before h.within_n given h.ended st own (h.sessions i st at own) seg.now);
        cancels = λ from to number q pending. lane_holds to (λ l. lane-cancel.cancelled l number);
        pauses = λ port q. unchanged (record st { ports = with_paused st.ports port.number true }) refl refl;
        resumes = λ port q. unchanged (record st { ports = with_paused st.ports port.number false }) refl refl;
      }

    pub holds_call : (call : Call) → HoldsBy call (applied seg call)
    holds_call call = each_applied seg HoldsBy (record { station = of_station; ticks = λ k. holds_same; injects = λ f foreign free. holds_same }) (λ call cause. holds_same) call

  -- Along a run

  abbrev some_port : PortId
  some_port = record { station = a; number = 0 }

  along : (steps : Record) (seg last : Segment) → IsReached seg → list_all is_call (calls_of steps) ≡ true → (run : Drift seg steps last) → (n : ℕ) (before : List (Placed Seen)) (given : List (Placed Message)) (os : Openings) (cs : Closings)
      → Good some_port n os cs seg.stations → Holds n before given seg.stations → AreAssembled (before ++ seen_from a (n + 1) seg steps last run) (given ++ told_from (given_by a) (n + 1) steps)
  along [] seg last r fit run n before given os cs good h = subst (λ xs. AreAssembled xs (given ++ [])) (sym (append-nil before)) (subst (λ xs. AreAssembled before xs) (sym (append-nil given)) h.assembled)
  along (step ∷ steps) seg last r fit run n before given os cs good h =
      let f : (is_call step.0 ≡ true) × (list_all is_call (calls_of steps) ≡ true) = both_pass (is_call step.0) (list_all is_call (calls_of steps)) fit in
      let now : Segment = at_tick seg run.0 in
      let here : IsReached now = reached_at seg r run.0 in
      let more : List (Placed Seen) = takes n now step in
      let gs : List (Placed Message) = gives n step in
      let held : Holds (n + 1) (before ++ more) (given ++ gs) (applied now step.0).0.stations =
      subst (λ (reply : Reply). Holds (n + 1) (before ++ takes n now (step.0, reply)) (given ++ gives n (step.0, reply)) (applied now step.0).0.stations) run.1
      (holds_call n before given now here h (λ j st e. (good j st e).0) step.0) in
      let g = goes_call some_port n os cs now here good step.0 in
      let rest : AreAssembled ((before ++ more) ++ seen_from a (n + 1 + 1) (applied now step.0).0 steps last run.2) ((given ++ gs) ++ told_from (given_by a) (n + 1 + 1) steps) =
      along steps (applied now step.0).0 last (reached_call now here step.0 f.0) f.1 run.2 (n + 1) (before ++ more) (given ++ gs) _ _ g.next held in
      subst (λ xs. AreAssembled xs (given ++ (gs ++ told_from (given_by a) (n + 1 + 1) steps))) (append_assoc before more (seen_from a (n + 1 + 1) (applied now step.0).0 steps last run.2))
      (subst (λ xs. AreAssembled ((before ++ more) ++ seen_from a (n + 1 + 1) (applied now step.0).0 steps last run.2) xs) (append_assoc given gs (told_from (given_by a) (n + 1 + 1) steps)) rest)

  none_assembled : AreAssembled [] []
  none_assembled = record {
    opening = λ place. place;
    each = λ g c. absurd (in_none g c);
    apart = λ g k c d same l. absurd (in_none g c);
    one = λ g k c d e. absurd (in_none g c);
  }

  new_sound : (b : Address) → IsSound (new_station b) × HasLife some_port 0 [] [] (new_station b)
  new_sound b = (record { own = refl; used = tt; sessions = of_each_none (IsBound (no_ports b)) }, λ _. lives_first some_port.number 0 b)

  new_sessions : (b : Address) → b.0 ≡ a.0 → AreFromOpenings a [] [] 0 (new_station b).sessions
  new_sessions b own = of_each_none (λ q v. IsFromOpening a [] [] 0 q v.1)

pub messages_are_assembled : (addresses : List Address) (steps : Record) (seg : Segment) → (run : DriftsTo addresses steps seg) → (a : Address) → AreAssembled (seen_in run a) (given_at steps a)
messages_are_assembled addresses steps seg run a = along a steps (new_segment addresses) seg (new_reached addresses run.addresses_fit) run.calls_fit run.drift 0 [] [] [] []
    (new_each (λ (st : Station). IsSound st × HasLife (some_port a) 0 [] [] st) (new_sound a) (rising addresses))
    (record {
      within_n = λ x c. absurd (in_none x c);
      ended = λ g c. absurd (in_none g c);
      assembled = none_assembled a;
      sessions = new_each (λ (st : Station). st.address.0 ≡ a.0 → AreFromOpenings a [] [] 0 st.sessions) (new_sessions a) (rising addresses);
    })
