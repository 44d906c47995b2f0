-- A station that missed frames has none to take again: its cursor says so until it takes a frame, whatever calls come between.
use Rattle.std.proofs.Common.{◌≡◌, ◌≢◌, ℕ, ◌+◌, ◌<◌, ◌==◌, nat_lt, Bool, true, false, cond, not, ◌&&◌, List, ◌∷◌, length, set, get_or, Option, Some, None, Err, refl, sym, ap, ◌∙◌, subst, arith, eqb-true, get_or-set_same, get_or-set_other}
use Rattle.std.specs.Prelude.{slice_get, position, unwrap_or}
use Rattle.std.specs.List.{list_all}
use Rattle.std.proofs.lemmas.Bool.{eqb-false}
use Rattle.std.proofs.lemmas.Option.{slice_get_within}
use Rattle.pgn_ids.specs.declared.address.Address.{Address}
use Rattle.tx_queue.specs.Queue.{behind}
use Rattle.bus_order.specs.Bus.{Bus, Cursor, start, cursor_at, frame_again, passed, released}
use Rattle.bus_order.specs.Bus as bus
use Rattle.port_table.specs.Ports.{with_port, with_paused}
use Rattle.station_lanes.specs.LaneReaders.{overrun_lanes}
use Rattle.message_events.specs.declared.event.Event.{Event}
use Rattle.station_lanes.proofs.Overruns.{overrun_ends_all}
use Rattle.station_core.specs.Station.{Station, StationStep, new_station}
use Rattle.station_core.specs.Sending.{sent, pumped, cancelled}
use Rattle.station_core.specs.Taking.{is_malformed_for, taken}
use Rattle.station_core.specs.Timers.{fired}
use Rattle.station_core.specs.Closing.{closed}
use Rattle.station_core.specs.Overruns.{overrun, HasNoneUnderWay}
use Rattle.segment_law.specs.Segment.{Segment, place_of, station_at, with_station, counted, counted_look, counted_repeat}
use Rattle.segment_law.specs.Calls.{stepped, with_frame, repeats_by, repeats, overruns, at_station, at_place, called, replied, applied}
use Rattle.segment_law.specs.Record.{Record, StandsAt, after, calls_of}
use Rattle.segment_law.specs.Reached.{IsReached}
use Rattle.segment_law.specs.declared.counts.Counts.{Counts}
use Rattle.segment_law.specs.declared.call.Call.{Call}
use Rattle.segment_law.specs.declared.call.Call.TheVariants.{TakeAgain, Overrun}
use Rattle.segment_law.specs.declared.refusal.Refusal.{Refusal}
use Rattle.segment_law.specs.declared.refusal.Refusal.TheVariants as refusal
use Rattle.segment_law.specs.declared.reply.Reply.{Reply}
use Rattle.segment_law.specs.declared.reply.Reply.TheVariants.{Refused, Done}
use Rattle.segment_law.proofs.Booleans.{both_pass, not_passes}
use Rattle.segment_law.proofs.FitStations.{Stays, taken_stays, fired_stays, closed_stays}
use Rattle.segment_law.proofs.Reaching.{position_kept, slice_get_same, as_it_is, reached_call}
use Rattle.segment_law.proofs.Records.{stands_reached}
use Rattle.record_law.proofs.EachCall.{OfStation, Accepted, each_applied}
use Rattle.record_law.proofs.AlongRecords.{along}
use Rattle.record_law.proofs.Segments.{found_passes, found_there}
use Rattle.record_law.specs.Counting.{is_done}
use Rattle.record_law.specs.Missed.{is_take_at, takes_at, HasMissed}

-- Where the station with an address stands

abbrev has : Address → Station → Bool
has a st = st.address.0 == a.0

-- Cursors

other_cursor : (b : Bus) (i j : ℕ) (c : Cursor) → i ≢ j → (cursor_at b i).repeatable ≡ false → (get_or (set b.cursors j c) i start).repeatable ≡ false
other_cursor b i j c apart e = ap (λ (x : Cursor). x.repeatable) (get_or-set_other b.cursors j i c start apart) ∙ e

spent_passed : (b : Bus) (i j n : ℕ) → j < length b.cursors → (cursor_at b i).repeatable ≡ false → (cursor_at (released (passed b j n)) i).repeatable ≡ false
spent_passed b i j n within e = by (i == j) refl
  where
    c : Cursor
    c = record { place = (cursor_at b j).place + n; repeatable = false }

    by : (t : Bool) → (i == j) ≡ t → (cursor_at (released (passed b j n)) i).repeatable ≡ false
    by true same = subst (λ k. (cursor_at (released (passed b j n)) k).repeatable ≡ false) (sym (eqb-true i j same)) (ap (λ (x : Cursor). x.repeatable) (get_or-set_same b.cursors j c start within))
    by false apart = other_cursor b i j c (eqb-false i j apart) e

module _ (a : Address) (i : ℕ) where
  -- the station has none to take again
  record Spent (seg : Segment) : Type 0 where
    place : place_of seg a ≡ Some i
    spent : (cursor_at seg.bus i).repeatable ≡ false

  -- a call that isn't its Take leaves it so
  abbrev Keeps : Call → Segment × Reply → Type 0
  Keeps call step = (is_done step.1 && is_take_at a call) ≡ false → Spent step.0

  module _ (seg : Segment) (r : IsReached seg) (s : Spent seg) where
    module _ (j : ℕ) (st : Station) (at : slice_get seg.stations j ≡ Some st) where
      stays : Stays st.address st
      stays = as_it_is seg r j st at

      kept : (next : Segment) (new : Station) → new.address ≡ st.address → next.stations ≡ set seg.stations j new → (cursor_at next.bus i).repeatable ≡ false → Spent next
      kept next new address stations cursor = record {
        place = ap (λ (xs : List Station). position (has a) xs) stations ∙ position_kept seg.stations j st new at address a ∙ s.place;
        spent = cursor;
      }

      -- another state, where the bus stays
      changed : (new : Station) → new.address ≡ st.address → Spent (with_station seg j new)
      changed new address = kept (with_station seg j new) new address refl s.spent

      after_step : (b : Bus) (counts : Counts) (step : StationStep) → step.station.address ≡ st.address → (cursor_at b i).repeatable ≡ false → Spent (record (with_station (record seg { bus = b; counts = counts }) j step.station) { counts = counted counts step.events })
      after_step b counts step address cursor = kept (record (with_station (record seg { bus = b; counts = counts }) j step.station) { counts = counted counts step.events }) step.station address refl cursor

      -- a Take of another station
      apart : (b : Address) → place_of seg b ≡ Some j → (b.0 == a.0) ≡ false → i ≢ j
      apart b q other same =
          let its : (st.address.0 == b.0) ≡ true = found_passes (has b) seg.stations j st q at in
          let own : (st.address.0 == a.0) ≡ true = found_passes (has a) seg.stations i st s.place (ap (slice_get seg.stations) same ∙ at) in
          eqb-false b.0 a.0 other (sym (eqb-true st.address.0 b.0 its) ∙ eqb-true st.address.0 a.0 own)

      of_station : OfStation seg Keeps j st
      of_station = record {
        opens = λ b pgn max_len q _. changed (record st { ports = with_port st.ports pgn max_len }) refl;
        closes = λ port q is _. changed (closed st port.number) (closed_stays st.address st port.number stays).address;
        sends = λ from to pgn bytes q other long short _. changed (sent st to pgn bytes) refl;
        pumps = λ b to q _. after_step seg.bus seg.counts (pumped st to seg.now) refl s.spent;
        transmits = λ b f q e free _. (let new : Station = record st { queue = behind st.queue } in kept (with_frame (with_station seg j new) f) new refl refl s.spent);
        takes = λ b room f q e free other. after_step (bus.released (bus.taken seg.bus j)) (counted_look seg.counts (is_malformed_for st f)) (taken st f room seg.now) (taken_stays st.address st f room seg.now stays).address
            (other_cursor seg.bus i j (record { place = (cursor_at seg.bus j).place + 1; repeatable = true }) (apart b q other) s.spent);
        repeats = λ b room f q e free _. after_step seg.bus (counted_look (counted_repeat seg.counts) (is_malformed_for st f)) (taken st f room seg.now) (taken_stays st.address st f room seg.now stays).address s.spent;
        overruns = λ b n q few _. (let within : j < length seg.bus.cursors = omega (arith, r.bus.cursors, slice_get_within seg.stations j st at) in after_step (released (passed seg.bus j n)) seg.counts (overrun st) refl (spent_passed seg.bus i j n within s.spent));
        fires = λ b q _. after_step seg.bus seg.counts (fired st seg.now) (fired_stays st.address st seg.now stays).address s.spent;
        cancels = λ from to number q pending _. after_step seg.bus seg.counts (cancelled st to number) refl s.spent;
        pauses = λ port q _. changed (record st { ports = with_paused st.ports port.number true }) refl;
        resumes = λ port q _. changed (record st { ports = with_paused st.ports port.number false }) refl;
      }

    accepted : Accepted seg Keeps
    accepted = record {
      station = of_station;
      ticks = λ n _. record { place = s.place; spent = s.spent };
      injects = λ f foreign free _. record { place = s.place; spent = s.spent };
    }

    spent_call : (call : Call) → Keeps call (applied seg call)
    spent_call call = each_applied seg Keeps accepted (λ call cause _. s) call

    -- so its TakeAgain is refused
    refused_again : (room : Bool) → called seg (TakeAgain a room) ≡ Err refusal.NothingToRepeat
    unfolding called
    refused_again room =
        let st : Station = get_or seg.stations i (new_station a) in
        let none : frame_again seg.bus i ≡ None = ap (λ (t : Bool). cond t (bus.frame_at seg.bus (cursor_at seg.bus i).place) None) s.spent in
        ap (λ (o : Option ℕ). at_place seg o (repeats seg room)) s.place
        ∙ ap (λ (o : Option Station). at_station o (repeats seg room i)) (found_there (has a) seg.stations i (new_station a) s.place)
        ∙ ap (repeats_by seg room i st) none

  -- so it stays, along steps none of which is its Take
  abbrev StaysSpent : Segment → Record → Type 0
  StaysSpent seg more = (room : Bool) → Spent seg → list_all (λ step. not (takes_at a step)) more ≡ true → called (after seg (calls_of more)) (TakeAgain a room) ≡ Err refusal.NothingToRepeat

  step_spent : (seg : Segment) (call : Call) (rest : Record) → IsReached seg → StaysSpent (applied seg call).0 rest → StaysSpent seg ((call, (applied seg call).1) ∷ rest)
  step_spent seg call rest r go room s none =
      let t : (not (takes_at a (call, (applied seg call).1)) ≡ true) × (list_all (λ x. not (takes_at a x)) rest ≡ true) = both_pass (not (takes_at a (call, (applied seg call).1))) (list_all (λ x. not (takes_at a x)) rest) none in
      go room (spent_call seg r s call (not_passes (takes_at a (call, (applied seg call).1)) t.0)) t.1

-- The Overrun itself

module _ (seg : Segment) (r : IsReached seg) (a : Address) (n j : ℕ) (st : Station) (at : slice_get seg.stations j ≡ Some st) (here : place_of seg a ≡ Some j) where
  abbrev left : Segment
  left = record (with_station (record seg { bus = released (passed seg.bus j n) }) j (overrun st).station) { counts = counted seg.counts (overrun st).events }

  leads : place_of left a ≡ Some j
  leads = position_kept seg.stations j st (overrun st).station at refl a ∙ here

  left_station : station_at left a ≡ (overrun st).station
  left_station =
      ap (λ (o : Option ℕ). unwrap_or (elim o as (λ (_ : Option ℕ). Option Station) [ None ↦ None | Some k ↦ slice_get left.stations k ]) (new_station a)) leads
      ∙ ap (λ (o : Option Station). unwrap_or o (new_station a)) (slice_get_same seg.stations j st (overrun st).station at refl)

  nothing : HasNoneUnderWay (overrun st).station
  nothing = record { sessions = refl; connections = overrun_ends_all st.lanes (overrun_lanes st.lanes 256) 256 refl (omega arith) }

  has_missed : IsReached left → HasMissed left a
  has_missed reached =
      let within : j < length seg.bus.cursors = omega (arith, r.bus.cursors, slice_get_within seg.stations j st at) in
      let c : Cursor = record { place = (cursor_at seg.bus j).place + n; repeatable = false } in
      let s : Spent a j left = record { place = leads; spent = ap (λ (x : Cursor). x.repeatable) (get_or-set_same seg.bus.cursors j c start within) } in
      record {
        none = subst HasNoneUnderWay (sym left_station) nothing;
        again = λ more room fit replies none. along (StaysSpent a j) (λ seg r room s none. refused_again a j seg r s room) (λ seg call rest r is go. step_spent a j seg call rest r go) more left reached fit replies room s none;
      }

pub overrun_missed : (addresses : List Address) (steps : Record) (seg next : Segment) (a : Address) (n : ℕ) (events : List Event) → StandsAt addresses steps seg → applied seg (Overrun a n) ≡ (next, Done events) → HasMissed next a
unfolding called
overrun_missed addresses steps seg next a n events h e = by_place (place_of seg a) refl e
  where
    r : IsReached seg
    r = stands_reached addresses steps seg h

    reached : IsReached next
    reached = subst IsReached (ap (λ (p : Segment × Reply). p.0) e) (reached_call seg r (Overrun a n) refl)

    told : (x : Segment) (cause : Refusal) → replied x (Err cause) ≡ (next, Done events) → ⊥
    told x cause q = let no : Refused cause ≡ Done events = ap (λ (p : Segment × Reply). p.1) q in cc

    by_wait : (j : ℕ) (st : Station) → slice_get seg.stations j ≡ Some st → place_of seg a ≡ Some j → (b : Bool) → replied seg (cond b (Err refusal.NothingToTake) (stepped (record seg { bus = released (passed seg.bus j n) }) j (overrun st))) ≡ (next, Done events) → HasMissed next a
    by_wait j st at here true q = absurd (told seg refusal.NothingToTake q)
    by_wait j st at here false q =
        let same : left seg r a n j st at here ≡ next = ap (λ (p : Segment × Reply). p.0) q in
        subst (λ (x : Segment). HasMissed x a) same (has_missed seg r a n j st at here (subst IsReached (sym same) reached))

    by_station : (j : ℕ) → place_of seg a ≡ Some j → (o : Option Station) → slice_get seg.stations j ≡ o → replied seg (at_station o (overruns seg n j)) ≡ (next, Done events) → HasMissed next a
    by_station j here None at q = absurd (told seg refusal.NoSuchStation q)
    by_station j here (Some st) at q = by_wait j st at here (nat_lt (bus.waiting seg.bus j) n) q

    by_place : (o : Option ℕ) → place_of seg a ≡ o → replied seg (at_place seg o (overruns seg n)) ≡ (next, Done events) → HasMissed next a
    by_place None here q = absurd (told seg refusal.NoSuchStation q)
    by_place (Some j) here q = by_station j here (slice_get seg.stations j) refl q
