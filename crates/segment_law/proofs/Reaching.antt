-- Every call leads from a segment that was reached to one that is.
use Rattle.std.proofs.Common.{◌≡◌, ◌≢◌, ℕ, ◌+◌, ◌<◌, ◌^◌, ◌==◌, Bool, true, false, cond, not, ◌&&◌, List, length, set, get_or, Option, Some, None, Ok, Err, refl, sym, ap, ◌∙◌, subst, arith, length-set, get_or-set_same, get_or-set_other}
use Rattle.std.specs.Prelude.{nat_lt, slice_get, position}
use Rattle.std.proofs.lemmas.List.Elements.{All-set}
use Rattle.std.proofs.lemmas.List.Folds.{position_or_len-set}
use Rattle.std.proofs.lemmas.Option.{slice_get-get_or, slice_get_within, get_or_from_slice_get, same_Some}
use Rattle.std.proofs.lemmas.Bool.{eqb-true, eqb-false, ltb-false}
use Rattle.bus_frame.specs.Frames.{CanFrame}
use Rattle.pgn_ids.specs.Address.{null_address}
use Rattle.pgn_ids.specs.Pgn.{is_pgn}
use Rattle.pgn_ids.specs.Identifier.{meaning_of}
use Rattle.pgn_ids.specs.declared.address.Address.{Address}
use Rattle.tp_wire.specs.declared.constants.TheConstants.{MIN_SIZE}
use Rattle.tx_queue.specs.Queue.{free_places, front, behind}
use Rattle.bus_order.specs.Bus as bus
use Rattle.bus_order.specs.Bus.{Bus}
use Rattle.port_table.specs.Ports.{are_full, is_open, is_paused}
use Rattle.lane_core.specs.Lane.{longest_to, is_full}
use Rattle.lane_core.specs.declared.refused.PumpRefused.{PumpRefused}
use Rattle.lane_core.specs.declared.refused.PumpRefused.TheVariants as pump
use Rattle.station_core.specs.Lanes.{refusal_at, is_pending_at, queues_abort_at}
use Rattle.station_core.specs.Station.{Station, StationStep}
use Rattle.station_core.specs.Sending.{lane_of, pumped, cancelled}
use Rattle.station_core.specs.Taking.{is_malformed_for, taken}
use Rattle.station_core.specs.Timers.{is_due, fired}
use Rattle.station_core.specs.Overruns.{overrun}
use Rattle.segment_law.specs.Segment.{Segment, place_of, has_station, with_station, counted, counted_look, counted_repeat}
use Rattle.segment_law.specs.Calls.{Answer, stepped, no_place, pumps_by, pumps, sends, opens, closes, pauses, resumes, cancels, fires, transmits_by, takes_by, repeats_by, overruns, at_station, at_place, called, replied, applied, is_address, are_bytes, is_call}
use Rattle.segment_law.specs.Reached.{IsFitStation, IsFitBus, IsReached}
use Rattle.segment_law.specs.declared.counts.Counts.{Counts}
use Rattle.segment_law.specs.declared.call.Call.{Call}
use Rattle.segment_law.specs.declared.call.Call.TheVariants.{Open, Close, Send, Pump, Transmit, Take, TakeAgain, Overrun, Tick, Fire, Cancel, Inject, Pause, Resume}
use Rattle.segment_law.specs.declared.refusal.Refusal.{Refusal}
use Rattle.segment_law.proofs.Booleans.{both_pass}
use Rattle.segment_law.proofs.FitStations.{Stays, stays_queued, stays_ports, taken_stays, sent_stays, pumped_stays, cancelled_stays, fired_stays, overrun_stays, closed_stays}
use Rattle.segment_law.proofs.Buses.{taken_fits, passed_fits, put_fits}

-- ---- a station changes, but for its address

module _ (stations : List Station) (i : ℕ) (st new : Station) (at : slice_get stations i ≡ Some st) (address : new.address ≡ st.address) where
  abbrev has : Address → Station → Bool
  has a s = s.address.0 == a.0

  here : i < length stations
  here = slice_get_within stations i st at

  it : get_or stations i st ≡ st
  it = get_or_from_slice_get stations i st st at

  -- every address leads where it led
  pub position_kept : (a : Address) → position (has a) (set stations i new) ≡ position (has a) stations
  position_kept a =
      let same : has a new ≡ has a (get_or stations i st) = ap (λ (x : Address). x.0 == a.0) (address ∙ sym (ap (λ (s : Station). s.address) it)) in
      rw (position_or_len-set (has a) stations i new st same, length-set stations i new) refl

  pub slice_get_same : slice_get (set stations i new) i ≡ Some new
  slice_get_same =
      let inside : i < length (set stations i new) = omega (arith, length-set stations i new, here) in
      slice_get-get_or (set stations i new) i new inside ∙ ap (λ (s : Station). Some s) (get_or-set_same stations i new new here)

  pub slice_get_other : (j : ℕ) (s : Station) → j ≢ i → slice_get (set stations i new) j ≡ Some s → slice_get stations j ≡ Some s
  slice_get_other j s ne e =
      let inside : j < length stations = omega (arith, length-set stations i new, slice_get_within (set stations i new) j s e) in
      slice_get-get_or stations j s inside ∙ ap (λ (x : Station). Some x) (sym (get_or-set_other stations i j new s ne) ∙ get_or_from_slice_get (set stations i new) j s s e)

  pub places_kept : ((j : ℕ) (s : Station) → slice_get stations j ≡ Some s → position (has s.address) stations ≡ Some j) → (j : ℕ) (s : Station) → slice_get (set stations i new) j ≡ Some s → position (has s.address) (set stations i new) ≡ Some j
  places_kept places j s e = by (j == i) refl
    where
      by : (b : Bool) → (j == i) ≡ b → position (has s.address) (set stations i new) ≡ Some j
      by true same =
          let ji : j ≡ i = eqb-true j i same in
          let is : new ≡ s = same_Some new s (sym slice_get_same ∙ ap (slice_get (set stations i new)) (sym ji) ∙ e) in
          let old : position (has st.address) stations ≡ Some i = places i st at in
          position_kept s.address ∙ ap (λ (a : Address). position (has a) stations) (ap (λ (x : Station). x.address) (sym is) ∙ address) ∙ old ∙ ap (λ (n : ℕ). Some n) (sym ji)
      by false ne = position_kept s.address ∙ places j s (slice_get_other j s (eqb-false j i ne) e)

module _ (seg : Segment) (r : IsReached seg) where
  -- the clock, the bus and the counts change
  pub reached_bus : (now : ℕ) (b : Bus) (counts : Counts) → IsFitBus (length seg.stations) b → IsReached (record { now = now; stations = seg.stations; bus = b; counts = counts })
  reached_bus now b counts fit = record { some = r.some; stations = r.stations; places = r.places; bus = fit }

  module _ (i : ℕ) (st : Station) (at : slice_get seg.stations i ≡ Some st) where
    pub inside : i < length seg.stations
    inside = slice_get_within seg.stations i st at

    pub as_it_is : Stays st.address st
    as_it_is = record { address = refl; fit = subst IsFitStation (get_or_from_slice_get seg.stations i st st at) (r.stations i st inside) }

    pub reached_with : (now : ℕ) (b : Bus) (counts : Counts) (new : Station) → Stays st.address new → IsFitBus (length seg.stations) b → IsReached (record { now = now; stations = set seg.stations i new; bus = b; counts = counts })
    reached_with now b counts new stays fit = record {
      some = omega (arith, r.some, length-set seg.stations i new);
      stations = All-set IsFitStation seg.stations i new stays.fit r.stations;
      places = places_kept seg.stations i st new at stays.address r.places;
      bus = rw (length-set seg.stations i new) fit;
    }

-- ---- a call that is refused changes nothing

abbrev Keeps : Answer → Type 0
Keeps (Err cause) = Unit {0}
Keeps (Ok step) = IsReached step.0

or_refused : (b : Bool) (cause : Refusal) (x : Answer) → (b ≡ false → Keeps x) → Keeps (cond b (Err cause) x)
or_refused true cause x h = tt
or_refused false cause x h = h refl

replied_keeps : (seg : Segment) (x : Answer) → IsReached seg → Keeps x → IsReached (replied seg x).0
replied_keeps seg (Err cause) r k = r
replied_keeps seg (Ok step) r k = k

module _ (seg : Segment) (r : IsReached seg) where
  module _ (i : ℕ) (st : Station) (at : slice_get seg.stations i ≡ Some st) where
    stays : Stays st.address st
    stays = as_it_is seg r i st at

    with : (new : Station) → Stays st.address new → IsReached (with_station seg i new)
    with new s = reached_with seg r i st at seg.now seg.bus seg.counts new s r.bus

    steps : (b : Bus) (counts : Counts) (step : StationStep) → Stays st.address step.station → IsFitBus (length seg.stations) b → Keeps (stepped (record seg { bus = b; counts = counts }) i step)
    steps b counts step s fit = reached_with seg r i st at seg.now b (counted counts step.events) step.station s fit

    opens_keeps : (pgn max_len : ℕ) → Keeps (opens seg pgn max_len i st)
    opens_keeps pgn max_len = or_refused (are_full st.ports) _ _ (λ _. with _ (stays_ports st.address st _ refl stays))

    closes_keeps : (number : ℕ) → Keeps (closes seg number i st)
    closes_keeps number = or_refused (not (is_open st.ports number)) _ _ (λ _. with _ (closed_stays st.address st number stays))

    pauses_keeps : (number : ℕ) → Keeps (pauses seg number i st)
    pauses_keeps number = or_refused (not (is_open st.ports number)) _ _ (λ _. or_refused (is_paused st.ports number) _ _ (λ _. with _ (stays_ports st.address st _ refl stays)))

    resumes_keeps : (number : ℕ) → Keeps (resumes seg number i st)
    resumes_keeps number = or_refused (not (is_open st.ports number)) _ _ (λ _. or_refused (not (is_paused st.ports number)) _ _ (λ _. with _ (stays_ports st.address st _ refl stays)))

    sends_keeps : (to : Address) (pgn : ℕ) (bytes : List ℕ) → is_pgn pgn ≡ true → Keeps (sends seg to pgn bytes i st)
    sends_keeps to pgn bytes is =
        or_refused (to.0 == null_address) _ _ (λ _.
        or_refused (st.address.0 == to.0) _ _ (λ _.
        or_refused (nat_lt (length bytes) MIN_SIZE) _ _ (λ long.
        or_refused (nat_lt (longest_to to.0) (length bytes)) _ _ (λ short.
        or_refused (is_full (lane_of st to)) _ _ (λ _.
        with _ (sent_stays st.address st to pgn bytes stays (λ number. record { pgn = is; least = ltb-false (length bytes) MIN_SIZE long; most = ltb-false (longest_to to.0) (length bytes) short })))))))

    pumps_by_keeps : (to : Address) (o : Option PumpRefused) → Keeps (pumps_by seg to i st o)
    pumps_by_keeps to (Some pump.NothingToSend) = tt
    pumps_by_keeps to (Some pump.NotYet) = tt
    pumps_by_keeps to None = or_refused (nat_lt (free_places st.queue) 8) _ _ (λ _. steps seg.bus seg.counts (pumped st to seg.now) (pumped_stays st.address st to seg.now stays) r.bus)

    pumps_keeps : (to : Address) → Keeps (pumps seg to i st)
    pumps_keeps to = or_refused (to.0 == null_address) _ _ (λ _. pumps_by_keeps to (refusal_at st.lanes to.0 seg.now))

    cancels_keeps : (to : Address) (number : ℕ) → Keeps (cancels seg to number i st)
    cancels_keeps to number =
        or_refused (to.0 == null_address) _ _ (λ _.
        or_refused (not (is_pending_at st.lanes to.0 number)) _ _ (λ _.
        or_refused (queues_abort_at st.lanes to.0 number && no_place st) _ _ (λ _.
        steps seg.bus seg.counts (cancelled st to number) (cancelled_stays st.address st to number stays) r.bus)))

    transmits_keeps : (o : Option CanFrame) → Keeps (transmits_by seg i st o)
    transmits_keeps None = tt
    transmits_keeps (Some f) = or_refused (bus.is_full seg.bus) _ _ (λ room. reached_with seg r i st at seg.now _ _ _ (stays_queued st.address st (behind st.queue) stays) (put_fits (length seg.stations) seg.bus f r.bus room))

    takes_keeps : (room : Bool) (o : Option CanFrame) → bus.next_frame seg.bus i ≡ o → Keeps (takes_by seg room i st o)
    takes_keeps room None e = tt
    takes_keeps room (Some f) e = or_refused (no_place st) _ _ (λ _. steps (bus.released (bus.taken seg.bus i)) (counted_look seg.counts (is_malformed_for st f)) (taken st f room seg.now) (taken_stays st.address st f room seg.now stays) (taken_fits (length seg.stations) seg.bus i f r.bus (inside seg r i st at) e))

    repeats_keeps : (room : Bool) (o : Option CanFrame) → Keeps (repeats_by seg room i st o)
    repeats_keeps room None = tt
    repeats_keeps room (Some f) = or_refused (no_place st) _ _ (λ _. steps seg.bus (counted_look (counted_repeat seg.counts) (is_malformed_for st f)) (taken st f room seg.now) (taken_stays st.address st f room seg.now stays) r.bus)

    overruns_keeps : (n : ℕ) → Keeps (overruns seg n i st)
    overruns_keeps n = or_refused (nat_lt (bus.waiting seg.bus i) n) _ _ (λ few. steps (bus.released (bus.passed seg.bus i n)) seg.counts (overrun st) (overrun_stays st.address st stays) (passed_fits (length seg.stations) seg.bus i n r.bus (inside seg r i st at) few))

    fires_keeps : Keeps (fires seg i st)
    fires_keeps = or_refused (not (is_due st seg.now)) _ _ (λ _. or_refused (no_place st) _ _ (λ _. steps seg.bus seg.counts (fired st seg.now) (fired_stays st.address st seg.now stays) r.bus))

  at_keeps : (o : Option ℕ) (call : ℕ → Station → Answer) → ((i : ℕ) (st : Station) → slice_get seg.stations i ≡ Some st → Keeps (call i st)) → Keeps (at_place seg o call)
  at_keeps None call h = tt
  at_keeps (Some i) call h = by (slice_get seg.stations i) refl
    where
      by : (o : Option Station) → slice_get seg.stations i ≡ o → Keeps (at_station o (call i))
      by None e = tt
      by (Some st) e = h i st e

  called_keeps : (call : Call) → is_call call ≡ true → Keeps (called seg call)
  unfolding called
  called_keeps (Open station pgn max_len) is = at_keeps (place_of seg station) _ (λ i st at. opens_keeps i st at pgn max_len)
  called_keeps (Close port) is = at_keeps (place_of seg port.station) _ (λ i st at. closes_keeps i st at port.number)
  called_keeps (Send from to pgn bytes) is = at_keeps (place_of seg from) _ (λ i st at. sends_keeps i st at to pgn bytes (both_pass (is_address to) (is_pgn pgn) (both_pass (is_address to && is_pgn pgn) (are_bytes bytes) is).0).1)
  called_keeps (Pump station to) is = at_keeps (place_of seg station) _ (λ i st at. pumps_keeps i st at to)
  called_keeps (Transmit station) is = at_keeps (place_of seg station) _ (λ i st at. transmits_keeps i st at (front st.queue))
  called_keeps (Take station room) is = at_keeps (place_of seg station) _ (λ i st at. takes_keeps i st at room (bus.next_frame seg.bus i) refl)
  called_keeps (TakeAgain station room) is = at_keeps (place_of seg station) _ (λ i st at. repeats_keeps i st at room (bus.frame_again seg.bus i))
  called_keeps (Overrun station n) is = at_keeps (place_of seg station) _ (λ i st at. overruns_keeps i st at n)
  called_keeps (Tick n) is = or_refused (not (nat_lt (seg.now + n) (2 ^ 64))) _ _ (λ _. reached_bus seg r (seg.now + n) seg.bus seg.counts r.bus)
  called_keeps (Fire station) is = at_keeps (place_of seg station) _ (λ i st at. fires_keeps i st at)
  called_keeps (Cancel from to number) is = at_keeps (place_of seg from) _ (λ i st at. cancels_keeps i st at to number)
  called_keeps (Inject frame) is = or_refused (has_station seg (meaning_of frame.id).from) _ _ (λ _. or_refused (bus.is_full seg.bus) _ _ (λ room. reached_bus seg r seg.now _ _ (put_fits (length seg.stations) seg.bus frame r.bus room)))
  called_keeps (Pause port) is = at_keeps (place_of seg port.station) _ (λ i st at. pauses_keeps i st at port.number)
  called_keeps (Resume port) is = at_keeps (place_of seg port.station) _ (λ i st at. resumes_keeps i st at port.number)

  pub reached_call : (call : Call) → is_call call ≡ true → IsReached (applied seg call).0
  reached_call call is = replied_keeps seg (called seg call) r (called_keeps call is)
