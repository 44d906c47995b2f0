-- What each call adds to the counts.
use Rattle.std.proofs.Common.{◌≡◌, ℕ, ◌+◌, ◌^◌, ◌==◌, Bool, true, false, cond, not, ◌&&◌, List, [], ◌∷◌, length, Option, Some, None, Err, refl, ap, ◌∙◌}
use Rattle.std.specs.Prelude.{nat_lt, slice_get}
use Rattle.bus_frame.specs.Frames.{CanFrame}
use Rattle.pgn_ids.specs.Address.{null_address}
use Rattle.pgn_ids.specs.Identifier.{meaning_of}
use Rattle.pgn_ids.specs.declared.address.Address.{Address}
use Rattle.tp_wire.specs.declared.constants.TheConstants.{MIN_SIZE}
use Rattle.tp_wire.specs.declared.outcome.Outcome.TheVariants.{Acknowledged}
use Rattle.tx_queue.specs.Queue.{free_places, front}
use Rattle.bus_order.specs.Bus as bus
use Rattle.port_table.specs.Ports.{are_full, is_open, is_paused}
use Rattle.lane_core.specs.Lane.{longest_to, is_full}
use Rattle.lane_core.specs.declared.refused.PumpRefused.{PumpRefused}
use Rattle.lane_core.specs.declared.refused.PumpRefused.TheVariants as pump
use Rattle.station_lanes.specs.LaneReaders.{refusal_at, is_pending_at, queues_abort_at}
use Rattle.message_events.specs.declared.event.Event.{Event}
use Rattle.message_events.specs.declared.event.Event.TheVariants as event
use Rattle.station_core.specs.Station.{Station}
use Rattle.station_core.specs.Sending.{lane_of, pumped, cancelled}
use Rattle.station_core.specs.Taking.{is_malformed_for, taken}
use Rattle.station_core.specs.Timers.{is_due, fired}
use Rattle.station_core.specs.Overruns.{overrun}
use Rattle.segment_law.specs.Segment.{Segment, place_of, has_station, counted, counted_event, counted_look, counted_repeat}
use Rattle.segment_law.specs.Calls.{Answer, no_place, opens, closes, pauses, resumes, sends, pumps_by, pumps, cancels, transmits_by, takes_by, takes, repeats_by, repeats, overruns, fires, at_station, at_place, called, replied, applied, events_of}
use Rattle.segment_law.specs.declared.call.Call.{Call}
use Rattle.segment_law.specs.declared.call.Call.TheVariants.{Open, Close, Send, Pump, Transmit, Take, TakeAgain, Overrun, Tick, Fire, Cancel, Inject, Pause, Resume}
use Rattle.segment_law.specs.declared.counts.Counts.{Counts}
use Rattle.segment_law.specs.declared.refusal.Refusal.{Refusal}
use Rattle.segment_law.specs.declared.reply.Reply.{Reply}
use Rattle.record_law.specs.Counting.{is_done, puts_frame, takes_again, malformed_at, is_malformed_to, takes_malformed, is_given, is_acknowledged, is_broadcast, is_aborted, is_timed_out, is_overrun, is_cancelled, is_unreachable}
use Rattle.record_law.proofs.readers.Totals.{grown, more}

-- ---- events

-- each count with what the events tell of it
abbrev pub with_events : List Event → Counts → Counts
with_events events c =
    record c {
      given = more is_given events c.given;
      acknowledged = more is_acknowledged events c.acknowledged;
      broadcast = more is_broadcast events c.broadcast;
      aborted = more is_aborted events c.aborted;
      timed_out = more is_timed_out events c.timed_out;
      overrun = more is_overrun events c.overrun;
      cancelled = more is_cancelled events c.cancelled;
      unreachable = more is_unreachable events c.unreachable;
    }

event_counts : (e : Event) (c : Counts) → counted_event c e ≡ with_events (e ∷ []) c
event_counts (event.Outcome from to number Acknowledged) c = refl
event_counts _ c = refl

events_count : (events : List Event) (c : Counts) → counted c events ≡ with_events events c
events_count [] c = refl
events_count (e ∷ events) c = events_count events (counted_event c e) ∙ ap (with_events events) (event_counts e c)

-- ---- the calls

-- each count with what a step adds to it
abbrev pub with_step : (puts again malformed : Bool) → List Event → Counts → Counts
with_step puts again malformed events c = with_events events (record c { frames = grown puts c.frames; malformed = grown malformed c.malformed; repeated = grown again c.repeated })

look_counts : (malformed : Bool) (c : Counts) → counted_look c malformed ≡ record c { malformed = grown malformed c.malformed }
look_counts true c = refl
look_counts false c = refl

module _ (seg : Segment) where
  -- what an answer counts, of a call that would put a frame, take one again, or take a malformed one
  abbrev CountsAs : (puts again malformed : Bool) → Answer → Type 0
  CountsAs puts again malformed x =
      let reply : Reply = (replied seg x).1 in
      (replied seg x).0.counts ≡ with_step (is_done reply && puts) (is_done reply && again) (is_done reply && malformed) (events_of reply) seg.counts

  module _ (puts again malformed : Bool) where
    unless : (b : Bool) (cause : Refusal) (x : Answer) → CountsAs puts again malformed x → CountsAs puts again malformed (cond b (Err cause) x)
    unless true cause x h = refl
    unless false cause x h = h

    at : (o : Option ℕ) (call : ℕ → Station → Answer) → ((i : ℕ) (st : Station) → CountsAs puts again malformed (call i st)) → CountsAs puts again malformed (at_place seg o call)
    at None call h = refl
    at (Some i) call h = by (slice_get seg.stations i)
      where
        by : (o : Option Station) → CountsAs puts again malformed (at_station o (call i))
        by None = refl
        by (Some st) = h i st

  abbrev Tells : Answer → Type 0
  Tells x = CountsAs false false false x

  or_not : (b : Bool) (cause : Refusal) (x : Answer) → Tells x → Tells (cond b (Err cause) x)
  or_not b cause x h = unless false false false b cause x h

  module _ (i : ℕ) (st : Station) where
    opens_tells : (pgn max_len : ℕ) → Tells (opens seg pgn max_len i st)
    opens_tells pgn max_len = or_not (are_full st.ports) _ _ refl

    closes_tells : (number : ℕ) → Tells (closes seg number i st)
    closes_tells number = or_not (not (is_open st.ports number)) _ _ refl

    pauses_tells : (number : ℕ) → Tells (pauses seg number i st)
    pauses_tells number = or_not (not (is_open st.ports number)) _ _ (or_not (is_paused st.ports number) _ _ refl)

    resumes_tells : (number : ℕ) → Tells (resumes seg number i st)
    resumes_tells number = or_not (not (is_open st.ports number)) _ _ (or_not (not (is_paused st.ports number)) _ _ refl)

    sends_tells : (to : Address) (pgn : ℕ) (bytes : List ℕ) → Tells (sends seg to pgn bytes i st)
    sends_tells to pgn bytes =
        or_not (to.0 == null_address) _ _ (
        or_not (st.address.0 == to.0) _ _ (
        or_not (nat_lt (length bytes) MIN_SIZE) _ _ (
        or_not (nat_lt (longest_to to.0) (length bytes)) _ _ (
        or_not (is_full (lane_of st to)) _ _ refl))))

    pumps_by_tells : (to : Address) (o : Option PumpRefused) → Tells (pumps_by seg to i st o)
    pumps_by_tells to (Some pump.NothingToSend) = refl
    pumps_by_tells to (Some pump.NotYet) = refl
    pumps_by_tells to None = or_not (nat_lt (free_places st.queue) 8) _ _ (events_count (pumped st to seg.now).events seg.counts)

    pumps_tells : (to : Address) → Tells (pumps seg to i st)
    pumps_tells to = or_not (to.0 == null_address) _ _ (pumps_by_tells to (refusal_at st.lanes to.0 seg.now))

    cancels_tells : (to : Address) (number : ℕ) → Tells (cancels seg to number i st)
    cancels_tells to number =
        or_not (to.0 == null_address) _ _ (
        or_not (not (is_pending_at st.lanes to.0 number)) _ _ (
        or_not (queues_abort_at st.lanes to.0 number && no_place st) _ _ (events_count (cancelled st to number).events seg.counts)))

    overruns_tells : (n : ℕ) → Tells (overruns seg n i st)
    overruns_tells n = or_not (nat_lt (bus.waiting seg.bus i) n) _ _ (events_count (overrun st).events seg.counts)

    fires_tells : Tells (fires seg i st)
    fires_tells = or_not (not (is_due st seg.now)) _ _ (or_not (no_place st) _ _ (events_count (fired st seg.now).events seg.counts))

    transmits_counts : (o : Option CanFrame) → CountsAs true false false (transmits_by seg i st o)
    transmits_counts None = refl
    transmits_counts (Some f) = unless true false false (bus.is_full seg.bus) _ _ refl

    takes_counts : (room : Bool) (o : Option CanFrame) → CountsAs false false (is_malformed_to (Some st) o) (takes_by seg room i st o)
    takes_counts room None = refl
    takes_counts room (Some f) =
        unless false false (is_malformed_for st f) (no_place st) _ _ (
        events_count (taken st f room seg.now).events (counted_look seg.counts (is_malformed_for st f)) ∙ ap (with_events (taken st f room seg.now).events) (look_counts (is_malformed_for st f) seg.counts))

    repeats_counts : (room : Bool) (o : Option CanFrame) → CountsAs false true (is_malformed_to (Some st) o) (repeats_by seg room i st o)
    repeats_counts room None = refl
    repeats_counts room (Some f) =
        unless false true (is_malformed_for st f) (no_place st) _ _ (
        events_count (taken st f room seg.now).events (counted_look (counted_repeat seg.counts) (is_malformed_for st f)) ∙ ap (with_events (taken st f room seg.now).events) (look_counts (is_malformed_for st f) (counted_repeat seg.counts)))

  takes_at : (room : Bool) (o : Option ℕ) → CountsAs false false (malformed_at seg false o) (at_place seg o (takes seg room))
  takes_at room None = refl
  takes_at room (Some i) = by (slice_get seg.stations i)
    where
      by : (o : Option Station) → CountsAs false false (is_malformed_to o (bus.next_frame seg.bus i)) (at_station o (takes seg room i))
      by None = refl
      by (Some st) = takes_counts i st room (bus.next_frame seg.bus i)

  repeats_at : (room : Bool) (o : Option ℕ) → CountsAs false true (malformed_at seg true o) (at_place seg o (repeats seg room))
  repeats_at room None = refl
  repeats_at room (Some i) = by (slice_get seg.stations i)
    where
      by : (o : Option Station) → CountsAs false true (is_malformed_to o (bus.frame_again seg.bus i)) (at_station o (repeats seg room i))
      by None = refl
      by (Some st) = repeats_counts i st room (bus.frame_again seg.bus i)

  pub call_counts : (call : Call) → let step : Call × Reply = (call, (applied seg call).1) in
      (applied seg call).0.counts ≡ with_step (puts_frame step) (takes_again step) (takes_malformed (seg, step)) (events_of step.1) seg.counts
  unfolding called
  call_counts (Open station pgn max_len) = at false false false (place_of seg station) _ (λ i st. opens_tells i st pgn max_len)
  call_counts (Close port) = at false false false (place_of seg port.station) _ (λ i st. closes_tells i st port.number)
  call_counts (Send from to pgn bytes) = at false false false (place_of seg from) _ (λ i st. sends_tells i st to pgn bytes)
  call_counts (Pump station to) = at false false false (place_of seg station) _ (λ i st. pumps_tells i st to)
  call_counts (Transmit station) = at true false false (place_of seg station) _ (λ i st. transmits_counts i st (front st.queue))
  call_counts (Take station room) = takes_at room (place_of seg station)
  call_counts (TakeAgain station room) = repeats_at room (place_of seg station)
  call_counts (Overrun station n) = at false false false (place_of seg station) _ (λ i st. overruns_tells i st n)
  call_counts (Tick n) = or_not (not (nat_lt (seg.now + n) (2 ^ 64))) _ _ refl
  call_counts (Fire station) = at false false false (place_of seg station) _ (λ i st. fires_tells i st)
  call_counts (Cancel from to number) = at false false false (place_of seg from) _ (λ i st. cancels_tells i st to number)
  call_counts (Inject frame) = unless true false false (has_station seg (meaning_of frame.id).from) _ _ (unless true false false (bus.is_full seg.bus) _ _ refl)
  call_counts (Pause port) = at false false false (place_of seg port.station) _ (λ i st. pauses_tells i st port.number)
  call_counts (Resume port) = at false false false (place_of seg port.station) _ (λ i st. resumes_tells i st port.number)
