-- A call is refused, or it acts on the one station that it names, on the bus or on the clock: what is shown of each call that
-- isn't refused, in the table's order, holds of every call.
use Rattle.std.proofs.Common.{◌≡◌, ℕ, ◌+◌, ◌^◌, ◌==◌, Bool, true, false, cond, not, ◌&&◌, List, [], length, Option, Some, None, Ok, Err, refl}
use Rattle.std.specs.Prelude.{nat_lt, slice_get}
use Rattle.bus_frame.specs.Frames.{CanFrame}
use Rattle.pgn_ids.specs.Address.{null_address}
use Rattle.pgn_ids.specs.Identifier.{meaning_of}
use Rattle.pgn_ids.specs.declared.address.Address.{Address}
use Rattle.tp_wire.specs.declared.constants.TheConstants.{MIN_SIZE}
use Rattle.tx_queue.specs.Queue.{free_places, front, behind}
use Rattle.bus_order.specs.Bus as bus
use Rattle.port_table.specs.Ports.{are_full, is_open, is_paused, with_port, with_paused, next_id}
use Rattle.port_table.specs.declared.port.PortId.{PortId}
use Rattle.lane_core.specs.Lane.{longest_to, is_full}
use Rattle.lane_core.specs.declared.refused.PumpRefused.{PumpRefused}
use Rattle.lane_core.specs.declared.refused.PumpRefused.TheVariants as pump
use Rattle.station_lanes.specs.LaneReaders.{refusal_at, is_pending_at, queues_abort_at}
use Rattle.station_core.specs.Station.{Station, StationStep}
use Rattle.station_core.specs.Sending.{lane_of, sent, pumped, cancelled}
use Rattle.station_core.specs.Taking.{is_malformed_for, taken}
use Rattle.station_core.specs.Timers.{is_due, fired}
use Rattle.station_core.specs.Closing.{closed}
use Rattle.station_core.specs.Overruns.{overrun}
use Rattle.segment_law.specs.Segment.{Segment, place_of, has_station, with_station, counted, counted_look, counted_repeat}
use Rattle.segment_law.specs.Calls as calls
use Rattle.segment_law.specs.Calls.{Answer, no_place, pump_places, with_frame, at_station, at_place, called, replied, applied}
use Rattle.segment_law.specs.declared.call.Call.{Call}
use Rattle.segment_law.specs.declared.call.Call.TheVariants.{Open, Close, Send, Pump, Transmit, Take, TakeAgain, Overrun, Tick, Fire, Cancel, Inject, Pause, Resume}
use Rattle.segment_law.specs.declared.refusal.Refusal.{Refusal}
use Rattle.segment_law.specs.declared.reply.Reply.{Reply}
use Rattle.segment_law.specs.declared.reply.Reply.TheVariants.{Opened, Sent, Refused, Done}
use Rattle.record_law.proofs.Tests.{not_fails}

-- what a step of the station at a place leaves and answers
abbrev pub stepped : Segment → ℕ → StationStep → Segment × Reply
stepped seg i step = (record (with_station seg i step.station) { counts = counted seg.counts step.events }, Done step.events)

-- a frame that it looks at
abbrev pub looked : Segment → (room : Bool) → ℕ → Station → CanFrame → Segment × Reply
looked seg room i st frame = stepped (record seg { counts = counted_look seg.counts (is_malformed_for st frame) }) i (taken st frame room seg.now)

module _ (seg : Segment) (P : Call → Segment × Reply → Type 0) where
  -- of a call that isn't refused
  abbrev pub Holds : Call → Answer → Type 0
  Holds call (Err cause) = Unit {0}
  Holds call (Ok step) = P call step

  -- the calls that name the station at a place
  pub record OfStation (i : ℕ) (st : Station) : Type 0 where
    pub opens : (a : Address) (pgn max_len : ℕ) → place_of seg a ≡ Some i → P (Open a pgn max_len) (with_station seg i (record st { ports = with_port st.ports pgn max_len }), Opened (next_id st.ports))
    pub closes : (port : PortId) → place_of seg port.station ≡ Some i → is_open st.ports port.number ≡ true → P (Close port) (with_station seg i (closed st port.number), Done [])
    pub sends : (from to : Address) (pgn : ℕ) (bytes : List ℕ) → place_of seg from ≡ Some i → (st.address.0 == to.0) ≡ false → nat_lt (length bytes) MIN_SIZE ≡ false → nat_lt (longest_to to.0) (length bytes) ≡ false
        → P (Send from to pgn bytes) (with_station seg i (sent st to pgn bytes), Sent ((lane_of st to).sent + 1))
    pub pumps : (a to : Address) → place_of seg a ≡ Some i → P (Pump a to) (stepped seg i (pumped st to seg.now))
    pub transmits : (a : Address) (f : CanFrame) → place_of seg a ≡ Some i → front st.queue ≡ Some f → bus.is_full seg.bus ≡ false → P (Transmit a) (with_frame (with_station seg i (record st { queue = behind st.queue })) f, Done [])
    pub takes : (a : Address) (room : Bool) (f : CanFrame) → place_of seg a ≡ Some i → bus.next_frame seg.bus i ≡ Some f → no_place st ≡ false → P (Take a room) (looked (record seg { bus = bus.released (bus.taken seg.bus i) }) room i st f)
    pub repeats : (a : Address) (room : Bool) (f : CanFrame) → place_of seg a ≡ Some i → bus.frame_again seg.bus i ≡ Some f → no_place st ≡ false → P (TakeAgain a room) (looked (record seg { counts = counted_repeat seg.counts }) room i st f)
    pub overruns : (a : Address) (n : ℕ) → place_of seg a ≡ Some i → nat_lt (bus.waiting seg.bus i) n ≡ false → P (Overrun a n) (stepped (record seg { bus = bus.released (bus.passed seg.bus i n) }) i (overrun st))
    pub fires : (a : Address) → place_of seg a ≡ Some i → P (Fire a) (stepped seg i (fired st seg.now))
    pub cancels : (from to : Address) (number : ℕ) → place_of seg from ≡ Some i → is_pending_at st.lanes to.0 number ≡ true → P (Cancel from to number) (stepped seg i (cancelled st to number))
    pub pauses : (port : PortId) → place_of seg port.station ≡ Some i → P (Pause port) (with_station seg i (record st { ports = with_paused st.ports port.number true }), Done [])
    pub resumes : (port : PortId) → place_of seg port.station ≡ Some i → P (Resume port) (with_station seg i (record st { ports = with_paused st.ports port.number false }), Done [])

  -- every call that isn't refused
  pub record Accepted : Type 0 where
    pub station : (i : ℕ) (st : Station) → slice_get seg.stations i ≡ Some st → OfStation i st
    pub ticks : (n : ℕ) → P (Tick n) (record seg { now = seg.now + n }, Done [])
    pub injects : (f : CanFrame) → has_station seg (meaning_of f.id).from ≡ false → bus.is_full seg.bus ≡ false → P (Inject f) (with_frame seg f, Done [])

  or_refused : (call : Call) (b : Bool) (cause : Refusal) (x : Answer) → (b ≡ false → Holds call x) → Holds call (cond b (Err cause) x)
  or_refused call true cause x h = tt
  or_refused call false cause x h = h refl

  module _ (i : ℕ) (st : Station) (h : OfStation i st) where
    sends_hold : (from to : Address) (pgn : ℕ) (bytes : List ℕ) → place_of seg from ≡ Some i → Holds (Send from to pgn bytes) (calls.sends seg to pgn bytes i st)
    sends_hold from to pgn bytes q =
        let call : Call = Send from to pgn bytes in
        or_refused call (to.0 == null_address) _ _ (λ _.
        or_refused call (st.address.0 == to.0) _ _ (λ other.
        or_refused call (nat_lt (length bytes) MIN_SIZE) _ _ (λ long.
        or_refused call (nat_lt (longest_to to.0) (length bytes)) _ _ (λ short.
        or_refused call (is_full (lane_of st to)) _ _ (λ _. h.sends from to pgn bytes q other long short)))))

    pumps_hold : (a to : Address) → place_of seg a ≡ Some i → (o : Option PumpRefused) → Holds (Pump a to) (calls.pumps_by seg to i st o)
    pumps_hold a to q (Some pump.NothingToSend) = tt
    pumps_hold a to q (Some pump.NotYet) = tt
    pumps_hold a to q None = or_refused (Pump a to) (nat_lt (free_places st.queue) pump_places) _ _ (λ _. h.pumps a to q)

    transmits_hold : (a : Address) → place_of seg a ≡ Some i → (o : Option CanFrame) → front st.queue ≡ o → Holds (Transmit a) (calls.transmits_by seg i st o)
    transmits_hold a q None e = tt
    transmits_hold a q (Some f) e = or_refused (Transmit a) (bus.is_full seg.bus) _ _ (λ free. h.transmits a f q e free)

    takes_hold : (a : Address) (room : Bool) → place_of seg a ≡ Some i → (o : Option CanFrame) → bus.next_frame seg.bus i ≡ o → Holds (Take a room) (calls.takes_by seg room i st o)
    takes_hold a room q None e = tt
    takes_hold a room q (Some f) e = or_refused (Take a room) (no_place st) _ _ (λ free. h.takes a room f q e free)

    repeats_hold : (a : Address) (room : Bool) → place_of seg a ≡ Some i → (o : Option CanFrame) → bus.frame_again seg.bus i ≡ o → Holds (TakeAgain a room) (calls.repeats_by seg room i st o)
    repeats_hold a room q None e = tt
    repeats_hold a room q (Some f) e = or_refused (TakeAgain a room) (no_place st) _ _ (λ free. h.repeats a room f q e free)

    cancels_hold : (from to : Address) (number : ℕ) → place_of seg from ≡ Some i → Holds (Cancel from to number) (calls.cancels seg to number i st)
    cancels_hold from to number q =
        let call : Call = Cancel from to number in
        or_refused call (to.0 == null_address) _ _ (λ _.
        or_refused call (not (is_pending_at st.lanes to.0 number)) _ _ (λ pending.
        or_refused call (queues_abort_at st.lanes to.0 number && no_place st) _ _ (λ _. h.cancels from to number q (not_fails (is_pending_at st.lanes to.0 number) pending))))

  module _ (h : Accepted) where
    at_holds : (call : Call) (a : Address) (does : ℕ → Station → Answer) → ((i : ℕ) (st : Station) → OfStation i st → place_of seg a ≡ Some i → Holds call (does i st)) → Holds call (at_place seg (place_of seg a) does)
    at_holds call a does k = by (place_of seg a) refl
      where
        there : (i : ℕ) → place_of seg a ≡ Some i → (o : Option Station) → slice_get seg.stations i ≡ o → Holds call (at_station o (does i))
        there i q None e = tt
        there i q (Some st) e = k i st (h.station i st e) q

        by : (o : Option ℕ) → place_of seg a ≡ o → Holds call (at_place seg o does)
        by None q = tt
        by (Some i) q = there i q (slice_get seg.stations i) refl

    pub each_called : (call : Call) → Holds call (called seg call)
    unfolding called
    each_called (Open a pgn max_len) = at_holds (Open a pgn max_len) a _ (λ i st k q. or_refused (Open a pgn max_len) (are_full st.ports) _ _ (λ _. k.opens a pgn max_len q))
    each_called (Close port) = at_holds (Close port) port.station _ (λ i st k q. or_refused (Close port) (not (is_open st.ports port.number)) _ _ (λ is. k.closes port q (not_fails (is_open st.ports port.number) is)))
    each_called (Send from to pgn bytes) = at_holds (Send from to pgn bytes) from _ (λ i st k q. sends_hold i st k from to pgn bytes q)
    each_called (Pump a to) = at_holds (Pump a to) a _ (λ i st k q. or_refused (Pump a to) (to.0 == null_address) _ _ (λ _. pumps_hold i st k a to q (refusal_at st.lanes to.0 seg.now)))
    each_called (Transmit a) = at_holds (Transmit a) a _ (λ i st k q. transmits_hold i st k a q (front st.queue) refl)
    each_called (Take a room) = at_holds (Take a room) a _ (λ i st k q. takes_hold i st k a room q (bus.next_frame seg.bus i) refl)
    each_called (TakeAgain a room) = at_holds (TakeAgain a room) a _ (λ i st k q. repeats_hold i st k a room q (bus.frame_again seg.bus i) refl)
    each_called (Overrun a n) = at_holds (Overrun a n) a _ (λ i st k q. or_refused (Overrun a n) (nat_lt (bus.waiting seg.bus i) n) _ _ (λ few. k.overruns a n q few))
    each_called (Tick n) = or_refused (Tick n) (not (nat_lt (seg.now + n) (2 ^ 64))) _ _ (λ _. h.ticks n)
    each_called (Fire a) = at_holds (Fire a) a _ (λ i st k q. or_refused (Fire a) (not (is_due st seg.now)) _ _ (λ _. or_refused (Fire a) (no_place st) _ _ (λ _. k.fires a q)))
    each_called (Cancel from to number) = at_holds (Cancel from to number) from _ (λ i st k q. cancels_hold i st k from to number q)
    each_called (Inject f) = or_refused (Inject f) (has_station seg (meaning_of f.id).from) _ _ (λ foreign. or_refused (Inject f) (bus.is_full seg.bus) _ _ (λ free. h.injects f foreign free))
    each_called (Pause port) = at_holds (Pause port) port.station _ (λ i st k q. or_refused (Pause port) (not (is_open st.ports port.number)) _ _ (λ _. or_refused (Pause port) (is_paused st.ports port.number) _ _ (λ _. k.pauses port q)))
    each_called (Resume port) = at_holds (Resume port) port.station _ (λ i st k q. or_refused (Resume port) (not (is_open st.ports port.number)) _ _ (λ _. or_refused (Resume port) (not (is_paused st.ports port.number)) _ _ (λ _. k.resumes port q)))

    -- where a refusal holds it too
    pub each_applied : ((call : Call) (cause : Refusal) → P call (seg, Refused cause)) → (call : Call) → P call (applied seg call)
    each_applied refused call = by (called seg call) (each_called call)
      where
        by : (x : Answer) → Holds call x → P call (replied seg x)
        by (Err cause) k = refused call cause
        by (Ok step) k = k
