-- At each record, the message that a Take with room gives has the length that it was said to want.
use Rattle.std.proofs.Common.{◌≡◌, ℕ, Bool, true, false, cond, List, [], ◌∷◌, map, length, Option, Some, None, Err, refl, sym, ap, ◌∙◌}
use Rattle.std.specs.Prelude.{slice_get}
use Rattle.bus_frame.specs.Frames.{CanFrame}
use Rattle.pgn_ids.specs.Pgn.{clean}
use Rattle.pgn_ids.specs.Address.{global_address}
use Rattle.pgn_ids.specs.declared.address.Address.{Address}
use Rattle.tp_wire.specs.Reading.{reading}
use Rattle.tp_wire.specs.declared.wire.Kind.{Kind}
use Rattle.tp_wire.specs.declared.wire.Wire.{Wire}
use Rattle.tp_wire.specs.declared.wire.Wire.TheVariants.{Cm, Packet, Request, Ack}
use Rattle.responder.specs.Readers.{unfinished_of}
use Rattle.responder.specs.Steps.{stepped}
use Rattle.responder.specs.Room.{prepared}
use Rattle.responder.specs.declared.flow.Flow.{Flow}
use Rattle.responder.specs.declared.received.Received.{Received}
use Rattle.responder.specs.declared.received.Received.TheVariants.{On, Complete, Ended}
use Rattle.bam_session.specs.States as bam
use Rattle.bam_session.specs.Receiving as bam-steps
use Rattle.bus_order.specs.Bus as bus
use Rattle.port_table.specs.Ports.{Ports}
use Rattle.session_table.specs.declared.key.Key.{Key}
use Rattle.session_table.specs.declared.incoming.Incoming.{Incoming}
use Rattle.session_table.specs.declared.incoming.Incoming.TheVariants as incoming
use Rattle.session_table.specs.Sessions.{state_at}
use Rattle.message_events.specs.declared.event.Event.{Event}
use Rattle.message_events.specs.declared.event.Event.TheVariants as event
use Rattle.station_sessions.specs.Steps.{completes, size_of}
use Rattle.station_sessions.specs.Receiving.{Inbound, flow_at, broadcast_settled, connection_settled, session_stepped, received_by, wanted_by}
use Rattle.station_sessions.specs.Opening.{key_of}
use Rattle.station_core.specs.Station.{Station, quietly}
use Rattle.station_core.specs.Taking as taking
use Rattle.station_core.specs.Taking.{wire_taken, meaning_taken, looks_at, taken, packet_kind}
use Rattle.segment_law.specs.Segment.{Segment, place_of, counted_repeat}
use Rattle.segment_law.specs.Calls.{Answer, no_place, at_place, at_station, takes, takes_by, repeats, repeats_by, looks, called, replied, events_of}
use Rattle.segment_law.specs.Readers.{frame_for, wanted_with, wanted, ports_given, length_given, given_by_take}
use Rattle.segment_law.specs.Record.{Record, StandsAt}
use Rattle.segment_law.specs.declared.refusal.Refusal.TheVariants as refusal
use Rattle.record_law.proofs.readers.Wanted.{packet_ports}
use Rattle.record_law.proofs.readers.Takes.{wire_ports, wanted_is_given}
use Rattle.record_law.proofs.readers.Filled.{IsFilled, IsSeven, Goes, GoesBroadcast, connection_step, broadcast_step}
use Rattle.record_law.proofs.readers.Keeping.{State, join_of, IsKept, AreKept}
use Rattle.record_law.proofs.readers.Sessions.{Meaning, MeansSeven, reading_seven}
use Rattle.record_law.proofs.readers.Walk.{AllKept, kept_at, record_kept}

none_given : (es : List Event) → ports_given es ≡ [] → length_given es ≡ 0
none_given [] e = refl
none_given (event.Given p f t g b ∷ es) e = absurd (let q : p.number ∷ ports_given es ≡ [] = e in cc)
none_given (event.Outcome f t k o ∷ es) e = none_given es e

some_given : (station from to : Address) (pgn : ℕ) (bytes set : List ℕ) → (length set ≡ 0 → ⊥) → length_given (map (λ number. event.Given (record { station = station; number = number }) from to pgn bytes) set) ≡ length bytes
some_given station from to pgn bytes [] some = absurd (some refl)
some_given station from to pgn bytes (n ∷ set) some = refl

-- Steps that complete a message

module _ (station : Address) (key : Key) (m : Inbound) (set : List ℕ) (some : length set ≡ 0 → ⊥) (size : ℕ) where
  none_here : (ports : List ℕ) → length ports ≡ 0 → ports ≡ set → ⊥
  none_here ports none e = some (ap length (sym e) ∙ none)

  connection_length : (r : Received) → Goes size r → ports_given (connection_settled station key set true m r).events ≡ set → length_given (connection_settled station key set true m r).events ≡ size
  connection_length (On s frame) h e = absurd (none_here [] refl e)
  connection_length (Complete w) h e = some_given station (record { 0 = w.peer.from }) (record { 0 = w.peer.to }) (clean w.peer.pgn) w.bytes set some ∙ h
  connection_length (Ended frame) h e = absurd (none_here [] refl e)

  broadcast_length : (s : bam.Incoming) (r : bam-steps.Received) → GoesBroadcast size r → ports_given (broadcast_settled station key set true m s r).events ≡ set → length_given (broadcast_settled station key set true m s r).events ≡ size
  broadcast_length s (bam-steps.Awaits t) h e = absurd (none_here [] refl e)
  broadcast_length s (bam-steps.Completes bytes) h e = some_given station (record { 0 = s.from }) (record { 0 = global_address }) (clean s.pgn) bytes set some ∙ h
  broadcast_length s bam-steps.Drops h e = absurd (none_here [] refl e)

module _ (station : Address) (key : Key) (m : Inbound) (set : List ℕ) (some : length set ≡ 0 → ⊥) (wire : Wire) (flow : Flow) (now : ℕ) where
  abbrev told : Incoming → List Event
  told s = (session_stepped station key set true m flow s wire now).events

  completed_length : (s : Incoming) → IsSeven wire → IsFilled (join_of s) → ports_given (told s) ≡ set → length_given (told s) ≡ size_of s
  completed_length (incoming.Broadcast s) seven f e = broadcast_length station key m set some s.join.size s (bam-steps.stepped s wire now) (broadcast_step s wire now seven f) e
  completed_length (incoming.Connection s) seven f e = connection_length station key m set some (unfinished_of s).join.size (stepped (prepared s wire true flow) wire true flow now) (connection_step s wire true flow now seven f) e

module _ (ports : Ports) (key : Key) (now : ℕ) (m : Inbound) (k : Kind) (sequence : ℕ) (bytes : List ℕ) (seven : length bytes ≡ 7) where
  abbrev packet : Wire
  packet = Packet k sequence bytes

  in_session_length : (o : Option State) → ((v : State) → o ≡ Some v → IsKept v) → length_given (received_by o ports key packet true now m).events ≡ (wanted_by o packet).1
  in_session_length None h = refl
  in_session_length (Some v) h = by (completes v.1 packet) (packet_ports ports.station key v.0 m v.1 k sequence bytes (flow_at ports v.0) now)
    where
      events : List Event
      events = (session_stepped ports.station key v.0 true m (flow_at ports v.0) v.1 packet now).events

      by : (c : Bool) → ports_given events ≡ cond c v.0 [] → length_given events ≡ (cond {A = List ℕ × ℕ} c (v.0, size_of v.1) ([], 0)).1
      by true e = completed_length ports.station key m v.0 (h v refl).some packet (flow_at ports v.0) now v.1 seven (h v refl).filled e
      by false e = none_given events e

module _ (st : Station) (now : ℕ) (each : AreKept st.sessions) where
  wire_length : (wire : Wire) (from to : Address) → IsSeven wire → length_given (wire_taken st wire from to true now).events ≡ (taking.wire_wanted st wire from to).1
  wire_length (Cm frame) from to seven = none_given (wire_taken st (Cm frame) from to true now).events (wire_ports st now (Cm frame) from to)
  wire_length (Packet k sequence bytes) from to seven =
      let key : Key = key_of from (packet_kind k to) in
      in_session_length st.ports key now st.sessions k sequence bytes seven (state_at st.sessions key) (λ v e. each key v e)
  wire_length (Request pgn) from to seven = refl
  wire_length (Ack control address pgn) from to seven = refl

  meaning_length : (o : Option Meaning) → MeansSeven o → length_given (meaning_taken st o true now).events ≡ (taking.meaning_wanted st o).1
  meaning_length None seven = refl
  meaning_length (Some m) seven = wire_length m.0 m.1 m.2 seven

  taken_length : (f : CanFrame) → length_given (taken st f true now).events ≡ (taking.wanted st f).1
  taken_length f = by (looks_at st f)
    where
      by : (b : Bool) → length_given (cond b (meaning_taken st (reading f) true now) (quietly st)).events ≡ (cond {A = List ℕ × ℕ} b (taking.meaning_wanted st (reading f)) ([], 0)).1
      by true = meaning_length (reading f) (reading_seven f)
      by false = refl

-- The calls

abbrev length_of : Segment → Answer → ℕ
length_of seg x = length_given (events_of (replied seg x).1)

module _ (seg : Segment) (i : ℕ) (st : Station) (each : AreKept st.sessions) where
  frame_length : (before : Segment) (f : CanFrame) (b : Bool) → length_of seg (cond b (Err refusal.TxFull) (looks before true i st f)) ≡ (cond {A = List ℕ × ℕ} b ([], 0) (taking.wanted st f)).1
  frame_length before f true = refl
  frame_length before f false = taken_length st before.now each f

  next_length : (o : Option CanFrame) → length_of seg (takes_by seg true i st o) ≡ (wanted_with (Some st) o).1
  next_length None = refl
  next_length (Some f) = frame_length (record seg { bus = bus.released (bus.taken seg.bus i) }) f (no_place st)

  again_length : (o : Option CanFrame) → length_of seg (repeats_by seg true i st o) ≡ (wanted_with (Some st) o).1
  again_length None = refl
  again_length (Some f) = frame_length (record seg { counts = counted_repeat seg.counts }) f (no_place st)

module _ (seg : Segment) (all : AllKept seg.stations) where
  abbrev said : (again : Bool) → Option ℕ → List ℕ × ℕ
  said again p = elim p as (λ (_ : Option ℕ). List ℕ × ℕ) [ None ↦ ([], 0) | Some i ↦ wanted_with (elim p as (λ (_ : Option ℕ). Option Station) [ None ↦ None | Some j ↦ slice_get seg.stations j ]) (frame_for seg again i) ]

  next_at : (p : Option ℕ) → length_of seg (at_place seg p (takes seg true)) ≡ (said false p).1
  next_at None = refl
  next_at (Some i) = by (slice_get seg.stations i) refl
    where
      by : (o : Option Station) → slice_get seg.stations i ≡ o → length_of seg (at_station o (takes seg true i)) ≡ (wanted_with o (frame_for seg false i)).1
      by None e = refl
      by (Some st) e = next_length seg i st (kept_at seg.stations i st all e) (bus.next_frame seg.bus i)

  again_at : (p : Option ℕ) → length_of seg (at_place seg p (repeats seg true)) ≡ (said true p).1
  again_at None = refl
  again_at (Some i) = by (slice_get seg.stations i) refl
    where
      by : (o : Option Station) → slice_get seg.stations i ≡ o → length_of seg (at_station o (repeats seg true i)) ≡ (wanted_with o (frame_for seg true i)).1
      by None e = refl
      by (Some st) e = again_length seg i st (kept_at seg.stations i st all e) (bus.frame_again seg.bus i)

  wanted_length : (a : Address) (again : Bool) → (wanted seg a again).1 ≡ (given_by_take seg a again).1
  unfolding called
  wanted_length a true = sym (again_at (place_of seg a))
  wanted_length a false = sym (next_at (place_of seg a))

pub wanted_is_given_whole : (addresses : List Address) (steps : Record) (seg : Segment) → StandsAt addresses steps seg → (a : Address) (again : Bool) → wanted seg a again ≡ given_by_take seg a again
wanted_is_given_whole addresses steps seg h a again =
    let ports : (wanted seg a again).0 ≡ (given_by_take seg a again).0 = wanted_is_given seg a again in
    let size : (wanted seg a again).1 ≡ (given_by_take seg a again).1 = wanted_length seg (record_kept addresses steps seg h) a again in
    λ i. (ports i, size i)
