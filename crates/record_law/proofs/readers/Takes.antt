-- The ports that a Take with room gives to are those that it was said to want.
use Rattle.std.proofs.Common.{◌≡◌, ℕ, Bool, true, false, cond, List, [], Option, Some, None, Err, refl, sym, ap, ◌∙◌}
use Rattle.std.specs.Prelude.{slice_get}
use Rattle.bus_frame.specs.Frames.{CanFrame}
use Rattle.pgn_ids.specs.declared.address.Address.{Address}
use Rattle.tp_wire.specs.Reading.{reading}
use Rattle.tp_wire.specs.declared.wire.Kind.{Kind}
use Rattle.tp_wire.specs.declared.wire.CmFrame.{CmFrame}
use Rattle.tp_wire.specs.declared.wire.CmFrame.TheVariants.{Rts, Cts, EndOfMsgAck, Bam, Abort, EtpRts, EtpCts, EtpDpo, EtpEoma, EtpAbort}
use Rattle.tp_wire.specs.declared.wire.Wire.{Wire}
use Rattle.tp_wire.specs.declared.wire.Wire.TheVariants.{Cm, Packet, Request, Ack}
use Rattle.bus_order.specs.Bus as bus
use Rattle.port_table.specs.Ports.{Ports}
use Rattle.lane_core.specs.Hear.{heard}
use Rattle.lane_core.specs.declared.step.Ended.{Ended as EndedMessage}
use Rattle.session_table.specs.declared.key.Key.{Key}
use Rattle.session_table.specs.declared.key.SessionKind.TheVariants as session
use Rattle.session_table.specs.declared.incoming.Incoming.{Incoming}
use Rattle.session_table.specs.Sessions.{state_at}
use Rattle.station_lanes.specs.LaneCalls.{step_at, outcome_of}
use Rattle.station_sessions.specs.Steps.{completes, size_of}
use Rattle.station_sessions.specs.Receiving.{Inbound, flow_at, received_by, wanted_by}
use Rattle.station_sessions.specs.Opening.{key_of, opening_received}
use Rattle.record_law.proofs.Openings.{opening_untold}
use Rattle.station_core.specs.Station.{Station, quietly}
use Rattle.station_core.specs.Taking as taking
use Rattle.station_core.specs.Taking.{cm_taken, wire_taken, meaning_taken, looks_at, taken, packet_kind}
use Rattle.segment_law.specs.Segment.{Segment, place_of, counted_repeat}
use Rattle.segment_law.specs.Calls.{Answer, no_place, at_place, at_station, takes, takes_by, repeats, repeats_by, looks, called, replied, events_of}
use Rattle.segment_law.specs.Readers.{frame_for, wanted_with, wanted, ports_given, given_by_take}
use Rattle.segment_law.specs.declared.refusal.Refusal.TheVariants as refusal
use Rattle.record_law.proofs.readers.Wanted.{packet_ports, dpo_ports}

outcome_ports : (from to : Address) (o : Option EndedMessage) → ports_given (outcome_of from to o) ≡ []
outcome_ports from to None = refl
outcome_ports from to (Some e) = refl

first_of : (b : Bool) (set : List ℕ) (size : ℕ) → cond b set [] ≡ (cond {A = List ℕ × ℕ} b (set, size) ([], 0)).0
first_of true set size = refl
first_of false set size = refl

module _ (ports : Ports) (key : Key) (now : ℕ) (m : Inbound) where
  in_session_ports : (o : Option (List ℕ × Incoming)) (k : Kind) (sequence : ℕ) (bytes : List ℕ) → ports_given (received_by o ports key (Packet k sequence bytes) true now m).events ≡ (wanted_by o (Packet k sequence bytes)).0
  in_session_ports None k sequence bytes = refl
  in_session_ports (Some v) k sequence bytes =
      packet_ports ports.station key v.0 m v.1 k sequence bytes (flow_at ports v.0) now ∙ first_of (completes v.1 (Packet k sequence bytes)) v.0 (size_of v.1)

  in_offset_ports : (o : Option (List ℕ × Incoming)) (packets offset pgn : ℕ) → ports_given (received_by o ports key (Cm (EtpDpo packets offset pgn)) true now m).events ≡ []
  in_offset_ports None packets offset pgn = refl
  in_offset_ports (Some v) packets offset pgn = dpo_ports ports.station key v.0 m v.1 packets offset pgn (flow_at ports v.0) now

module _ (st : Station) (now : ℕ) where
  lane_ports : (from : Address) (wire : Wire) → ports_given (outcome_of st.address from (step_at st.lanes from.0 (λ l. heard l wire now)).ended) ≡ []
  lane_ports from wire = outcome_ports st.address from (step_at st.lanes from.0 (λ l. heard l wire now)).ended

  opening_ports : (from : Address) (frame : CmFrame) → ports_given (opening_received st.address st.ports frame from true now st.sessions).events ≡ []
  opening_ports from frame = ap ports_given (opening_untold st.address st.ports from true now st.sessions frame)

  cm_ports : (frame : CmFrame) (from : Address) → ports_given (cm_taken st frame from true now).events ≡ []
  cm_ports (Rts size packets most pgn) from = opening_ports from (Rts size packets most pgn)
  cm_ports (Cts granted next pgn) from = lane_ports from (Cm (Cts granted next pgn))
  cm_ports (EndOfMsgAck size packets pgn) from = lane_ports from (Cm (EndOfMsgAck size packets pgn))
  cm_ports (Bam size packets pgn) from = opening_ports from (Bam size packets pgn)
  cm_ports (Abort reason pgn) from = lane_ports from (Cm (Abort reason pgn))
  cm_ports (EtpRts size pgn) from = opening_ports from (EtpRts size pgn)
  cm_ports (EtpCts granted next pgn) from = lane_ports from (Cm (EtpCts granted next pgn))
  cm_ports (EtpDpo packets offset pgn) from = in_offset_ports st.ports (key_of from session.Etp) now st.sessions (state_at st.sessions (key_of from session.Etp)) packets offset pgn
  cm_ports (EtpEoma size pgn) from = lane_ports from (Cm (EtpEoma size pgn))
  cm_ports (EtpAbort reason pgn) from = lane_ports from (Cm (EtpAbort reason pgn))

  pub wire_ports : (wire : Wire) (from to : Address) → ports_given (wire_taken st wire from to true now).events ≡ (taking.wire_wanted st wire from to).0
  wire_ports (Cm frame) from to = cm_ports frame from
  wire_ports (Packet k sequence bytes) from to = in_session_ports st.ports (key_of from (packet_kind k to)) now st.sessions (state_at st.sessions (key_of from (packet_kind k to))) k sequence bytes
  wire_ports (Request pgn) from to = refl
  wire_ports (Ack control address pgn) from to = refl

  meaning_ports : (o : Option (Wire × Address × Address)) → ports_given (meaning_taken st o true now).events ≡ (taking.meaning_wanted st o).0
  meaning_ports None = refl
  meaning_ports (Some m) = wire_ports m.0 m.1 m.2

  taken_ports : (f : CanFrame) → ports_given (taken st f true now).events ≡ (taking.wanted st f).0
  taken_ports f = by (looks_at st f)
    where
      by : (b : Bool) → ports_given (cond b (meaning_taken st (reading f) true now) (quietly st)).events ≡ (cond {A = List ℕ × ℕ} b (taking.meaning_wanted st (reading f)) ([], 0)).0
      by true = meaning_ports (reading f)
      by false = refl

-- ---- the calls

abbrev ports_of : Segment → Answer → List ℕ
ports_of seg x = ports_given (events_of (replied seg x).1)

module _ (seg : Segment) (i : ℕ) (st : Station) where
  frame_ports : (before : Segment) (f : CanFrame) → before.now ≡ seg.now → (b : Bool)
      → ports_of seg (cond b (Err refusal.TxFull) (looks before true i st f)) ≡ (cond {A = List ℕ × ℕ} b ([], 0) (taking.wanted st f)).0
  frame_ports before f clock true = refl
  frame_ports before f clock false = taken_ports st before.now f

  next_ports : (o : Option CanFrame) → ports_of seg (takes_by seg true i st o) ≡ (wanted_with (Some st) o).0
  next_ports None = refl
  next_ports (Some f) = frame_ports (record seg { bus = bus.released (bus.taken seg.bus i) }) f refl (no_place st)

  again_ports : (o : Option CanFrame) → ports_of seg (repeats_by seg true i st o) ≡ (wanted_with (Some st) o).0
  again_ports None = refl
  again_ports (Some f) = frame_ports (record seg { counts = counted_repeat seg.counts }) f refl (no_place st)

module _ (seg : Segment) where
  next_at : (p : Option ℕ) → ports_of seg (at_place seg p (takes seg true)) ≡ (elim p as (λ (_ : Option ℕ). List ℕ × ℕ) [ None ↦ ([], 0) | Some i ↦ wanted_with (elim p as (λ (_ : Option ℕ). Option Station) [ None ↦ None | Some j ↦ slice_get seg.stations j ]) (frame_for seg false i) ]).0
  next_at None = refl
  next_at (Some i) = by (slice_get seg.stations i)
    where
      by : (o : Option Station) → ports_of seg (at_station o (takes seg true i)) ≡ (wanted_with o (frame_for seg false i)).0
      by None = refl
      by (Some st) = next_ports seg i st (bus.next_frame seg.bus i)

  again_at : (p : Option ℕ) → ports_of seg (at_place seg p (repeats seg true)) ≡ (elim p as (λ (_ : Option ℕ). List ℕ × ℕ) [ None ↦ ([], 0) | Some i ↦ wanted_with (elim p as (λ (_ : Option ℕ). Option Station) [ None ↦ None | Some j ↦ slice_get seg.stations j ]) (frame_for seg true i) ]).0
  again_at None = refl
  again_at (Some i) = by (slice_get seg.stations i)
    where
      by : (o : Option Station) → ports_of seg (at_station o (repeats seg true i)) ≡ (wanted_with o (frame_for seg true i)).0
      by None = refl
      by (Some st) = again_ports seg i st (bus.frame_again seg.bus i)

pub wanted_is_given : (seg : Segment) (a : Address) (again : Bool) → (wanted seg a again).0 ≡ (given_by_take seg a again).0
unfolding called
wanted_is_given seg a true = sym (again_at seg (place_of seg a))
wanted_is_given seg a false = sym (next_at seg (place_of seg a))
