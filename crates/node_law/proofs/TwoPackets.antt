-- An example: two nodes on a bus, a message of nine bytes in two packets by a connection, with its acknowledgement (SAE J1939-21, TP.CM_RTS).
use Rattle.std.proofs.Common.{◌≡◌, inl, inr, ℕ, true, cond, List, [], ◌∷◌, Option, Some, None, Ok, refl, ap, ◌∙◌, arith}
use Rattle.std.specs.Prelude.{◌-◌, is_some}
use Rattle.std.specs.FinMap as finmap
use Rattle.std.specs.FinMap.{get-empty, len-remove, len-empty}
use Rattle.std.specs.Option.{option_flatten}
use Rattle.std.specs.Ordering.{nat_cmp}
use Rattle.bus_frame.specs.Frames.{CanFrame}
use Rattle.tp_wire.specs.Reason.{reason_byte}
use Rattle.tp_wire.specs.Rows.{written}
use Rattle.tp_wire.specs.Reading.{reading, body_of, tp_cm_of, packet_of, is_transport}
use Rattle.tp_wire.specs.declared.outcome.Outcome.TheVariants as outcome
use Rattle.tp_wire.specs.declared.reason.AbortReason.{AbortReason}
use Rattle.tp_wire.specs.declared.wire.CmFrame.TheVariants.{Rts, Cts, EndOfMsgAck}
use Rattle.tp_wire.specs.declared.wire.Kind.TheVariants.{Tp}
use Rattle.tp_wire.specs.declared.wire.Wire.{Wire}
use Rattle.tp_wire.specs.declared.wire.Wire.TheVariants.{Cm, Packet}
use Rattle.responder.specs.Answers.{abort_frame}
use Rattle.responder.specs.Asking.{asking}
use Rattle.responder.specs.Room.{first_join, prepared}
use Rattle.responder.specs.Steps as session_steps
use Rattle.responder.specs.Unfinished.{Unfinished, begun}
use Rattle.responder.specs.Window.{most_of}
use Rattle.responder.specs.declared.flow.Flow.{Flow}
use Rattle.responder.specs.declared.received.Received.{Received}
use Rattle.responder.specs.declared.received.Received.TheVariants.{On, Complete, Ended}
use Rattle.responder.specs.declared.in_state.InState.{InState}
use Rattle.bus_order.specs.Bus.{new_bus}
use Rattle.lane_core.specs.Hear.{heard}
use Rattle.lane_core.specs.Lane.{Lane, new_lane, pushed}
use Rattle.lane_core.specs.Pump.{pumped}
use Rattle.message_events.specs.declared.event.Event.{Event}
use Rattle.message_events.specs.declared.event.Event.TheVariants as event
use Rattle.session_table.specs.Key.{key_cmp}
use Rattle.session_table.proofs.Keys.{key_total}
use Rattle.session_table.specs.declared.key.Key.{Key}
use Rattle.session_table.specs.declared.key.SessionKind.TheVariants as session
use Rattle.session_table.specs.declared.incoming.Incoming.{Incoming}
use Rattle.session_table.specs.declared.incoming.Incoming.TheVariants as incoming
use Rattle.station_lanes.specs.Lanes.{Lanes}
use Rattle.station_sessions.specs.Receiving.{Inbound, Reception, received, received_by, flow_at, ended_at}
use Rattle.station_sessions.specs.Opening.{key_of, others_than, opening_received, connection_opened, peer_of}
use Rattle.station_sessions.specs.Opening as opening_specs
use Rattle.station_core.specs.Station.{StationStep, quietly, by_session}
use Rattle.station_core.specs.Taking.{taken}
use Rattle.segment_law.specs.Segment.{new_segment, no_counts, counted}
use Rattle.segment_law.specs.Calls.{called, applied}
use Rattle.segment_law.specs.declared.call.Call.TheVariants.{Open, Send, Pump, Transmit, Take, Inject}
use Rattle.segment_law.specs.declared.counts.Counts.{Counts}
use Rattle.segment_law.specs.declared.reply.Reply.TheVariants.{Opened, Sent, Done}
use Rattle.one_station.specs.Node.{Node, new_node}
use Rattle.one_station.specs.declared.error.Fed.TheVariants.{Taken}
use Rattle.node_law.specs.Life.{Deed, Lives}
use Rattle.node_law.specs.Life.Deed.{Opens, Sends, Asks, Feeds, Puts, Takes}
use Rattle.node_law.specs.Nodes.{IsNodeOn, Met}
use Rattle.node_law.proofs.Doing.{opens_is, sends_is, asks_is, puts_is, feeds_is}
use Rattle.node_law.proofs.Scene.{one, two, pgn, node, level, ahead, begun_with, frames_put, take_is, sends, sender, lane_there, send_by, stepped_by, by_lane_is, pump_is, HasNoneBefore, none_more, pumps_here, port, ports, hears, receiver, there_is}

abbrev bytes : List ℕ
bytes = 1 ∷ 2 ∷ 3 ∷ 4 ∷ 5 ∷ 6 ∷ 7 ∷ 8 ∷ 9 ∷ []

-- RTS, CTS, the packets, and the end of message acknowledgement
abbrev rts : CanFrame
rts = record { id = 0x1CEC0201; bytes = 16 ∷ 9 ∷ 0 ∷ 2 ∷ 255 ∷ 202 ∷ 254 ∷ 0 ∷ [] }

abbrev cts : CanFrame
cts = record { id = 0x1CEC0102; bytes = 17 ∷ 2 ∷ 1 ∷ 255 ∷ 255 ∷ 202 ∷ 254 ∷ 0 ∷ [] }

abbrev dt_one : CanFrame
dt_one = record { id = 0x1CEB0201; bytes = 1 ∷ 1 ∷ 2 ∷ 3 ∷ 4 ∷ 5 ∷ 6 ∷ 7 ∷ [] }

abbrev dt_two : CanFrame
dt_two = record { id = 0x1CEB0201; bytes = 2 ∷ 8 ∷ 9 ∷ 255 ∷ 255 ∷ 255 ∷ 255 ∷ 255 ∷ [] }

abbrev eoma : CanFrame
eoma = record { id = 0x1CEC0102; bytes = 19 ∷ 9 ∷ 0 ∷ 2 ∷ 255 ∷ 202 ∷ 254 ∷ 0 ∷ [] }

abbrev cts_wire : Wire
cts_wire = Cm (Cts 2 1 pgn)

abbrev eoma_wire : Wire
eoma_wire = Cm (EndOfMsgAck 9 2 pgn)

abbrev wire_one : Wire
wire_one = Packet Tp 1 (1 ∷ 2 ∷ 3 ∷ 4 ∷ 5 ∷ 6 ∷ 7 ∷ [])

abbrev wire_two : Wire
wire_two = Packet Tp 2 (8 ∷ 9 ∷ 255 ∷ 255 ∷ 255 ∷ 255 ∷ 255 ∷ [])

-- The sender: its lane before it begins, and after each step

abbrev l0 : Lane
l0 = pushed (new_lane 1 2) pgn bytes

abbrev l1 : Lane
l1 = (pumped l0 0).0

abbrev l2 : Lane
l2 = (heard l1 cts_wire 0).0

abbrev l3 : Lane
l3 = (pumped l2 0).0

abbrev l4 : Lane
l4 = (heard l3 eoma_wire 0).0

abbrev lanes0 : Lanes
lanes0 = finmap.insert finmap.empty 2 l0

abbrev lanes1 : Lanes
lanes1 = finmap.insert lanes0 2 l1

abbrev lanes2 : Lanes
lanes2 = finmap.insert lanes1 2 l2

abbrev lanes3 : Lanes
lanes3 = finmap.insert lanes2 2 l3

abbrev lanes4 : Lanes
lanes4 = finmap.insert lanes3 2 l4

sends_it : called (new_segment (one ∷ [])) (Send one two pgn bytes) ≡ Ok (sender 0 [] lanes0 (new_bus 1) no_counts, Sent 1)
unfolding called
sends_it = ap (send_by two bytes) (get-empty nat_cmp 2)

pumps_rts : applied (sender 0 [] lanes0 (new_bus 1) no_counts) (Pump one two) ≡ (sender 0 (rts ∷ []) lanes1 (new_bus 1) no_counts, Done [])
unfolding written
pumps_rts = pump_is two 0 lanes0 l0 (new_bus 1) no_counts refl (lane_there two finmap.empty l0) refl

puts_rts : applied (sender 0 (rts ∷ []) lanes1 (new_bus 1) no_counts) (Transmit one) ≡ (sender 0 [] lanes1 (begun_with rts) (frames_put 1), Done [])
unfolding called
puts_rts = refl

passes_rts : applied (sender 0 [] lanes1 (begun_with rts) (frames_put 1)) (Take one true) ≡ (sender 0 [] lanes1 (level 1 rts) (frames_put 1), Done [])
unfolding called
passes_rts = refl

comes_cts : called (sender 0 [] lanes1 (level 1 rts) (frames_put 1)) (Inject cts) ≡ Ok (sender 0 [] lanes1 (ahead 1 rts cts) (frames_put 2), Done [])
unfolding called
comes_cts = refl

hears_cts : taken (sends [] lanes1) cts true 0 ≡ stepped_by two [] lanes1 (heard l1 cts_wire 0)
unfolding reading body_of tp_cm_of
hears_cts = by_lane_is two [] lanes1 l1 (λ x. heard x cts_wire 0) (lane_there two lanes0 l1)

takes_cts : applied (sender 0 [] lanes1 (ahead 1 rts cts) (frames_put 2)) (Take one true) ≡ (sender 0 [] lanes2 (level 2 cts) (frames_put 2), Done [])
unfolding reading body_of tp_cm_of is_transport
takes_cts =
    take_is (sender 0 [] lanes1 (ahead 1 rts cts) (frames_put 2)) one 0 (sends [] lanes1) refl refl cts refl refl
    ∙ ap (λ (s : StationStep). (record { now = 0; stations = s.station ∷ []; bus = level 2 cts; counts = counted (frames_put 2) s.events }, Done s.events)) hears_cts

pumps_packets : applied (sender 0 [] lanes2 (level 2 cts) (frames_put 2)) (Pump one two) ≡ (sender 0 (dt_one ∷ dt_two ∷ []) lanes3 (level 2 cts) (frames_put 2), Done [])
unfolding written
pumps_packets = pump_is two 0 lanes2 l2 (level 2 cts) (frames_put 2) refl (lane_there two lanes1 l2) refl

puts_one : applied (sender 0 (dt_one ∷ dt_two ∷ []) lanes3 (level 2 cts) (frames_put 2)) (Transmit one) ≡ (sender 0 (dt_two ∷ []) lanes3 (ahead 2 cts dt_one) (frames_put 3), Done [])
unfolding called
puts_one = refl

passes_one : applied (sender 0 (dt_two ∷ []) lanes3 (ahead 2 cts dt_one) (frames_put 3)) (Take one true) ≡ (sender 0 (dt_two ∷ []) lanes3 (level 3 dt_one) (frames_put 3), Done [])
unfolding called
passes_one = refl

puts_two : applied (sender 0 (dt_two ∷ []) lanes3 (level 3 dt_one) (frames_put 3)) (Transmit one) ≡ (sender 0 [] lanes3 (ahead 3 dt_one dt_two) (frames_put 4), Done [])
unfolding called
puts_two = refl

passes_two : applied (sender 0 [] lanes3 (ahead 3 dt_one dt_two) (frames_put 4)) (Take one true) ≡ (sender 0 [] lanes3 (level 4 dt_two) (frames_put 4), Done [])
unfolding called
passes_two = refl

comes_eoma : called (sender 0 [] lanes3 (level 4 dt_two) (frames_put 4)) (Inject eoma) ≡ Ok (sender 0 [] lanes3 (ahead 4 dt_two eoma) (frames_put 5), Done [])
unfolding called
comes_eoma = refl

hears_eoma : taken (sends [] lanes3) eoma true 0 ≡ stepped_by two [] lanes3 (heard l3 eoma_wire 0)
unfolding reading body_of tp_cm_of
hears_eoma = by_lane_is two [] lanes3 l3 (λ x. heard x eoma_wire 0) (lane_there two lanes2 l3)

abbrev outcome_told : Event
outcome_told = event.Outcome one two 1 outcome.Acknowledged

abbrev with_outcome : Counts
with_outcome = record no_counts { frames = 5; acknowledged = 1 }

takes_eoma : applied (sender 0 [] lanes3 (ahead 4 dt_two eoma) (frames_put 5)) (Take one true) ≡ (sender 0 [] lanes4 (level 5 eoma) with_outcome, Done (outcome_told ∷ []))
unfolding reading body_of tp_cm_of is_transport
takes_eoma =
    take_is (sender 0 [] lanes3 (ahead 4 dt_two eoma) (frames_put 5)) one 0 (sends [] lanes3) refl refl eoma refl refl
    ∙ ap (λ (s : StationStep). (record { now = 0; stations = s.station ∷ []; bus = level 5 eoma; counts = counted (frames_put 5) s.events }, Done s.events)) hears_eoma

-- The receiver: what stands in its table before each packet, and after the last

abbrev key : Key
key = key_of one session.Tp

abbrev flow : Flow
flow = flow_at ports (1 ∷ [])

abbrev message : Unfinished
message = begun Tp (peer_of two one pgn) (most_of Tp 255) (first_join Tp 9 flow)

abbrev awaits_one : InState
awaits_one = asking message flow 0

abbrev next_state : Received → InState
next_state (On s frame) = s
next_state (Complete m) = awaits_one
next_state (Ended frame) = awaits_one

abbrev awaits_two : InState
awaits_two = next_state (session_steps.stepped (prepared awaits_one wire_one true flow) wire_one true flow 0)

abbrev opened : Reception
opened = connection_opened ports key (1 ∷ []) Tp (peer_of two one pgn) 9 (most_of Tp 255) 0 finmap.empty

abbrev sessions_one : Inbound
sessions_one = opened.sessions

abbrev received_one : Reception
received_one = received_by (Some (1 ∷ [], incoming.Connection awaits_one)) ports key wire_one true 0 sessions_one

abbrev sessions_two : Inbound
sessions_two = received_one.sessions

abbrev received_two : Reception
received_two = received_by (Some (1 ∷ [], incoming.Connection awaits_two)) ports key wire_two true 0 sessions_two

abbrev sessions_over : Inbound
sessions_over = finmap.remove sessions_two key

opens_it : called (new_segment (two ∷ [])) (Open two pgn 100) ≡ Ok (receiver [] finmap.empty (new_bus 1) no_counts, Opened port)
unfolding called
opens_it = refl

comes_rts : called (receiver [] finmap.empty (new_bus 1) no_counts) (Inject rts) ≡ Ok (receiver [] finmap.empty (begun_with rts) (frames_put 1), Done [])
unfolding called
comes_rts = refl

no_others : others_than finmap.empty key ≡ 0
no_others = len-remove key_total finmap.empty key ∙ (λ k. cond (is_some (get-empty {X = Option (List ℕ × Incoming)} key_cmp key k)) (len-empty key_cmp (Option (List ℕ × Incoming)) k - 1) (len-empty key_cmp (Option (List ℕ × Incoming)) k))

opening : opening_received two ports (Rts 9 2 255 pgn) one true 0 finmap.empty ≡ opened
opening = ap (λ (n : ℕ). elim (opening_specs.refusal true true (1 ∷ []) n) as (λ (_ : Option AbortReason). Reception) [ None ↦ opened | Some reason ↦ ended_at key finmap.empty (Some (abort_frame Tp (peer_of two one pgn) (reason_byte reason))) ]) no_others

hears_rts : taken (hears [] finmap.empty) rts true 0 ≡ quietly (hears (cts ∷ []) sessions_one)
unfolding reading body_of tp_cm_of written
hears_rts = ap (λ (r : Reception). by_session (hears [] finmap.empty) r) opening

takes_rts : applied (receiver [] finmap.empty (begun_with rts) (frames_put 1)) (Take two true) ≡ (receiver (cts ∷ []) sessions_one (level 1 rts) (frames_put 1), Done [])
unfolding reading body_of tp_cm_of is_transport
takes_rts =
    take_is (receiver [] finmap.empty (begun_with rts) (frames_put 1)) two 0 (hears [] finmap.empty) refl refl rts refl refl
    ∙ ap (λ (s : StationStep). (record { now = 0; stations = s.station ∷ []; bus = level 1 rts; counts = counted (frames_put 1) s.events }, Done s.events)) hears_rts

puts_cts : applied (receiver (cts ∷ []) sessions_one (level 1 rts) (frames_put 1)) (Transmit two) ≡ (receiver [] sessions_one (ahead 1 rts cts) (frames_put 2), Done [])
unfolding called
puts_cts = refl

passes_cts : applied (receiver [] sessions_one (ahead 1 rts cts) (frames_put 2)) (Take two true) ≡ (receiver [] sessions_one (level 2 cts) (frames_put 2), Done [])
unfolding called
passes_cts = refl

-- what stands there is received by
hears_by : (m : Inbound) (s : InState) (wire : Wire) (sessions : Inbound) → sessions ≡ finmap.insert m key (Some (1 ∷ [], incoming.Connection s)) → received ports key wire true 0 sessions ≡ received_by (Some (1 ∷ [], incoming.Connection s)) ports key wire true 0 sessions
hears_by m s wire sessions e = ap (λ (o : Option (Option (List ℕ × Incoming))). received_by (option_flatten o) ports key wire true 0 sessions) (ap (λ (t : Inbound). finmap.get t key) e ∙ there_is key m (Some (1 ∷ [], incoming.Connection s)) refl)

comes_one : called (receiver [] sessions_one (level 2 cts) (frames_put 2)) (Inject dt_one) ≡ Ok (receiver [] sessions_one (ahead 2 cts dt_one) (frames_put 3), Done [])
unfolding called
comes_one = refl

hears_one : taken (hears [] sessions_one) dt_one true 0 ≡ quietly (hears [] sessions_two)
unfolding reading body_of packet_of
hears_one = ap (λ (r : Reception). by_session (hears [] sessions_one) r) (hears_by finmap.empty awaits_one wire_one sessions_one refl)

takes_one : applied (receiver [] sessions_one (ahead 2 cts dt_one) (frames_put 3)) (Take two true) ≡ (receiver [] sessions_two (level 3 dt_one) (frames_put 3), Done [])
unfolding reading body_of packet_of is_transport
takes_one =
    take_is (receiver [] sessions_one (ahead 2 cts dt_one) (frames_put 3)) two 0 (hears [] sessions_one) refl refl dt_one refl refl
    ∙ ap (λ (s : StationStep). (record { now = 0; stations = s.station ∷ []; bus = level 3 dt_one; counts = counted (frames_put 3) s.events }, Done s.events)) hears_one

comes_two : called (receiver [] sessions_two (level 3 dt_one) (frames_put 3)) (Inject dt_two) ≡ Ok (receiver [] sessions_two (ahead 3 dt_one dt_two) (frames_put 4), Done [])
unfolding called
comes_two = refl

abbrev given_told : Event
given_told = event.Given port one two pgn bytes

abbrev with_given : ℕ → Counts
with_given n = record no_counts { frames = n; given = 1 }

hears_two : taken (hears [] sessions_two) dt_two true 0 ≡ record { station = hears (eoma ∷ []) sessions_over; events = given_told ∷ [] }
unfolding reading body_of packet_of written
hears_two = ap (λ (r : Reception). by_session (hears [] sessions_two) r) (hears_by sessions_one awaits_two wire_two sessions_two refl)

takes_two : applied (receiver [] sessions_two (ahead 3 dt_one dt_two) (frames_put 4)) (Take two true) ≡ (receiver (eoma ∷ []) sessions_over (level 4 dt_two) (with_given 4), Done (given_told ∷ []))
unfolding reading body_of packet_of is_transport
takes_two =
    take_is (receiver [] sessions_two (ahead 3 dt_one dt_two) (frames_put 4)) two 0 (hears [] sessions_two) refl refl dt_two refl refl
    ∙ ap (λ (s : StationStep). (record { now = 0; stations = s.station ∷ []; bus = level 4 dt_two; counts = counted (frames_put 4) s.events }, Done s.events)) hears_two

puts_eoma : applied (receiver (eoma ∷ []) sessions_over (level 4 dt_two) (with_given 4)) (Transmit two) ≡ (receiver [] sessions_over (ahead 4 dt_two eoma) (with_given 5), Done [])
unfolding called
puts_eoma = refl

passes_eoma : applied (receiver [] sessions_over (ahead 4 dt_two eoma) (with_given 5)) (Take two true) ≡ (receiver [] sessions_over (level 5 eoma) (with_given 5), Done [])
unfolding called
passes_eoma = refl

-- What the two programs do

none0 : HasNoneBefore two lanes0
none0 = none_more two finmap.empty l0 (λ k below. get-empty nat_cmp k)

none2 : HasNoneBefore two lanes2
none2 = none_more two lanes1 l2 (none_more two lanes0 l1 none0)

-- the sender's node after each of its deeds
abbrev one_sent : Node
one_sent = node one (sender 0 [] lanes0 (new_bus 1) no_counts) []

abbrev one_asked : Node
one_asked = node one (sender 0 (rts ∷ []) lanes1 (new_bus 1) no_counts) []

abbrev one_begun : Node
one_begun = node one (sender 0 [] lanes1 (level 1 rts) (frames_put 1)) []

abbrev one_granted : Node
one_granted = node one (sender 0 [] lanes2 (level 2 cts) (frames_put 2)) []

abbrev one_queued : Node
one_queued = node one (sender 0 (dt_one ∷ dt_two ∷ []) lanes3 (level 2 cts) (frames_put 2)) []

abbrev one_put_one : Node
one_put_one = node one (sender 0 (dt_two ∷ []) lanes3 (level 3 dt_one) (frames_put 3)) []

abbrev one_put_two : Node
one_put_two = node one (sender 0 [] lanes3 (level 4 dt_two) (frames_put 4)) []

abbrev one_told : Node
one_told = node one (sender 0 [] lanes4 (level 5 eoma) with_outcome) (outcome_told ∷ [])

abbrev one_over : Node
one_over = node one (sender 0 [] lanes4 (level 5 eoma) with_outcome) []

abbrev deeds_one : List Deed
deeds_one = Sends one two pgn bytes 1 ∷ Asks ∷ Puts rts ∷ Feeds cts Taken ∷ Asks ∷ Puts dt_one ∷ Puts dt_two ∷ Feeds eoma Taken ∷ Takes outcome_told ∷ []

first_life : Lives (new_node one) deeds_one one_over
first_life = (one_sent, sends_is (new_node one) two pgn bytes 1 one_sent.segment (omega arith) refl sends_it, (one_asked, asks_is one_sent two one_asked.segment [] refl (pumps_here two (omega arith) 0 lanes0 (new_bus 1) no_counts one_asked.segment [] none0 pumps_rts) refl pumps_rts, (one_begun, puts_is one_asked rts (sender 0 [] lanes1 (begun_with rts) (frames_put 1)) one_begun.segment refl refl puts_rts passes_rts, (one_granted, feeds_is one_begun cts (sender 0 [] lanes1 (ahead 1 rts cts) (frames_put 2)) one_granted.segment [] refl refl refl refl comes_cts takes_cts, (one_queued, asks_is one_granted two one_queued.segment [] refl (pumps_here two (omega arith) 0 lanes2 (level 2 cts) (frames_put 2) one_queued.segment [] none2 pumps_packets) refl pumps_packets, (one_put_one, puts_is one_queued dt_one (sender 0 (dt_two ∷ []) lanes3 (ahead 2 cts dt_one) (frames_put 3)) one_put_one.segment refl refl puts_one passes_one, (one_put_two, puts_is one_put_one dt_two (sender 0 [] lanes3 (ahead 3 dt_one dt_two) (frames_put 4)) one_put_two.segment refl refl puts_two passes_two, (one_told, feeds_is one_put_two eoma (sender 0 [] lanes3 (ahead 4 dt_two eoma) (frames_put 5)) one_told.segment (outcome_told ∷ []) refl refl refl refl comes_eoma takes_eoma, (one_over, (refl, refl), refl)))))))))

-- and the receiver's
abbrev two_open : Node
two_open = node two (receiver [] finmap.empty (new_bus 1) no_counts) []

abbrev two_asked : Node
two_asked = node two (receiver (cts ∷ []) sessions_one (level 1 rts) (frames_put 1)) []

abbrev two_granted : Node
two_granted = node two (receiver [] sessions_one (level 2 cts) (frames_put 2)) []

abbrev two_has_one : Node
two_has_one = node two (receiver [] sessions_two (level 3 dt_one) (frames_put 3)) []

abbrev two_given : Node
two_given = node two (receiver (eoma ∷ []) sessions_over (level 4 dt_two) (with_given 4)) (given_told ∷ [])

abbrev two_told : Node
two_told = node two (receiver [] sessions_over (level 5 eoma) (with_given 5)) (given_told ∷ [])

abbrev two_over : Node
two_over = node two (receiver [] sessions_over (level 5 eoma) (with_given 5)) []

abbrev deeds_two : List Deed
deeds_two = Opens pgn 100 port ∷ Feeds rts Taken ∷ Puts cts ∷ Feeds dt_one Taken ∷ Feeds dt_two Taken ∷ Puts eoma ∷ Takes given_told ∷ []

second_life : Lives (new_node two) deeds_two two_over
second_life = (two_open, opens_is (new_node two) pgn 100 port two_open.segment refl opens_it, (two_asked, feeds_is two_open rts (receiver [] finmap.empty (begun_with rts) (frames_put 1)) two_asked.segment [] refl refl refl refl comes_rts takes_rts, (two_granted, puts_is two_asked cts (receiver [] sessions_one (ahead 1 rts cts) (frames_put 2)) two_granted.segment refl refl puts_cts passes_cts, (two_has_one, feeds_is two_granted dt_one (receiver [] sessions_one (ahead 2 cts dt_one) (frames_put 3)) two_has_one.segment [] refl refl refl refl comes_one takes_one, (two_given, feeds_is two_has_one dt_two (receiver [] sessions_two (ahead 3 dt_one dt_two) (frames_put 4)) two_given.segment (given_told ∷ []) refl refl refl refl comes_two takes_two, (two_told, puts_is two_given eoma (receiver [] sessions_over (ahead 4 dt_two eoma) (with_given 5)) two_told.segment refl refl puts_eoma passes_eoma, (two_over, (refl, refl), refl)))))))

abbrev carried : List CanFrame
carried = rts ∷ cts ∷ dt_one ∷ dt_two ∷ eoma ∷ []

first_on_bus : IsNodeOn one deeds_one one_over carried
first_on_bus = record {
  address_fits = refl;
  quiet_until = 0;
  lives = first_life;
  before = [];
  since = carried;
  bus_is = refl;
  others = refl;
  carried = (cts ∷ dt_one ∷ dt_two ∷ eoma ∷ [], refl, inr (dt_one ∷ dt_two ∷ eoma ∷ [], refl, (dt_two ∷ eoma ∷ [], refl, (eoma ∷ [], refl, inr ([], refl, inl refl)))));
}

second_on_bus : IsNodeOn two deeds_two two_over carried
second_on_bus = record {
  address_fits = refl;
  quiet_until = 0;
  lives = second_life;
  before = [];
  since = carried;
  bus_is = refl;
  others = refl;
  carried = inr (cts ∷ dt_one ∷ dt_two ∷ eoma ∷ [], refl, (dt_one ∷ dt_two ∷ eoma ∷ [], refl, inr (dt_two ∷ eoma ∷ [], refl, inr (eoma ∷ [], refl, ([], refl, inl refl)))));
}

-- all premises hold, the sender was told that the message was acknowledged, and it was given at the port
pub met : Met 9 3 5 outcome.Acknowledged
unfolding first_on_bus first_life second_on_bus second_life
met = record {
  s = one;
  d = two;
  to = two;
  deeds_s = deeds_one;
  deeds_d = deeds_two;
  last_s = one_over;
  last_d = two_over;
  bus = carried;
  message = (pgn, bytes);
  port = 1;
  apart = λ e. absurd (cc);
  frames = refl;
  few = omega arith;
  first = first_on_bus;
  second = second_on_bus;
  long = refl;
  so_many_put = refl;
  so_many_carried = refl;
  sent = refl;
  ended = refl;
  given = refl;
}
