-- An example: two nodes on a bus of three frames, a message of nine bytes to all (SAE J1939-21, TP.CM_BAM).
use Rattle.std.proofs.Common.{◌≡◌, inl, inr, ℕ, true, cond, List, [], ◌∷◌, Option, Some, None, Ok, refl, ap, ◌∙◌, arith}
use Rattle.std.specs.Prelude.{◌-◌, is_some}
use Rattle.std.specs.FinMap as finmap
use Rattle.std.specs.FinMap.{get-empty, len-remove, len-empty}
use Rattle.std.specs.Option.{option_flatten}
use Rattle.std.specs.Ordering.{nat_cmp}
use Rattle.bus_frame.specs.Frames.{CanFrame}
use Rattle.pgn_ids.specs.declared.address.Address.{Address}
use Rattle.tp_wire.specs.Rows.{written}
use Rattle.tp_wire.specs.Reading.{reading, body_of, tp_cm_of, packet_of, is_transport}
use Rattle.tp_wire.specs.declared.outcome.Outcome.TheVariants as outcome
use Rattle.tp_wire.specs.declared.reason.AbortReason.{AbortReason}
use Rattle.tp_wire.specs.declared.wire.Kind.TheVariants.{Tp}
use Rattle.tp_wire.specs.declared.wire.Wire.{Wire}
use Rattle.tp_wire.specs.declared.wire.Wire.TheVariants.{Packet}
use Rattle.bam_session.specs.States.{announced}
use Rattle.bus_order.specs.Bus.{new_bus}
use Rattle.lane_core.specs.Lane.{Lane, new_lane, pushed}
use Rattle.lane_core.specs.Pump.{pumped}
use Rattle.message_events.specs.declared.event.Event.{Event}
use Rattle.message_events.specs.declared.event.Event.TheVariants as event
use Rattle.seg_cut.specs.Join.{Join, joined}
use Rattle.session_table.specs.Key.{key_cmp}
use Rattle.session_table.proofs.Keys.{key_total}
use Rattle.session_table.specs.declared.key.Key.{Key}
use Rattle.session_table.specs.declared.key.SessionKind.TheVariants as session
use Rattle.session_table.specs.declared.incoming.Incoming.{Incoming}
use Rattle.session_table.specs.declared.incoming.Incoming.TheVariants as incoming
use Rattle.station_lanes.specs.Lanes.{Lanes}
use Rattle.station_sessions.specs.Receiving.{Inbound, Reception, received, received_by}
use Rattle.station_sessions.specs.Opening.{key_of, others_than, whole_join, bam_received}
use Rattle.station_sessions.specs.Opening as opening_specs
use Rattle.station_core.specs.Station.{quietly, by_session}
use Rattle.station_core.specs.Station.{StationStep}
use Rattle.station_core.specs.Taking.{taken}
use Rattle.segment_law.specs.Segment.{new_segment, no_counts, counted}
use Rattle.segment_law.specs.Calls.{called, applied}
use Rattle.segment_law.specs.declared.call.Call.TheVariants.{Open, Send, Pump, Transmit, Take, Tick, Inject}
use Rattle.segment_law.specs.declared.counts.Counts.{Counts}
use Rattle.segment_law.specs.declared.reply.Reply.TheVariants.{Opened, Sent, Done}
use Rattle.one_station.specs.Node.{Node, new_node}
use Rattle.one_station.specs.declared.error.Fed.TheVariants.{Taken}
use Rattle.node_law.specs.Life.{Deed, Lives}
use Rattle.node_law.specs.Life.Deed.{Opens, Makes, Sends, Asks, Feeds, Puts, Takes}
use Rattle.node_law.specs.Nodes.{IsNodeOn, Met}
use Rattle.node_law.proofs.Doing.{makes_is, opens_is, sends_is, asks_is, puts_is, feeds_is}
use Rattle.node_law.proofs.Scene.{one, two, pgn, node, level, ahead, begun_with, frames_put, take_is, sender, lane_there, send_by, pump_is, HasNoneBefore, none_more, pumps_here, port, ports, hears, receiver, there_is}

abbrev all : Address
all = record { 0 = 255 }

abbrev bytes : List ℕ
bytes = 1 ∷ 2 ∷ 3 ∷ 4 ∷ 5 ∷ 6 ∷ 7 ∷ 8 ∷ 9 ∷ []

-- BAM, and two packets
abbrev bam : CanFrame
bam = record { id = 0x1CECFF01; bytes = 32 ∷ 9 ∷ 0 ∷ 2 ∷ 255 ∷ 202 ∷ 254 ∷ 0 ∷ [] }

abbrev dt_one : CanFrame
dt_one = record { id = 0x1CEBFF01; bytes = 1 ∷ 1 ∷ 2 ∷ 3 ∷ 4 ∷ 5 ∷ 6 ∷ 7 ∷ [] }

abbrev dt_two : CanFrame
dt_two = record { id = 0x1CEBFF01; bytes = 2 ∷ 8 ∷ 9 ∷ 255 ∷ 255 ∷ 255 ∷ 255 ∷ 255 ∷ [] }

abbrev wire_one : Wire
wire_one = Packet Tp 1 (1 ∷ 2 ∷ 3 ∷ 4 ∷ 5 ∷ 6 ∷ 7 ∷ [])

abbrev wire_two : Wire
wire_two = Packet Tp 2 (8 ∷ 9 ∷ 255 ∷ 255 ∷ 255 ∷ 255 ∷ 255 ∷ [])

-- The sender: its lane before each frame, and after the last

abbrev l0 : Lane
l0 = pushed (new_lane 1 255) pgn bytes

abbrev l1 : Lane
l1 = (pumped l0 0).0

abbrev l2 : Lane
l2 = (pumped l1 50).0

abbrev l3 : Lane
l3 = (pumped l2 100).0

abbrev lanes0 : Lanes
lanes0 = finmap.insert finmap.empty 255 l0

abbrev lanes1 : Lanes
lanes1 = finmap.insert lanes0 255 l1

abbrev lanes2 : Lanes
lanes2 = finmap.insert lanes1 255 l2

abbrev lanes3 : Lanes
lanes3 = finmap.insert lanes2 255 l3

sends_it : called (new_segment (one ∷ [])) (Send one all pgn bytes) ≡ Ok (sender 0 [] lanes0 (new_bus 1) no_counts, Sent 1)
unfolding called
sends_it = ap (send_by all bytes) (get-empty nat_cmp 255)

pumps_bam : applied (sender 0 [] lanes0 (new_bus 1) no_counts) (Pump one all) ≡ (sender 0 (bam ∷ []) lanes1 (new_bus 1) no_counts, Done [])
unfolding written
pumps_bam = pump_is all 0 lanes0 l0 (new_bus 1) no_counts refl (lane_there all finmap.empty l0) refl

puts_bam : applied (sender 0 (bam ∷ []) lanes1 (new_bus 1) no_counts) (Transmit one) ≡ (sender 0 [] lanes1 (begun_with bam) (frames_put 1), Done [])
unfolding called
puts_bam = refl

passes_bam : applied (sender 0 [] lanes1 (begun_with bam) (frames_put 1)) (Take one true) ≡ (sender 0 [] lanes1 (level 1 bam) (frames_put 1), Done [])
unfolding called
passes_bam = refl

waits_bam : called (sender 0 [] lanes1 (level 1 bam) (frames_put 1)) (Tick 50) ≡ Ok (sender 50 [] lanes1 (level 1 bam) (frames_put 1), Done [])
unfolding called
waits_bam = refl

pumps_one : applied (sender 50 [] lanes1 (level 1 bam) (frames_put 1)) (Pump one all) ≡ (sender 50 (dt_one ∷ []) lanes2 (level 1 bam) (frames_put 1), Done [])
unfolding written
pumps_one = pump_is all 50 lanes1 l1 (level 1 bam) (frames_put 1) refl (lane_there all lanes0 l1) refl

puts_one : applied (sender 50 (dt_one ∷ []) lanes2 (level 1 bam) (frames_put 1)) (Transmit one) ≡ (sender 50 [] lanes2 (ahead 1 bam dt_one) (frames_put 2), Done [])
unfolding called
puts_one = refl

passes_one : applied (sender 50 [] lanes2 (ahead 1 bam dt_one) (frames_put 2)) (Take one true) ≡ (sender 50 [] lanes2 (level 2 dt_one) (frames_put 2), Done [])
unfolding called
passes_one = refl

waits_one : called (sender 50 [] lanes2 (level 2 dt_one) (frames_put 2)) (Tick 50) ≡ Ok (sender 100 [] lanes2 (level 2 dt_one) (frames_put 2), Done [])
unfolding called
waits_one = refl

abbrev outcome_told : Event
outcome_told = event.Outcome one all 1 outcome.Broadcast

abbrev with_outcome : ℕ → Counts
with_outcome n = record no_counts { frames = n; broadcast = 1 }

pumps_two : applied (sender 100 [] lanes2 (level 2 dt_one) (frames_put 2)) (Pump one all) ≡ (sender 100 (dt_two ∷ []) lanes3 (level 2 dt_one) (with_outcome 2), Done (outcome_told ∷ []))
unfolding written
pumps_two = pump_is all 100 lanes2 l2 (level 2 dt_one) (frames_put 2) refl (lane_there all lanes1 l2) refl

puts_two : applied (sender 100 (dt_two ∷ []) lanes3 (level 2 dt_one) (with_outcome 2)) (Transmit one) ≡ (sender 100 [] lanes3 (ahead 2 dt_one dt_two) (with_outcome 3), Done [])
unfolding called
puts_two = refl

passes_two : applied (sender 100 [] lanes3 (ahead 2 dt_one dt_two) (with_outcome 3)) (Take one true) ≡ (sender 100 [] lanes3 (level 3 dt_two) (with_outcome 3), Done [])
unfolding called
passes_two = refl

-- The receiver

opens_it : called (new_segment (two ∷ [])) (Open two pgn 100) ≡ Ok (receiver [] finmap.empty (new_bus 1) no_counts, Opened port)
unfolding called
opens_it = refl

comes_bam : called (receiver [] finmap.empty (new_bus 1) no_counts) (Inject bam) ≡ Ok (receiver [] finmap.empty (begun_with bam) (frames_put 1), Done [])
unfolding called
comes_bam = refl

abbrev key : Key
key = key_of one session.Broadcast

abbrev value_at : Join → Option (List ℕ × Incoming)
value_at join = Some (1 ∷ [], incoming.Broadcast (announced 1 pgn join 0))

abbrev sessions_one : Inbound
sessions_one = finmap.insert finmap.empty key (value_at (whole_join 9))

no_others : others_than finmap.empty key ≡ 0
no_others = len-remove key_total finmap.empty key ∙ (λ k. cond (is_some (get-empty {X = Option (List ℕ × Incoming)} key_cmp key k)) (len-empty key_cmp (Option (List ℕ × Incoming)) k - 1) (len-empty key_cmp (Option (List ℕ × Incoming)) k))

opening : bam_received ports one 9 2 pgn true 0 finmap.empty ≡ record { sessions = sessions_one; frame = None; events = [] }
opening = ap (λ (n : ℕ). elim (opening_specs.refusal true true (1 ∷ []) n) as (λ (_ : Option AbortReason). Reception) [ None ↦ record { sessions = sessions_one; frame = None; events = [] } | Some reason ↦ record { sessions = finmap.remove finmap.empty key; frame = None; events = [] } ]) no_others

hears_bam : taken (hears [] finmap.empty) bam true 0 ≡ quietly (hears [] sessions_one)
unfolding reading body_of tp_cm_of
hears_bam = ap (λ (r : Reception). by_session (hears [] finmap.empty) r) opening

takes_bam : applied (receiver [] finmap.empty (begun_with bam) (frames_put 1)) (Take two true) ≡ (receiver [] sessions_one (level 1 bam) (frames_put 1), Done [])
unfolding reading body_of tp_cm_of is_transport
takes_bam =
    take_is (receiver [] finmap.empty (begun_with bam) (frames_put 1)) two 0 (hears [] finmap.empty) refl refl bam refl refl
    ∙ ap (λ (s : StationStep). (record { now = 0; stations = s.station ∷ []; bus = level 1 bam; counts = counted (frames_put 1) s.events }, Done s.events)) hears_bam

abbrev join_one : Join
join_one = joined (whole_join 9) (1 ∷ 2 ∷ 3 ∷ 4 ∷ 5 ∷ 6 ∷ 7 ∷ [])

abbrev sessions_two : Inbound
sessions_two = finmap.insert sessions_one key (value_at join_one)

comes_one : called (receiver [] sessions_one (level 1 bam) (frames_put 1)) (Inject dt_one) ≡ Ok (receiver [] sessions_one (ahead 1 bam dt_one) (frames_put 2), Done [])
unfolding called
comes_one = refl

going_on : received ports key wire_one true 0 sessions_one ≡ record { sessions = sessions_two; frame = None; events = [] }
going_on = ap (λ (o : Option (Option (List ℕ × Incoming))). received_by (option_flatten o) ports key wire_one true 0 sessions_one) (there_is key finmap.empty (value_at (whole_join 9)) refl)

hears_one : taken (hears [] sessions_one) dt_one true 0 ≡ quietly (hears [] sessions_two)
unfolding reading body_of packet_of
hears_one = ap (λ (r : Reception). by_session (hears [] sessions_one) r) going_on

takes_one : applied (receiver [] sessions_one (ahead 1 bam dt_one) (frames_put 2)) (Take two true) ≡ (receiver [] sessions_two (level 2 dt_one) (frames_put 2), Done [])
unfolding reading body_of packet_of is_transport
takes_one =
    take_is (receiver [] sessions_one (ahead 1 bam dt_one) (frames_put 2)) two 0 (hears [] sessions_one) refl refl dt_one refl refl
    ∙ ap (λ (s : StationStep). (record { now = 0; stations = s.station ∷ []; bus = level 2 dt_one; counts = counted (frames_put 2) s.events }, Done s.events)) hears_one

comes_two : called (receiver [] sessions_two (level 2 dt_one) (frames_put 2)) (Inject dt_two) ≡ Ok (receiver [] sessions_two (ahead 2 dt_one dt_two) (frames_put 3), Done [])
unfolding called
comes_two = refl

abbrev given_told : Event
given_told = event.Given port one all pgn bytes

abbrev sessions_three : Inbound
sessions_three = finmap.remove sessions_two key

concludes : received ports key wire_two true 0 sessions_two ≡ record { sessions = sessions_three; frame = None; events = given_told ∷ [] }
concludes = ap (λ (o : Option (Option (List ℕ × Incoming))). received_by (option_flatten o) ports key wire_two true 0 sessions_two) (there_is key sessions_one (value_at join_one) refl)

hears_two : taken (hears [] sessions_two) dt_two true 0 ≡ record { station = hears [] sessions_three; events = given_told ∷ [] }
unfolding reading body_of packet_of
hears_two = ap (λ (r : Reception). by_session (hears [] sessions_two) r) concludes

abbrev with_given : ℕ → Counts
with_given n = record no_counts { frames = n; given = 1 }

takes_two : applied (receiver [] sessions_two (ahead 2 dt_one dt_two) (frames_put 3)) (Take two true) ≡ (receiver [] sessions_three (level 3 dt_two) (with_given 3), Done (given_told ∷ []))
unfolding reading body_of packet_of is_transport
takes_two =
    take_is (receiver [] sessions_two (ahead 2 dt_one dt_two) (frames_put 3)) two 0 (hears [] sessions_two) refl refl dt_two refl refl
    ∙ ap (λ (s : StationStep). (record { now = 0; stations = s.station ∷ []; bus = level 3 dt_two; counts = counted (frames_put 3) s.events }, Done s.events)) hears_two

-- What the two programs do

none0 : HasNoneBefore all lanes0
none0 = none_more all finmap.empty l0 (λ k below. get-empty nat_cmp k)

none1 : HasNoneBefore all lanes1
none1 = none_more all lanes0 l1 none0

none2 : HasNoneBefore all lanes2
none2 = none_more all lanes1 l2 none1

-- the sender's node after each of its deeds
abbrev one_sent : Node
one_sent = node one (sender 0 [] lanes0 (new_bus 1) no_counts) []

abbrev one_asked : Node
one_asked = node one (sender 0 (bam ∷ []) lanes1 (new_bus 1) no_counts) []

abbrev one_begun : Node
one_begun = node one (sender 0 [] lanes1 (level 1 bam) (frames_put 1)) []

abbrev one_waited : Node
one_waited = node one (sender 50 [] lanes1 (level 1 bam) (frames_put 1)) []

abbrev one_queued : Node
one_queued = node one (sender 50 (dt_one ∷ []) lanes2 (level 1 bam) (frames_put 1)) []

abbrev one_half : Node
one_half = node one (sender 50 [] lanes2 (level 2 dt_one) (frames_put 2)) []

abbrev one_later : Node
one_later = node one (sender 100 [] lanes2 (level 2 dt_one) (frames_put 2)) []

abbrev one_last : Node
one_last = node one (sender 100 (dt_two ∷ []) lanes3 (level 2 dt_one) (with_outcome 2)) (outcome_told ∷ [])

abbrev one_whole : Node
one_whole = node one (sender 100 [] lanes3 (level 3 dt_two) (with_outcome 3)) (outcome_told ∷ [])

abbrev one_over : Node
one_over = node one (sender 100 [] lanes3 (level 3 dt_two) (with_outcome 3)) []

-- up to its third frame, and then
abbrev deeds_up_to : List Deed → List Deed
deeds_up_to deeds = Sends one all pgn bytes 1 ∷ Asks ∷ Puts bam ∷ Makes (Tick 50) ∷ Asks ∷ Puts dt_one ∷ Makes (Tick 50) ∷ Asks ∷ deeds

lives_up_to : (deeds : List Deed) (last : Node) → Lives one_last deeds last → Lives (new_node one) (deeds_up_to deeds) last
lives_up_to deeds last lives = (
  one_sent,
  sends_is (new_node one) all pgn bytes 1 one_sent.segment (omega arith) refl sends_it,
  (
    one_asked,
    asks_is one_sent all one_asked.segment [] refl (pumps_here all (omega arith) 0 lanes0 (new_bus 1) no_counts one_asked.segment [] none0 pumps_bam) refl pumps_bam,
    (
      one_begun,
      puts_is one_asked bam (sender 0 [] lanes1 (begun_with bam) (frames_put 1)) one_begun.segment refl refl puts_bam passes_bam,
      (
        one_waited,
        makes_is one_begun (Tick 50) one_waited.segment (Done []) refl refl waits_bam,
        (
          one_queued,
          asks_is one_waited all one_queued.segment [] refl (pumps_here all (omega arith) 50 lanes1 (level 1 bam) (frames_put 1) one_queued.segment [] none1 pumps_one) refl pumps_one,
          (
            one_half,
            puts_is one_queued dt_one (sender 50 [] lanes2 (ahead 1 bam dt_one) (frames_put 2)) one_half.segment refl refl puts_one passes_one,
            (
              one_later,
              makes_is one_half (Tick 50) one_later.segment (Done []) refl refl waits_one,
              (one_last, asks_is one_later all one_last.segment (outcome_told ∷ []) refl (pumps_here all (omega arith) 100 lanes2 (level 2 dt_one) (frames_put 2) one_last.segment (outcome_told ∷ []) none2 pumps_two) refl pumps_two, lives),
            ),
          ),
        ),
      ),
    ),
  ),
)

abbrev deeds_one : List Deed
deeds_one = deeds_up_to (Puts dt_two ∷ Takes outcome_told ∷ [])

first_life : Lives (new_node one) deeds_one one_over
first_life = lives_up_to (Puts dt_two ∷ Takes outcome_told ∷ []) one_over
    (one_whole, puts_is one_last dt_two (sender 100 [] lanes3 (ahead 2 dt_one dt_two) (with_outcome 3)) one_whole.segment refl refl puts_two passes_two, (one_over, (refl, refl), refl))

-- the receiver's
abbrev two_open : Node
two_open = node two (receiver [] finmap.empty (new_bus 1) no_counts) []

abbrev two_begun : Node
two_begun = node two (receiver [] sessions_one (level 1 bam) (frames_put 1)) []

abbrev two_half : Node
two_half = node two (receiver [] sessions_two (level 2 dt_one) (frames_put 2)) []

abbrev two_told : Node
two_told = node two (receiver [] sessions_three (level 3 dt_two) (with_given 3)) (given_told ∷ [])

abbrev two_over : Node
two_over = node two (receiver [] sessions_three (level 3 dt_two) (with_given 3)) []

abbrev deeds_two : List Deed
deeds_two = Opens pgn 100 port ∷ Feeds bam Taken ∷ Feeds dt_one Taken ∷ Feeds dt_two Taken ∷ Takes given_told ∷ []

second_life : Lives (new_node two) deeds_two two_over
second_life = (
  two_open,
  opens_is (new_node two) pgn 100 port two_open.segment refl opens_it,
  (
    two_begun,
    feeds_is two_open bam (receiver [] finmap.empty (begun_with bam) (frames_put 1)) two_begun.segment [] refl refl refl refl comes_bam takes_bam,
    (
      two_half,
      feeds_is two_begun dt_one (receiver [] sessions_one (ahead 1 bam dt_one) (frames_put 2)) two_half.segment [] refl refl refl refl comes_one takes_one,
      (two_told, feeds_is two_half dt_two (receiver [] sessions_two (ahead 2 dt_one dt_two) (frames_put 3)) two_told.segment (given_told ∷ []) refl refl refl refl comes_two takes_two, (two_over, (refl, refl), refl)),
    ),
  ),
)

abbrev carried : List CanFrame
carried = bam ∷ dt_one ∷ dt_two ∷ []

first_on_bus : IsNodeOn one deeds_one one_over carried
first_on_bus = record {
  address_fits = refl;
  quiet_until = 0;
  lives = first_life;
  before = [];
  since = carried;
  bus_is = refl;
  others = refl;
  carried = (dt_one ∷ dt_two ∷ [], refl, (dt_two ∷ [], refl, ([], refl, inl refl)));
}

second_on_bus : IsNodeOn two deeds_two two_over carried
second_on_bus = record {
  address_fits = refl;
  quiet_until = 0;
  lives = second_life;
  before = [];
  since = carried;
  bus_is = refl;
  others = refl;
  carried = inr (dt_one ∷ dt_two ∷ [], refl, inr (dt_two ∷ [], refl, inr ([], refl, inl refl)));
}

-- the sender wasn't told yet that its third frame was put
untold_on_bus : IsNodeOn one (deeds_up_to []) one_last carried
untold_on_bus = record {
  address_fits = refl;
  quiet_until = 0;
  lives = lives_up_to [] one_last refl;
  before = [];
  since = carried;
  bus_is = refl;
  others = refl;
  carried = (
    dt_one ∷ dt_two ∷ [],
    refl,
    (dt_two ∷ [], refl, inr (record { passed = []; frame = dt_two; behind = []; is = refl; others_passed = refl; others_behind = refl; next = refl; none_waits = refl; few = omega arith })),
  );
}

-- all premises hold, and the message was given at the port
pub met : Met 9 3 3 outcome.Broadcast
unfolding first_on_bus first_life lives_up_to second_on_bus second_life
met = record {
  s = one;
  d = two;
  to = all;
  deeds_s = deeds_one;
  deeds_d = deeds_two;
  last_s = one_over;
  last_d = two_over;
  bus = carried;
  message = (pgn, bytes);
  port = 1;
  apart = λ e. absurd (cc);
  frames = refl;
  few = omega arith;
  first = first_on_bus;
  second = second_on_bus;
  long = refl;
  so_many_put = refl;
  so_many_carried = refl;
  sent = refl;
  ended = refl;
  given = refl;
}

-- and so it is if the sender wasn't told yet
pub met_untold : Met 9 2 3 outcome.Broadcast
unfolding untold_on_bus lives_up_to second_on_bus second_life
met_untold = record {
  s = one;
  d = two;
  to = all;
  deeds_s = deeds_up_to [];
  deeds_d = deeds_two;
  last_s = one_last;
  last_d = two_over;
  bus = carried;
  message = (pgn, bytes);
  port = 1;
  apart = λ e. absurd (cc);
  frames = refl;
  few = omega arith;
  first = untold_on_bus;
  second = second_on_bus;
  long = refl;
  so_many_put = refl;
  so_many_carried = refl;
  sent = refl;
  ended = refl;
  given = refl;
}
