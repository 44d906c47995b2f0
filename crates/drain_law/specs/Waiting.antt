-- Messages that wait on a segment on which nothing is under way.
use Rattle.std.specs.Prelude.{◌≡◌, ℕ, Bool, true, false, ◌&&◌, not, nat_lt, if◌then◌else◌, List, [], ◌∷◌, ◌++◌, map, length, flat_map, None, IsTrue, ⊤}
use Rattle.std.specs.List.{range_with_len}
use Rattle.std.specs.FinMap as finmap
use Rattle.bus_frame.specs.Frames.{CanFrame}
use Rattle.pgn_ids.specs.declared.address.Address.{Address}
use Rattle.tp_wire.specs.Aborts.{connection_abort}
use Rattle.tp_wire.specs.Reason.{reason_byte}
use Rattle.tp_wire.specs.Rows.{written}
use Rattle.tp_wire.specs.declared.outcome.Outcome.TheVariants as outcome
use Rattle.tp_wire.specs.declared.reason.AbortReason.TheVariants.{Resources}
use Rattle.tp_wire.specs.declared.wire.Wire.TheVariants.{Cm}
use Rattle.port_table.specs.Ports.{is_any_paused}
use Rattle.originator.specs.Link.{request_to_send}
use Rattle.lane_core.specs.Lane.{Lane, kind_for}
use Rattle.lane_core.specs.declared.message.Pending.{Pending}
use Rattle.lane_core.specs.declared.place.UnderWay.TheVariants.{Nothing}
use Rattle.lane_core.specs.declared.probe.Standing.{Standing}
use Rattle.lane_core.specs.declared.probe.Standing.TheVariants.{Settled, InDoubt, Probing}
use Rattle.message_events.specs.declared.event.Event.{Event}
use Rattle.message_events.specs.declared.event.Event.TheVariants as event
use Rattle.segment_law.specs.Quiet.{quiet, given_by, is_at_rest, takers}
use Rattle.segment_law.specs.Segment.{Segment, has_station, station_at, lane_at}
use Rattle.segment_drain.specs.Chosen.{node}

-- its sender, its destination, and the message
abbrev pub Waiting : Type 0
Waiting = Address × Address × Pending

-- those of one lane, as they were sent
abbrev pub lane_messages : Segment → (from to : ℕ) → List Waiting
lane_messages seg from to = map (λ (m : Pending). (node from, node to, m)) (lane_at seg (node from) (node to)).pending

-- those of one station, by rising destination
abbrev pub station_messages : Segment → (from : ℕ) → List Waiting
station_messages seg from = flat_map (lane_messages seg from) (range_with_len 0 256)

-- all, by rising sender
abbrev pub messages_of : Segment → List Waiting
messages_of seg = flat_map (station_messages seg) (range_with_len 0 254)

-- a message that waits begins at once; a lane in doubt would ask first
abbrev pub BeginsAtOnce : Standing → List Pending → Type 0
BeginsAtOnce Settled messages = ⊤
BeginsAtOnce InDoubt [] = ⊤
BeginsAtOnce _ messages = ⊥

pub record IsReadyLane (lane : Lane) : Type 0 where
  pub under_way : lane.under_way ≡ Nothing
  pub standing : BeginsAtOnce lane.standing lane.pending

-- an open port of the destination takes the message
abbrev pub is_wanted : Segment → (to : Address) → Pending → Bool
is_wanted seg to m = nat_lt 0 (length (takers (station_at seg to) m))

-- the destination is a station, and no port of it that takes the message is paused
abbrev pub may_end : Segment → (to : Address) → Pending → Bool
may_end seg to m = has_station seg to && not (is_any_paused (station_at seg to).ports (takers (station_at seg to) m))

-- a message that no port takes leaves its lane in doubt, so it is the last there
abbrev pub IsLastOr : (wanted : Bool) → (more : List Pending) → Type 0
IsLastOr true more = ⊤
IsLastOr false [] = ⊤
IsLastOr false (m ∷ more) = ⊥

-- each message of a lane to the destination may end, and each but the last is wanted
abbrev pub MayEnd : Segment → (to : Address) → List Pending → Type 0
MayEnd seg to [] = ⊤
MayEnd seg to (m ∷ more) = (may_end seg to m ≡ true) × IsLastOr (is_wanted seg to m) more × MayEnd seg to more

-- nothing is under way: queues are empty, every frame is taken, no session is open, and each message that waits may begin and end
pub record IsReady (seg : Segment) : Type 0 where
  pub at_rest : IsTrue (is_at_rest seg)
  pub sessions : (a : Address) → (station_at seg a).sessions ≡ finmap.empty
  pub lanes : (s d : Address) → IsReadyLane (lane_at seg s d)
  pub messages : (s d : Address) → MayEnd seg d (lane_at seg s d).pending

-- an RTS, and the abort that refuses it, for want of resources (SAE J1939-21, connection abort reasons; ISO 11783-3)
abbrev pub refused_frames : Pending → (s d : Address) → List CanFrame
refused_frames m s d =
    written (Cm (request_to_send (kind_for (length m.bytes)) (length m.bytes) m.pgn)) s.0 d.0
    ∷ written (Cm (connection_abort (kind_for (length m.bytes)) (reason_byte Resources) m.pgn)) d.0 s.0
    ∷ []

-- the frames of a message that nothing disturbs
abbrev pub frames_of_one : Segment → Waiting → List CanFrame
frames_of_one seg w = if is_wanted seg w.1 w.2 then quiet w.2 w.0 w.1 else refused_frames w.2 w.0 w.1

-- it is given at each port of its destination that takes it, by rising number, and then acknowledged; or it is refused
abbrev pub events_of_one : Segment → Waiting → List Event
events_of_one seg w =
    if is_wanted seg w.1 w.2 then given_by (station_at seg w.1) w.2 w.0 w.1 ++ event.Outcome w.0 w.1 w.2.number outcome.Acknowledged ∷ []
    else event.Outcome w.0 w.1 w.2.number (outcome.Aborted (reason_byte Resources)) ∷ []

-- one message after another
abbrev pub frames_of : Segment → List Waiting → List CanFrame
frames_of seg messages = flat_map (frames_of_one seg) messages

abbrev pub events_of_all : Segment → List Waiting → List Event
events_of_all seg messages = flat_map (events_of_one seg) messages
