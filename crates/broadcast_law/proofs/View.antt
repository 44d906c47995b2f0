-- What the messages of one station to all show at another, and when a stream stands for it.
use Rattle.std.proofs.Common.{◌≡◌, ℕ, ◌+◌, ◌<◌, ◌≤◌, ◌^◌, List, [], ◌∷◌, ◌++◌, map, filter_map, length, take, Option, Some, None}
use Rattle.std.specs.Prelude.{option_to_list}
use Rattle.bus_frame.specs.Frames.{CanFrame}
use Rattle.pgn_ids.specs.Pgn.{clean}
use Rattle.pgn_ids.specs.declared.address.Address.{Address}
use Rattle.tp_wire.specs.declared.wire.Kind.TheVariants.{Tp}
use Rattle.tp_wire.specs.declared.wire.CmFrame.TheVariants.{Bam}
use Rattle.tp_wire.specs.declared.wire.Wire.{Wire}
use Rattle.tp_wire.specs.declared.wire.Wire.TheVariants.{Cm, Packet, Request}
use Rattle.seg_cut.specs.Packets.{packet_count}
use Rattle.bam_session.specs.States as bam
use Rattle.lane_core.specs.Lane.{Lane}
use Rattle.lane_core.specs.declared.message.Pending.{Pending}
use Rattle.lane_core.specs.declared.place.UnderWay.{UnderWay}
use Rattle.lane_core.specs.declared.place.UnderWay.TheVariants.{Nothing, Broadcast, Connection}
use Rattle.lane_core.specs.declared.probe.Standing.TheVariants.{Settled}
use Rattle.session_table.specs.declared.incoming.Incoming.{Incoming}
use Rattle.session_table.specs.declared.incoming.Incoming.TheVariants as incoming
use Rattle.segment_law.specs.Told as told
use Rattle.record_law.proofs.Lists.{Each}
use Rattle.lane_law.specs.Message.{Message, IsSent}
use Rattle.lane_law.specs.Frame.{Frame, Rts, Dpo, Packet as Data, Request as Asks, Place}
use Rattle.lane_law.specs.Session.{Session, Given}
use Rattle.lane_law.specs.Stream as stream
use Rattle.lane_law.specs.Stream.{Stream, StreamEvent}
use Rattle.broadcast_law.proofs.Carried.{carried}

-- the lane at the sender, the sender's queue, what is on the bus past the receiver's cursor, what it would take again, and
-- its session; and what was told so far
pub record View : Type 0 where
  pub lane : Lane
  pub queue : List CanFrame
  pub ahead : List CanFrame
  pub again : Option CanFrame
  pub session : Option Incoming
  pub sent : List told.Message
  pub given : List told.Message

-- the wire has no number
abbrev pub wire_of : Frame → Wire
wire_of (Rts n m) = Cm (Bam (length m.bytes) (packet_count (length m.bytes)) m.pgn)
wire_of (Data k b) = Packet Tp k b
wire_of (Dpo o) = Request 0
wire_of (Asks t) = Request 0

abbrev pub plain : Message → told.Message
plain m = (m.pgn, m.bytes)

abbrev pub cleaned : Given → told.Message
cleaned g = (clean g.message.pgn, g.message.bytes)

abbrev pub message : Pending → Message
message m = record { pgn = m.pgn; bytes = m.bytes }

-- The sender

pub record IsPending (above : ℕ) (m : Pending) (sent : List Message) : Type 0 where
  pub later : above < m.number
  pub was_sent : IsSent sent m.number (message m)
  pub long : 0 < length m.bytes
  pub pgn : m.pgn < 2 ^ 18

abbrev pub ArePending : ℕ → List Pending → List Message → Type 0
ArePending above [] sent = Unit {0}
ArePending above (m ∷ ms) sent = IsPending above m sent × ArePending m.number ms sent

pub record IsBroadcasting (s : ℕ) (b : bam.Outgoing) (m : Pending) (queued : Place) : Type 0 where
  pub from : b.from ≡ s
  pub len : b.len ≡ length m.bytes
  pub first : 0 < b.next
  pub last : b.next ≤ packet_count b.len
  pub number : queued.number ≡ m.number
  pub message : queued.message ≡ message m
  pub offset : queued.offset ≡ 0

abbrev pub IsUnderWay : ℕ → UnderWay → List Pending → Place → List Message → Type 0
IsUnderWay s Nothing pending queued sent = ArePending queued.number pending sent
IsUnderWay s (Broadcast b) [] queued sent = ⊥
IsUnderWay s (Broadcast b) (m ∷ ms) queued sent = IsBroadcasting s b m queued × ArePending m.number ms sent
IsUnderWay s (Connection o) pending queued sent = ⊥

pub record IsSender (s : ℕ) (lane : Lane) (queued : Place) (sent : List Message) : Type 0 where
  pub from : lane.from ≡ s
  pub to : lane.to ≡ 255
  pub count : lane.sent ≡ length sent
  pub last : queued.number ≤ length sent
  pub standing : lane.standing ≡ Settled
  pub under_way : IsUnderWay s lane.under_way lane.pending queued sent

-- The receiver

pub record IsSame (s : ℕ) (b : bam.Incoming) (x : Session) : Type 0 where
  pub from : b.from ≡ s
  pub pgn : b.pgn ≡ x.pgn
  pub size : b.join.size ≡ x.size
  pub next : b.join.next ≡ x.accepted + 1
  pub bytes : b.join.bytes ≡ take x.size x.collected
  pub offset : x.offset ≡ 0

abbrev pub IsHeard : ℕ → Option Incoming → Option Session → Type 0
IsHeard s None None = Unit {0}
IsHeard s None (Some x) = ⊥
IsHeard s (Some (incoming.Broadcast b)) None = ⊥
IsHeard s (Some (incoming.Broadcast b)) (Some x) = IsSame s b x
IsHeard s (Some (incoming.Connection t)) o = ⊥

abbrev pub IsClean : Message → Type 0
IsClean m = clean m.pgn ≡ m.pgn

-- all but the session
pub record Carries (s : Address) (v : View) (st : Stream) : Type 0 where
  pub reached : stream.IsReached st
  pub clean : Each IsClean st.sent
  pub sent : v.sent ≡ map plain st.sent
  pub given : v.given ≡ map cleaned st.given
  pub forward : filter_map (carried s) (v.ahead ++ v.queue) ≡ map wire_of st.forward
  pub again : filter_map (carried s) (option_to_list v.again) ≡ map wire_of st.again
  pub sender : IsSender s.0 v.lane st.queued st.sent

pub record Sim (s : Address) (v : View) (st : Stream) : Type 0 where
  pub carries : Carries s v st
  pub session : IsHeard s.0 v.session st.session

-- some stream stands for the view
abbrev pub Stands : Address → View → Type 0
Stands s v = (st : Stream) × Sim s v st

-- a stream goes on
abbrev pub GoesOn : Type 0
GoesOn = (st : Stream) (event : StreamEvent) → stream.IsReached st → stream.MayHappen event st → stream.IsReached (stream.after event st)
