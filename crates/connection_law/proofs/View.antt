-- What the messages of one station to another show in both directions, and when a lane of the abstract machine stands for it.
use Rattle.std.proofs.Common.{◌≡◌, ◌⊎◌, ℕ, ◌+◌, ◌-◌, ◌<◌, ◌≤◌, ◌^◌, Bool, true, cond, List, [], ◌∷◌, ◌++◌, map, length, take, Option, Some, None, refl, sym, ◌∙◌, append-nil}
use Rattle.pgn_ids.specs.Address.{is_one}
use Rattle.pgn_ids.specs.Pgn.{clean}
use Rattle.pgn_ids.specs.declared.address.Address.{Address}
use Rattle.tp_wire.specs.declared.constants.TheConstants.{ETP_MAX_SIZE}
use Rattle.tp_wire.specs.declared.outcome.Outcome.{Outcome}
use Rattle.tp_wire.specs.declared.outcome.Outcome.TheVariants as outcome
use Rattle.tp_wire.specs.declared.wire.Kind.{Kind}
use Rattle.tp_wire.specs.declared.wire.Kind.TheVariants.{Tp, Etp}
use Rattle.tp_wire.specs.declared.wire.CmFrame.TheVariants.{Rts, EtpRts, EtpDpo}
use Rattle.tp_wire.specs.declared.wire.Wire.{Wire}
use Rattle.tp_wire.specs.declared.wire.Wire.TheVariants.{Cm, Packet, Request}
use Rattle.seg_cut.specs.Packets.{packet_count}
use Rattle.seg_cut.specs.Join.{Join}
use Rattle.responder.specs.Peer.{Peer}
use Rattle.responder.specs.Readers.{unfinished_of}
use Rattle.originator.specs.Link.{Link}
use Rattle.originator.specs.States.{Sending as Window}
use Rattle.originator.specs.declared.states.OutState.{OutState}
use Rattle.originator.specs.declared.states.OutState.TheVariants.{AwaitCts, Sending, AwaitEnd}
use Rattle.lane_core.specs.Lane.{Lane, kind_for}
use Rattle.lane_core.specs.Probe.{token_pgn}
use Rattle.lane_core.specs.declared.message.Pending.{Pending}
use Rattle.lane_core.specs.declared.place.UnderWay.{UnderWay}
use Rattle.lane_core.specs.declared.place.UnderWay.TheVariants.{Nothing, Broadcast, Connection}
use Rattle.lane_core.specs.declared.probe.Standing.{Standing}
use Rattle.lane_core.specs.declared.probe.Standing.TheVariants.{Settled, InDoubt as Doubted, Probing}
use Rattle.session_table.specs.declared.incoming.Incoming.{Incoming}
use Rattle.session_table.specs.declared.incoming.Incoming.TheVariants as incoming
use Rattle.segment_law.specs.Told as told
use Rattle.record_law.proofs.Lists.{Each}
use Rattle.record_law.proofs.Readings.{GivesBack, ReadsBack}
use Rattle.lane_law.specs.Message.{Message}
use Rattle.lane_law.specs.Frame.{Frame, Rts as Begins, Dpo, Packet as Data, Request as Asks, Place, place_after}
use Rattle.lane_law.specs.Session.{Session, Given}
use Rattle.lane_law.specs.Outcome as fate
use Rattle.lane_law.specs.Outcome.{Fate}
use Rattle.lane_law.specs.Stream.{IsOfReached}
use Rattle.lane_law.specs.Lane as machine
use Rattle.lane_law.specs.Lane.{Answer, EndAcknowledgement, Acknowledgement, Phase, Idle, Begun, Granted, InDoubt, LaneEvent}
use Rattle.broadcast_law.proofs.Send.{AreSeven}
use Rattle.broadcast_law.proofs.View.{plain, cleaned, message, IsPending, ArePending}
use Rattle.connection_law.proofs.Frames.{Back, BackEnd, BackAck}

-- what is known of the machine, of frames and of packets
pub record Laws : Type 0 where
  pub goes_on : (token : Bool) (lane : machine.Lane) (event : LaneEvent) → machine.IsReached token lane → machine.MayHappen event lane → machine.IsReached token (machine.after event lane)
  pub session : machine.OnEachLane (λ lane. (x : Session) → lane.stream.session ≡ Some x → IsOfReached lane.stream x)
  pub gives : GivesBack
  pub reads : ReadsBack
  pub seven : AreSeven

-- two stations
pub record IsPair (s d : Address) : Type 0 where
  pub one_s : is_one s.0 ≡ true
  pub one_d : is_one d.0 ≡ true
  pub apart : s.0 ≡ d.0 → ⊥

-- a session was asked for: how many messages had been sent, the PGN and the size, the ports that were found for it, and those
-- of them that are still open
pub record Mark : Type 0 where
  pub count : ℕ
  pub pgn : ℕ
  pub size : ℕ
  pub found : List ℕ
  pub due : List ℕ

-- the lane at s, what is on the way to d and what d may take again, the same on the way back, the sessions of d from s with
-- their ports, what was told so far, and the mark of the last session of each kind that was asked for
pub record View : Type 0 where
  pub lane : Lane
  pub forward : List Wire
  pub again : List Wire
  pub answers : List Back
  pub heard : List Back
  pub tp : Option (List ℕ × Incoming)
  pub etp : Option (List ℕ × Incoming)
  pub sent : List told.Message
  pub given : List told.Message
  pub ended : List told.NumberedOutcome
  pub opened : Kind → Mark

-- Frames

abbrev pub kind_of : Message → Kind
kind_of m = kind_for (length m.bytes)

abbrev pub token_of : Bool → ℕ
token_of t = cond t 60416 60160

-- a row of the table shows a frame, which leads to a place: the wire has no number
abbrev pub IsShown : Place → Frame → Wire → Type 0
IsShown p (Begins n m) (Cm (Rts size packets most pgn)) = (kind_of m ≡ Tp) × (p.message ≡ m) × (size ≡ length m.bytes) × (pgn ≡ m.pgn)
IsShown p (Begins n m) (Cm (EtpRts size pgn)) = (kind_of m ≡ Etp) × (p.message ≡ m) × (size ≡ length m.bytes) × (pgn ≡ m.pgn)
IsShown p (Dpo o) (Cm (EtpDpo packets offset pgn)) = (kind_of p.message ≡ Etp) × (offset ≡ o) × (p.offset ≡ o) × (pgn ≡ p.message.pgn)
IsShown p (Data k b) (Packet kind j c) = (kind ≡ kind_of p.message) × (j ≡ k) × (c ≡ b)
IsShown p (Asks t) (Request pgn) = pgn ≡ token_of t
IsShown p f w = ⊥

-- the frames from one place to another
abbrev pub AreShown : Place → List Frame → List Wire → Place → Type 0
AreShown p [] [] q = p ≡ q
AreShown p [] (w ∷ ws) q = ⊥
AreShown p (f ∷ fs) [] q = ⊥
AreShown p (f ∷ fs) (w ∷ ws) q = IsShown (place_after p f) f w × AreShown (place_after p f) fs ws q

-- the frame that led to a place
abbrev pub IsAgain : Place → List Frame → List Wire → Type 0
IsAgain p [] [] = Unit {0}
IsAgain p (f ∷ []) (w ∷ []) = IsShown p f w
IsAgain p fs ws = ⊥

abbrev pub shape : Answer → Back
shape (EndAcknowledgement n) = BackEnd
shape (Acknowledgement t) = BackAck (token_of t)

-- The sender

pub record IsCarrying (s d : Address) (link : Link) (m : Pending) (queued : Place) : Type 0 where
  pub from : link.from ≡ s.0
  pub to : link.to ≡ d.0
  pub kind : link.kind ≡ kind_for (length m.bytes)
  pub len : link.len ≡ length m.bytes
  pub pgn : link.pgn ≡ m.pgn
  pub message : queued.message ≡ message m
  pub tp : link.kind ≡ Tp → queued.offset ≡ 0

pub record IsWindow (w : Window) (m : Pending) (queued : Place) : Type 0 where
  pub first : 0 < w.next
  pub at : w.next ≤ w.at
  pub at_end : w.at ≤ w.until + 1
  pub until : w.until ≤ packet_count (length m.bytes)
  pub etp : w.link.kind ≡ Etp → w.announced ≡ true → queued.offset ≡ w.next - 1

abbrev pub IsFlying : (s d : Address) → OutState → Pending → Place → Phase → Type 0
IsFlying s d (AwaitCts o) m queued phase = IsCarrying s d o.link m queued × (((phase ≡ Begun m.number) × (o.unsent ≡ 1)) ⊎ (phase ≡ Granted m.number))
IsFlying s d (Sending w) m queued phase = IsCarrying s d w.link m queued × IsWindow w m queued × (phase ≡ Granted m.number)
IsFlying s d (AwaitEnd o) m queued phase = IsCarrying s d o.link m queued × (phase ≡ Granted m.number)

abbrev pub IsStanding : Standing → Phase → Type 0
IsStanding Settled phase = phase ≡ Idle
IsStanding Doubted phase = phase ≡ InDoubt
IsStanding (Probing count timer) phase = phase ≡ InDoubt

abbrev pub numbers_of : List Pending → List ℕ
numbers_of ms = map (λ (m : Pending). m.number) ms

abbrev pub IsUnderWay : (s d : Address) → UnderWay → Standing → List Pending → Place → List Message → Phase → List ℕ → Type 0
IsUnderWay s d Nothing standing ms queued sent phase pending = IsStanding standing phase × ArePending queued.number ms sent × (pending ≡ numbers_of ms)
IsUnderWay s d (Broadcast b) standing ms queued sent phase pending = ⊥
IsUnderWay s d (Connection o) standing [] queued sent phase pending = ⊥
IsUnderWay s d (Connection o) standing (m ∷ ms) queued sent phase pending = (standing ≡ Settled) × IsFlying s d o m queued phase × IsPending 0 m sent × ArePending m.number ms sent × (pending ≡ numbers_of ms) × (queued.number ≡ m.number)

pub record IsSender (s d : Address) (lane : Lane) (queued : Place) (sent : List Message) (phase : Phase) (pending : List ℕ) (token : Bool) : Type 0 where
  pub from : lane.from ≡ s.0
  pub to : lane.to ≡ d.0
  pub count : lane.sent ≡ length sent
  pub last : queued.number ≤ length sent
  pub token_is : token_pgn lane.token ≡ token_of token
  pub under_way : IsUnderWay s d lane.under_way lane.standing lane.pending queued sent phase pending

-- The receiver

pub record IsPeer (s d : Address) (peer : Peer) (x : Session) : Type 0 where
  pub from : peer.from ≡ s.0
  pub to : peer.to ≡ d.0
  pub pgn : peer.pgn ≡ x.pgn

pub record IsCollected (join : Join) (x : Session) : Type 0 where
  pub size : join.size ≡ x.size
  pub next : join.next ≡ x.accepted + 1
  pub bytes : join.bytes ≡ take x.size x.collected

-- but for the offset of a DPO
abbrev pub IsAlmost : (s d : Address) → Incoming → Session → Type 0
IsAlmost s d (incoming.Broadcast b) x = ⊥
IsAlmost s d (incoming.Connection t) x = IsPeer s d (unfinished_of t).peer x × IsCollected (unfinished_of t).join x

abbrev pub IsSame : (s d : Address) → Incoming → Session → Type 0
IsSame s d (incoming.Broadcast b) x = ⊥
IsSame s d (incoming.Connection t) x = IsPeer s d (unfinished_of t).peer x × IsCollected (unfinished_of t).join x × ((unfinished_of t).offset ≡ x.offset)

abbrev pub Has : {A : Type 0} → List A → A → Type 0
Has [] x = ⊥
Has (y ∷ ys) x = (y ≡ x) ⊎ Has ys x

-- a message of this number, PGN and size is the one that was asked for, and these ports are to be given it
abbrev pub IsMarked : Mark → (ports : List ℕ) → (number pgn size : ℕ) → Type 0
IsMarked m ports number pgn size = (number ≤ m.count) × (pgn ≡ m.pgn) × (size ≡ m.size) × (0 < length m.found) × Each (Has ports) m.due

abbrev pub IsHeardAs : (Incoming → Session → Type 0) → (opened : Mark) → Option (List ℕ × Incoming) → Option Session → Type 0
IsHeardAs R opened None None = Unit {0}
IsHeardAs R opened None (Some x) = ⊥
IsHeardAs R opened (Some v) None = ⊥
IsHeardAs R opened (Some v) (Some x) = (0 < length v.0) × IsMarked opened v.0 x.number x.pgn x.size × R v.1 x

-- the session of a kind
abbrev pub of_kind : Kind → (tp etp : Option (List ℕ × Incoming)) → Option (List ℕ × Incoming)
of_kind Tp tp etp = tp
of_kind Etp tp etp = etp

abbrev pub IsHeard : (s d : Address) → View → machine.Lane → Type 0
IsHeard s d v l = IsHeardAs (IsSame s d) (v.opened (kind_of l.stream.reached.message)) (of_kind (kind_of l.stream.reached.message) v.tp v.etp) l.stream.session

-- What was told

abbrev pub fate_of : Outcome → Fate
fate_of outcome.Acknowledged = fate.Acknowledged
fate_of outcome.Unreachable = fate.Unreachable
fate_of o = fate.Other

abbrev pub IsTold : List fate.Outcome → told.NumberedOutcome → Type 0
IsTold outcomes o = Has outcomes (fate.outcome o.0 (fate_of o.1))

pub record IsGood (m : Message) : Type 0 where
  pub cleaned : clean m.pgn ≡ m.pgn
  pub pgn : m.pgn < 2 ^ 18
  pub long : 0 < length m.bytes
  pub most : length m.bytes ≤ ETP_MAX_SIZE

-- all but the session
pub record Carries (s d : Address) (v : View) (l : machine.Lane) : Type 0 where
  pub reached : machine.IsReached true l
  pub good : Each IsGood l.stream.sent
  pub sent : v.sent ≡ map plain l.stream.sent
  pub given : v.given ≡ map cleaned l.stream.given
  pub forward : AreShown l.stream.reached l.stream.forward v.forward l.stream.queued
  pub again : IsAgain l.stream.reached l.stream.again v.again
  pub answers : v.answers ≡ map shape l.answers
  pub heard : v.heard ≡ map shape l.heard
  pub sender : IsSender s d v.lane l.stream.queued l.stream.sent l.phase l.pending l.token
  pub ended : Each (IsTold l.outcomes) v.ended

pub record Sim (s d : Address) (v : View) (l : machine.Lane) : Type 0 where
  pub carries : Carries s d v l
  pub session : IsHeard s d v l

-- a lane goes on to stand for a view, and gives nothing
pub record Still (s d : Address) (l : machine.Lane) (v : View) : Type 0 where
  pub lane : machine.Lane
  pub sim : Sim s d v lane
  pub given : lane.stream.given ≡ l.stream.given

-- or gives something more at these ports, of a session that is open
pub record Next (s d : Address) (ports : List ℕ) (l : machine.Lane) (v : View) : Type 0 where
  pub lane : machine.Lane
  pub sim : Sim s d v lane
  pub more : List Given
  pub given : lane.stream.given ≡ l.stream.given ++ more
  pub marked : Each (λ (g : Given). IsMarked (v.opened (kind_of g.message)) ports g.number g.message.pgn (length g.message.bytes)) more

pub next_still : (s d : Address) {ports : List ℕ} (l : machine.Lane) (v : View) → Still s d l v → Next s d ports l v
next_still s d l v h = record { lane = h.lane; sim = h.sim; more = []; given = h.given ∙ sym (append-nil l.stream.given); marked = tt }

pub still_same : (s d : Address) (l : machine.Lane) (v : View) → Sim s d v l → Still s d l v
still_same s d l v h = record { lane = l; sim = h; given = refl }

pub still_then : (s d : Address) (l : machine.Lane) (v w : View) (h : Still s d l v) → Still s d h.lane w → Still s d l w
still_then s d l v w h k = record { lane = k.lane; sim = k.sim; given = k.given ∙ h.given }
