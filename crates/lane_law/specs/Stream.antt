-- A stream: the frames of one sender that are ahead of one destination, and what the destination makes of them.
use Rattle.std.specs.Prelude.{ℕ, ◌+◌, ◌*◌, ◌<◌, ◌≡◌, Bool, List, [], ◌∷◌, ◌++◌, take, length, Option, Some, None}
use Rattle.lane_law.specs.Message.{Message, padded, packet, packet_count, IsSent}
use Rattle.lane_law.specs.Frame.{Frame, Rts, Dpo, Packet, Request, Place, place_after}
use Rattle.lane_law.specs.Session.{Session, Given, new_session, session_after, with_packet, given_of}
use Rattle.lane_law.specs.Choice.{IsGiven}
use Rattle.lane_law.specs.Runs.{Leads}

-- the way to the destination; of its sessions the one of the last RTS, since another gets no frame before an RTS replaces it
pub record Stream : Type 0 where
  pub sent : List Message
  pub queued : Place  -- behind the newest frame
  pub forward : List Frame  -- ahead of the destination: on the bus past its cursor, then in the sender's queue
  pub again : List Frame  -- the frame that the destination would take if it took one again, if it is one of these; else empty
  pub reached : Place  -- behind the frames that the destination took or passed over
  pub session : Option Session
  pub given : List Given

-- what may happen, one step each: a call that does several things, as a Take that gives, is several of these
pub data StreamEvent : Type 0 where
  Send : (message : Message) → StreamEvent  -- a message is accepted for sending
  Begin : (number : ℕ) (message : Message) → StreamEvent  -- its RTS is queued
  QueueDpo : (offset : ℕ) → StreamEvent
  QueuePacket : (sequence : ℕ) → StreamEvent  -- also one that was queued before
  QueueRequest : (token : Bool) → StreamEvent
  Take : (frame : Frame) (rest : List Frame) → StreamEvent  -- the destination takes the next frame
  PassOver : (frame : Frame) (rest : List Frame) → StreamEvent  -- unseen: one of the frames of an overrun
  Forget : StreamEvent  -- a frame of another sender is taken or passed over, or an overrun of no frame: no repeat
  Reopen : (number : ℕ) (message : Message) → StreamEvent  -- the RTS is taken again
  Accept : (session : Session) (sequence : ℕ) (bytes : List ℕ) → StreamEvent  -- the packet that was taken is kept
  Give : (session : Session) (sequence : ℕ) (bytes : List ℕ) → StreamEvent  -- with the last packet the message is given
  EndSession : StreamEvent  -- refused, timed out, aborted, closed, overrun

-- the packet that was taken is the next one of the session
abbrev pub IsNext : Stream → Session → ℕ → List ℕ → Type 0
IsNext stream session sequence bytes =
    (stream.again ≡ Packet sequence bytes ∷ []) × (stream.session ≡ Some session) × (session.offset + sequence ≡ session.accepted + 1)

-- when each event may happen
abbrev pub MayHappen : StreamEvent → Stream → Type 0
MayHappen (Send message) stream = Unit {0}
MayHappen (Begin number message) stream = (stream.queued.number < number) × IsSent stream.sent number message
MayHappen (QueueDpo offset) stream = Unit {0}
MayHappen (QueuePacket sequence) stream = Unit {0}
MayHappen (QueueRequest token) stream = Unit {0}
MayHappen (Take frame rest) stream = stream.forward ≡ frame ∷ rest
MayHappen (PassOver frame rest) stream = stream.forward ≡ frame ∷ rest
MayHappen Forget stream = Unit {0}
MayHappen (Reopen number message) stream = stream.again ≡ Rts number message ∷ []
MayHappen (Accept session sequence bytes) stream = IsNext stream session sequence bytes
MayHappen (Give session sequence bytes) stream =
    IsNext stream session sequence bytes × (session.accepted + 1 ≡ packet_count session.size)
MayHappen EndSession stream = Unit {0}

-- the stream with one more frame in the sender's queue
abbrev pub with_frame : Frame → Stream → Stream
with_frame frame stream = record stream { forward = stream.forward ++ frame ∷ []; queued = place_after stream.queued frame }

-- the stream after each event
abbrev pub after : StreamEvent → Stream → Stream
after (Send message) stream = record stream { sent = stream.sent ++ message ∷ [] }
after (Begin number message) stream = with_frame (Rts number message) stream
after (QueueDpo offset) stream = with_frame (Dpo offset) stream
after (QueuePacket sequence) stream =
    with_frame (Packet sequence (packet stream.queued.message.bytes (stream.queued.offset + sequence))) stream
after (QueueRequest token) stream = with_frame (Request token) stream
after (Take frame rest) stream =
    record stream { forward = rest; again = frame ∷ []; reached = place_after stream.reached frame; session = session_after frame stream.session }
after (PassOver frame rest) stream =
    record stream { forward = rest; again = []; reached = place_after stream.reached frame; session = None }
after Forget stream = record stream { again = [] }
after (Reopen number message) stream = record stream { session = Some (new_session number message) }
after (Accept session sequence bytes) stream = record stream { session = Some (with_packet session bytes) }
after (Give session sequence bytes) stream = record stream { session = None; given = stream.given ++ given_of session bytes ∷ [] }
after EndSession stream = record stream { session = None }

-- the place of a reader before the first RTS
abbrev pub nowhere : Place
nowhere = record { number = 0; message = record { pgn = 0; bytes = [] }; offset = 0 }

-- the stream before all events
abbrev pub empty_stream : Stream
empty_stream = record { sent = []; queued = nowhere; forward = []; again = []; reached = nowhere; session = None; given = [] }

-- this stream is reached by some events
abbrev pub IsReached : Stream → Type 0
IsReached stream = Leads MayHappen after empty_stream stream

-- a fact holds of each stream that events reach
abbrev pub OnEachStream : (Stream → Type 0) → Type 0
OnEachStream P = (stream : Stream) → IsReached stream → P stream

-- a session is that of the message of the last RTS, which was sent and not given, and has its first packets
pub record IsOfReached (stream : Stream) (session : Session) : Type 0 where
  pub number : session.number ≡ stream.reached.number
  pub pgn : session.pgn ≡ stream.reached.message.pgn
  pub size : session.size ≡ length stream.reached.message.bytes
  pub offset : session.offset ≡ stream.reached.offset
  pub collected : session.collected ≡ take (7 * session.accepted) (padded stream.reached.message.bytes)
  pub was_sent : IsSent stream.sent stream.reached.number stream.reached.message
  pub not_given : ¬ IsGiven stream.given stream.reached.number
