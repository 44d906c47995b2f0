-- An incoming session: the message that a destination collects.
use Rattle.std.specs.Prelude.{ℕ, ◌+◌, List, [], ◌++◌, take, length, Option, Some, None}
use Rattle.lane_law.specs.Message.{Message}
use Rattle.lane_law.specs.Frame.{Frame, Rts, Dpo, Packet, Request}

-- what a session knows of its message, and the packets that it accepted
pub record Session : Type 0 where
  pub number : ℕ  -- the wire doesn't have it: only messages that are given name it
  pub pgn : ℕ
  pub size : ℕ
  pub accepted : ℕ  -- so many packets: the next one is accepted + 1
  pub offset : ℕ  -- the offset of the last DPO
  pub collected : List ℕ

-- a message that the destination was given, with its number
pub record Given : Type 0 where
  pub number : ℕ
  pub message : Message

-- the session that an RTS opens
abbrev pub new_session : ℕ → Message → Session
new_session number message =
    record { number = number; pgn = message.pgn; size = length message.bytes; accepted = 0; offset = 0; collected = [] }

-- the session with the offset of a DPO
abbrev pub with_offset : ℕ → Option Session → Option Session
with_offset offset None = None
with_offset offset (Some session) = Some (record session { offset = offset })

-- what a frame that is taken does to the session before the destination decides anything
abbrev pub session_after : Frame → Option Session → Option Session
session_after (Rts number message) session = Some (new_session number message)
session_after (Dpo offset) session = with_offset offset session
session_after (Packet sequence bytes) session = session
session_after (Request token) session = session

-- the session with one more packet
abbrev pub with_packet : Session → List ℕ → Session
with_packet session bytes = record session { accepted = session.accepted + 1; collected = session.collected ++ bytes }

-- what the session gives at its last packet: all that it collected, without the filling
abbrev pub given_of : Session → List ℕ → Given
given_of session bytes =
    record { number = session.number; message = record { pgn = session.pgn; bytes = take session.size (session.collected ++ bytes) } }
