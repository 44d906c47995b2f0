-- The frames that a sender queues for its destination, as far as the law looks at them.
use Rattle.std.specs.Prelude.{ℕ, Bool, List}
use Rattle.lane_law.specs.Message.{Message}

-- what the sender queues; the wire has no message number, and of an RTS only the size and the PGN
pub data Frame : Type 0 where
  Rts : (number : ℕ) (message : Message) → Frame  -- request to send, or the BAM of a broadcast: the message begins
  Dpo : (offset : ℕ) → Frame  -- data packet offset (ETP): what is added to the sequences of the packets behind it
  Packet : (sequence : ℕ) (bytes : List ℕ) → Frame  -- data transfer
  Request : (token : Bool) → Frame  -- a round of doubt asks whether all before it was taken

-- the place of a reader of the frames: in the message of the last RTS, at the offset of the last DPO behind it
pub record Place : Type 0 where
  pub number : ℕ
  pub message : Message
  pub offset : ℕ

-- the place behind one more frame
abbrev pub place_after : Place → Frame → Place
place_after place (Rts number message) = record { number = number; message = message; offset = 0 }
place_after place (Dpo offset) = record { number = place.number; message = place.message; offset = offset }
place_after place (Packet sequence bytes) = place
place_after place (Request token) = place
