-- The text of the station's answer to a call.
use Rattle.std.specs.Prelude.{◌≡◌, [], Result, Ok, Err}
use Rattle.script_text.specs.Replies.{reply_line}
use Rattle.segment_law.specs.declared.reply.Reply.{Reply}
use Rattle.segment_law.specs.declared.reply.Reply.TheVariants as replies
use Rattle.one_station.specs.declared.error.NodeError.{NodeError}
use Rattle.one_station.specs.declared.error.NodeError.TheVariants.{Refused, ClockPassed, Starting, OutOfMemory}
use Rattle.bus_node.specs.Node.{Node, events_told, answered}

-- the reply, and then the station's events
abbrev pub replied : Node → Reply → Node
replied n reply = answered n n.station (reply_line reply)

-- the call was refused
abbrev pub IsRefused : (before : Node) → NodeError → (after : Node) → Type 0
IsRefused before (Refused cause) after = after ≡ replied before (replies.Refused cause)
IsRefused before ClockPassed after = ⊥
IsRefused before (Starting tick) after = ⊥
IsRefused before OutOfMemory after = ⊥

-- the call was made, or refused
abbrev pub IsReplied : (before : Node) → Result (Unit {0}) NodeError → (after : Node) → Type 0
IsReplied before (Ok done) after = after ≡ replied before (replies.Done [])
IsReplied before (Err error) after = IsRefused before error after

-- an answer, in which only the station's events are printed
abbrev pub IsTold : (before : Node) → Result (Unit {0}) NodeError → (after : Node) → Type 0
IsTold before (Ok done) after = after ≡ events_told before
IsTold before (Err (Refused cause)) after = after ≡ events_told before
IsTold before (Err ClockPassed) after = ⊥
IsTold before (Err (Starting tick)) after = ⊥
IsTold before (Err OutOfMemory) after = ⊥
