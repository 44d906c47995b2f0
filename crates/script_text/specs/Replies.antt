-- Replies, and the frames and events below them.
use Rattle.std.specs.Prelude.{ℕ, List, ◌++◌, length, flat_map, codes}
use Rattle.std.specs.Fmt.{decimal}
use Rattle.bus_frame.specs.Frames.{CanFrame}
use Rattle.pgn_ids.specs.declared.address.Address.{Address}
use Rattle.port_table.specs.declared.port.PortId.{PortId}
use Rattle.tp_wire.specs.declared.outcome.Outcome.{Outcome}
use Rattle.tp_wire.specs.declared.outcome.Outcome.TheVariants as ends
use Rattle.message_events.specs.declared.event.Event.{Event}
use Rattle.message_events.specs.declared.event.Event.TheVariants as events
use Rattle.segment_law.specs.Refusals.{refusal_number, refusal_name}
use Rattle.segment_law.specs.declared.end.DriveEnd.{DriveEnd}
use Rattle.segment_law.specs.declared.end.DriveEnd.TheVariants as ending
use Rattle.segment_law.specs.declared.refusal.Refusal.{Refusal}
use Rattle.segment_law.specs.declared.reply.Reply.{Reply}
use Rattle.segment_law.specs.declared.reply.Reply.TheVariants.{Opened, Sent, Refused, Done}
use Rattle.text_digits.specs.Digits.{digits, unspaced}
use Rattle.script_text.specs.Parts.{port_text, between, spaced, line}

abbrev pub refusal_text : Refusal → List ℕ
refusal_text cause = codes "refused " ++ decimal (refusal_number cause) ++ codes " " ++ refusal_name cause

unfoldable pub reply_line : Reply → List ℕ
reply_line (Opened port) = line (codes "opened " ++ port_text port)
reply_line (Sent number) = line (codes "sent " ++ decimal number)
reply_line (Refused cause) = line (refusal_text cause)
reply_line (Done events) = line (codes "done")

-- an identifier, and the bytes behind it
abbrev pub frame_text : CanFrame → List ℕ
frame_text frame = digits 16 8 frame.id ++ spaced frame.bytes

-- a frame put on the bus
unfoldable pub put_line : CanFrame → List ℕ
put_line frame = line (codes "  put " ++ frame_text frame)

abbrev pub put_lines : List CanFrame → List ℕ
put_lines frames = flat_map put_line frames

-- the PGN of a message, its length in bytes, its bytes
abbrev pub message_text : ℕ → List ℕ → List ℕ
message_text pgn bytes = digits 16 5 pgn ++ codes " " ++ decimal (length bytes) ++ codes " " ++ unspaced bytes

-- a message given at a port
unfoldable pub given_text : PortId → (from to : Address) → ℕ → List ℕ → List ℕ
given_text port from to pgn bytes = port_text port ++ codes " " ++ between from to ++ message_text pgn bytes

abbrev pub outcome_text : Outcome → List ℕ
outcome_text ends.Acknowledged = codes "Acknowledged"
outcome_text ends.Broadcast = codes "Broadcast"
outcome_text (ends.Aborted reason) = codes "Aborted " ++ decimal reason
outcome_text ends.TimedOut = codes "TimedOut"
outcome_text ends.Overrun = codes "Overrun"
outcome_text ends.Cancelled = codes "Cancelled"
outcome_text ends.Unreachable = codes "Unreachable"

-- the outcome of a message, by its number in the lane
unfoldable pub ended_text : (from to : Address) → ℕ → Outcome → List ℕ
ended_text from to number outcome = between from to ++ decimal number ++ codes " " ++ outcome_text outcome

unfoldable pub event_line : Event → List ℕ
event_line (events.Given port from to pgn bytes) = line (codes "  given " ++ given_text port from to pgn bytes)
event_line (events.Outcome from to number outcome) = line (codes "  outcome " ++ ended_text from to number outcome)

abbrev pub event_lines : List Event → List ℕ
event_lines events = flat_map event_line events

abbrev pub no_memory : List ℕ
no_memory = codes "no memory"

abbrev pub end_text : DriveEnd → List ℕ
end_text ending.Turns = codes "turns"
end_text ending.Idle = codes "idle"
end_text (ending.Refused cause) = refusal_text cause
end_text ending.OutOfMemory = no_memory

-- the line of a drive: its turns and its end
unfoldable pub drove_line : ℕ → DriveEnd → List ℕ
drove_line turns end = line (codes "drove " ++ decimal turns ++ codes " " ++ end_text end)

-- the line of a drive, and below it the frames put, then the events
abbrev pub drive_lines : ℕ → DriveEnd → List CanFrame → List Event → List ℕ
drive_lines turns end frames events = drove_line turns end ++ put_lines frames ++ event_lines events
