-- The notes of events.
use Rattle.std.specs.Prelude.{ℕ, List, ◌++◌, length, flat_map, codes}
use Rattle.std.specs.Fmt.{decimal}
use Rattle.pgn_ids.specs.declared.address.Address.{Address}
use Rattle.port_table.specs.declared.port.PortId.{PortId}
use Rattle.text_digits.specs.Digits.{digits}
use Rattle.message_events.specs.declared.event.Event.{Event}
use Rattle.message_events.specs.declared.event.Event.TheVariants as events
use Rattle.tp_wire.specs.declared.outcome.Outcome.{Outcome}
use Rattle.script_text.specs.Parts.{port_text}
use Rattle.script_text.specs.Replies.{outcome_text}
use Rattle.frame_arrows.specs.Words.{line, name_of, length_words}

unfoldable pub note_over : List ℕ
note_over = codes "  Note over "

-- a note at a participant
abbrev pub note_line : Address → List ℕ → List ℕ
note_line at words = line (note_over ++ name_of at ++ codes ": " ++ words)

unfoldable pub pgn_words : ℕ → List ℕ
pgn_words pgn = codes ", PGN " ++ digits 16 5 pgn

abbrev pub message_words : ℕ → List ℕ → List ℕ
message_words pgn bytes = pgn_words pgn ++ length_words (length bytes)

unfoldable pub given_words : PortId → Address → ℕ → List ℕ → List ℕ
given_words port from pgn bytes = codes "given " ++ port_text port ++ codes " from " ++ name_of from ++ message_words pgn bytes

-- the outcome of a message, by its number in the lane to a destination
unfoldable pub outcome_words : Address → ℕ → Outcome → List ℕ
outcome_words to number outcome = decimal number ++ codes " to " ++ name_of to ++ codes " " ++ outcome_text outcome

-- what a port was given, at its station; an outcome, at the sender
unfoldable pub event_note : Event → List ℕ
event_note (events.Given port from to pgn bytes) = note_line port.station (given_words port from pgn bytes)
event_note (events.Outcome from to number outcome) = note_line from (outcome_words to number outcome)

abbrev pub notes : List Event → List ℕ
notes told = flat_map event_note told
