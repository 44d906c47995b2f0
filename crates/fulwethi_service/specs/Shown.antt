-- Notes and messages as C reads them.
use Rattle.std.specs.Prelude.{length}
use Rattle.segment_rings.specs.declared.words.Note.{Note}
use Rattle.segment_rings.specs.declared.words.Delivery.{Delivery}
use Rattle.c_parts.specs.Shown.{outcome_number, outcome_reason}
use Rattle.fulwethi_service.specs.declared.shown.CMessage.{CMessage}
use Rattle.fulwethi_service.specs.declared.shown.CNote.{CNote}

abbrev pub shown_note : Note → CNote
shown_note note = record { ticket = note.ticket; number = note.number; to = note.to.0; outcome = outcome_number note.outcome; reason = outcome_reason note.outcome; unused = 0 }

abbrev pub shown_delivery : Delivery → CMessage
shown_delivery d = record { from = d.from.0; to = d.to.0; pgn = d.pgn; unused = 0; len = length d.bytes }
