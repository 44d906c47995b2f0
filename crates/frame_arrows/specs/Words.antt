-- What a frame means, in words, and the arrow of it (Mermaid, a sequence diagram).
use Rattle.std.specs.Prelude.{ℕ, List, ◌++◌, length, codes, Option, Some, None, ◌==◌, if◌then◌else◌}
use Rattle.std.specs.Fmt.{decimal}
use Rattle.bus_frame.specs.Frames.{CanFrame}
use Rattle.pgn_ids.specs.Identifier.{meaning_of}
use Rattle.pgn_ids.specs.declared.address.Address.{Address}
use Rattle.text_digits.specs.Digits.{digits}
use Rattle.tp_wire.specs.Reading.{reading}
use Rattle.tp_wire.specs.declared.wire.CmFrame.{CmFrame}
use Rattle.tp_wire.specs.declared.wire.CmFrame.TheVariants.{Rts, Cts, EndOfMsgAck, Bam, Abort, EtpRts, EtpCts, EtpDpo, EtpEoma, EtpAbort}
use Rattle.tp_wire.specs.declared.wire.Wire.{Wire}
use Rattle.tp_wire.specs.declared.wire.Wire.TheVariants.{Cm, Packet, Request, Ack}

abbrev pub line : List ℕ → List ℕ
line text = text ++ codes "\n"

-- a participant: a node by its address in two hexadecimal digits, or all
unfoldable pub name_of : Address → List ℕ
name_of a = if a.0 == 255 then codes "all" else digits 16 2 a.0

-- the ends of an arrow between two participants
abbrev pub ends : (from to : Address) → List ℕ
ends from to = codes "  " ++ name_of from ++ codes "->>" ++ name_of to ++ codes ": "

-- the line of an arrow with its words
unfoldable pub arrow_line : (from to : Address) → List ℕ → List ℕ
arrow_line from to words = line (ends from to ++ words)

-- how many bytes, in how many packets
abbrev pub size_words : (size packets : ℕ) → List ℕ
size_words size packets = decimal size ++ codes " bytes in " ++ decimal packets ++ codes " packets"

-- how many packets from which number on
abbrev pub from_words : (packets from : ℕ) → List ℕ
from_words packets from = decimal packets ++ codes " packets from " ++ decimal from

-- a CTS that grants no packet is a hold
abbrev pub grant_words : (granted next : ℕ) → List ℕ
grant_words granted next = if granted == 0 then codes "hold" else codes "CTS " ++ from_words granted next

unfoldable pub management_words : CmFrame → List ℕ
management_words (Rts size packets most pgn) = codes "RTS " ++ size_words size packets
management_words (Cts granted next pgn) = grant_words granted next
management_words (EndOfMsgAck size packets pgn) = codes "end of message"
management_words (Bam size packets pgn) = codes "BAM " ++ size_words size packets
management_words (Abort reason pgn) = codes "abort " ++ decimal reason
management_words (EtpRts size pgn) = codes "RTS " ++ decimal size ++ codes " bytes"
management_words (EtpCts granted next pgn) = grant_words granted next
management_words (EtpDpo packets offset pgn) = codes "DPO " ++ from_words packets offset
management_words (EtpEoma size pgn) = codes "end of message"
management_words (EtpAbort reason pgn) = codes "abort " ++ decimal reason

-- packets with these numbers, which follow on one another
abbrev pub packet_words : (first last : ℕ) → List ℕ
packet_words first last = if first == last then codes "packet " ++ decimal first else codes "packets " ++ decimal first ++ codes " to " ++ decimal last

unfoldable pub words_of : Wire → List ℕ
words_of (Cm frame) = management_words frame
words_of (Packet kind sequence bytes) = packet_words sequence sequence
words_of (Request pgn) = codes "Request"
words_of (Ack control address pgn) = codes "Acknowledgement"

-- how many bytes there are
unfoldable pub length_words : ℕ → List ℕ
length_words bytes = codes ", " ++ decimal bytes ++ codes " bytes"

-- other traffic and malformed frames: the PGN of the identifier, and how many bytes
unfoldable pub other_words : (pgn bytes : ℕ) → List ℕ
other_words pgn bytes = codes "frame " ++ digits 16 5 pgn ++ length_words bytes

-- the words for a frame with this meaning
abbrev pub words_by : CanFrame → Option (Wire × Address × Address) → List ℕ
words_by frame (Some (wire, from, to)) = words_of wire
words_by frame None = other_words (meaning_of frame.id).pgn (length frame.bytes)

unfoldable pub meaning_words : CanFrame → List ℕ
meaning_words frame = words_by frame (reading frame)

-- the arrow of a frame: from the source to the destination of its identifier
unfoldable pub arrow_of : CanFrame → List ℕ
arrow_of frame = arrow_line (meaning_of frame.id).from (meaning_of frame.id).to (meaning_words frame)
