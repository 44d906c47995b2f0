-- Arrows with times: packets from one source to one destination whose numbers follow on one another have one arrow, with the times of the first and
-- of the last.
use Rattle.std.specs.Prelude.{ℕ, List, [], ◌++◌, codes, ◌==◌, if◌then◌else◌, Option, Some, None, unwrap_or}
use Rattle.bus_frame.specs.Frames.{CanFrame}
use Rattle.pgn_ids.specs.Identifier.{meaning_of}
use Rattle.frame_arrows.specs.Words.{packet_words, meaning_words, arrow_line}
use Rattle.frame_arrows.specs.Runs.{run_of, goes_on, longer}
use Rattle.frame_arrows.specs.declared.run.Run.{Run}
use Rattle.log_fields.specs.Time.{time_text}
use Rattle.log_drawing.specs.declared.packets.Packets.{Packets}

-- a time in front of words, if the log has one
abbrev pub stamp : Option ℕ → List ℕ
stamp None = []
stamp (Some time) = time_text time ++ codes " "

-- the time of the last of several packets, behind them
abbrev pub until_words : Packets → List ℕ
until_words o = if o.run.first == o.run.last then [] else elim o.until [ None ↦ [] | Some time ↦ codes " until " ++ time_text time ]

unfoldable pub run_words : Packets → List ℕ
run_words o = stamp o.since ++ packet_words o.run.first o.run.last ++ until_words o

unfoldable pub open_line : Packets → List ℕ
open_line o = arrow_line o.run.from o.run.to (run_words o)

-- the line of the open packets, if there are any
abbrev pub closing : Option Packets → List ℕ
closing None = []
closing (Some o) = open_line o

-- the arrow of any other frame
unfoldable pub frame_line : Option ℕ → CanFrame → List ℕ
frame_line time frame = arrow_line (meaning_of frame.id).from (meaning_of frame.id).to (stamp time ++ meaning_words frame)

-- a packet with which others may follow
abbrev pub alone : Option ℕ → Run → Packets
alone time packet = record { run = packet; since = time; until = time }

-- the open packets with one more that follows on them
abbrev pub with_packet : Option Packets → Option ℕ → Run → Option Packets
with_packet None time packet = None
with_packet (Some o) time packet = if goes_on (Some o.run) packet then Some record { run = longer (Some o.run) packet; since = o.since; until = time } else None

-- the packets that are open behind a frame, from the packet that the frame is
abbrev pub open_by : Option Packets → Option ℕ → Option Run → Option Packets
open_by packets time None = None
open_by packets time (Some packet) = Some (unwrap_or (with_packet packets time packet) (alone time packet))

unfoldable pub open_after : Option Packets → Option ℕ → CanFrame → Option Packets
open_after packets time frame = open_by packets time (run_of frame)

-- the text drawn at a frame: the open packets that it ends, and its own arrow if it is no packet
abbrev pub drawn_by : Option Packets → Option ℕ → CanFrame → Option Run → List ℕ
drawn_by packets time frame None = closing packets ++ frame_line time frame
drawn_by packets time frame (Some packet) = elim (with_packet packets time packet) [ None ↦ closing packets | Some o ↦ [] ]

unfoldable pub drawn_at : Option Packets → Option ℕ → CanFrame → List ℕ
drawn_at packets time frame = drawn_by packets time frame (run_of frame)
