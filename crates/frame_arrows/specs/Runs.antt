-- Arrows of frames: packets from one source to one destination whose numbers follow on one another have one arrow.
use Rattle.std.specs.Prelude.{ℕ, ◌+◌, List, [], ◌∷◌, ◌++◌, Bool, false, ◌&&◌, ◌==◌, if◌then◌else◌, Option, Some, None}
use Rattle.bus_frame.specs.Frames.{CanFrame}
use Rattle.pgn_ids.specs.declared.address.Address.{Address}
use Rattle.tp_wire.specs.Reading.{reading}
use Rattle.tp_wire.specs.declared.wire.Wire.{Wire}
use Rattle.tp_wire.specs.declared.wire.Wire.TheVariants.{Packet}
use Rattle.frame_arrows.specs.Words.{arrow_line, arrow_of, packet_words}
use Rattle.frame_arrows.specs.declared.run.Run.{Run}

-- a packet is a run of one
abbrev pub run_by : Option (Wire × Address × Address) → Option Run
run_by (Some (Packet kind sequence bytes, from, to)) = Some record { from = from; to = to; first = sequence; last = sequence }
run_by _ = None

unfoldable pub run_of : CanFrame → Option Run
run_of frame = run_by (reading frame)

-- the arrow of a run
unfoldable pub arrow_of_run : Run → List ℕ
arrow_of_run r = arrow_line r.from r.to (packet_words r.first r.last)

-- the arrow of an open run, if there is one
abbrev pub run_arrow : Option Run → List ℕ
run_arrow None = []
run_arrow (Some r) = arrow_of_run r

-- whether a packet continues a run
abbrev pub goes_on : Option Run → Run → Bool
goes_on None p = false
goes_on (Some r) p = r.from.0 == p.from.0 && r.to.0 == p.to.0 && r.last + 1 == p.first

-- a run with one packet more
abbrev pub longer : Option Run → Run → Run
longer None p = p
longer (Some r) p = record p { first = r.first }

-- the run that is open behind a frame, from the packet that the frame is
abbrev pub open_by : Option Run → Option Run → Option Run
open_by run None = None
open_by run (Some p) = Some (if goes_on run p then longer run p else p)

unfoldable pub open_after : Option Run → CanFrame → Option Run
open_after run frame = open_by run (run_of frame)

-- the text drawn at a frame: the run that it ends, and its own arrow if it is no packet
abbrev pub drawn_by : Option Run → CanFrame → Option Run → List ℕ
drawn_by run frame None = run_arrow run ++ arrow_of frame
drawn_by run frame (Some p) = if goes_on run p then [] else run_arrow run

unfoldable pub drawn_at : Option Run → CanFrame → List ℕ
drawn_at run frame = drawn_by run frame (run_of frame)

-- the arrows of frames behind an open run
abbrev pub arrows_from : Option Run → List CanFrame → List ℕ
arrows_from run [] = run_arrow run
arrows_from run (frame ∷ frames) = drawn_at run frame ++ arrows_from (open_after run frame) frames

abbrev pub arrows : List CanFrame → List ℕ
arrows frames = arrows_from None frames
