-- The frames that the Transmits of a record put on the bus.
use Rattle.std.specs.Prelude.{List, [], ◌∷◌, ◌++◌, option_to_list}
use Rattle.bus_frame.specs.Frames.{CanFrame}
use Rattle.segment_law.specs.Segment.{Segment}
use Rattle.segment_law.specs.Calls.{applied}
use Rattle.segment_law.specs.Readers.{front_at}
use Rattle.segment_law.specs.Record.{Record}
use Rattle.segment_law.specs.declared.call.Call.{Call}
use Rattle.segment_law.specs.declared.call.Call.TheVariants.{Transmit}
use Rattle.segment_law.specs.declared.reply.Reply.{Reply}
use Rattle.segment_law.specs.declared.reply.Reply.TheVariants.{Done}

-- a Transmit that is done puts the first frame of its station's queue
abbrev pub put_by : Segment → Call → Reply → List CanFrame
put_by seg (Transmit a) (Done events) = option_to_list (front_at seg a)
put_by seg call reply = []

-- the frames that calls put, one after another, from a segment on
abbrev pub transmitted : Segment → Record → List CanFrame
transmitted seg [] = []
transmitted seg (step ∷ steps) = put_by seg step.0 step.1 ++ transmitted (applied seg step.0).0 steps
