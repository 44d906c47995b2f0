-- What the steps of a record count: frames put, malformed frames looked at, frames taken again, messages given, and outcomes
-- by kind. Each number goes up to the last value of 64 bits.
use Rattle.std.specs.Prelude.{ℕ, ◌-◌, ◌^◌, min, Bool, true, false, ◌&&◌, List, [], ◌∷◌, Option, Some, None, slice_get, count_by}
use Rattle.bus_frame.specs.Frames.{CanFrame}
use Rattle.pgn_ids.specs.declared.address.Address.{Address}
use Rattle.tp_wire.specs.declared.outcome.Outcome.TheVariants.{Acknowledged, Broadcast, Aborted, TimedOut, Overrun, Cancelled, Unreachable}
use Rattle.message_events.specs.declared.event.Event.{Event}
use Rattle.message_events.specs.declared.event.Event.TheVariants as event
use Rattle.station_core.specs.Station.{Station}
use Rattle.station_core.specs.Taking.{is_malformed_for}
use Rattle.segment_law.specs.Segment.{Segment, new_segment, place_of}
use Rattle.segment_law.specs.Calls.{applied}
use Rattle.segment_law.specs.Drive.{events_in}
use Rattle.segment_law.specs.Readers.{frame_for}
use Rattle.segment_law.specs.Record.{Step, Record}
use Rattle.segment_law.specs.declared.call.Call.{Call}
use Rattle.segment_law.specs.declared.call.Call.TheVariants.{Transmit, Take, TakeAgain, Inject}
use Rattle.segment_law.specs.declared.counts.Counts.{Counts}
use Rattle.segment_law.specs.declared.reply.Reply.{Reply}
use Rattle.segment_law.specs.declared.reply.Reply.TheVariants.{Done}

-- the call was done
abbrev pub is_done : Reply → Bool
is_done (Done events) = true
is_done _ = false

-- Frames

-- a Transmit and an Inject put a frame on the bus
abbrev pub is_put : Call → Bool
is_put (Transmit station) = true
is_put (Inject frame) = true
is_put _ = false

abbrev pub puts_frame : Step → Bool
puts_frame step = is_done step.1 && is_put step.0

abbrev pub is_take_again : Call → Bool
is_take_again (TakeAgain station room) = true
is_take_again _ = false

abbrev pub takes_again : Step → Bool
takes_again step = is_done step.1 && is_take_again step.0

-- Malformed frames

-- a station would look at this frame, and it is malformed
abbrev pub is_malformed_to : Option Station → Option CanFrame → Bool
is_malformed_to (Some st) (Some frame) = is_malformed_for st frame
is_malformed_to _ _ = false

-- the frame that the station at a place takes next, or takes again, is malformed
abbrev pub malformed_at : Segment → (again : Bool) → Option ℕ → Bool
malformed_at seg again None = false
malformed_at seg again (Some i) = is_malformed_to (slice_get seg.stations i) (frame_for seg again i)

-- whether a call is a Take or a TakeAgain of such a frame
abbrev pub is_malformed_take : Segment → Call → Bool
is_malformed_take seg (Take station room) = malformed_at seg false (place_of seg station)
is_malformed_take seg (TakeAgain station room) = malformed_at seg true (place_of seg station)
is_malformed_take seg _ = false

-- a step, and the segment before it
abbrev pub StepFrom : Type 0
StepFrom = Segment × Step

abbrev pub steps_from : Segment → Record → List StepFrom
steps_from seg [] = []
steps_from seg (step ∷ steps) = (seg, step) ∷ steps_from (applied seg step.0).0 steps

abbrev pub takes_malformed : StepFrom → Bool
takes_malformed step = is_done step.1.1 && is_malformed_take step.0 step.1.0

-- Events

abbrev pub is_given : Event → Bool
is_given (event.Given port from to pgn bytes) = true
is_given _ = false

abbrev pub is_acknowledged : Event → Bool
is_acknowledged (event.Outcome from to number Acknowledged) = true
is_acknowledged _ = false

abbrev pub is_broadcast : Event → Bool
is_broadcast (event.Outcome from to number Broadcast) = true
is_broadcast _ = false

abbrev pub is_aborted : Event → Bool
is_aborted (event.Outcome from to number (Aborted reason)) = true
is_aborted _ = false

abbrev pub is_timed_out : Event → Bool
is_timed_out (event.Outcome from to number TimedOut) = true
is_timed_out _ = false

abbrev pub is_overrun : Event → Bool
is_overrun (event.Outcome from to number Overrun) = true
is_overrun _ = false

abbrev pub is_cancelled : Event → Bool
is_cancelled (event.Outcome from to number Cancelled) = true
is_cancelled _ = false

abbrev pub is_unreachable : Event → Bool
is_unreachable (event.Outcome from to number Unreachable) = true
is_unreachable _ = false

-- The counts

abbrev pub up_to_last : ℕ → ℕ
up_to_last n = min n (2 ^ 64 - 1)

-- how many of them there are
abbrev pub number_of : {A : Type 0} → (A → Bool) → List A → ℕ
number_of is xs = up_to_last (count_by is xs)

-- over a record of a segment with stations of these addresses
abbrev pub counts_over : List Address → Record → Counts
counts_over addresses steps =
    record {
      frames = number_of puts_frame steps;
      malformed = number_of takes_malformed (steps_from (new_segment addresses) steps);
      repeated = number_of takes_again steps;
      given = number_of is_given (events_in steps);
      acknowledged = number_of is_acknowledged (events_in steps);
      broadcast = number_of is_broadcast (events_in steps);
      aborted = number_of is_aborted (events_in steps);
      timed_out = number_of is_timed_out (events_in steps);
      overrun = number_of is_overrun (events_in steps);
      cancelled = number_of is_cancelled (events_in steps);
      unreachable = number_of is_unreachable (events_in steps);
    }
