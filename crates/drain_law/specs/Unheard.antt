-- Messages to a node of which nothing is heard.
use Rattle.std.specs.Prelude.{◌≡◌, ◌≢◌, ℕ, Bool, true, false, not, ◌||◌, ◌==◌, List, Some, slice_get}
use Rattle.std.specs.List.{list_all}
use Rattle.bus_frame.specs.Frames.{CanFrame}
use Rattle.pgn_ids.specs.Address.{global_address}
use Rattle.pgn_ids.specs.Identifier.{meaning_of}
use Rattle.pgn_ids.specs.declared.address.Address.{Address}
use Rattle.tp_wire.specs.declared.outcome.Outcome.{Outcome}
use Rattle.tp_wire.specs.declared.outcome.Outcome.TheVariants.{TimedOut, Overrun, Unreachable}
use Rattle.message_events.specs.declared.event.Event.{Event}
use Rattle.message_events.specs.declared.event.Event.TheVariants as event
use Rattle.station_core.specs.Station.{Station}
use Rattle.segment_law.specs.Drive.{events_in}
use Rattle.segment_law.specs.Record.{Record, StandsAt}
use Rattle.segment_law.specs.Segment.{Segment, has_station}
use Rattle.work_law.specs.Rest.{HasRested}
use Rattle.work_law.specs.Work.{ahead_of}
use Rattle.segment_drain.specs.Drains.{drained}

-- the node put the frame
abbrev pub is_from : Address → CanFrame → Bool
is_from d frame = (meaning_of frame.id).from.0 == d.0

-- no station has the address, and no frame of it waits for a station
pub record IsUnheard (d : Address) (seg : Segment) : Type 0 where
  pub foreign : has_station seg d ≡ false
  pub none_waits : (i : ℕ) (st : Station) → slice_get seg.stations i ≡ Some st → list_all (λ frame. not (is_from d frame)) (ahead_of seg.bus i) ≡ true

-- a message ends so without an answer
abbrev pub is_unanswered : Outcome → Bool
is_unanswered TimedOut = true
is_unanswered Overrun = true
is_unanswered Unreachable = true
is_unanswered _ = false

-- if it is the outcome of a message to the node, that ended so
abbrev pub ends_unanswered : Address → Event → Bool
ends_unanswered d (event.Given port from to pgn bytes) = true
ends_unanswered d (event.Outcome from to number outcome) = not (to.0 == d.0) || is_unanswered outcome

-- a drain tells no other outcome of a message to such a node, and still hears nothing of it
abbrev pub NoneAnswers : Type 0
NoneAnswers = (addresses : List Address) (steps : Record) (seg : Segment) (d : Address) → StandsAt addresses steps seg → d.0 ≢ global_address → IsUnheard d seg
    → (turns : ℕ) → (list_all (ends_unanswered d) (events_in (drained seg turns).calls) ≡ true) × IsUnheard d (drained seg turns).segment

-- at rest no frame waits, so every foreign node is such a one
abbrev pub RestIsUnheard : Type 0
RestIsUnheard = (addresses : List Address) (steps : Record) (seg : Segment) (d : Address) → StandsAt addresses steps seg → HasRested seg → has_station seg d ≡ false → IsUnheard d seg
