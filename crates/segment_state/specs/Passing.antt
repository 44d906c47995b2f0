-- A station that takes a frame which is none of its business, or for which no frame waits.
use Rattle.std.specs.Prelude.{◌≡◌, ◌<◌, Bool, true, ◌&&◌, ◌||◌, if◌then◌else◌, List, [], ◌∷◌, ◌++◌, Option, Some, None, is_some}
use Rattle.bus_frame.specs.Frames.{CanFrame}
use Rattle.pgn_ids.specs.declared.address.Address.{Address}
use Rattle.tp_wire.specs.Reading.{is_transport}
use Rattle.tx_queue.specs.Queue.{queue_limit}
use Rattle.bus_order.specs.Bus.{next_frame}
use Rattle.station_core.specs.Station.{Station}
use Rattle.station_core.specs.Refusals.{taking_refusal}
use Rattle.station_core.specs.Taking.{looks_at}
use Rattle.segment_law.specs.Segment.{Segment, place_of, station_at, waiting_at}
use Rattle.segment_law.specs.Calls.{applied}
use Rattle.segment_law.specs.Readers.{queue_len}
use Rattle.segment_law.specs.Record.{Record, StandsAt}
use Rattle.segment_law.specs.declared.call.Call.TheVariants.{Take}
use Rattle.segment_law.specs.declared.reply.Reply.TheVariants.{Done}
use Rattle.segment_state.specs.declared.passing.Passing.{Passing}
use Rattle.segment_state.specs.declared.passing.Passing.TheVariants.{Passed, Rests, Busy}

-- a station looks at a frame, and the frame is one of the protocol's
abbrev pub concerns : Station → CanFrame → Bool
concerns st f = looks_at st f && is_transport f

-- what a station does with the frame that waits for it
abbrev pub passing_with : Option CanFrame → Station → Passing
passing_with None st = Rests
passing_with (Some f) st = if is_some (taking_refusal st) || concerns st f then Busy else Passed

abbrev pub passing_at : Segment → Address → Passing
passing_at seg a = elim (place_of seg a) [ None ↦ Rests | Some i ↦ passing_with (next_frame seg.bus i) (station_at seg a) ]

-- it takes the frame with room: nothing is told, only the bus has changed, and its queue has a place
pub record PassesBy (before : Segment) (a : Address) (after : Segment) : Type 0 where
  pub waits : 0 < waiting_at before a
  pub taken : applied before (Take a true) ≡ (after, Done [])
  pub only : after ≡ record before { bus = after.bus }
  pub free : queue_len after a < queue_limit
  pub stands : (addresses : List Address) (steps : Record) → StandsAt addresses steps before → StandsAt addresses (steps ++ (Take a true, Done []) ∷ []) after

abbrev pub IsPassing : (before : Segment) → Address → (after : Segment) → Passing → Type 0
IsPassing before a after Passed = PassesBy before a after
IsPassing before a after Rests = (waiting_at before a ≡ 0) × (after ≡ before)
IsPassing before a after Busy = after ≡ before
