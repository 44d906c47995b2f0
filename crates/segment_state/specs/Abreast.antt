-- Stations that are abreast; the first of them take the newest frame with room.
use Rattle.std.specs.Prelude.{◌≡◌, ℕ, zero, suc, ◌≤◌, true, length, List, [], ◌∷◌, ◌++◌, Some}
use Rattle.bus_frame.specs.Frames.{CanFrame}
use Rattle.pgn_ids.specs.declared.address.Address.{Address}
use Rattle.tx_queue.specs.Queue.{front}
use Rattle.bus_order.specs.Bus.{bus_len, frame_at}
use Rattle.bus_order.specs.Abreast.{are_abreast, passed_first}
use Rattle.message_events.specs.declared.event.Event.{Event}
use Rattle.segment_law.specs.Segment.{Segment, station_at, counted}
use Rattle.segment_law.specs.Calls.{at_address, done, transmits}
use Rattle.segment_law.specs.Reached.{AreInPlace}
use Rattle.drive_course.specs.Taken.{Notes, FirstTake}
use Rattle.drive_course.specs.declared.course.Course.{Course}
use Rattle.segment_state.specs.Followed.{IsFollowed}

-- their cursors pass the frame
pub record HavePassed (n : ℕ) (before after : Segment) (was course : Course) : Type 0 where
  pub abreast : are_abreast before.bus ≡ true
  pub followed : IsFollowed before
  pub few : n ≤ length before.stations
  pub frame : CanFrame
  pub newest : frame_at before.bus (bus_len before.bus) ≡ Some frame
  pub in_place : AreInPlace before
  pub told : List Event
  pub steps : FirstTake n frame before.now before.stations after.stations told
  pub notes : Notes was course told
  pub left : after ≡ record before { stations = after.stations; bus = passed_first n before.bus; counts = counted before.counts told }

abbrev pub FirstPass : (n : ℕ) → (before after : Segment) → (was course : Course) → Type 0
FirstPass zero before after was course = (after ≡ before) × Notes was course []
FirstPass (suc n) before after was course = HavePassed (suc n) before after was course

-- a station puts the first frame of its queue, and then the first n of the stations take it
pub record PutAbreast (a : Address) (n : ℕ) (before after : Segment) (was course : Course) : Type 0 where
  pub between : Segment
  pub frame : CanFrame
  pub put : at_address before a (transmits before) ≡ done between
  pub front : front (station_at before a).queue ≡ Some frame
  pub shown : Course
  pub frames : shown.frames.items ≡ was.frames.items ++ frame ∷ []
  pub parts : shown.parts.items ≡ was.parts.items
  pub passed : FirstPass n between after shown course
