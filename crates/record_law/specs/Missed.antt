-- What follows frames that a station missed.
use Rattle.std.specs.Prelude.{◌≡◌, Bool, false, ◌&&◌, not, ◌==◌, Err, IsTrue}
use Rattle.std.specs.List.{list_all}
use Rattle.pgn_ids.specs.declared.address.Address.{Address}
use Rattle.station_core.specs.Overruns.{HasNoneUnderWay}
use Rattle.segment_law.specs.Segment.{Segment, station_at}
use Rattle.segment_law.specs.Calls.{called, is_call}
use Rattle.segment_law.specs.Record.{Step, Record, replies_from, after, calls_of, replies_of}
use Rattle.segment_law.specs.declared.call.Call.{Call}
use Rattle.segment_law.specs.declared.call.Call.TheVariants.{Take, TakeAgain}
use Rattle.segment_law.specs.declared.refusal.Refusal.TheVariants.{NothingToRepeat}
use Rattle.record_law.specs.Counting.{is_done}

-- a station takes the next frame
abbrev pub is_take_at : Address → Call → Bool
is_take_at a (Take station room) = station.0 == a.0
is_take_at a _ = false

abbrev pub takes_at : Address → Step → Bool
takes_at a step = is_done step.1 && is_take_at a step.0

-- a station has no incoming session and no connection under way; its TakeAgain is refused after any calls, until it has
-- taken a frame
pub record HasMissed (seg : Segment) (a : Address) : Type 0 where
  pub none : HasNoneUnderWay (station_at seg a)
  pub again : (more : Record) (room : Bool) → IsTrue (list_all is_call (calls_of more)) → replies_from seg (calls_of more) ≡ replies_of more
      → IsTrue (list_all (λ step. not (takes_at a step)) more) → called (after seg (calls_of more)) (TakeAgain a room) ≡ Err NothingToRepeat
