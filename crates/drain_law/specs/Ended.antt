-- How messages that wait are ended by a drain.
use Rattle.std.specs.Prelude.{◌≡◌, ◌<◌, ◌≤◌, ◌+◌, ◌^◌, ℕ, List, [], length, Some}
use Rattle.pgn_ids.specs.declared.address.Address.{Address}
use Rattle.bus_order.specs.Bus.{bus_len}
use Rattle.segment_law.specs.Drive.{events_in}
use Rattle.segment_law.specs.Record.{Record, StandsAt}
use Rattle.segment_law.specs.Segment.{Segment, new_segment}
use Rattle.segment_drain.specs.Drains.{Drain, drained}
use Rattle.segment_drain.specs.Enough.{enough_turns}
use Rattle.segment_drain.specs.declared.end.DrainEnd.TheVariants as end
use Rattle.drain_law.specs.Waiting.{messages_of, IsReady, frames_of, events_of_all}

-- a drain puts exactly the frames of the messages, in their order, has exactly their events, and ends at rest
pub record AreEnded (seg : Segment) (drain : Drain) : Type 0 where
  pub frames : drain.frames ≡ frames_of seg (messages_of seg)
  pub events : events_in drain.calls ≡ events_of_all seg (messages_of seg)
  pub ended : drain.ended ≡ Some end.Rest
  pub ready : IsReady drain.segment
  pub empty : messages_of drain.segment ≡ []

-- with enough turns, if the bus has places for these frames
abbrev pub EndByDestination : Type 0
EndByDestination = (addresses : List Address) (steps : Record) (seg : Segment) (turns : ℕ) → StandsAt addresses steps seg → IsReady seg
    → bus_len seg.bus + length (frames_of seg (messages_of seg)) < 2 ^ 64 → enough_turns seg ≤ turns → AreEnded seg (drained seg turns)

-- a new segment is ready, and no message waits on it
abbrev pub NewIsReady : Type 0
NewIsReady = (addresses : List Address) → IsReady (new_segment addresses) × (messages_of (new_segment addresses) ≡ [])
