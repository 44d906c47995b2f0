-- The promise for the record of a segment.
use Rattle.std.specs.Prelude.{List}
use Rattle.pgn_ids.specs.declared.address.Address.{Address}
use Rattle.segment_law.specs.Headline.{Headline}
use Rattle.segment_law.specs.Record.{Record, StandsAt}
use Rattle.segment_law.specs.Segment.{Segment}

-- each port was given the messages of one station to one destination at most once, in the order sent, byte for byte, and none after
-- its closing; and what was acknowledged had been given: whatever the segment's record is
abbrev pub KeepsPromise : Segment → Type 0
KeepsPromise seg = (addresses : List Address) (steps : Record) → StandsAt addresses steps seg → Headline addresses steps
