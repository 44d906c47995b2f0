-- A frame that was read once for all stations, as it is kept.
use Rattle.std.specs.Prelude.{◌≡◌, true, IfSome}
use Rattle.bus_frame.specs.Frames.{CanFrame}
use Rattle.pgn_ids.specs.Identifier.{meaning_of}
use Rattle.tp_wire.specs.Reading.{reading}
use Rattle.tp_wire.specs.Rows.{comes_from}
use Rattle.drive_course.specs.declared.seen.Seen.TheInside.{Inside}

abbrev pub seen_value : Inside → CanFrame
seen_value s = s.frame.now

-- what was read of it is what it means
pub record IsSeen (s : Inside) : Type 0 where
  pub meaning : s.meaning ≡ meaning_of s.frame.now.id
  pub heard : s.heard ≡ reading s.frame.now
  pub source : IfSome s.heard (λ h. comes_from h.0 h.1.0 ≡ true)
