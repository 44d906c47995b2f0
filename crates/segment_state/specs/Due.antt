-- Timers of all stations.
use Rattle.std.specs.Prelude.{ℕ, Bool}
use Rattle.std.specs.List.{list_any}
use Rattle.station_core.specs.Timers.{is_due}
use Rattle.segment_law.specs.Segment.{Segment}

-- at a tick, a timer of some station is due
abbrev pub any_due : Segment → (now : ℕ) → Bool
any_due seg now = list_any (λ station. is_due station now) seg.stations
