use Rattle.std.proofs.Common.{◌≡◌, ◌+◌, ◌≤◌, ◌++◌, [], None, option_to_list, vec_capacity}
use Rattle.station_lanes.specs.LaneReaders.{count_below, is_waiting_at, overrun_lanes, overrun_events}
use Rattle.station_lanes.proofs.lanes.Lanes.overrun_all.Given as goal

abbrev pub invariant-loop-place : goal.invariant-loop-place
invariant-loop-place l =
    (l.self ≡ overrun_lanes l.fn.self l.place)
    × (option_to_list l.first ++ l.rest.items ≡ overrun_events l.from l.fn.self l.place)
    × (l.first ≡ None → l.rest.items ≡ [])
    × (count_below (is_waiting_at l.fn.self) 256 ≤ vec_capacity l.rest + 1)
