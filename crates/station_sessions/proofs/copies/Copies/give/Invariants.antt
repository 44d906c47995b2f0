use Rattle.std.proofs.Common.{◌≡◌, ◌+◌, ◌≤◌, length, take, vec_capacity}
use Rattle.std.specs.Prelude.{All}
use Rattle.station_sessions.specs.Given.{given_to}
use Rattle.station_sessions.proofs.copies.Copies.give.Given as goal

abbrev pub invariant-loop-number : goal.invariant-loop-number
invariant-loop-number l =
    (length l.rooms.items + l.number-index ≡ length l.numbers)
    × (All (λ room. length l.message.bytes ≤ room) l.rooms.items)
    × (l.events.items ≡ given_to l.station (take l.number-index l.numbers) l.message)
    × (length l.numbers ≤ vec_capacity l.events)
