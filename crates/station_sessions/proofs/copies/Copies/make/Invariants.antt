use Rattle.std.proofs.Common.{◌≡◌, length, vec_capacity}
use Rattle.std.specs.Prelude.{All}
use Rattle.station_sessions.proofs.copies.Copies.make.Given as goal

abbrev pub invariant-loop : goal.invariant-loop
invariant-loop l = (length l.rooms.items ≡ l.counter) × (All (λ room. room ≡ l.size) l.rooms.items) × (vec_capacity l.rooms ≡ l.count)
