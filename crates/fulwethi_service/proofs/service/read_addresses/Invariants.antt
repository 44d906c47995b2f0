use Rattle.std.proofs.Common.{◌≡◌, length, take}
use Rattle.fulwethi_service.specs.Reads.{addresses_of}
use Rattle.fulwethi_service.proofs.service.read_addresses.Given as goal

abbrev pub invariant-loop-k : goal.invariant-loop-k
invariant-loop-k l = (length l.stations ≡ length l.fn.stations) × (take l.k l.stations ≡ addresses_of (take l.k l.addresses))
