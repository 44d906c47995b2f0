use Rattle.std.proofs.Common.{◌≡◌}
use Rattle.segment_rings.specs.Ends.{lets_read_go}
use Rattle.segment_rings.specs.Tails.{GoesOn}
use Rattle.segment_rings.proofs.client.Client.outcome.Given as goal

abbrev pub invariant-loop : goal.invariant-loop
invariant-loop g l = (l.self ≡ lets_read_go l.fn.self l.self.read_gone) × GoesOn l.fn.self.read_gone l.self.read_gone l.fn.self.read
