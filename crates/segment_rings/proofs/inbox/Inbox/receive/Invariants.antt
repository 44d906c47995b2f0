use Rattle.std.proofs.Common.{◌≡◌, true}
use Rattle.segment_rings.specs.Ends.{lets_received_go}
use Rattle.segment_rings.specs.Tails.{GoesOn}
use Rattle.segment_rings.proofs.inbox.Inbox.receive.Given as goal

abbrev pub invariant-loop : goal.invariant-loop
invariant-loop g l = (l.self ≡ lets_received_go l.fn.self l.self.gone l.self.spare) × GoesOn l.fn.self.gone l.self.gone l.fn.self.received × (l.fn.self.closed ≡ true → l.self ≡ l.fn.self)
