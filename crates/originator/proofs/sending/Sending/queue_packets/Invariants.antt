use Rattle.std.proofs.Common.{◌≡◌, ◌+◌, ◌-◌, ◌++◌, length}
use Rattle.originator.specs.Pump.{packet_frames}
use Rattle.originator.proofs.sending.Sending.queue_packets.Given as goal

-- the packets before `k` stand behind what was there
abbrev pub invariant-loop-k : goal.invariant-loop-k
invariant-loop-k l =
    (l.queue ≡ l.initial.queue ++ packet_frames l.link l.next l.bytes l.self.at (l.k - l.self.at))
    × (length l.queue ≡ length l.initial.queue + (l.k - l.self.at))
