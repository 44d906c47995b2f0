use Rattle.std.proofs.Common.{◌≡◌, take}
use Rattle.live_segment.specs.Reports.{gone_clients, gone_ports}
use Rattle.live_segment.proofs.live.Live.retire.Given as goal

abbrev pub invariant-loop-client : goal.invariant-loop-client
invariant-loop-client l = record {
  addresses : l.self.addresses ≡ l.fn.self.addresses;
  stopped : l.self.stopped ≡ l.fn.self.stopped;
  pieces : l.self.pieces ≡ l.fn.self.pieces;
  calls : l.self.calls ≡ l.fn.self.calls;
  clients : l.self.clients ≡ gone_clients (take l.client-index l.clients) l.fn.self.clients;
  ports : l.self.ports ≡ l.fn.self.ports;
}

abbrev pub invariant-loop-inbox : goal.invariant-loop-inbox
invariant-loop-inbox l = record {
  addresses : l.self.addresses ≡ l.fn.self.addresses;
  stopped : l.self.stopped ≡ l.fn.self.stopped;
  pieces : l.self.pieces ≡ l.fn.self.pieces;
  calls : l.self.calls ≡ l.fn.self.calls;
  clients : l.self.clients ≡ gone_clients l.clients l.fn.self.clients;
  ports : l.self.ports ≡ gone_ports (take l.inbox-index l.inboxes) l.fn.self.ports;
}
