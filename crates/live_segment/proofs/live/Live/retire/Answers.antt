use Rattle.std.proofs.Common.{◌≡◌, ℕ, ◌+◌, ◌<◌, List, ◌∷◌, ◌++◌, length, map, take, sym, ap, ◌∙◌, arith, []}
use Rattle.std.proofs.lemmas.List.{take_more}
use Rattle.port_table.specs.declared.port.PortId.{PortId}
use Rattle.segment_rings.specs.Ends.{ClientEnd, InboxEnd}
use Rattle.live_segment.specs.LiveView.{ClientView, PortView}
use Rattle.live_segment.specs.Reports.{closing, gone, gone_clients, gone_ports}
use Rattle.live_segment.proofs.Telling.{gone_clients-more, gone_ports-more}
use Rattle.live_segment.proofs.live.Live.retire.Goals as goal

pub loop-client-preserved : goal.loop-client-preserved
loop-client-preserved c =
    let cs = c.args.clients.now in
    let i = c.loop-client.client-index in
    let x = c.client-item.result in
    let vs = c.args.self.now.clients in
    let l : i < length cs = omega arith in
    let more : take (i + 1) cs ≡ take i cs ++ x ∷ [] = take_more cs i x l ∙ ap (λ (y : ClientEnd). take i cs ++ y ∷ []) (sym c.client-item.is) in
    record {
      addresses = c.retire_client.ensures.addresses ∙ c.loop-client.invariant.addresses;
      stopped = c.retire_client.ensures.stopped ∙ c.loop-client.invariant.stopped;
      pieces = c.retire_client.ensures.pieces ∙ c.loop-client.invariant.pieces;
      calls = c.retire_client.ensures.calls ∙ c.loop-client.invariant.calls;
      clients = c.retire_client.ensures.clients ∙ ap (λ (u : List ClientView). gone u c.id.result) c.loop-client.invariant.clients ∙ ap (λ (k : ℕ). gone (gone_clients (take i cs) vs) k) c.id.ensures
          ∙ sym (gone_clients-more (take i cs) x vs) ∙ ap (λ (u : List ClientEnd). gone_clients u vs) (sym more);
      ports = c.retire_client.ensures.ports ∙ c.loop-client.invariant.ports;
    }

pub loop-inbox-preserved : goal.loop-inbox-preserved
loop-inbox-preserved c =
    let is = c.args.inboxes.now in
    let i = c.loop-inbox.inbox-index in
    let x = c.inbox-item.result in
    let ps = c.args.self.now.ports in
    let l : i < length is = omega arith in
    let more : take (i + 1) is ≡ take i is ++ x ∷ [] = take_more is i x l ∙ ap (λ (y : InboxEnd). take i is ++ y ∷ []) (sym c.inbox-item.is) in
    record {
      addresses = c.retire_port.ensures.addresses ∙ c.loop-inbox.invariant.addresses;
      stopped = c.retire_port.ensures.stopped ∙ c.loop-inbox.invariant.stopped;
      pieces = c.retire_port.ensures.pieces ∙ c.loop-inbox.invariant.pieces;
      calls = c.retire_port.ensures.calls ∙ c.loop-inbox.invariant.calls;
      clients = c.retire_port.ensures.clients ∙ c.loop-inbox.invariant.clients;
      ports = c.retire_port.ensures.ports ∙ ap (λ (u : List PortView). map (closing c.port.result) u) c.loop-inbox.invariant.ports ∙ ap (λ (q : PortId). map (closing q) (gone_ports (take i is) ps)) c.port.ensures
          ∙ sym (gone_ports-more (take i is) x ps) ∙ ap (λ (u : List InboxEnd). gone_ports u ps) (sym more);
    }
