-- A port was closed, and its inbox was handed the rest.
use Rattle.std.proofs.Common.{◌≡◌, ◌<◌, List, map, None, refl, ◌∙◌, ap}
use Rattle.pgn_ids.specs.declared.address.Address.{Address}
use Rattle.port_table.specs.declared.port.PortId.{PortId}
use Rattle.segment_law.specs.Segment.{Segment}
use Rattle.segment_law.specs.declared.call.Call.TheVariants.{Close}
use Rattle.segment_law.specs.declared.reply.Reply.{Reply}
use Rattle.live_record.specs.Replies.{reply_of}
use Rattle.segment_rings.specs.Ends.{InboxEnd, closes}
use Rattle.segment_rings.specs.Views.{SeatView, DoorView}
use Rattle.stored_calls.specs.declared.stored.Stored.{Stored}
use Rattle.live_segment.specs.declared.closing.Closed.{Closed}
use Rattle.live_record.specs.declared.calls.TheConstants.{MOST_CALLS}
use Rattle.live_record.specs.Record.{trail, stored}
use Rattle.live_segment.specs.LiveView.{LiveView, live_view, stored_calls, client_of, port_of, calls_after, told_clients, Kept}
use Rattle.live_segment.specs.Reports.{HasPort, IsRest, CloseMade, ClosedFor, PortClosed, closing}

-- a Close was made, and answered so
pub close_made : (keeps : Kept) (addresses : List Address) (st : Segment) (xs ys : List Stored) (ss ts : List SeatView) (ds gs : List DoorView) (p : PortId) (r : Reply) → st ≡ (trail addresses xs).state → r ≡ reply_of st (Close p)
    → ys ≡ calls_after r xs (stored None (Close p)) → map client_of ts ≡ told_clients (live_view keeps addresses xs ss ds) r → map port_of gs ≡ map port_of ds → CloseMade (live_view keeps addresses xs ss ds) (live_view keeps addresses ys ts gs) p
close_made keeps addresses st xs ys ss ts ds gs p r at is calls clients ports =
    let e : r ≡ reply_of (trail addresses xs).state (Close p) = is ∙ ap (λ (s : Segment). reply_of s (Close p)) at in
    record {
      addresses = refl;
      stopped = refl;
      pieces = refl;
      calls = calls ∙ ap (λ (q : Reply). calls_after q xs (stored None (Close p))) e;
      clients = clients ∙ ap (λ (q : Reply). told_clients (live_view keeps addresses xs ss ds) q) e;
      ports = ports;
    }

-- and then the port's door was closed
pub closed_for : (a b : LiveView) (keeps : Kept) (addresses : List Address) (xs : List Stored) (ss : List SeatView) (ds gs : List DoorView) (i j : InboxEnd) (p : PortId) (r : Closed)
    → CloseMade a b p → live_view keeps addresses xs ss ds ≡ b → stored_calls a < MOST_CALLS → HasPort a.ports i.port → p ≡ i.port → r.port ≡ p → IsRest a i r.rest.items → j ≡ closes i r.rest.items j.spare
    → map port_of gs ≡ map (closing p) (map port_of ds) → ClosedFor a (live_view keeps addresses xs ss gs) i j r
closed_for a b keeps addresses xs ss ds gs i j p r made at few here e is rest inbox ports = record {
  few = few;
  within = here;
  port = is ∙ e;
  rest = rest;
  inbox = inbox;
  addresses = ap (λ (v : LiveView). v.addresses) at ∙ made.addresses;
  stopped = ap (λ (v : LiveView). v.stopped) at ∙ made.stopped;
  pieces = ap (λ (v : LiveView). v.pieces) at ∙ made.pieces;
  calls = ap (λ (v : LiveView). v.calls) at ∙ made.calls ∙ ap (λ (q : PortId). calls_after (reply_of (trail a.addresses a.calls).state (Close q)) a.calls (stored None (Close q))) e;
  clients = ap (λ (v : LiveView). v.clients) at ∙ made.clients ∙ ap (λ (q : PortId). told_clients a (reply_of (trail a.addresses a.calls).state (Close q))) e;
  ports = ports ∙ ap (λ (v : LiveView). map (closing p) v.ports) at ∙ ap (map (closing p)) made.ports ∙ ap (λ (q : PortId). map (closing q) a.ports) e;
}

-- the same without the inbox
pub port_closed : (a m b : LiveView) (p : PortId) → stored_calls a < MOST_CALLS → HasPort a.ports p → CloseMade a m p → b.addresses ≡ m.addresses → b.stopped ≡ m.stopped → b.pieces ≡ m.pieces → b.calls ≡ m.calls → b.clients ≡ m.clients
    → b.ports ≡ map (closing p) m.ports → PortClosed a b p
port_closed a m b p few here made addresses stopped pieces calls clients ports = record {
  few = few;
  within = here;
  addresses = addresses ∙ made.addresses;
  stopped = stopped ∙ made.stopped;
  pieces = pieces ∙ made.pieces;
  calls = calls ∙ made.calls;
  clients = clients ∙ made.clients;
  ports = ports ∙ ap (map (closing p)) made.ports;
}
