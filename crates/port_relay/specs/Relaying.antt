-- What one relay did.
use Rattle.std.specs.Prelude.{◌≡◌, ℕ, ◌≤◌, List, ◌++◌, map, length, All}
use Rattle.pgn_ids.specs.declared.address.Address.{Address}
use Rattle.segment_rings.specs.declared.words.Delivery.{Delivery}
use Rattle.segment_rings.specs.Ends.{ClientEnd, InboxEnd}
use Rattle.port_relay.specs.declared.relaying.Relayed.{Relayed}
use Rattle.port_relay.specs.declared.stopping.Ended.TheVariants.{Limit}
use Rattle.port_relay.specs.Working.{receives_all, submits_all, relayed_to, IsFit}

-- the inbox received what the client submitted, to one station, and then what is left, in order and byte for byte. All that was
-- submitted are messages that the client may submit, so nothing is submitted behind one that it may not. If the receiving ended at
-- the limit, as many were received
pub record IsRelayed (to : Address) (limit : ℕ) (i j : InboxEnd) (c d : ClientEnd) (r : Relayed) : Type 0 where
  pub pushed : List Delivery
  pub inbox : j ≡ receives_all i (pushed ++ r.left.items) j.gone j.spare
  pub client : d ≡ submits_all c (map (relayed_to to) pushed) d.free d.gone
  pub inbox_gone : i.gone ≤ j.gone
  pub client_gone : c.gone ≤ d.gone
  pub count_pulled : r.pulled ≡ length (pushed ++ r.left.items)
  pub count_pushed : r.pushed ≡ length pushed
  pub within : r.pulled ≤ limit
  pub fit : All (IsFit c.station to) pushed
  pub at_limit : r.pulling ≡ Limit → r.pulled ≡ limit
