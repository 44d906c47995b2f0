-- Which clients and ports have news: something went into their ring that wasn't there when they were last named.
use Rattle.std.specs.Prelude.{◌≡◌, ℕ, ◌<◌, Bool, true, false, length, nat_lt, slice_index_or, slice_set}
use Rattle.port_table.specs.declared.port.PortId.{PortId}
use Rattle.live_segment.specs.LiveView.{LiveView, ClientView, PortView}
use Rattle.live_segment.specs.declared.news.News.{News}
use Rattle.live_segment.specs.declared.news.News.TheVariants as news

-- more notes went into the client's ring than when it was last named
abbrev pub client_has_news : ClientView → Bool
client_has_news c = nat_lt c.named (length c.noted)

-- more deliveries went into the port's ring than when it was last named
abbrev pub port_has_news : PortView → Bool
port_has_news p = nat_lt p.named (length p.pushed)

abbrev pub client_named : ClientView → ClientView
client_named c = record c { named = length c.noted }

abbrev pub port_named : PortView → PortView
port_named p = record p { named = length p.pushed }

-- a client that has news was named, and nothing else has changed but what is known of the rings
pub record ClientNamed (a b : LiveView) (c : ℕ) : Type 0 where
  pub within : c < length a.clients
  pub had : (x : ClientView) → client_has_news (slice_index_or a.clients c x) ≡ true
  pub addresses : b.addresses ≡ a.addresses
  pub stopped : b.stopped ≡ a.stopped
  pub pieces : b.pieces ≡ a.pieces
  pub calls : b.calls ≡ a.calls
  pub clients : (x : ClientView) → b.clients ≡ slice_set a.clients c (client_named (slice_index_or a.clients c x))
  pub ports : b.ports ≡ a.ports

-- a port that has news was named, and nothing else has changed but what is known of the rings
pub record PortNamed (a b : LiveView) (port : PortId) : Type 0 where
  pub place : ℕ
  pub within : place < length a.ports
  pub is : (x : PortView) → (slice_index_or a.ports place x).port ≡ port
  pub had : (x : PortView) → port_has_news (slice_index_or a.ports place x) ≡ true
  pub addresses : b.addresses ≡ a.addresses
  pub stopped : b.stopped ≡ a.stopped
  pub pieces : b.pieces ≡ a.pieces
  pub calls : b.calls ≡ a.calls
  pub clients : b.clients ≡ a.clients
  pub ports : (x : PortView) → b.ports ≡ slice_set a.ports place (port_named (slice_index_or a.ports place x))

abbrev pub IsNamed : (a b : LiveView) → News → Type 0
IsNamed a b (news.Client c) = ClientNamed a b c
IsNamed a b (news.Port p) = PortNamed a b p

-- no client and no port has news
abbrev pub NoNews : LiveView → Type 0
NoNews v = ((c : ℕ) (x : ClientView) → c < length v.clients → client_has_news (slice_index_or v.clients c x) ≡ false)
    × ((k : ℕ) (x : PortView) → k < length v.ports → port_has_news (slice_index_or v.ports k x) ≡ false)
