-- What the relay of a run did, and what the records of the two segments say of it.
use Rattle.std.specs.Prelude.{◌≡◌, ℕ, ◌+◌, ◌≤◌, ◌==◌, cond, nat_lt, Bool, true, false, List, [], ◌∷◌, length, map, take, Option, Some, None}
use mathlib.Core.List.{IsPrefix}
use Rattle.pgn_ids.specs.declared.address.Address.{Address}
use Rattle.segment_rings.specs.declared.words.Submission.{Submission}
use Rattle.segment_rings.specs.declared.words.Delivery.{Delivery}
use Rattle.script_segments.specs.Reports.{ClientReport}
use Rattle.script_segments.specs.LiveView.{LiveView}
use Rattle.live_record.specs.Record.{accepted, given, notes_of, trail}
use Rattle.port_relay.specs.Working.{relayed_to}
use Rattle.script_segments.specs.declared.relay.gateway.Passage.{Passage}
use Rattle.bus_relay.specs.declared.carrying.Carried.{Carried}
use Rattle.bus_relay.specs.declared.text.Carriage.{Carriage}

-- at most so many messages were received, and the first of them were submitted, in order, to one station
pub record HasCarried (c : Carried) : Type 0 where
  pub counted : c.pulled ≡ c.pushed + c.left
  pub pulled : length c.inbox.received ≡ c.pulled
  pub submitted : c.client.submitted ≡ map (relayed_to c.to) (take c.pushed c.inbox.received)
  pub within : c.pulled ≤ c.limit

-- the relay took this passage, with the client of this number
pub record IsBy (c : Carried) (p : Passage) (client : ℕ) : Type 0 where
  pub station : c.inbox.port.station.0 ≡ p.port.station.0
  pub number : c.inbox.port.number ≡ p.port.number
  pub id : c.client.id ≡ client
  pub to : c.to.0 ≡ p.to.0
  pub limit : c.limit ≡ p.limit

-- the place of a station among others, which is the number of its client
abbrev pub place_of : Address → List Address → ℕ
place_of a [] = 0
place_of a (b ∷ bs) = cond (b.0 == a.0) 0 (place_of a bs + 1)

-- all that these clients submitted was accepted
abbrev pub none_left : List ClientReport → Bool
none_left [] = true
none_left (r ∷ rs) = cond (nat_lt 0 (length r.left.items)) false (none_left rs)

-- what the record of the first segment gave to the port
abbrev pub port_given : Passage → (near : LiveView) → List Delivery
port_given p near = given p.port (trail near.addresses near.calls).events

-- what the record of the second one has of the client of the station that the relay sends from
abbrev pub client_sent : Passage → (stations : List Address) → (far : LiveView) → List Submission
client_sent p stations far = accepted (place_of p.from stations) far.calls

-- the relay received the first messages that the port was given, at most so many. The first of these were sent by its client, in order,
-- with their PGN and bytes, to the one station
pub record IsCarried (p : Passage) (stations : List Address) (c : Carriage) (near far : LiveView) : Type 0 where
  pub counted : c.pulled ≡ c.pushed + c.left
  pub within : c.pulled ≤ p.limit
  pub received : c.pulled ≤ length (port_given p near)
  pub sent : IsPrefix (client_sent p stations far) (map (relayed_to p.to) (take c.pushed (port_given p near)))

-- all that was to be relayed was received, was sent on, and has its outcome
pub record IsCarriedWhole (p : Passage) (stations : List Address) (c : Carriage) (near far : LiveView) : Type 0 where
  pub left : c.left ≡ 0
  pub pulled : c.pulled ≡ p.limit
  pub sent : client_sent p stations far ≡ map (relayed_to p.to) (take p.limit (port_given p near))
  pub noted : p.limit ≤ length (notes_of (place_of p.from stations) (trail far.addresses far.calls).noted)

-- a relay sent on by its passage; without a route nothing is relayed
abbrev pub Carries : Option Passage → (stations : List Address) → Carriage → (near far : LiveView) → Type 0
Carries None stations c near far = c ≡ record { pulled = 0; pushed = 0; left = 0 }
Carries (Some p) stations c near far = IsCarried p stations c near far

abbrev pub CarriesWhole : Option Passage → (stations : List Address) → Carriage → (near far : LiveView) → Type 0
CarriesWhole None stations c near far = Unit {0}
CarriesWhole (Some p) stations c near far = IsCarriedWhole p stations c near far
