-- A lane as it is kept.
use Rattle.std.specs.Prelude.{◌≡◌, ℕ, ◌≤◌, Bool, ◌||◌, ◌==◌, true, false, List, [], ◌∷◌, length, ⊤}
use Rattle.pgn_ids.specs.Address.{is_one, global_address}
use Rattle.tp_wire.specs.declared.constants.TheConstants.{MIN_SIZE}
use Rattle.originator.specs.Readers.{link_of}
use Rattle.lane_core.specs.declared.lane.Lane.TheInside.{Inside}
use Rattle.lane_core.specs.declared.message.Pending.{Pending}
use Rattle.lane_core.specs.declared.place.UnderWay.{UnderWay}
use Rattle.lane_core.specs.declared.place.UnderWay.TheVariants.{Nothing, Broadcast, Connection}
use Rattle.lane_core.specs.declared.probe.Standing.{Standing}
use Rattle.lane_core.specs.declared.probe.Standing.TheVariants.{Settled, Probing}
use Rattle.lane_core.specs.Lane.{Lane, lane_limit, longest_to, link_for}
use Rattle.lane_core.specs.Probe.{most_requests}

abbrev pub lane_value : Inside → Lane
lane_value l = record { from = l.from.0; to = l.to.0; sent = l.sent; pending = l.pending.items; under_way = l.place; standing = l.standing; token = l.token }

-- each message can be carried to the destination
abbrev pub AreCarried : (to : ℕ) → List Pending → Type 0
AreCarried to [] = ⊤
AreCarried to (m ∷ messages) = ((MIN_SIZE ≤ length m.bytes) × (length m.bytes ≤ longest_to to)) × AreCarried to messages

-- what is under way carries the front message
abbrev pub CarriesFront : (from to : ℕ) → UnderWay → List Pending → Type 0
CarriesFront from to Nothing messages = ⊤
CarriesFront from to (Broadcast s) [] = ⊥
CarriesFront from to (Broadcast s) (m ∷ _) = (to ≡ global_address) × (s.len ≡ length m.bytes)
CarriesFront from to (Connection s) [] = ⊥
CarriesFront from to (Connection s) (m ∷ _) = (is_one to ≡ true) × (link_of s ≡ link_for from to m)

-- the Requests of a round are counted from 1
abbrev pub IsCounted : Standing → Type 0
IsCounted (Probing count timer) = (1 ≤ count) × (count ≤ most_requests)
IsCounted _ = ⊤

-- a message is under way
abbrev pub is_under_way : UnderWay → Bool
is_under_way Nothing = false
is_under_way (Broadcast s) = true
is_under_way (Connection s) = true

-- a message is under way only if the lane is settled
abbrev pub IsCalm : UnderWay → Standing → Type 0
IsCalm under_way standing = is_under_way under_way ≡ true → standing ≡ Settled

-- the lane to all is always settled
abbrev pub IsSettledToAll : (to : ℕ) → Standing → Type 0
IsSettledToAll to standing = to ≡ global_address → standing ≡ Settled

-- what holds of every lane
pub record IsLane (l : Lane) : Type 0 where
  pub source : is_one l.from ≡ true
  pub destination : (is_one l.to || l.to == global_address) ≡ true
  pub few : length l.pending ≤ lane_limit
  pub carried : AreCarried l.to l.pending
  pub front : CarriesFront l.from l.to l.under_way l.pending
  pub counted : IsCounted l.standing
  pub calm : IsCalm l.under_way l.standing
  pub to_all : IsSettledToAll l.to l.standing

abbrev pub IsLaneInside : Inside → Type 0
IsLaneInside l = IsLane (lane_value l)
