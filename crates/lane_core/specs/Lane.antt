-- A lane: the messages of one station to one destination.
use Rattle.std.specs.Prelude.{ℕ, ◌+◌, ◌^◌, Bool, ◌||◌, not, nat_lt, nat_le, ◌==◌, if◌then◌else◌, List, [], ◌∷◌, ◌++◌, length}
use Rattle.pgn_ids.specs.Address.{global_address}
use Rattle.tp_wire.specs.declared.wire.Kind.{Kind}
use Rattle.tp_wire.specs.declared.wire.Kind.TheVariants.{Tp, Etp}
use Rattle.tp_wire.specs.declared.constants.TheConstants.{TP_MAX_SIZE, ETP_MAX_SIZE}
use Rattle.originator.specs.Link.{Link}
use Rattle.lane_core.specs.declared.message.Pending.{Pending}
use Rattle.lane_core.specs.declared.place.UnderWay.{UnderWay}
use Rattle.lane_core.specs.declared.place.UnderWay.TheVariants.{Nothing}
use Rattle.lane_core.specs.declared.probe.Standing.{Standing}
use Rattle.lane_core.specs.declared.probe.Standing.TheVariants.{Settled}
use Rattle.lane_core.specs.declared.probe.Token.{Token}
use Rattle.lane_core.specs.declared.probe.Token.TheVariants.{ConnectionManagement}

-- the sender and the destination; the number of the last message; the messages without an outcome in their order, of
-- which the first may be under way; whether a connection may begin, and the token of the next Request
pub record Lane : Type 0 where
  pub from : ℕ
  pub to : ℕ
  pub sent : ℕ
  pub pending : List Pending
  pub under_way : UnderWay
  pub standing : Standing
  pub token : Token

-- how many messages a lane has without an outcome at most
abbrev pub lane_limit : ℕ
lane_limit = 32

-- nothing was sent yet
abbrev pub new_lane : (from to : ℕ) → Lane
new_lane from to = record { from = from; to = to; sent = 0; pending = []; under_way = Nothing; standing = Settled; token = ConnectionManagement }

-- no room for one more message, or no number
abbrev pub is_full : Lane → Bool
is_full lane = nat_le lane_limit (length lane.pending) || not (nat_lt (lane.sent + 1) (2 ^ 64))

-- one more message
abbrev pub pushed : Lane → (pgn : ℕ) → List ℕ → Lane
pushed lane pgn bytes = record lane {
  sent = lane.sent + 1;
  pending = lane.pending ++ record { number = lane.sent + 1; pgn = pgn; bytes = bytes } ∷ [];
}

-- the longest message to a destination, in bytes
abbrev pub longest_to : ℕ → ℕ
longest_to to = if to == global_address then TP_MAX_SIZE else ETP_MAX_SIZE

-- the transport that carries so many bytes to one destination
abbrev pub kind_for : ℕ → Kind
kind_for len = if nat_le len TP_MAX_SIZE then Tp else Etp

-- the connection that carries a message from one node to another
abbrev pub link_for : (from to : ℕ) → Pending → Link
link_for from to m = record { kind = kind_for (length m.bytes); from = from; to = to; pgn = m.pgn; len = length m.bytes }

-- the lane with this under way
abbrev pub with_under_way : Lane → UnderWay → Lane
with_under_way lane under_way = record lane { under_way = under_way }
