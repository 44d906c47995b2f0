-- What the turns of workers do.
use Rattle.std.specs.Prelude.{◌≡◌, ℕ, zero, suc, ◌-◌, ◌<◌, ◌≤◌, ◌⊎◌, Bool, true, false, ◌&&◌, cond, length, Option, Some, None, nat_lt, nat_le}
use Rattle.tx_queue.specs.Queue.{queue_limit}
use Rattle.bus_order.specs.Bus.{kept_limit}
use Rattle.pgn_ids.specs.declared.address.Address.{Address}
use Rattle.segment_law.specs.Segment.{Segment, plus, waiting_at}
use Rattle.segment_law.specs.Readers.{queue_len, next_pump, is_due, is_idle}
use Rattle.segment_law.specs.declared.refusal.Refusal.{Refusal}
use Rattle.segment_law.specs.declared.refusal.Refusal.TheVariants.{TraceFull}
use Rattle.segment_law.specs.declared.reply.Reply.{Reply}
use Rattle.segment_law.specs.declared.reply.Reply.TheVariants.{Opened, Sent, Refused, Done}
use Rattle.live_calls.specs.declared.call.WorkerCall.{WorkerCall}
use Rattle.live_calls.specs.declared.call.WorkerCall.TheVariants.{Pump, Transmit, Take, Overrun, Tick, Fire}
use Rattle.live_record.specs.declared.calls.TheConstants.{MOST_CALLS}
use Rattle.live_segment.specs.declared.turns.TheConstants.{IDLE_TICKS}
use Rattle.live_segment.specs.declared.refused.Accepted.{Accepted}
use Rattle.live_segment.specs.declared.refused.Accepted.TheVariants as accepted
use Rattle.live_segment.specs.declared.turns.Turn.{Turn}
use Rattle.live_record.specs.Record.{trail}
use Rattle.live_segment.specs.LiveView.{LiveView, SameLive, Applied, LacksMemory, stored_calls}
use Rattle.live_segment.specs.Offers.{AcceptedAs, LacksMemoryFor, IsClientOf}
use Rattle.live_calls.specs.Lowest.{IsNext}

abbrev pub state_of : LiveView → Segment
state_of v = (trail v.addresses v.calls).state

-- a segment in the course of a turn, and what the turn did so far
pub record Point : Type 0 where
  pub live : LiveView
  pub turn : Turn

abbrev pub point : LiveView → Turn → Point
point live turn = record { live = live; turn = turn }

abbrev pub no_turn : Turn
no_turn = record { calls = 0; ended = false }

-- one call more, up to the last value
abbrev pub one_more : Turn → Turn
one_more t = record t { calls = plus t.calls 1 }

-- no more calls can be stored
abbrev pub is_full : Refusal → Bool
is_full TraceFull = true
is_full _ = false

abbrev pub after_refusal : Turn → Refusal → Turn
after_refusal t c = cond (is_full c) (record t { ended = true }) t

-- a turn in which a call was answered so
abbrev pub after_reply : Turn → Reply → Turn
after_reply t (Opened p) = one_more t
after_reply t (Sent n) = one_more t
after_reply t (Refused c) = after_refusal t c
after_reply t (Done es) = one_more t

abbrev pub after_accept : Turn → Accepted → Turn
after_accept t accepted.Empty = t
after_accept t accepted.Owed = t
after_accept t (accepted.Refused c) = after_refusal t c
after_accept t (accepted.Sent n) = one_more t

-- a call was made and answered so; without a place to store it, it is refused and changes nothing
abbrev pub IsAnswered : LiveView → LiveView → WorkerCall → Reply → Type 0
IsAnswered a b call r = ((MOST_CALLS ≤ stored_calls a) × (r ≡ Refused TraceFull) × (b ≡ a)) ⊎ ((stored_calls a < MOST_CALLS) × ((room : Bool) × Applied a b call r room))

-- one call is made: it is answered, or memory is lacking and nothing changes
abbrev pub Makes : WorkerCall → Point → Point → Type 0
Makes call p q = ((r : Reply) × IsAnswered p.live q.live call r × (q.turn ≡ after_reply p.turn r)) ⊎ (SameLive p.live q.live × LacksMemory p.live call × (q.turn ≡ p.turn))

-- the front submission of client c is looked at once, in that way
abbrev pub Accepts : ℕ → Point → Point → Type 0
Accepts c p q = ((r : Accepted) × AcceptedAs p.live q.live c r × (q.turn ≡ after_accept p.turn r)) ⊎ (SameLive p.live q.live × LacksMemoryFor p.live q.live c × (q.turn ≡ p.turn))

-- nothing is done for a client of another station
abbrev pub AcceptsOne : Address → ℕ → Point → Point → Type 0
AcceptsOne station c p q = (IsClientOf station c p.live × Accepts c p q) ⊎ ((IsClientOf station c p.live → ⊥) × (q ≡ p))

-- a station accepts once for each of its clients with a number below n, by rising number
abbrev pub AcceptsBelow : ℕ → Address → Point → Point → Type 0
AcceptsBelow zero station p q = q ≡ p
AcceptsBelow (suc n) station p q = (m : Point) × AcceptsBelow n station p m × AcceptsOne station n m q

-- the call is made if there is something to do
abbrev pub MakesWhere : Bool → WorkerCall → Point → Point → Type 0
MakesWhere true call p q = Makes call p q
MakesWhere false call p q = q ≡ p

abbrev pub PumpsTo : Option Address → Address → Point → Point → Type 0
PumpsTo None station p q = q ≡ p
PumpsTo (Some to) station p q = Makes (Pump station to) p q

-- a station can't go on by itself: its queue has no place for an answer, so it takes nothing; and with the frame that it took last
-- as many wait for it as the bus keeps, so no frame leaves a queue. Only an Overrun, by which it misses them, lets either go on
abbrev pub is_stuck : Segment → Address → Bool
is_stuck seg a = nat_le (kept_limit - 1) (waiting_at seg a) && nat_le queue_limit (queue_len seg a)

-- the turn of a station: its clients, then at most one Pump, one Take and one Fire; a station that is stuck then misses what waits
pub record StationTurn (station : Address) (p q : Point) : Type 0 where
  pub accepted : Point
  pub pumped : Point
  pub taken : Point
  pub fired : Point
  pub accepts : AcceptsBelow (length p.live.clients) station p accepted
  pub pumps : PumpsTo (next_pump (state_of accepted.live) station) station accepted pumped
  pub takes : MakesWhere (nat_lt 0 (waiting_at (state_of pumped.live) station)) (Take station) pumped taken
  pub fires : MakesWhere (is_due (state_of taken.live) station) (Fire station) taken fired
  pub misses : MakesWhere (is_stuck (state_of fired.live) station) (Overrun station (waiting_at (state_of fired.live) station)) fired q

-- what a turn does behind its Pump
pub record Finishes (station : Address) (p q : Point) : Type 0 where
  pub taken : Point
  pub fired : Point
  pub takes : MakesWhere (nat_lt 0 (waiting_at (state_of p.live) station)) (Take station) p taken
  pub fires : MakesWhere (is_due (state_of taken.live) station) (Fire station) taken fired
  pub misses : MakesWhere (is_stuck (state_of fired.live) station) (Overrun station (waiting_at (state_of fired.live) station)) fired q

-- the station of the lowest identifier transmits; if none does, the clock advances by IDLE_TICKS if all rest
abbrev pub TransmitsOr : Option Address → Point → Point → Type 0
TransmitsOr (Some station) p q = Makes (Transmit station) p q
TransmitsOr None p q = MakesWhere (is_idle (state_of p.live)) (Tick IDLE_TICKS) p q

-- the turn of the bus
pub record BusTurn (p q : Point) : Type 0 where
  pub next : Option Address
  pub is : IsNext (state_of p.live) p.live.addresses next
  pub transmits : TransmitsOr next p q
