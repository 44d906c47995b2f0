-- What a drain does next.
use Rattle.std.specs.Prelude.{ℕ, zero, suc, ◌+◌, ◌-◌, ◌^◌, max, Bool, false, true, ◌&&◌, ◌||◌, ◌==◌, nat_lt, if◌then◌else◌, List, [], ◌∷◌, Option, Some, None, is_some, is_none, unwrap_or}
use Rattle.std.specs.Option.{option_map}
use Rattle.bus_frame.specs.Frames.{CanFrame}
use Rattle.bus_order.specs.Bus.{bus_len}
use Rattle.pgn_ids.specs.declared.address.Address.{Address}
use Rattle.tp_wire.specs.declared.constants.TheConstants.{TP_CTS, ETP_CTS}
use Rattle.station_lanes.specs.LaneReaders.{least_below}
use Rattle.segment_law.specs.Segment.{Segment, waiting_at}
use Rattle.segment_law.specs.Calls.{called}
use Rattle.segment_law.specs.Readers.{next_pump}
use Rattle.segment_law.specs.declared.call.Call.{Call}
use Rattle.segment_law.specs.declared.call.Call.TheVariants.{Pump, Transmit, Take, Overrun, Tick, Fire}
use Rattle.segment_law.specs.declared.refusal.Refusal.{Refusal}
use Rattle.segment_law.specs.declared.refusal.Refusal.TheVariants as refusal
use Rattle.segment_state.specs.Answers.{refusal_of}
use Rattle.segment_state.specs.Next.{any_work}
use Rattle.segment_drain.specs.declared.end.DrainEnd.TheVariants as end
use Rattle.segment_drain.specs.declared.kind.Kind.{Kind}
use Rattle.segment_drain.specs.declared.kind.Kind.TheVariants as kind
use Rattle.segment_drain.specs.declared.choosing.Next.{Next}
use Rattle.segment_drain.specs.declared.choosing.Next.TheVariants.{Make, End}

-- so many addresses are those of one node
abbrev pub nodes : ℕ
nodes = 254

abbrev pub node : ℕ → Address
node n = record { 0 = n }

-- the bus takes no frame
abbrev pub is_for_bus : Option Refusal → Bool
is_for_bus (Some refusal.BusFull) = true
is_for_bus _ = false

-- whether a station can do it
abbrev pub can : Segment → Kind → Address → Bool
can seg kind.Take a = is_none (refusal_of (called seg (Take a true)))
can seg kind.Transmit a = is_none (refusal_of (called seg (Transmit a)))
can seg kind.Blocked a = is_for_bus (refusal_of (called seg (Transmit a)))
can seg (kind.Behind n) a = waiting_at seg a == n
can seg kind.Pump a = is_some (next_pump seg a)
can seg kind.Fire a = is_none (refusal_of (called seg (Fire a)))

-- the lowest address that can
abbrev pub lowest : Segment → Kind → Option Address
lowest seg kind = option_map node (least_below (λ n. can seg kind (node n)) nodes)

-- the most frames that wait for one of the first addresses
unfoldable pub most_waiting : Segment → ℕ → ℕ
most_waiting seg zero = 0
most_waiting seg (suc n) = max (most_waiting seg n) (waiting_at seg (node n))

-- the lowest station furthest behind
abbrev pub furthest : Segment → Address
furthest seg = unwrap_or (lowest seg (kind.Behind (most_waiting seg nodes))) (node 0)

-- the first tick from now on at which something can be done, if there is one up to the clock's last
abbrev pub next_tick : Segment → Option ℕ
next_tick seg = option_map (λ k. seg.now + k) (least_below (λ k. any_work seg (seg.now + k)) (2 ^ 64 - seg.now))

-- a call of the lowest address that can, or else
abbrev pub or_else : Option Address → (Address → Call) → Next → Next
or_else (Some a) call other = Make (call a)
or_else None call other = other

-- its lowest destination that can be pumped
abbrev pub pump_of : Segment → Address → Call
pump_of seg a = Pump a (unwrap_or (next_pump seg a) a)

-- the bus is full: the station furthest behind misses what waits for it, unless no place of the bus is left
abbrev pub makes_room : Segment → Next
makes_room seg = if nat_lt (bus_len seg.bus + 1) (2 ^ 64) then Make (Overrun (furthest seg) (waiting_at seg (furthest seg))) else End (end.Refused refusal.BusFull)

-- the clock goes on to the next tick, or there is none
abbrev pub waits_until : (now : ℕ) → Option ℕ → Next
waits_until now None = End end.Rest
waits_until now (Some tick) = Make (Tick (tick - now))

-- the first that can be done: a Take, a Transmit, room on a full bus, a Pump, a Fire; or else the clock goes on
abbrev pub unblocked : Segment → Next
unblocked seg = or_else (lowest seg kind.Pump) (pump_of seg) (or_else (lowest seg kind.Fire) Fire (waits_until seg.now (next_tick seg)))

abbrev pub untaken : Segment → Next
untaken seg = or_else (lowest seg kind.Transmit) Transmit (if is_some (lowest seg kind.Blocked) then makes_room seg else unblocked seg)

unfoldable pub next_of : Segment → Next
next_of seg = or_else (lowest seg kind.Take) (λ a. Take a true) (untaken seg)

-- a CTS that grants no packet: its sender is to wait (SAE J1939-21, TP.CM_CTS; ISO 11783-3, ETP.CM_CTS)
abbrev pub grants_none : List ℕ → Bool
grants_none (control ∷ granted ∷ c ∷ d ∷ e ∷ p ∷ q ∷ r ∷ []) = (control == TP_CTS || control == ETP_CTS) && granted == 0
grants_none bytes = false

abbrev pub is_hold : Option CanFrame → Bool
is_hold None = false
is_hold (Some frame) = grants_none frame.bytes
