-- What a layer above a segment may rely on of each reply.
use Rattle.std.specs.Prelude.{◌≡◌, ℕ, ◌≤◌, Bool, true, false, List, [], ◌∷◌, length, Some, slice_get}
use Rattle.pgn_ids.specs.Address.{null_address}
use Rattle.pgn_ids.specs.declared.address.Address.{Address}
use Rattle.port_table.specs.declared.port.PortId.{PortId}
use Rattle.message_events.specs.declared.event.Event.{Event}
use Rattle.message_events.specs.declared.event.Event.TheVariants as event
use Rattle.station_core.specs.Station.{Station}
use Rattle.segment_law.specs.Segment.{Segment}
use Rattle.segment_law.specs.Calls.{applied, events_of, is_send}
use Rattle.segment_law.specs.Told.{same_port}
use Rattle.segment_law.specs.Readers.{wanted, ports_given}
use Rattle.segment_law.specs.declared.call.Call.{Call}
use Rattle.segment_law.specs.declared.call.Call.TheVariants.{Open, Take, TakeAgain}
use Rattle.segment_law.specs.declared.reply.Reply.{Reply}
use Rattle.segment_law.specs.declared.reply.Reply.TheVariants.{Opened, Sent, Refused, Done}

-- what a call is answered, and the segment after it
abbrev pub reply_of : Segment → Call → Reply
reply_of seg call = (applied seg call).1

abbrev pub left_by : Segment → Call → Segment
left_by seg call = (applied seg call).0

abbrev pub IsRefusal : Reply → Type 0
IsRefusal (Opened p) = ⊥
IsRefusal (Sent n) = ⊥
IsRefusal (Refused cause) = Unit {0}
IsRefusal (Done events) = ⊥

abbrev pub opens : Call → Bool
opens (Open station pgn max_len) = true
opens _ = false

-- if it isn't refused, an opening is answered by a port, a Send by a number, and every other call by events
abbrev pub IsAnsweredBy : Call → Reply → Type 0
IsAnsweredBy call (Opened p) = opens call ≡ true
IsAnsweredBy call (Sent n) = is_send call ≡ true
IsAnsweredBy call (Refused cause) = Unit {0}
IsAnsweredBy call (Done events) = (opens call ≡ false) × (is_send call ≡ false)

-- the station whose ports a call gives to, their numbers, and how long the message is: those that it was said to want
abbrev pub expected : Segment → Call → Address × (List ℕ × ℕ)
expected seg (Take station true) = (station, wanted seg station false)
expected seg (TakeAgain station true) = (station, wanted seg station true)
expected seg _ = (record { 0 = null_address }, ([], 0))

-- the message is given at this station, and is no longer than this
abbrev pub EventAt : Address → ℕ → Event → Type 0
EventAt station len (event.Given port from to pgn bytes) = (port.station ≡ station) × (length bytes ≤ len)
EventAt station len (event.Outcome from to number outcome) = Unit {0}

abbrev pub EachAt : Address → ℕ → List Event → Type 0
EachAt station len [] = Unit {0}
EachAt station len (e ∷ events) = EventAt station len e × EachAt station len events

-- the message is no longer than this
abbrev pub EventShort : ℕ → Event → Type 0
EventShort n (event.Given port from to pgn bytes) = length bytes ≤ n
EventShort n (event.Outcome from to number outcome) = Unit {0}

abbrev pub EachShort : ℕ → List Event → Type 0
EachShort n [] = Unit {0}
EachShort n (e ∷ events) = EventShort n e × EachShort n events

-- the station of the port has opened so many ports
abbrev pub IsKnown : PortId → Segment → Type 0
IsKnown p seg = (i : ℕ) (st : Station) → slice_get seg.stations i ≡ Some st → st.address.0 ≡ p.station.0 → p.number ≤ st.ports.opened

abbrev pub EventKnown : Segment → Event → Type 0
EventKnown seg (event.Given port from to pgn bytes) = IsKnown port seg
EventKnown seg (event.Outcome from to number outcome) = Unit {0}

abbrev pub EachKnown : Segment → List Event → Type 0
EachKnown seg [] = Unit {0}
EachKnown seg (e ∷ events) = EventKnown seg e × EachKnown seg events

-- how a call is followed
pub record Follows (seg : Segment) (call : Call) (next : Segment) (reply : Reply) : Type 0 where
  -- a refusal changes nothing
  pub refused : IsRefusal reply → next ≡ seg
  pub kind : IsAnsweredBy call reply
  -- messages are given at the ports that were wanted, in this order, and are no longer than was said
  pub ports : ports_given (events_of reply) ≡ (expected seg call).1.0
  pub fits : EachAt (expected seg call).0 (expected seg call).1.1 (events_of reply)
  -- all are given at ports that were opened
  pub known : EachKnown next (events_of reply)
  pub stays : (p : PortId) → IsKnown p seg → IsKnown p next
  -- a port that is opened is a new one
  pub opened : (p : PortId) → reply ≡ Opened p → IsKnown p next × ((q : PortId) → IsKnown q seg → same_port q p ≡ false)
