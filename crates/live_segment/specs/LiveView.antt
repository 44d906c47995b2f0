-- What a contract sees of a shared segment.
use Rattle.std.specs.Prelude.{◌≡◌, ℕ, ◌+◌, ◌≤◌, ◌<◌, ◌==◌, ◌&&◌, Bool, true, false, cond, List, ◌∷◌, ◌++◌, length, map, None, slice_index_or, slice_index, ◌⊎◌, []}
use Rattle.std.specs.List.{list_any}
use Rattle.pgn_ids.specs.declared.address.Address.{Address}
use Rattle.port_table.specs.declared.port.PortId.{PortId}
use Rattle.segment_law.specs.Record.{StandsAt}
use Rattle.message_events.specs.declared.event.Event.{Event}
use Rattle.segment_law.specs.Calls.{called, events_of}
use Rattle.segment_law.specs.declared.call.Call.TheVariants.{Open}
use Rattle.segment_law.specs.declared.reply.Reply.{Reply}
use Rattle.segment_law.specs.declared.reply.Reply.TheVariants.{Opened, Sent, Refused, Done}
use Rattle.segment_law.specs.declared.refusal.Refusal.TheVariants.{TraceFull}
use Rattle.segment_state.specs.Answers.{refusal_of}
use Rattle.live_record.specs.Replies.{reply_of}
use Rattle.segment_rings.specs.declared.words.Submission.{Submission}
use Rattle.segment_rings.specs.declared.words.Note.{Note}
use Rattle.segment_rings.specs.declared.words.Delivery.{Delivery}
use Rattle.segment_rings.specs.Ends.{ClientEnd, new_client_end, InboxEnd, new_inbox_end, ring_places}
use Rattle.segment_rings.specs.Views.{SeatView, DoorView, noted_after}
use Rattle.stored_calls.specs.declared.stored.Stored.{Stored}
use Rattle.live_calls.specs.declared.call.WorkerCall.{WorkerCall}
use Rattle.live_segment.specs.declared.refused.NotMade.{NotMade}
use Rattle.live_segment.specs.declared.refused.NotMade.TheVariants as not_made
use Rattle.live_calls.specs.Words.{call_of, wanted_by}
use Rattle.live_ends.specs.Places.{times}
use Rattle.live_record.specs.Record.{accepted, given, notes_of, settle_notes, trail, stored}
use Rattle.live_segment.specs.Facts.{HasNotes, HaveSenders}
use Rattle.live_record.specs.declared.calls.Piece.{Piece}
use Rattle.live_record.specs.declared.calls.TheConstants.{MOST_CALLS}
use Rattle.live_record.specs.Past.{count_since, since, HasPast}

-- popped, noted: what went out of the client's submissions and into its notes; named: how many notes there were when it was last named
-- among those that have news; notes_gone: how many of its first notes are kept no more
pub record ClientView : Type 0 where
  pub station : Address
  pub active : Bool
  pub popped : List Submission
  pub noted : List Note
  pub named : ℕ
  pub notes_gone : ℕ

-- places: how many its ring has; pushed: what it was given; named: how much of that there was when it was last named among those that
-- have news; given_gone: how much, from the first delivery on, is kept no more
pub record PortView : Type 0 where
  pub port : PortId
  pub active : Bool
  pub places : ℕ
  pub pushed : List Delivery
  pub named : ℕ
  pub given_gone : ℕ

-- the stations' addresses, the pieces that were handed out, all calls that were made, the clients by their ids, the ports in the order
-- of opening; and of the rings: the submissions that are seen, and the places that are known to be free; stopped: the workers are
-- to end
pub record LiveView : Type 0 where
  pub addresses : List Address
  pub pieces : List Piece
  pub calls : List Stored
  pub clients : List ClientView
  pub ports : List PortView
  pub seen : List (List Submission)
  pub note_free : List ℕ
  pub port_free : List ℕ
  pub stopped : Bool

abbrev pub client_of : SeatView → ClientView
client_of s = record { station = s.station; active = s.active; popped = s.popped; noted = s.noted; named = s.named; notes_gone = s.gone }

-- the stations of clients, in the order of their ids
abbrev pub client_station : ClientView → Address
client_station c = c.station

abbrev pub stations_of : List ClientView → List Address
stations_of cs = map client_station cs

abbrev pub port_of : DoorView → PortView
port_of d = record { port = d.port; active = d.active; places = d.places; pushed = d.pushed; named = d.named; given_gone = d.gone }

abbrev pub seat_seen : SeatView → List Submission
seat_seen s = s.ahead

abbrev pub seat_free : SeatView → ℕ
seat_free s = s.free

abbrev pub door_free : DoorView → ℕ
door_free d = d.free

-- what most calls leave as it is
pub record Kept : Type 0 where
  pub stopped : Bool
  pub pieces : List Piece

abbrev pub keep : (stopped : Bool) → List Piece → Kept
keep stopped pieces = record { stopped = stopped; pieces = pieces }

abbrev pub live_view : Kept → List Address → List Stored → List SeatView → List DoorView → LiveView
live_view same addresses xs ss ds = record {
  addresses = addresses;
  pieces = same.pieces;
  calls = xs;
  clients = map client_of ss;
  ports = map port_of ds;
  seen = map seat_seen ss;
  note_free = map seat_free ss;
  port_free = map door_free ds;
  stopped = same.stopped;
}

-- how many calls are stored since the last cut, and which
abbrev pub stored_calls : LiveView → ℕ
stored_calls v = count_since v.pieces v.calls

abbrev pub since_cut : LiveView → List Stored
since_cut v = since v.pieces v.calls

-- the segment is unchanged, but its workers are to end
abbrev pub halted : LiveView → LiveView
halted v = record v { stopped = true }

-- the segment is unchanged, but for what is known of the rings
pub record SameLive (a b : LiveView) : Type 0 where
  pub addresses : b.addresses ≡ a.addresses
  pub stopped : b.stopped ≡ a.stopped
  pub pieces : b.pieces ≡ a.pieces
  pub calls : b.calls ≡ a.calls
  pub clients : b.clients ≡ a.clients
  pub ports : b.ports ≡ a.ports

-- a refused call is not stored
abbrev pub calls_after : Reply → List Stored → Stored → List Stored
calls_after (Opened p) xs x = xs ++ x ∷ []
calls_after (Sent n) xs x = xs ++ x ∷ []
calls_after (Refused e) xs x = xs
calls_after (Done es) xs x = xs ++ x ∷ []

-- what events give to a port
abbrev pub port_after : List Event → PortView → PortView
port_after es p = record p { pushed = p.pushed ++ given p.port es }

-- the notes of the clients, of which the first has number n; those of a client that is gone go nowhere
abbrev pub clients_after : ℕ → List (ℕ × Note) → List ClientView → List ClientView
clients_after n ns [] = []
clients_after n ns (c ∷ cs) = record c { noted = noted_after c.active c.noted (notes_of n ns) } ∷ clients_after (n + 1) ns cs

-- the clients after a call without an owner that has this reply
abbrev pub told_clients : LiveView → Reply → List ClientView
told_clients a r = clients_after 0 (settle_notes (trail a.addresses a.calls).owed (events_of r)) a.clients

-- nothing is given to a port that is closed
abbrev pub SparesClosed : List Event → List PortView → Type 0
SparesClosed es [] = Unit {0}
SparesClosed es (p ∷ ps) = (p.active ≡ false → given p.port es ≡ []) × SparesClosed es ps

-- a port that the call gives to has too few places that are known to be free, or gets no more deliveries
pub record NoPlace (a b : LiveView) (call : WorkerCall) : Type 0 where
  pub place : ℕ
  pub within : place < length b.ports
  pub wanted : (p : PortView) → ((slice_index_or b.ports place p).port.station ≡ (wanted_by (trail a.addresses a.calls).state call).station)
      × (0 < times (slice_index_or b.ports place p).port.number (wanted_by (trail a.addresses a.calls).state call).ports)
  pub lacks : (p : PortView) → (slice_index b.port_free place < times (slice_index_or b.ports place p).port.number (wanted_by (trail a.addresses a.calls).state call).ports)
      ⊎ ((slice_index_or b.ports place p).active ≡ false)

pub record Applied (a b : LiveView) (call : WorkerCall) (r : Reply) (with_room : Bool) : Type 0 where
  pub reply : r ≡ reply_of (trail a.addresses a.calls).state (call_of call with_room)
  pub addresses : b.addresses ≡ a.addresses
  pub stopped : b.stopped ≡ a.stopped
  pub pieces : b.pieces ≡ a.pieces
  pub calls : b.calls ≡ calls_after r a.calls (stored None (call_of call with_room))
  pub clients : b.clients ≡ told_clients a r
  pub ports : b.ports ≡ map (port_after (events_of r)) a.ports
  pub closed : SparesClosed (events_of r) a.ports
  pub room : with_room ≡ false → NoPlace a b call

-- nothing but memory is lacking: one more call can be stored, and the segment doesn't refuse it
pub record LacksMemory (a : LiveView) (call : WorkerCall) : Type 0 where
  pub few : stored_calls a < MOST_CALLS
  pub passes : (room : Bool) → refusal_of (called (trail a.addresses a.calls).state (call_of call room)) ≡ None

abbrev pub new_client : Address → ClientView
new_client station = record { station = station; active = true; popped = []; noted = []; named = 0; notes_gone = 0 }

abbrev pub is_station_of : List Address → Address → Bool
is_station_of addresses a = list_any (λ b. b.0 == a.0) addresses

-- how many clients a station has that aren't gone
abbrev pub clients_at : Address → List ClientView → ℕ
clients_at a [] = 0
clients_at a (c ∷ cs) = cond {A = ℕ} ((c.station.0 == a.0) && c.active) 1 0 + clients_at a cs

-- one client more, whose id no other had
pub record Attached (a b : LiveView) (station : Address) (c : ClientEnd) : Type 0 where
  pub client : c ≡ new_client_end (length a.clients) station
  pub addresses : b.addresses ≡ a.addresses
  pub stopped : b.stopped ≡ a.stopped
  pub pieces : b.pieces ≡ a.pieces
  pub calls : b.calls ≡ a.calls
  pub clients : b.clients ≡ a.clients ++ new_client station ∷ []
  pub ports : b.ports ≡ a.ports

-- before the first cut each note of these clients and each delivery to these ports is kept
abbrev pub KeepsUncut : List Piece → List ClientView → List PortView → Type 0
KeepsUncut ps cs ds = ps ≡ [] → ((c : ℕ) (x : ClientView) → c < length cs → (slice_index_or cs c x).notes_gone ≡ 0) × ((k : ℕ) (p : PortView) → k < length ds → (slice_index_or ds k p).given_gone ≡ 0)

-- what went through the rings is what the stored calls say, and each stored Send has a client of the station that it is from
pub record Laws (v : LiveView) : Type 0 where
  pub past : HasPast v.pieces v.calls
  pub stands : StandsAt v.addresses (trail v.addresses v.calls).steps (trail v.addresses v.calls).state
  pub popped : (c : ℕ) (x : ClientView) → c < length v.clients → (slice_index_or v.clients c x).popped ≡ accepted c v.calls
  pub noted : (c : ℕ) (x : ClientView) → c < length v.clients → HasNotes (slice_index_or v.clients c x).active (slice_index_or v.clients c x).noted (notes_of c (trail v.addresses v.calls).noted)
  pub pushed : (k : ℕ) (p : PortView) → k < length v.ports → (slice_index_or v.ports k p).pushed ≡ given (slice_index_or v.ports k p).port (trail v.addresses v.calls).events
  pub senders : HaveSenders (stations_of v.clients) v.calls
  pub uncut : KeepsUncut v.pieces v.clients v.ports

abbrev pub new_port_view : PortId → (places : ℕ) → PortView
new_port_view p places = record { port = p; active = true; places = places; pushed = []; named = 0; given_gone = 0 }

-- why a port isn't opened: the segment refuses the Open, or else no more calls can be stored; or, if neither holds, for want of memory
abbrev pub IsOpenCause : LiveView → (station : Address) → (pgn max_len : ℕ) → NotMade → Type 0
IsOpenCause a station pgn max_len not_made.OutOfMemory = (refusal_of (called (trail a.addresses a.calls).state (Open station pgn max_len)) ≡ None) × (stored_calls a < MOST_CALLS)
IsOpenCause a station pgn max_len (not_made.Refused c) = (Refused c ≡ reply_of (trail a.addresses a.calls).state (Open station pgn max_len))
    ⊎ ((c ≡ TraceFull) × (refusal_of (called (trail a.addresses a.calls).state (Open station pgn max_len)) ≡ None) × (MOST_CALLS ≤ stored_calls a))

-- the Open was added, and the inbox, whose ring has so many places, is of the port that it opened
pub record OpenedWith (a b : LiveView) (station : Address) (pgn max_len places : ℕ) (i : InboxEnd) : Type 0 where
  pub inbox : i ≡ new_inbox_end i.port i.spare
  pub reply : Opened i.port ≡ reply_of (trail a.addresses a.calls).state (Open station pgn max_len)
  pub addresses : b.addresses ≡ a.addresses
  pub stopped : b.stopped ≡ a.stopped
  pub pieces : b.pieces ≡ a.pieces
  pub calls : b.calls ≡ a.calls ++ stored None (Open station pgn max_len) ∷ []
  pub clients : b.clients ≡ a.clients
  pub ports : b.ports ≡ a.ports ++ new_port_view i.port places ∷ []

-- an inbox whose ring has as many places as any other
abbrev pub OpenedFor : (a b : LiveView) → (station : Address) → (pgn max_len : ℕ) → InboxEnd → Type 0
OpenedFor a b station pgn max_len i = OpenedWith a b station pgn max_len ring_places i
