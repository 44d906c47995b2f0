-- What is reported once the threads have ended.
use Rattle.std.specs.Prelude.{◌≡◌, ℕ, zero, suc, ◌<◌, ◌≤◌, ◌⊎◌, false, cond, List, ◌∷◌, ◌++◌, length, drop, map, slice_get, slice_index_or, Option, Some, None, []}
use mathlib.Core.List.{IsPrefix}
use Rattle.port_table.specs.declared.port.PortId.{PortId}
use Rattle.segment_law.specs.Told.{same_port}
use Rattle.segment_law.specs.declared.call.Call.TheVariants.{Close}
use Rattle.segment_law.specs.declared.refusal.Refusal.TheVariants.{NotThisSegment, NoSuchPort, TraceFull}
use Rattle.live_record.specs.Replies.{reply_of}
use Rattle.segment_rings.specs.declared.words.Submission.{Submission}
use Rattle.segment_rings.specs.declared.words.Delivery.{Delivery}
use Rattle.segment_rings.specs.Ends.{ClientEnd, InboxEnd, closes}
use Rattle.live_segment.specs.declared.closing.Closed.{Closed}
use Rattle.live_record.specs.declared.calls.TheConstants.{MOST_CALLS}
use Rattle.live_segment.specs.declared.refused.NotMade.{NotMade}
use Rattle.live_segment.specs.declared.refused.NotMade.TheVariants as not_made
use Rattle.live_segment.specs.declared.report.ClientReport.{ClientReport}
use Rattle.live_segment.specs.declared.report.InboxReport.{InboxReport}
use Rattle.live_record.specs.Record.{accepted, given, notes_of, trail, stored}
use Rattle.live_record.specs.Past.{joined}
use Rattle.live_segment.specs.LiveView.{LiveView, ClientView, PortView, stored_calls, since_cut, calls_after, told_clients}

-- how many messages of client c were accepted before the last cut
abbrev pub accepted_before : LiveView → ℕ → ℕ
accepted_before v c = length (accepted c (joined v.pieces))

abbrev pub client_gone : Option ClientView → ℕ
client_gone None = 0
client_gone (Some x) = x.notes_gone

-- the submissions of the client, without the first ones
abbrev pub submitted_since : LiveView → ClientEnd → List Submission
submitted_since v c = drop (accepted_before v c.id) c.submitted

-- how many of the first notes of client c, and of the first deliveries to port q, are kept no more
abbrev pub notes_gone : LiveView → ℕ → ℕ
notes_gone v c = client_gone (slice_get v.clients c)

abbrev pub gone_of : List PortView → PortId → ℕ
gone_of [] q = 0
gone_of (p ∷ ps) q = cond (same_port q p.port) p.given_gone (gone_of ps q)

abbrev pub given_gone : LiveView → PortId → ℕ
given_gone v q = gone_of v.ports q

-- the client submitted what was accepted before the last cut, and keeps what it submitted since
abbrev pub HasSubmitted : LiveView → ClientEnd → Type 0
HasSubmitted v c = (c.gone ≤ accepted_before v c.id) × (accepted_before v c.id ≤ length c.submitted)

-- the client read the notes that are no longer kept, and keeps those that it read since
abbrev pub HasRead : LiveView → ClientEnd → Type 0
HasRead v c = (c.read_gone ≤ notes_gone v c.id) × (notes_gone v c.id ≤ length c.read)

-- an inbox received the deliveries that are kept no more, and keeps those that it received since
abbrev pub HasReceived : LiveView → InboxEnd → Type 0
HasReceived v i = (i.gone ≤ given_gone v i.port) × (given_gone v i.port ≤ length i.received)

-- the client belongs to this segment, and its lists begin and are begun as they are to; its submissions are compared from the messages
-- on that were accepted since the last cut, and its notes from those on that are kept
pub record ClientAgrees (v : LiveView) (c : ClientEnd) : Type 0 where
  pub within : c.id < length v.clients
  pub has_submitted : HasSubmitted v c
  pub submitted : IsPrefix (accepted c.id (since_cut v)) (submitted_since v c)
  pub has_read : HasRead v c
  pub read : IsPrefix (drop (notes_gone v c.id) c.read) (drop (notes_gone v c.id) (notes_of c.id (trail v.addresses v.calls).noted))

abbrev pub HasPort : List PortView → PortId → Type 0
HasPort ps q = (k : ℕ) × (k < length ps) × ((p : PortView) → (slice_index_or ps k p).port ≡ q)

-- the inbox belongs to this segment, and its deliveries, from those on that are kept, are the first that its port was given from there
-- on
pub record InboxAgrees (v : LiveView) (i : InboxEnd) : Type 0 where
  pub within : HasPort v.ports i.port
  pub has_received : HasReceived v i
  pub received : IsPrefix (drop (given_gone v i.port) i.received) (drop (given_gone v i.port) (given i.port (trail v.addresses v.calls).events))

-- what was submitted since the last cut is what was accepted since, and then what is left; the notes that were read, from those on that
-- are kept, and then the unread ones, are all notes from there on
pub record IsClientReport (v : LiveView) (c : ClientEnd) (r : ClientReport) : Type 0 where
  pub id : r.id ≡ c.id
  pub within : c.id < length v.clients
  pub left : submitted_since v c ≡ accepted c.id (since_cut v) ++ r.left.items
  pub read_before : notes_gone v c.id ≤ length c.read
  pub unread : drop (notes_gone v c.id) c.read ++ r.unread.items ≡ drop (notes_gone v c.id) (notes_of c.id (trail v.addresses v.calls).noted)

-- what was received, from the deliveries on that are kept, and then the rest, is what was given from there on
abbrev pub IsRest : LiveView → InboxEnd → List Delivery → Type 0
IsRest v i rest = (given_gone v i.port ≤ length i.received) × (drop (given_gone v i.port) i.received ++ rest ≡ drop (given_gone v i.port) (given i.port (trail v.addresses v.calls).events))

pub record IsInboxReport (v : LiveView) (i : InboxEnd) (r : InboxReport) : Type 0 where
  pub port : r.port ≡ i.port
  pub within : HasPort v.ports i.port
  pub rest : IsRest v i r.rest.items

abbrev pub AreClientReports : LiveView → List ClientEnd → List ClientReport → Type 0
AreClientReports v [] [] = Unit {0}
AreClientReports v [] (r ∷ rs) = ⊥
AreClientReports v (c ∷ cs) [] = ⊥
AreClientReports v (c ∷ cs) (r ∷ rs) = IsClientReport v c r × AreClientReports v cs rs

abbrev pub AreInboxReports : LiveView → List InboxEnd → List InboxReport → Type 0
AreInboxReports v [] [] = Unit {0}
AreInboxReports v [] (r ∷ rs) = ⊥
AreInboxReports v (i ∷ is) [] = ⊥
AreInboxReports v (i ∷ is) (r ∷ rs) = IsInboxReport v i r × AreInboxReports v is rs

abbrev pub EachClientAgrees : LiveView → List ClientEnd → Type 0
EachClientAgrees v cs = (k : ℕ) (c : ClientEnd) → k < length cs → ClientAgrees v (slice_index_or cs k c)

abbrev pub EachInboxAgrees : LiveView → List InboxEnd → Type 0
EachInboxAgrees v is = (k : ℕ) (i : InboxEnd) → k < length is → InboxAgrees v (slice_index_or is k i)

-- the port of this id is closed
abbrev pub closing : PortId → PortView → PortView
closing q p = cond (same_port q p.port) (record p { active = false }) p

-- the Close was added, unless the port was closed already; the inbox received the rest of what its port was given; and the port
-- is closed, so that no later call gives to it
pub record ClosedFor (a b : LiveView) (i j : InboxEnd) (r : Closed) : Type 0 where
  pub few : stored_calls a < MOST_CALLS
  pub within : HasPort a.ports i.port
  pub port : r.port ≡ i.port
  pub rest : IsRest a i r.rest.items
  pub inbox : j ≡ closes i r.rest.items j.spare
  pub addresses : b.addresses ≡ a.addresses
  pub stopped : b.stopped ≡ a.stopped
  pub pieces : b.pieces ≡ a.pieces
  pub calls : b.calls ≡ calls_after (reply_of (trail a.addresses a.calls).state (Close i.port)) a.calls (stored None (Close i.port))
  pub clients : b.clients ≡ told_clients a (reply_of (trail a.addresses a.calls).state (Close i.port))
  pub ports : b.ports ≡ map (closing i.port) a.ports

-- the Close of a port was added, unless the port was closed already; nothing was given
pub record CloseMade (a b : LiveView) (port : PortId) : Type 0 where
  pub addresses : b.addresses ≡ a.addresses
  pub stopped : b.stopped ≡ a.stopped
  pub pieces : b.pieces ≡ a.pieces
  pub calls : b.calls ≡ calls_after (reply_of (trail a.addresses a.calls).state (Close port)) a.calls (stored None (Close port))
  pub clients : b.clients ≡ told_clients a (reply_of (trail a.addresses a.calls).state (Close port))
  pub ports : b.ports ≡ a.ports

-- why a port isn't closed: the inbox isn't of this segment, or else no more calls can be stored; or, if neither holds, for want of
-- memory
abbrev pub IsCloseCause : LiveView → InboxEnd → NotMade → Type 0
IsCloseCause a i not_made.OutOfMemory = InboxAgrees a i × (stored_calls a < MOST_CALLS)
IsCloseCause a i (not_made.Refused c) = ((c ≡ NotThisSegment) × (InboxAgrees a i → ⊥)) ⊎ ((c ≡ TraceFull) × InboxAgrees a i × (MOST_CALLS ≤ stored_calls a))

-- the Close of a port was added, unless the port was closed already; and the port is closed, so that no later call gives to it
pub record PortClosed (a b : LiveView) (port : PortId) : Type 0 where
  pub few : stored_calls a < MOST_CALLS
  pub within : HasPort a.ports port
  pub addresses : b.addresses ≡ a.addresses
  pub stopped : b.stopped ≡ a.stopped
  pub pieces : b.pieces ≡ a.pieces
  pub calls : b.calls ≡ calls_after (reply_of (trail a.addresses a.calls).state (Close port)) a.calls (stored None (Close port))
  pub clients : b.clients ≡ told_clients a (reply_of (trail a.addresses a.calls).state (Close port))
  pub ports : b.ports ≡ map (closing port) a.ports

-- why a port isn't closed: it was never opened here, or else no more calls can be stored; or, if neither holds, for want of memory
abbrev pub IsPortCause : LiveView → PortId → NotMade → Type 0
IsPortCause a port not_made.OutOfMemory = HasPort a.ports port × (stored_calls a < MOST_CALLS)
IsPortCause a port (not_made.Refused c) = ((c ≡ NoSuchPort) × (HasPort a.ports port → ⊥)) ⊎ ((c ≡ TraceFull) × HasPort a.ports port × (MOST_CALLS ≤ stored_calls a))

-- the client of this number is gone
abbrev pub gone : List ClientView → ℕ → List ClientView
gone [] c = []
gone (v ∷ vs) zero = record v { active = false } ∷ vs
gone (v ∷ vs) (suc c) = v ∷ gone vs c

-- these clients are gone, one after another
abbrev pub gone_clients : List ClientEnd → List ClientView → List ClientView
gone_clients [] vs = vs
gone_clients (c ∷ cs) vs = gone_clients cs (gone vs c.id)

-- the ports of these inboxes are closed, one after another
abbrev pub gone_ports : List InboxEnd → List PortView → List PortView
gone_ports [] ps = ps
gone_ports (i ∷ is) ps = gone_ports is (map (closing i.port) ps)

-- the record is unchanged, but these clients and ports are gone: no later note is put into a ring of these clients, and no delivery
-- into one of these ports
pub record Retired (a b : LiveView) (cs : List ClientEnd) (is : List InboxEnd) : Type 0 where
  pub addresses : b.addresses ≡ a.addresses
  pub stopped : b.stopped ≡ a.stopped
  pub pieces : b.pieces ≡ a.pieces
  pub calls : b.calls ≡ a.calls
  pub clients : b.clients ≡ gone_clients cs a.clients
  pub ports : b.ports ≡ gone_ports is a.ports
