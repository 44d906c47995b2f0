-- The replay of the stored calls, and what each client and each port has of it.
use Rattle.std.specs.Prelude.{ℕ, ◌+◌, ◌==◌, Bool, false, ◌&&◌, cond, List, ◌∷◌, ◌++◌, length, Option, Some, None, []}
use Rattle.pgn_ids.specs.declared.address.Address.{Address}
use Rattle.tp_wire.specs.declared.outcome.Outcome.{Outcome}
use Rattle.port_table.specs.declared.port.PortId.{PortId}
use Rattle.message_events.specs.declared.event.Event.{Event}
use Rattle.message_events.specs.declared.event.Event.TheVariants as event
use Rattle.segment_law.specs.Segment.{Segment, new_segment}
use Rattle.segment_law.specs.Calls.{events_of}
use Rattle.segment_law.specs.Record as record_of
use Rattle.segment_law.specs.Told.{same_port}
use Rattle.segment_law.specs.declared.call.Call.{Call}
use Rattle.segment_law.specs.declared.call.Call.TheVariants.{Send}
use Rattle.segment_law.specs.declared.reply.Reply.{Reply}
use Rattle.segment_law.specs.declared.reply.Reply.TheVariants.{Opened, Sent, Refused, Done}
use Rattle.reply_law.specs.Replies.{reply_of, left_by}
use Rattle.segment_rings.specs.declared.words.Submission.{Submission}
use Rattle.segment_rings.specs.declared.words.Note.{Note}
use Rattle.segment_rings.specs.declared.words.Delivery.{Delivery}
use Rattle.stored_calls.specs.declared.stored.Stored.{Stored}
use Rattle.live_record.specs.declared.owed.Owed.{Owed}

-- the message of a stored Send of client c
abbrev pub sent_in : Bool → Call → List Submission
sent_in mine (Send from to pgn bytes) = cond mine (record { to = to; pgn = pgn; bytes = bytes } ∷ []) []
sent_in mine _ = []

abbrev pub is_by : ℕ → Option ℕ → Bool
is_by c None = false
is_by c (Some d) = d == c

-- the messages of client c that are stored, in order
abbrev pub accepted : ℕ → List Stored → List Submission
accepted c [] = []
accepted c (x ∷ xs) = sent_in (is_by c x.by) x.call ++ accepted c xs

abbrev pub delivery_at : PortId → Event → List Delivery
delivery_at q (event.Given p f t g b) = cond (same_port p q) (record { from = f; to = t; pgn = g; bytes = b } ∷ []) []
delivery_at q (event.Outcome f t n o) = []

-- what these events give to port q, in order
abbrev pub given : PortId → List Event → List Delivery
given q [] = []
given q (e ∷ es) = delivery_at q e ++ given q es

-- the owed message is that with this number of a lane
abbrev pub is_of : Address → Address → ℕ → Owed → Bool
is_of f t n w = (w.from.0 == f.0) && (w.to.0 == t.0) && (w.number == n)

abbrev pub find_owed : List Owed → Address → Address → ℕ → Option Owed
find_owed [] f t n = None
find_owed (w ∷ ws) f t n = cond (is_of f t n w) (Some w) (find_owed ws f t n)

abbrev pub without_owed : List Owed → Address → Address → ℕ → List Owed
without_owed [] f t n = []
without_owed (w ∷ ws) f t n = cond (is_of f t n w) ws (w ∷ without_owed ws f t n)

abbrev pub note_found : Option Owed → Outcome → List (ℕ × Note)
note_found None o = []
note_found (Some w) o = (w.client, record { ticket = w.ticket; to = w.to; number = w.number; outcome = o }) ∷ []

abbrev pub notes_at : List Owed → Event → List (ℕ × Note)
notes_at ws (event.Given p f t g b) = []
notes_at ws (event.Outcome f t n o) = note_found (find_owed ws f t n) o

abbrev pub owed_after : List Owed → Event → List Owed
owed_after ws (event.Given p f t g b) = ws
owed_after ws (event.Outcome f t n o) = without_owed ws f t n

abbrev pub settle_notes : List Owed → List Event → List (ℕ × Note)
settle_notes ws [] = []
settle_notes ws (e ∷ es) = notes_at ws e ++ settle_notes (owed_after ws e) es

abbrev pub settle_owed : List Owed → List Event → List Owed
settle_owed ws [] = ws
settle_owed ws (e ∷ es) = settle_owed (owed_after ws e) es

-- the notes of client c
abbrev pub notes_of : ℕ → List (ℕ × Note) → List Note
notes_of c [] = []
notes_of c (x ∷ xs) = cond (x.0 == c) (x.1 ∷ notes_of c xs) (notes_of c xs)

-- how many messages of client c are without an outcome
abbrev pub owed_by : ℕ → List Owed → ℕ
owed_by c [] = 0
owed_by c (w ∷ ws) = cond (w.client == c) 1 0 + owed_by c ws

-- a message that was just accepted is owed an outcome; its ticket is its place among the client's accepted messages, from 1
abbrev pub newly_owed : List Stored → Option ℕ → Address → Address → Reply → List Owed
newly_owed made None from to r = []
newly_owed made (Some c) from to (Opened p) = []
newly_owed made (Some c) from to (Sent n) = record { client = c; ticket = length (accepted c made) + 1; from = from; to = to; number = n } ∷ []
newly_owed made (Some c) from to (Refused e) = []
newly_owed made (Some c) from to (Done es) = []

abbrev pub owe : List Stored → List Owed → Option ℕ → Call → Reply → List Owed
owe made ws by (Send from to pgn bytes) r = ws ++ newly_owed made by from to r
owe made ws by _ r = ws

-- a replay: the segment, its record, the calls, all events in order, what is owed, and the notes in order
pub record Trail : Type 0 where
  pub state : Segment
  pub steps : record_of.Record
  pub made : List Stored
  pub events : List Event
  pub owed : List Owed
  pub noted : List (ℕ × Note)

abbrev pub start : List Address → Trail
start addresses = record { state = new_segment addresses; steps = []; made = []; events = []; owed = []; noted = [] }

abbrev pub step_with : Trail → Stored → Reply → List Owed → Trail
step_with t x r ws = record {
  state = left_by t.state x.call;
  steps = t.steps ++ (x.call, r) ∷ [];
  made = t.made ++ x ∷ [];
  events = t.events ++ events_of r;
  owed = settle_owed ws (events_of r);
  noted = t.noted ++ settle_notes ws (events_of r);
}

abbrev pub step : Trail → Stored → Trail
step t x =
    let r = reply_of t.state x.call in
    step_with t x r (owe t.made t.owed x.by x.call r)

unfoldable pub trail_from : Trail → List Stored → Trail
trail_from t [] = t
trail_from t (x ∷ xs) = trail_from (step t x) xs

abbrev pub trail : List Address → List Stored → Trail
trail addresses xs = trail_from (start addresses) xs

abbrev pub stored : Option ℕ → Call → Stored
stored by call = record { by = by; call = call }
