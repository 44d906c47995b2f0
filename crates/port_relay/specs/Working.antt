-- What each worker has done since it began.
use Rattle.std.specs.Prelude.{◌≡◌, ℕ, ◌≤◌, List, [], ◌++◌, map, length, true, false, All, None}
use Rattle.pgn_ids.specs.declared.address.Address.{Address}
use Rattle.segment_rings.specs.declared.words.Submission.{Submission}
use Rattle.segment_rings.specs.declared.words.Delivery.{Delivery}
use Rattle.segment_rings.specs.Ends.{ClientEnd, InboxEnd, submission}
use Rattle.segment_rings.specs.Submitting.{why_refused}
use Rattle.port_relay.specs.declared.line.Log.{Log}
use Rattle.port_relay.specs.declared.working.Worked.{Worked}
use Rattle.port_relay.specs.Line.{log, in_hand}

-- the inbox after it received these
abbrev pub receives_all : InboxEnd → List Delivery → (gone spare : ℕ) → InboxEnd
receives_all i ds gone spare = record i { popped = i.popped ++ ds; received = i.received ++ ds; gone = gone; spare = spare }

-- the message of a delivery, for another station
abbrev pub relayed_to : Address → Delivery → Submission
relayed_to to d = submission to d.pgn d.bytes

-- the client after it submitted these
abbrev pub submits_all : ClientEnd → List Submission → (free gone : ℕ) → ClientEnd
submits_all c ss free gone = record c { submitted = c.submitted ++ ss; free = free; gone = gone }

-- a client of that station may submit its message
abbrev pub IsFit : (from to : Address) → Delivery → Type 0
IsFit from to d = why_refused from to d.pgn (length d.bytes) ≡ None

-- the inbox received the messages put into the line and the one in hand, and a delivery that it no longer keeps never returns
pub record HasPulled (start now : InboxEnd) (v : Log) (w : Worked) : Type 0 where
  pub view : v ≡ log true false v.put []
  pub inbox : now ≡ receives_all start (v.put ++ in_hand w.hand) now.gone now.spare
  pub gone : start.gone ≤ now.gone
  pub count : w.count ≡ length (v.put ++ in_hand w.hand)

-- the client submitted the messages taken out of the line, except the one in hand
pub record HasPushed (to : Address) (start now : ClientEnd) (v : Log) (w : Worked) : Type 0 where
  pub pushed : List Delivery
  pub view : v ≡ log false true [] (pushed ++ in_hand w.hand)
  pub client : now ≡ submits_all start (map (relayed_to to) pushed) now.free now.gone
  pub gone : start.gone ≤ now.gone
  pub count : w.count ≡ length pushed
  pub fit : All (IsFit start.station to) pushed
