-- A segment is cut, and its pieces are joined again.
use Rattle.std.specs.Prelude.{◌≡◌, ℕ, ◌+◌, ◌≤◌, ◌<◌, true, false, List, ◌∷◌, ◌++◌, length, map, Option, Some, None, slice_index, slice_index_or, []}
use Rattle.pgn_ids.specs.declared.address.Address.{Address}
use Rattle.segment_law.specs.Segment.{Segment}
use Rattle.segment_law.specs.Record.{StandsAt}
use Rattle.segment_law.specs.Headline.{Headline}
use Rattle.segment_law.specs.declared.call.Call.{Call}
use Rattle.segment_law.specs.declared.refusal.Refusal.{Refusal}
use Rattle.segment_law.specs.declared.refusal.Refusal.TheVariants.{TraceFull, PiecesDontJoin}
use Rattle.segment_rings.specs.Tails.{known_out}
use Rattle.segment_rings.specs.Ends.{ring_places}
use Rattle.stored_calls.specs.declared.stored.Stored.{Stored}
use Rattle.live_record.specs.declared.calls.Piece.{Piece}
use Rattle.live_segment.specs.declared.refused.NotMade.{NotMade}
use Rattle.live_segment.specs.declared.refused.NotMade.TheVariants as not_made
use Rattle.live_record.specs.Record.{trail}
use Rattle.live_record.specs.Past.{joined, NumberedAfter, IsPastCounts, HasCounts}
use Rattle.live_segment.specs.LiveView.{LiveView, ClientView, PortView, since_cut}

-- so many places of the ring of the client's notes are known to be free: the notes that are known to be out of it are no longer kept,
-- those that may be in it are; if the client is gone, all that were kept are
pub record CutClient (a b : ClientView) (free : ℕ) : Type 0 where
  pub same : b ≡ record a { notes_gone = b.notes_gone }
  pub more : a.notes_gone ≤ b.notes_gone
  pub gone : a.active ≡ true → b.notes_gone ≡ known_out ring_places free (length a.noted)
  pub left : a.active ≡ false → b.notes_gone ≡ a.notes_gone
  pub unread : b.notes_gone + ring_places ≤ length a.noted + free

-- so many places of the ring of a port's deliveries are known to be free: those known to be out of it are no longer kept, those that may
-- be in it are
pub record CutPort (a b : PortView) (free : ℕ) : Type 0 where
  pub same : b ≡ record a { given_gone = b.given_gone }
  pub more : a.given_gone ≤ b.given_gone
  pub gone : b.given_gone ≡ known_out a.places free (length a.pushed)
  pub unread : b.given_gone + a.places ≤ length a.pushed + free

abbrev pub CutClients : List ClientView → List ClientView → (free : List ℕ) → Type 0
CutClients old new free = (length new ≡ length old) × ((c : ℕ) (x : ClientView) → c < length old → CutClient (slice_index_or old c x) (slice_index_or new c x) (slice_index free c))

abbrev pub CutPorts : List PortView → List PortView → (free : List ℕ) → Type 0
CutPorts old new free = (length new ≡ length old) × ((k : ℕ) (p : PortView) → k < length old → CutPort (slice_index_or old k p) (slice_index_or new k p) (slice_index free k))

-- the piece holds the calls that were stored, by the next number; what is known to be read is kept no more, and nothing else changed but
-- what is known of the rings' free places
pub record CutAs (a b : LiveView) (p : Piece) : Type 0 where
  pub number : p.number ≡ length a.pieces + 1
  pub calls : p.calls.items ≡ since_cut a
  pub addresses : b.addresses ≡ a.addresses
  pub stopped : b.stopped ≡ a.stopped
  pub pieces : b.pieces ≡ a.pieces ++ p ∷ []
  pub made : b.calls ≡ a.calls
  pub seen : b.seen ≡ a.seen
  pub clients : CutClients a.clients b.clients b.note_free
  pub ports : CutPorts a.ports b.ports b.port_free

-- why a segment isn't cut: a count would pass its last value; or, if none would, for want of memory
abbrev pub IsCutCause : LiveView → NotMade → Type 0
IsCutCause a not_made.OutOfMemory = HasCounts a.pieces a.calls
IsCutCause a (not_made.Refused c) = (c ≡ TraceFull) × IsPastCounts a.pieces a.calls

-- as many pieces as were cut, numbered from 1
abbrev pub AreNumbered : LiveView → List Piece → Type 0
AreNumbered v ps = (length ps ≡ length v.pieces) × NumberedAfter 0 ps

-- these pieces join: their calls, made on a new segment, leave it as the segment was at the last cut
abbrev pub Join : LiveView → List Piece → Type 0
Join v ps = AreNumbered v ps × ((trail v.addresses (joined ps)).state ≡ (trail v.addresses (joined v.pieces)).state)

-- a segment is at the record of these calls
abbrev pub StandsAfter : List Address → List Stored → Segment → Type 0
StandsAfter addresses xs seg = StandsAt addresses (trail addresses xs).steps seg × (seg ≡ (trail addresses xs).state)

abbrev pub call_in : Stored → Call
call_in x = x.call

-- the calls of these pieces, and then those that are stored
abbrev pub all_calls : LiveView → List Piece → List Stored
all_calls v ps = joined ps ++ since_cut v

-- these are the calls of the pieces and then the stored ones, and the segment is at their record, for which the headline holds
pub record IsJoined (v : LiveView) (ps : List Piece) (cs : List Call) : Type 0 where
  pub join : Join v ps
  pub calls : cs ≡ map call_in (all_calls v ps)
  pub stands : StandsAt v.addresses (trail v.addresses (all_calls v ps)).steps (trail v.addresses v.calls).state
  pub headline : Headline v.addresses (trail v.addresses (all_calls v ps)).steps

-- why pieces aren't joined: they don't join; or, if they are numbered in order, for want of memory
abbrev pub IsJoinCause : LiveView → List Piece → Option Refusal → Type 0
IsJoinCause v ps None = AreNumbered v ps
IsJoinCause v ps (Some c) = (c ≡ PiecesDontJoin) × (Join v ps → ⊥)
