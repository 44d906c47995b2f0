-- The pieces in which stored calls were handed out, and the calls that are stored since.
use Rattle.std.specs.Prelude.{◌≡◌, ℕ, ◌+◌, ◌-◌, ◌≤◌, ◌<◌, ◌^◌, ◌⊎◌, List, ◌∷◌, ◌++◌, length, drop, Option, MatchOption, []}
use Rattle.pgn_ids.specs.declared.address.Address.{Address}
use Rattle.segment_law.specs.Segment.{Segment}
use Rattle.stored_calls.specs.declared.stored.Stored.{Stored}
use Rattle.live_record.specs.declared.calls.Piece.{Piece}
use Rattle.live_record.specs.declared.calls.TheConstants.{MOST_CALLS}
use Rattle.live_record.specs.Record.{trail}

-- the calls of pieces, one after another
abbrev pub joined : List Piece → List Stored
joined [] = []
joined (p ∷ ps) = p.calls.items ++ joined ps

-- how many of these calls are stored since the last of these pieces was cut, and which
abbrev pub count_since : List Piece → List Stored → ℕ
count_since ps xs = length xs - length (joined ps)

abbrev pub since : List Piece → List Stored → List Stored
since ps xs = drop (length (joined ps)) xs

-- pieces are numbered one after another, the first by the number after n
abbrev pub NumberedAfter : ℕ → List Piece → Type 0
NumberedAfter n [] = Unit {0}
NumberedAfter n (p ∷ ps) = (p.number ≡ n + 1) × NumberedAfter (n + 1) ps

-- the pieces that were handed out; items: all calls that were ever made, in order; spare: room for calls that are stored
pub record CallsView : Type 0 where
  pub pieces : List Piece
  pub items : List Stored
  pub spare : ℕ

-- the image is that of the segment after the calls of all pieces; there is one from the first cut on
abbrev pub IsCutImage : List Address → List Piece → Option Segment → Type 0
IsCutImage addresses ps image = MatchOption image (ps ≡ []) (λ s. s ≡ (trail addresses (joined ps)).state)

-- the pieces are the beginning of all calls, and at most MOST_CALLS calls are stored since
pub record HasPast (ps : List Piece) (xs : List Stored) : Type 0 where
  pub whole : joined ps ++ since ps xs ≡ xs
  pub few : count_since ps xs ≤ MOST_CALLS
  pub numbered : NumberedAfter 0 ps

-- the number of one more piece, or that of the calls that can have been made then, would pass the last value of a count
abbrev pub IsPastCounts : List Piece → List Stored → Type 0
IsPastCounts ps xs = (2 ^ 64 ≤ length ps + 1) ⊎ (2 ^ 64 ≤ length xs + MOST_CALLS)

-- neither count would
abbrev pub HasCounts : List Piece → List Stored → Type 0
HasCounts ps xs = (length ps + 1 < 2 ^ 64) × (length xs + MOST_CALLS < 2 ^ 64)
