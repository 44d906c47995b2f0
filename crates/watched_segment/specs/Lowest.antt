-- Which station transmits next.
use Rattle.std.specs.Prelude.{◌≡◌, ℕ, ◌<◌, ◌≤◌, List, length, Option, Some, None, MatchOption, slice_index_or}
use Rattle.bus_frame.specs.Frames.{CanFrame}
use Rattle.pgn_ids.specs.declared.address.Address.{Address}
use Rattle.segment_law.specs.Segment.{Segment}
use Rattle.segment_law.specs.Readers.{front_at}

-- none of the first n stations has a frame to transmit
abbrev pub NoneWaits : Segment → List Address → ℕ → Type 0
NoneWaits seg addresses n = (k : ℕ) (d : Address) → k < n → front_at seg (slice_index_or addresses k d) ≡ None

-- among the first n stations it is the one whose first frame has the lowest identifier, of several the first
pub record IsLowest (seg : Segment) (addresses : List Address) (n id : ℕ) (a : Address) : Type 0 where
  pub place : ℕ
  pub within : place < n
  pub is : (d : Address) → slice_index_or addresses place d ≡ a
  pub bytes : List ℕ
  pub front : front_at seg a ≡ Some (record { id = id; bytes = bytes })
  pub least : (k : ℕ) (d : Address) (other : CanFrame) → k < n → front_at seg (slice_index_or addresses k d) ≡ Some other → id ≤ other.id
  pub first : (k : ℕ) (d : Address) (other : CanFrame) → k < place → front_at seg (slice_index_or addresses k d) ≡ Some other → id < other.id

-- the station that transmits next, or that none has a frame
abbrev pub IsNext : Segment → List Address → Option Address → Type 0
IsNext seg addresses next = MatchOption next (NoneWaits seg addresses (length addresses)) (λ a. (id : ℕ) × IsLowest seg addresses (length addresses) id a)
