-- Which stations have no submission that is seen.
use Rattle.std.specs.Prelude.{◌≡◌, ℕ, Bool, true, false, List, ◌∷◌, length, slice_index_or, slice_set, ◌⊎◌, []}
use Rattle.segment_rings.specs.Views.{SeatView}

-- the seats of all clients, and room for more of them
pub record SeatsView : Type 0 where
  pub items : List SeatView
  pub spare : ℕ

-- no submission of the seat's client is seen, or none is taken any more
abbrev pub IsSilent : SeatView → Type 0
IsSilent s = (s.active ≡ false) ⊎ (length s.ahead ≡ 0)

-- so is each seat of the station of this number
abbrev pub AreSilent : ℕ → List SeatView → Type 0
AreSilent a [] = Unit {0}
AreSilent a (s ∷ ss) = (s.station.0 ≡ a → IsSilent s) × AreSilent a ss

-- so is each seat of a station that is marked as quiet; the marks are in the order of the stations' numbers
abbrev pub AreQuiet : List Bool → List SeatView → Type 0
AreQuiet marks [] = Unit {0}
AreQuiet marks (s ∷ ss) = (slice_index_or marks s.station.0 false ≡ true → IsSilent s) × AreQuiet marks ss

-- no seat but the k-th has changed
abbrev pub OnlyAt : ℕ → List SeatView → List SeatView → Type 0
OnlyAt k ss ts = (s : SeatView) → ts ≡ slice_set ss k (slice_index_or ts k s)
