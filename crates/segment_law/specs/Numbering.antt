-- Choices of what was sent, and the message numbers that go with them.
use Rattle.std.specs.Prelude.{◌≡◌, ℕ, zero, suc, ◌<◌, ◌==◌, List, map, Option, Some, None, slice_get, filter, AllPairs, zip}
use Rattle.std.specs.List.{AllZip}
use Rattle.std.specs.List.Sorted.{IsStrictlyIncreasing, IsNonDecreasing}
use Rattle.pgn_ids.specs.declared.address.Address.{Address}
use Rattle.segment_law.specs.Record.{Record}
use Rattle.segment_law.specs.Told.{Placed, AtPort, places_of, sends, sent, given, given_at, station_givens}

-- the item with a number, from 1
abbrev pub item : {A : Type 0} → List A → ℕ → Option A
item xs zero = None
item xs (suc n) = slice_get xs n

-- strictly rising places of a, whose items are those of b in order
pub record IsNumbering {A : Type 0} (places : List ℕ) (b a : List A) : Type 0 where
  pub rising : IsStrictlyIncreasing places
  pub items : map (item a) places ≡ map Some b

-- b is a choice of a
abbrev pub IsChoice : {A : Type 0} → List A → List A → Type 0
IsChoice b a = (places : List ℕ) × IsNumbering places b a

-- a later place, of a number that has one
abbrev pub IsAfter : Option ℕ → ℕ → Type 0
IsAfter None later = ⊥
IsAfter (Some earlier) later = earlier < later

-- what station r was given of lane (s, d), each with a number
abbrev pub Numbered : Type 0
Numbered = ℕ × Placed AtPort

abbrev pub numbered : Record → (r s d : Address) → List ℕ → List Numbered
numbered steps r s d numbers = zip numbers (station_givens steps r s d)

-- the numbers of what one port was given
abbrev pub part_of : (port : ℕ) → List Numbered → List ℕ
part_of port givens = map (λ g. g.0) (filter (λ g. g.1.1.0 == port) givens)

-- message numbers for the messages of lane (s, d) that station r was given, over all its ports: they never fall, each
-- message is given after its Send and in one reply, and those of each port number what the port was given in what was
-- sent
pub record IsLaneNumbering (steps : Record) (r s d : Address) (numbers : List ℕ) : Type 0 where
  pub never_falls : IsNonDecreasing numbers
  pub items : map (item (sent steps s d)) numbers ≡ map Some (given_at steps r s d)
  pub later : AllZip (λ number place. IsAfter (item (places_of (sends steps s d)) number) place) numbers (places_of (station_givens steps r s d))
  pub together : AllPairs (λ g h. g.0 ≡ h.0 → g.1.0 ≡ h.1.0) (numbered steps r s d numbers)
  pub each_port : (port : ℕ) → IsNumbering (part_of port (numbered steps r s d numbers)) (given steps (record { station = r; number = port }) s d) (sent steps s d)
