-- Sets of addresses.
use Rattle.std.specs.Prelude.{◌≡◌, ℕ, ◌/◌, ◌%◌, ◌<◌, ◌≤◌, ◌==◌, Bool, true, false, List, replicate, slice_index_or, Option, Some, None}
use Rattle.std.specs.Int.{bit_at}

-- a bit for each address, in four words of 64
pub record AddressSet : Type 0 where
  pub words : List ℕ

-- no address is in it
abbrev pub no_address : AddressSet
no_address = record { words = replicate 4 0 }

-- an address is in it
abbrev pub has : AddressSet → (address : ℕ) → Bool
has set address = bit_at (slice_index_or set.words (address / 64) 0) (address % 64) == 1

-- none of it from one address up to another
abbrev pub HasNone : AddressSet → (from to : ℕ) → Type 0
HasNone set from to = (address : ℕ) → from ≤ address → address < to → has set address ≡ false

-- the lowest address of it from one on, if there is one
abbrev pub IsNext : AddressSet → (from : ℕ) → Option ℕ → Type 0
IsNext set from None = HasNone set from 256
IsNext set from (Some address) = (from ≤ address) × (has set address ≡ true) × HasNone set from address

-- the lowest bit of a word that is set, from one on
abbrev pub IsLowest : (word from : ℕ) → Option ℕ → Type 0
IsLowest word from None = (at : ℕ) → from ≤ at → at < 64 → bit_at word at ≡ 0
IsLowest word from (Some at) = (from ≤ at) × (at < 64) × (bit_at word at ≡ 1) × ((i : ℕ) → from ≤ i → i < at → bit_at word i ≡ 0)
