-- The places of a table, and the index that leads to them.
use Rattle.std.specs.Prelude.{ℕ, ◌≡◌, ◌≤◌, if◌then◌else◌, List, Option, Some, None, length, map as map_list}
use Rattle.std.specs.Option.{option_and_then}
use Rattle.std.specs.FinMap as map
use Rattle.std.specs.Map.{lookup}
use Rattle.slab.specs.Slab.{Slab, get as place_at}
use Rattle.session_table.specs.declared.TheConstants.{MAX_SESSIONS}
use Rattle.session_table.specs.declared.key.Key.{Key}
use Rattle.session_table.specs.declared.place.Place.{Place}
use Rattle.session_table.specs.declared.place.Slot.{Slot}
use Rattle.session_table.specs.declared.place.Slot.TheVariants.{Empty, Full}
use Rattle.session_table.specs.declared.incoming.Incoming.{Incoming}
use Rattle.session_table.specs.Key.{key_eq}
use Rattle.session_table.specs.Sessions.{Sessions}

-- the index leads this key to that place now, or nowhere, and every other key to its old place
abbrev pub TurnsOnly : (old new : List (Key × ℕ)) → Key → Option ℕ → Type 0
TurnsOnly old new k at =
    (q : Key) → lookup (key_eq q) new ≡ (if key_eq q k then at else lookup (key_eq q) old)

module _ {T : Type 0} where
  -- a state with what it is bound to, or nothing
  abbrev pub content_of : Slot T → Option (T × Incoming)
  content_of Empty = None
  content_of (Full bound state) = Some (bound, state)

  -- what the place holds
  abbrev pub content_at : Slab (Place T) → ℕ → Option (T × Incoming)
  content_at places at = option_and_then (λ p. content_of p.slot) (place_at places at)

  -- each key of the index with what its place holds
  unfoldable pub sessions_of : Slab (Place T) → List (Key × ℕ) → Sessions T
  sessions_of places entries = map.from_entries (map_list (λ e. (e.0, content_at places e.1)) entries)

  -- a place is there, and has the key
  abbrev pub IsPlaceOf : Slab (Place T) → Key → ℕ → Type 0
  IsPlaceOf places k at = (p : Place T) × (place_at places at ≡ Some p) × (p.key ≡ k)

  -- each key of the index leads to its own place
  pub record IsLinked (places : Slab (Place T)) (entries : List (Key × ℕ)) : Type 0 where
    pub linked : (k : Key) (at : ℕ) → lookup (key_eq k) entries ≡ Some at → IsPlaceOf places k at
    pub few : length entries ≤ MAX_SESSIONS
