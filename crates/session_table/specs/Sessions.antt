-- A table of sessions: its keys, each with its state, or with nothing while the key is held.
use Rattle.std.specs.Prelude.{◌≡◌, Option, Some, None}
use Rattle.std.specs.Option.{option_flatten}
use Rattle.std.specs.FinMap as map
use Rattle.std.specs.Coded.{Coded, coded_option, coded×}
use Rattle.session_table.specs.declared.key.Key.{Key}
use Rattle.session_table.specs.declared.incoming.Incoming.{Incoming}
use Rattle.session_table.specs.contracts.key.Key as key
use Rattle.session_table.specs.contracts.incoming.Incoming as incoming
use Rattle.session_table.specs.Key.{key_cmp}

-- a map from keys to a state and what it is bound to
abbrev pub Sessions : Type 0 → Type 0
Sessions T = map.FinMap key_cmp (Option (T × Incoming))

-- two values are equal if their entries are
abbrev pub sessions_code : {T : Type 0} → Coded T → Coded (Sessions T)
sessions_code code = map.code ((key.the_row).coded) (coded_option (coded× code ((incoming.the_row).coded)))

module _ {T : Type 0} where
  -- the key is in the table, and its state isn't
  abbrev pub IsHeld : Sessions T → Key → Type 0
  IsHeld m k = map.get m k ≡ Some None

  -- the state at the key, if the key is there and isn't held
  abbrev pub state_at : Sessions T → Key → Option (T × Incoming)
  state_at m k = option_flatten (map.get m k)
