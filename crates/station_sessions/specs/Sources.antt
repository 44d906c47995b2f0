-- From which sources there are sessions.
use Rattle.std.specs.Prelude.{◌≡◌, ℕ, zero, suc, ◌≤◌, ◌<◌, Option, Some, None, IsSome}
use Rattle.session_table.specs.declared.key.Key.{Key}
use Rattle.session_table.specs.declared.key.SessionKind.{SessionKind}
use Rattle.session_table.specs.declared.key.SessionKind.TheVariants as session
use Rattle.session_table.specs.Sessions.{state_at}
use Rattle.station_sessions.specs.Receiving.{Inbound}
use Rattle.station_sessions.specs.Opening.{key_of}

-- the last key of the sources below this one
abbrev pub last_below : ℕ → Option Key
last_below zero = None
last_below (suc source) = Some (key_of (record { 0 = source }) session.Etp)

-- this source has no session
abbrev pub HasNoneOf : Inbound → (source : ℕ) → Type 0
HasNoneOf m source = (kind : SessionKind) → state_at m (key_of (record { 0 = source }) kind) ≡ None

-- the sources from one on, below another, have no session
abbrev pub HasNoneBetween : Inbound → (low high : ℕ) → Type 0
HasNoneBetween m low high = (source : ℕ) → low ≤ source → source < high → HasNoneOf m source

-- this source has a session
abbrev pub HasSomeOf : Inbound → (source : ℕ) → Type 0
HasSomeOf m source = (kind : SessionKind) × IsSome (state_at m (key_of (record { 0 = source }) kind))
