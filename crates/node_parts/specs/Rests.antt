-- Destinations that rest: a connection to them failed, and nothing is queued to them for a while.
use Rattle.std.specs.Prelude.{◌≡◌, ℕ, min, Bool, true, false, nat_lt, if◌then◌else◌, List, length, replicate, fold, slice_set, slice_index_or}
use Rattle.tp_wire.specs.declared.outcome.Outcome.{Outcome}
use Rattle.tp_wire.specs.declared.outcome.Outcome.TheVariants.{Acknowledged, Broadcast, Aborted, TimedOut, Overrun, Cancelled, Unreachable}
use Rattle.message_events.specs.declared.event.Event.{Event}
use Rattle.message_events.specs.declared.event.Event.TheVariants as events
use Rattle.node_parts.specs.Sums.{plus}

-- a tick for each destination
abbrev pub HasAll : List ℕ → Type 0
HasAll rests = length rests ≡ 256

-- no destination has rested
abbrev pub no_rests : List ℕ
no_rests = replicate 256 0

-- a destination rests until a later tick
abbrev pub is_at_rest : List ℕ → (now to : ℕ) → Bool
is_at_rest rests now to = nat_lt now (slice_index_or rests to 0)

abbrev pub resting : List ℕ → (until to : ℕ) → List ℕ
resting rests until to = slice_set rests to until

-- a message ended so because its connection failed
abbrev pub is_failure : Outcome → Bool
is_failure (Aborted reason) = true
is_failure TimedOut = true
is_failure Overrun = true
is_failure Acknowledged = false
is_failure Broadcast = false
is_failure Cancelled = false
is_failure Unreachable = false

-- the tick until which a destination rests whose connection fails now, if each rests for so many ticks
abbrev pub rest_end : (now quiet : ℕ) → ℕ
rest_end now quiet = plus now quiet

abbrev pub rest_by : (until : ℕ) → List ℕ → Event → List ℕ
rest_by until rests (events.Given port from to pgn bytes) = rests
rest_by until rests (events.Outcome from to number outcome) = if is_failure outcome then resting rests until to.0 else rests

-- the destinations of connections that failed rest until a tick
abbrev pub rested : (until : ℕ) → List ℕ → List Event → List ℕ
rested until rests told = fold (rest_by until) rests told

-- the first tick above one at which a destination no longer rests, if that is below the end, else the end
abbrev pub wakes : (now end : ℕ) → List ℕ → ℕ
wakes now end rests = fold (λ first until. if nat_lt now until then min first until else first) end rests
