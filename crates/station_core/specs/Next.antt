-- What a station has to do by itself: without a received frame, and without a call of its program.
use Rattle.std.specs.Prelude.{ℕ, Bool, ◌||◌, nat_lt, length, is_some, is_none}
use Rattle.station_core.specs.Station.{Station}
use Rattle.station_core.specs.Sending.{next_pump}
use Rattle.station_core.specs.Refusals.{firing_refusal}

-- at a tick, a pump to some destination isn't refused
abbrev pub can_pump : Station → (now : ℕ) → Bool
can_pump st now = is_some (next_pump st now)

-- at a tick, a timer fires
abbrev pub can_fire : Station → (now : ℕ) → Bool
can_fire st now = is_none (firing_refusal st now)

-- the queue has a frame, a pump isn't refused, or a timer fires
abbrev pub has_work : Station → (now : ℕ) → Bool
has_work st now = nat_lt 0 (length st.queue) || (can_pump st now || can_fire st now)
