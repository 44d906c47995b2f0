-- The events that wait, as they are kept.
use Rattle.std.specs.Prelude.{◌≡◌, ◌-◌, ◌++◌, [], None}
use Rattle.std.specs.VecDeque.{deque_len, deque_capacity}
use Rattle.node_parts.specs.Told.{Waiting, front_events, joined}
use Rattle.node_parts.specs.declared.told.Told.TheInside.{Inside}

abbrev pub told_value : Inside → Waiting
told_value told = record { events = front_events told.front ++ joined told.parts.items; free = deque_capacity told.parts - deque_len told.parts }

-- without a front part there is no other
abbrev pub IsFrontFirst : Inside → Type 0
IsFrontFirst told = told.front ≡ None → told.parts.items ≡ []
