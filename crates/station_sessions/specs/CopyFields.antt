-- The room for copies as it is kept.
use Rattle.std.specs.Prelude.{ℕ, ◌≡◌, ◌≤◌, List, [], length, vec_capacity}
use Rattle.station_sessions.specs.declared.copies.Copies.TheInside.{Inside}

-- how many bytes each has room for
abbrev pub rooms_of : Inside → List ℕ
rooms_of c = c.rooms.items

-- there is room for the event of each copy
pub record AreRooms (c : Inside) : Type 0 where
  pub none_yet : c.events.items ≡ []
  pub enough : length c.rooms.items ≤ vec_capacity c.events
