-- Stations that are abreast.
use Rattle.std.specs.Prelude.{ℕ, zero, suc, ◌+◌, Bool, not, ◌&&◌, ◌==◌, length, count_by}
use Rattle.bus_order.specs.Bus.{Bus, bus_len, lowest, is_full, taken, released}

-- the cursor furthest behind is right before the newest frame, and so are all others: that frame alone waits for each station
abbrev pub are_abreast : Bus → Bool
are_abreast bus = lowest bus.cursors + 1 == bus_len bus && count_by (λ c. c.place == lowest bus.cursors) bus.cursors == length bus.cursors

-- all cursors are at the newest frame, which is the only one kept, and one more can be put
abbrev pub are_level : Bus → Bool
are_level bus = lowest bus.cursors == bus_len bus && count_by (λ c. c.place == lowest bus.cursors) bus.cursors == length bus.cursors && length bus.kept == 1 && not (is_full bus)

-- the first n stations take the frame behind their cursors, one after the other; what nobody needs any more is dropped each time
abbrev pub passed_first : ℕ → Bus → Bus
passed_first zero bus = bus
passed_first (suc n) bus = released (taken (passed_first n bus) n)
