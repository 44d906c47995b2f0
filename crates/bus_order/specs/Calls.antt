-- Calls of a log, made one after another. A put that finds no memory is as if it hadn't been made.
use Rattle.std.specs.Prelude.{ℕ, List, [], ◌∷◌, is_some, nat_le, if◌then◌else◌}
use Rattle.bus_frame.specs.Frames.{CanFrame}
use Rattle.bus_order.specs.Bus.{Bus, next_frame, waiting, is_full, put, taken, passed, released}

-- the calls; those that name a station name it by its cursor
pub data BusCall : Type 0 where
  Put : (frame : CanFrame) → BusCall
  Next : (cursor : ℕ) → BusCall
  Again : (cursor : ℕ) → BusCall
  Skip : (cursor n : ℕ) → BusCall
  Release : BusCall

-- the bus after a call; one that is refused changes nothing
abbrev pub after_call : Bus → BusCall → Bus
after_call bus (Put frame) = if is_full bus then bus else put bus frame
after_call bus (Next cursor) = if is_some (next_frame bus cursor) then taken bus cursor else bus
after_call bus (Again cursor) = bus
after_call bus (Skip cursor n) = if nat_le n (waiting bus cursor) then passed bus cursor n else bus
after_call bus Release = released bus

-- the bus after all calls of a list
abbrev pub after : Bus → List BusCall → Bus
after bus [] = bus
after bus (call ∷ calls) = after (after_call bus call) calls
