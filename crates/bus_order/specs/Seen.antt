-- What calls put on the bus, and what a station saw of it.
use Rattle.std.specs.Prelude.{ℕ, ◌==◌, ◌&&◌, nat_le, if◌then◌else◌, List, [], ◌∷◌, ◌++◌, replicate, Option, Some, None}
use Rattle.bus_frame.specs.Frames.{CanFrame}
use Rattle.bus_order.specs.Bus.{Bus, next_frame, waiting, is_full}
use Rattle.bus_order.specs.Calls.{BusCall, after_call}
use Rattle.bus_order.specs.Calls.BusCall.{Put, Next, Again, Skip, Release}

-- the frames that a call puts
abbrev pub put_by : Bus → BusCall → List CanFrame
put_by bus (Put frame) = if is_full bus then [] else frame ∷ []
put_by bus (Next cursor) = []
put_by bus (Again cursor) = []
put_by bus (Skip cursor n) = []
put_by bus Release = []

-- all frames put by a list of calls, in order
abbrev pub history : Bus → List BusCall → List CanFrame
history bus [] = []
history bus (call ∷ calls) = put_by bus call ++ history (after_call bus call) calls

-- a frame that was taken, if there was one
abbrev pub seen_of : Option CanFrame → List (Option CanFrame)
seen_of None = []
seen_of (Some frame) = Some frame ∷ []

-- what a station sees in a call, for each place that its cursor moves over: the frame that it takes, or None if it
-- passes over that frame
abbrev pub seen_by : ℕ → Bus → BusCall → List (Option CanFrame)
seen_by i bus (Put frame) = []
seen_by i bus (Next cursor) = if cursor == i then seen_of (next_frame bus cursor) else []
seen_by i bus (Again cursor) = []
seen_by i bus (Skip cursor n) = if cursor == i && nat_le n (waiting bus cursor) then replicate n None else []
seen_by i bus Release = []

-- what a station saw by a list of calls, from its first place on
abbrev pub seen : ℕ → Bus → List BusCall → List (Option CanFrame)
seen i bus [] = []
seen i bus (call ∷ calls) = seen_by i bus call ++ seen i (after_call bus call) calls
