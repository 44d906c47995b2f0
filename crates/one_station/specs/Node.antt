-- A node: one station, and its events.
use Rattle.std.specs.Prelude.{◌≡◌, ℕ, ◌+◌, ◌-◌, ◌^◌, min, Bool, false, List, [], ◌∷◌, ◌++◌}
use Rattle.pgn_ids.specs.declared.address.Address.{Address}
use Rattle.message_events.specs.declared.event.Event.{Event}
use Rattle.segment_law.specs.Segment.{Segment, new_segment}
use Rattle.segment_law.specs.Calls.{applied, events_of}
use Rattle.segment_law.specs.Record.{Record, StandsAt}
use Rattle.segment_law.specs.declared.call.Call.{Call}
use Rattle.segment_law.specs.declared.call.Call.TheVariants.{Tick}
use Rattle.one_station.specs.declared.durations.TheConstants.{SILENCE}

-- the segment with the station alone, the station's address, the events that were not taken yet, whether it missed frames and what
-- was under way then has yet to end, and the tick before which it sends no message
pub record Node : Type 0 where
  pub segment : Segment
  pub address : Address
  pub events : List Event
  pub has_missed : Bool
  pub quiet_until : ℕ

-- nothing was done yet, and no message is sent before this tick
abbrev pub quiet_node : Address → (tick : ℕ) → Node
quiet_node address tick = record { segment = new_segment (address ∷ []); address = address; events = []; has_missed = false; quiet_until = tick }

-- any message may be sent at once
abbrev pub new_node : Address → Node
new_node address = quiet_node address 0

-- a call is made on the segment, and its events wait behind the others
abbrev pub makes : Node → Call → Node
makes node call = record node { segment = (applied node.segment call).0; events = node.events ++ events_of (applied node.segment call).1 }

-- the end of the silence of a program that starts again at this tick, within 64 bits
abbrev pub silence_end : ℕ → ℕ
silence_end tick = min (tick + SILENCE) (2 ^ 64 - 1)

-- a program starts again at this tick
abbrev pub again_node : Address → (tick : ℕ) → Node
again_node address tick = makes (quiet_node address (silence_end tick)) (Tick tick)

-- calls, one after another
abbrev pub makes_all : Node → List Call → Node
makes_all node [] = node
makes_all node (call ∷ calls) = makes_all (makes node call) calls

-- calls with what each is answered
abbrev pub answered : Segment → List Call → Record
answered seg [] = []
answered seg (call ∷ calls) = (call, (applied seg call).1) ∷ answered (applied seg call).0 calls

-- whatever record the segment was at, it is now at that record followed by these calls
abbrev pub GoesOn : (before : Segment) → List Call → (after : Segment) → Type 0
GoesOn before calls after =
    (addresses : List Address) (steps : Record) → StandsAt addresses steps before → StandsAt addresses (steps ++ answered before calls) after

-- exactly these calls were made
pub record Did (before : Node) (calls : List Call) (after : Node) : Type 0 where
  pub node : after ≡ makes_all before calls
  pub stands : GoesOn before.segment calls after.segment
