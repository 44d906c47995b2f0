-- What `feed` and `sent` are in a life: if frames were missed and what was under way has yet to end, that ends first.
use Rattle.std.specs.Prelude.{◌≡◌, Bool, true, false, List, [], ◌∷◌, ◌++◌, Some, Result, Ok, Err}
use Rattle.bus_frame.specs.Frames.{CanFrame}
use Rattle.segment_law.specs.Readers.{front_at}
use Rattle.one_station.specs.Node.{Node}
use Rattle.one_station.specs.Answers.{IsFed, IsSent}
use Rattle.one_station.specs.declared.error.Fed.{Fed}
use Rattle.one_station.specs.declared.error.Fed.TheVariants.{Taken, WithoutRoom, PassedBy}
use Rattle.one_station.specs.declared.error.NodeError.{NodeError}
use Rattle.one_station.specs.declared.error.NodeError.TheVariants.{Refused, ClockPassed, Starting, OutOfMemory}
use Rattle.node_law.specs.Life.{Deed, Lives}
use Rattle.node_law.specs.Life.Deed.{Feeds, Puts, CatchesUp}

-- what was under way when frames were missed ends, if it has yet to
abbrev pub ends_first : (missed : Bool) → List Deed
ends_first true = CatchesUp ∷ []
ends_first false = []

-- a `feed`: one that passes its frame by does nothing, and one that is refused no more than that
abbrev pub fed_deeds : Node → CanFrame → Result Fed NodeError → List Deed
fed_deeds node frame (Ok Taken) = ends_first node.has_missed ++ Feeds frame Taken ∷ []
fed_deeds node frame (Ok WithoutRoom) = ends_first node.has_missed ++ Feeds frame WithoutRoom ∷ []
fed_deeds node frame (Ok PassedBy) = []
fed_deeds node frame (Err error) = ends_first node.has_missed

-- a `sent`: the frame that it puts is the one that `front` answers then
abbrev pub HasSent : (before after : Node) → Result (Unit {0}) NodeError → Type 0
HasSent before after (Ok _) =
    (ready : Node) × Lives before (ends_first before.has_missed) ready × ((frame : CanFrame) → front_at ready.segment ready.address ≡ Some frame → Lives ready (Puts frame ∷ []) after)
HasSent before after (Err OutOfMemory) = Lives before [] after
HasSent before after (Err (Refused cause)) = Lives before (ends_first before.has_missed) after
HasSent before after (Err ClockPassed) = ⊥
HasSent before after (Err (Starting tick)) = ⊥

abbrev pub FeedsAreDeeds : Type 0
FeedsAreDeeds = (before after : Node) (frame : CanFrame) (answer : Result Fed NodeError) → IsFed before frame after answer → Lives before (fed_deeds before frame answer) after

abbrev pub SentsAreDeeds : Type 0
SentsAreDeeds = (before after : Node) (answer : Result (Unit {0}) NodeError) → IsSent before after answer → HasSent before after answer
