-- A program that starts again sends its first message after a silence.
use Rattle.std.specs.Prelude.{ℕ, ◌+◌, ◌<◌, ◌≤◌, ◌^◌, List, [], ◌∷◌, ◌++◌}
use Rattle.pgn_ids.specs.declared.address.Address.{Address}
use Rattle.segment_law.specs.declared.call.Call.{Call}
use Rattle.segment_law.specs.declared.call.Call.TheVariants.{Tick}
use Rattle.one_station.specs.Node.{Node, quiet_node, again_node, silence_end}
use Rattle.one_station.specs.declared.durations.TheConstants.{SILENCE}
use Rattle.node_law.specs.Life.{Deed, Lives}
use Rattle.node_law.specs.Life.Deed.{Makes, Sends}

-- the ticks by which the clock advanced
abbrev pub ticks_by : Call → ℕ
ticks_by (Tick n) = n
ticks_by _ = 0

abbrev pub ticks_of : Deed → ℕ
ticks_of (Makes call) = ticks_by call
ticks_of _ = 0

abbrev pub ticks_in : List Deed → ℕ
ticks_in [] = 0
ticks_in (deed ∷ deeds) = ticks_of deed + ticks_in deeds

-- each message that it sends is sent after so many ticks, or later
abbrev pub SendsAfterSilence : Type 0
SendsAfterSilence = (a from to : Address) (tick pgn number : ℕ) (bytes : List ℕ) (before after : List Deed) (last : Node) → tick + SILENCE < 2 ^ 64
    → Lives (again_node a tick) (before ++ Sends from to pgn bytes number ∷ after) last → SILENCE ≤ ticks_in before

-- its life is one that `IsNodeOn` speaks of: the first deed is its clock's
abbrev pub RestartsAreNew : Type 0
RestartsAreNew = (a : Address) (tick : ℕ) (deeds : List Deed) (last : Node) → tick < 2 ^ 64 → Lives (again_node a tick) deeds last → Lives (quiet_node a (silence_end tick)) (Makes (Tick tick) ∷ deeds) last
