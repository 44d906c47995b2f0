-- What a script sets up, and how a run of it by threads ended.
use Rattle.std.specs.Prelude.{◌≡◌, ℕ, List, [], Bool, false, Option, Some, None}
use Rattle.pgn_ids.specs.declared.address.Address.{Address}
use Rattle.port_table.specs.declared.port.PortId.{PortId}
use Rattle.stored_calls.specs.declared.stored.Stored.{Stored}
use Rattle.script_segments.specs.LiveView.{LiveView}
use Rattle.script_runs.specs.Reading.{Planned, planned_by}
use Rattle.script_runs.specs.Ending.{EndedBy}
use Rattle.script_runs.specs.declared.ending.LiveRan.{LiveRan}
use Rattle.script_runs.specs.declared.ending.Told.{Told}
use Rattle.script_segments.specs.Plan.{Plan, first_plan, grammar, text_of}
use Rattle.script_segments.specs.declared.setup.Message.{Message}
use Rattle.script_segments.specs.Ending.{Came}
use Rattle.script_segments.specs.declared.names.Names.{Names}

abbrev pub planned : List ℕ → Planned Plan
planned script = planned_by grammar first_plan script

-- what the threads of a segment with these names left
abbrev pub CameOf : Names → Told → Type 0
CameOf n told = (v : LiveView) × Came n.stations.items n.ports.items n.messages.items told.ran_out told.text.items v

-- what the threads left; without stations none ran
abbrev pub CameFrom : Option (List Address × List Stored) → List PortId → List Message → (ran_out : Bool) → List ℕ → Type 0
CameFrom None ports messages ran_out text = (text ≡ []) × (ran_out ≡ false)
CameFrom (Some m) ports messages ran_out text = (v : LiveView) × Came m.0 ports messages ran_out text v

abbrev pub CameTo : Plan → (ran_out : Bool) → List ℕ → Type 0
CameTo p ran_out text = CameFrom p.made p.ports p.messages ran_out text

-- the text of the refused lines was written, and then, if the script has no fault, the text of what the threads left; at a fault
-- of the script only the former
abbrev pub Ended : LiveRan → Option (List ℕ) → Option (List ℕ) → Planned Plan → Type 0
Ended ran a b planned = EndedBy text_of CameTo ran a b planned
