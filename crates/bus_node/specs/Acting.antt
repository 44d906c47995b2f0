-- What a line does.
use Rattle.std.specs.Prelude.{◌≡◌, ℕ, nat_lt, if◌then◌else◌, List, [], ◌++◌, Option, Some, None, Result, Ok, Err, codes}
use Rattle.std.specs.Fmt.{decimal}
use Rattle.line_faults.specs.declared.fault.Fault.{Fault}
use Rattle.line_faults.specs.declared.fault.LineError.{LineError}
use Rattle.line_faults.specs.declared.fault.LineError.TheVariants as errors
use Rattle.log_fields.specs.declared.iface.Iface.{Iface}
use Rattle.pgn_ids.specs.declared.address.Address.{Address}
use Rattle.script_text.specs.Parts.{line}
use Rattle.script_text.specs.Replies.{refusal_text}
use Rattle.script_text.specs.Counts.{counts_line}
use Rattle.segment_law.specs.Readers.{queue_len}
use Rattle.segment_law.specs.declared.call.Call.TheVariants as calls
use Rattle.node_lines.specs.Lines.{node_line}
use Rattle.node_lines.specs.declared.line.NodeLine.{NodeLine}
use Rattle.node_lines.specs.declared.line.NodeLine.TheVariants.{Passed, Frame, Now, Command}
use Rattle.node_lines.specs.declared.command.NodeCommand.{NodeCommand}
use Rattle.node_lines.specs.declared.command.NodeCommand.TheVariants.{Send, Open, Close, Pause, Resume, Cancel, Missed, Counts, State, Refused}
use Rattle.bus_node.specs.Stations.{missed}
use Rattle.bus_node.specs.Node.{Node, told, events_told, answered, asked}
use Rattle.bus_node.specs.LineCounts.{with_line}
use Rattle.bus_node.specs.WrongLines.{wrong_seen}
use Rattle.bus_node.specs.Interfaces.{shown_on, is_other, passed_over, joined}
use Rattle.bus_node.specs.Putting.{heard}
use Rattle.bus_node.specs.Due.{next_due}
use Rattle.bus_node.specs.LaneCounts.{lanes_in_doubt, lanes_pending, lane_counts_text}
use Rattle.bus_node.specs.Time.{settled, at_time}
use Rattle.line_runs.specs.declared.running.Told.{Told}
use Rattle.line_runs.specs.declared.running.Told.TheVariants.{Answered, NoMemory}

-- a line is counted, and has printed nothing yet
abbrev pub begun : Node → Node
begun n = record n { counts = with_line n.counts; text = [] }

abbrev pub due_text : Option ℕ → List ℕ
due_text None = codes "none"
due_text (Some tick) = decimal tick

-- the tick of the clock, how many frames wait to be put, and the tick at which something is due; how many lanes are in doubt, and how many
-- have a message that waits or is under way
unfoldable pub state_line : Node → List ℕ
state_line n = line (codes "state " ++ decimal n.station.segment.now ++ codes " " ++ decimal (queue_len n.station.segment n.station.address) ++ codes " " ++ due_text (next_due n) ++ lane_counts_text (lanes_in_doubt n) (lanes_pending n))

-- frames were missed: what is under way ends
abbrev pub missing : Node → Node
missing n = answered n (missed n.station) (line (codes "done"))

-- a message isn't sent before this tick, since the program started again
unfoldable pub starting_line : ℕ → List ℕ
starting_line tick = line (codes "starting " ++ decimal tick)

-- a message is sent, if the program didn't start again a short time ago
abbrev pub sending : Node → (to : Address) → (pgn : ℕ) → (bytes : List ℕ) → Node
sending n to pgn bytes =
    if nat_lt n.station.segment.now n.station.quiet_until then told n (starting_line n.station.quiet_until)
    else asked n (calls.Send n.station.address to pgn bytes)

-- a command to the station
unfoldable pub commanded : Node → NodeCommand → Node
commanded n (Send to pgn bytes) = sending n to pgn bytes
commanded n (Open pgn max_len) = asked n (calls.Open n.station.address pgn max_len)
commanded n (Close number) = asked n (calls.Close (record { station = n.station.address; number = number }))
commanded n (Pause number) = asked n (calls.Pause (record { station = n.station.address; number = number }))
commanded n (Resume number) = asked n (calls.Resume (record { station = n.station.address; number = number }))
commanded n (Cancel to number) = asked n (calls.Cancel n.station.address to number)
commanded n Missed = missing n
commanded n Counts = told n (counts_line n.station.segment.counts)
commanded n State = told n (state_line n)
commanded n (Refused cause) = told n (line (refusal_text cause))

-- the time that a line says
abbrev pub time_in : NodeLine → Option ℕ
time_in (Frame time iface frame) = time
time_in (Now time) = Some time
time_in Passed = None
time_in (Command command) = None

abbrev pub acted : Node → NodeLine → Node
acted n Passed = n
acted n (Now time) = n
acted n (Frame time iface frame) = heard n frame
acted n (Command command) = commanded n command

-- the events that a line before found no memory to print are printed, and the clock advances to the time of a line
abbrev pub come_to : Node → Option ℕ → Node
come_to n time = at_time (events_told n) time

-- the clock advances, the line is acted on, and then all is done that is due at that tick
unfoldable pub followed : Node → NodeLine → Node
followed n meant = settled (acted (come_to n (time_in meant)) meant)

-- a line is followed if it shows a frame of the node's interface or none; one that shows a frame of another says nothing, not even the
-- time
abbrev pub obeyed_on : Node → NodeLine → Option Iface → Node
obeyed_on n meant None = followed n meant
obeyed_on n meant (Some iface) = if is_other n iface then passed_over n iface else followed (joined n iface) meant

unfoldable pub obeyed : Node → NodeLine → Node
obeyed n meant = obeyed_on n meant (shown_on meant)

-- a line is wrong if it means nothing
abbrev pub obeyed_or_wrong : Node → Result NodeLine Fault → Result Node Fault
obeyed_or_wrong n (Ok meant) = Ok (obeyed n meant)
obeyed_or_wrong n (Err fault) = wrong_seen n fault

unfoldable pub obey_line : Node → List ℕ → Result Node Fault
obey_line n text = obeyed_or_wrong (begun n) (node_line text)

-- How the code obeyed a line

-- a step went to the node new
abbrev pub Obeyed : Result Told LineError → Node → Result Node Fault → Type 0
Obeyed (Ok Answered) new step = step ≡ Ok new
Obeyed (Ok NoMemory) new step = Unit {0}
Obeyed (Err (errors.Fault f)) new step = step ≡ Err f
Obeyed (Err errors.OutOfMemory) new step = Unit {0}

-- the line found no memory
abbrev pub IsUnmet : Result Told LineError → Type 0
IsUnmet (Ok Answered) = ⊥
IsUnmet (Ok NoMemory) = Unit {0}
IsUnmet (Err (errors.Fault f)) = ⊥
IsUnmet (Err errors.OutOfMemory) = Unit {0}
