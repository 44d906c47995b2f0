-- Frames that the node puts on the bus, and those that the bus shows.
use Rattle.std.specs.Prelude.{ℕ, Bool, true, false, if◌then◌else◌, List, ◌++◌, codes}
use Rattle.bus_frame.specs.Frames.{CanFrame}
use Rattle.log_text.specs.Written.{log_text}
use Rattle.log_fields.specs.declared.iface.Iface.{Iface}
use Rattle.script_text.specs.Parts.{line}
use Rattle.node_parts.specs.Echoes as echoes
use Rattle.node_parts.specs.Echoes.{Echoes, seen}
use Rattle.one_station.specs.Answers.{is_own}
use Rattle.bus_node.specs.Stations.{ready, sent, fed}
use Rattle.bus_node.specs.Node.{Node, told, with_station}
use Rattle.bus_node.specs.Clock.{time_of}

-- a frame that was put, as a line of a log behind the word put
unfoldable pub put_line : ℕ → Iface → CanFrame → List ℕ
put_line time iface frame = line (codes "put " ++ log_text time iface frame)

-- a frame was put: it is printed, and remembered
abbrev pub with_put : Node → CanFrame → Node
with_put n frame = record n { echoes = echoes.with_put n.echoes frame; text = n.text ++ put_line (time_of n) n.iface frame }

-- the station puts the first frame of its queue, and passes it by
unfoldable pub putting : Node → CanFrame → Node
putting n frame = with_put (with_station n (sent (ready n.station))) frame

-- a conflict is reported, if another node has this node's address
abbrev pub reported : Node → Echoes × Bool → Node
reported n (left, true) = told (record n { echoes = left }) (line (codes "address conflict"))
reported n (left, false) = record n { echoes = left }

-- a frame with the node's own address is one that it put, or another node's
unfoldable pub own : Node → CanFrame → Node
own n frame = reported n (seen n.echoes n.station.segment.now frame)

-- any other frame is for the station
unfoldable pub heard : Node → CanFrame → Node
heard n frame = if is_own n.station frame then own n frame else with_station n (fed (ready n.station) frame)
