-- The interface that the node is on, and frames of others.
use Rattle.std.specs.Prelude.{ℕ, Bool, true, not, ◌&&◌, if◌then◌else◌, List, ◌++◌, Option, Some, None, codes}
use Rattle.std.specs.Str.{bytes_eq}
use Rattle.log_fields.specs.Iface.{name_of}
use Rattle.log_fields.specs.declared.iface.Iface.{Iface}
use Rattle.script_text.specs.Parts.{line}
use Rattle.node_lines.specs.declared.line.NodeLine.{NodeLine}
use Rattle.node_lines.specs.declared.line.NodeLine.TheVariants.{Passed, Frame, Now, Command}
use Rattle.bus_node.specs.Node.{Node, told}

-- interfaces are equal if their names are
abbrev pub same_iface : Iface → Iface → Bool
same_iface a b = bytes_eq (name_of a) (name_of b)

-- the interface that a line shows a frame on
abbrev pub shown_on : NodeLine → Option Iface
shown_on (Frame time iface frame) = Some iface
shown_on (Now time) = None
shown_on Passed = None
shown_on (Command command) = None

-- whether an interface is another than the node's, which is known
abbrev pub is_other : Node → Iface → Bool
is_other n iface = n.knows_iface && not (same_iface iface n.iface)

unfoldable pub other_line : Iface → List ℕ
other_line iface = line (codes "other interface " ++ name_of iface)

-- a frame of another interface is passed over, and the first such is reported
abbrev pub passed_over : Node → Iface → Node
passed_over n iface = if n.knows_other then n else told (record n { knows_other = true }) (other_line iface)

-- if the node's interface isn't known, it is that of the first frame
abbrev pub joined : Node → Iface → Node
joined n iface = if n.knows_iface then n else record n { iface = iface; knows_iface = true }
