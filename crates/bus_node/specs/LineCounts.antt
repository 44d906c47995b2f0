-- How many lines were read, and how many of them were wrong.
use Rattle.std.specs.Prelude.{ℕ, List, ◌++◌, codes}
use Rattle.std.specs.Fmt.{decimal}
use Rattle.node_parts.specs.Sums.{plus}
use Rattle.bus_node.specs.declared.line_counts.LineCounts.{LineCounts}

-- none was read
abbrev pub no_lines : LineCounts
no_lines = record { lines = 0; wrong = 0 }

-- one more was read
abbrev pub with_line : LineCounts → LineCounts
with_line c = record c { lines = plus c.lines 1 }

-- the line was wrong
abbrev pub with_wrong : LineCounts → LineCounts
with_wrong c = record c { wrong = plus c.wrong 1 }

-- each number behind its name
abbrev pub line_counts_text : LineCounts → List ℕ
line_counts_text c = codes "lines " ++ decimal c.lines ++ codes " wrong " ++ decimal c.wrong
