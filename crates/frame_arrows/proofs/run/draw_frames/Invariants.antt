use Rattle.std.proofs.Common.{◌≡◌, ◌++◌, drop}
use Rattle.frame_arrows.specs.Runs.{arrows, arrows_from}
use Rattle.frame_arrows.proofs.run.draw_frames.Given as goal

-- what was drawn so far, and then what the rest draws, is what all draw
abbrev pub invariant-loop-frame : goal.invariant-loop-frame
invariant-loop-frame l = l.out.items ++ arrows_from l.run (drop l.frame-index l.frames) ≡ l.fn.out.items ++ arrows l.frames
