use Rattle.std.proofs.Common.{◌∙◌, arith}
use Rattle.port_table.proofs.Tables.{mark_here, mark_other}
use Rattle.port_table.proofs.table.mark.Goals as goal
use Rattle.port_table.proofs.table.mark.Goals.{then-port-number, else-port-number}

pub loop-port-preserved : goal.loop-port-preserved
loop-port-preserved c =
    elim c.if-port-number.branch [
      | then-port-number w ↦ w.port-items-is ∙ mark_here _ _ _ _ _ c.port-item.result (omega arith) (omega arith) c.loop-port.invariant w.if-port-number.true
      | else-port-number w ↦ w.port-items-is ∙ mark_other _ _ _ _ _ c.port-item.result (omega arith) (omega arith) c.loop-port.invariant w.if-port-number.false
    ]
