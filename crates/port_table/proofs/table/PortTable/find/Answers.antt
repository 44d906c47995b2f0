use Rattle.std.proofs.Common.{◌≡◌, ◌<◌, List, take, ap, sym, subst, ◌∙◌, arith}
use Rattle.std.specs.List.{AllPairs}
use Rattle.std.proofs.lemmas.List.{take_all}
use Rattle.port_table.specs.declared.port.Port.{Port}
use Rattle.port_table.specs.Ports.{receives, numbers_of}
use Rattle.port_table.proofs.Tables.{numbers_rise}
use Rattle.port_table.proofs.table.PortTable.find.Goals as goal

pub returns-clause-rising : goal.returns-clause-rising
returns-clause-rising c =
    let ports : List Port = c.self.inside.ports.items in
    let items = c.deref-port-items.ensures.value in
    let whole : take c.loop-port.port-index c.deref-port-items.result.now ≡ ports = take_all c.loop-port.port-index _ (omega arith) ∙ items in
    let found : c.loop-port.set ≡ numbers_of (receives c.args.pgn c.args.len) ports = c.loop-port.invariant.0 ∙ ap (numbers_of (receives c.args.pgn c.args.len)) whole in
    subst (AllPairs ◌<◌) (sym found) (numbers_rise (receives c.args.pgn c.args.len) ports c.self.invariant.valid.rising)
