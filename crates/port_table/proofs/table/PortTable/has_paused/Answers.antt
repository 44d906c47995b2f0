use Rattle.std.proofs.Common.{◌≡◌, false, List, ℕ, subst, sym, ◌∙◌}
use Rattle.port_table.specs.Ports.{Ports, is_any_paused}
use Rattle.port_table.specs.PortSet.{has_number}
use Rattle.port_table.proofs.Tables.{on_false, none_paused}
use Rattle.port_table.proofs.table.PortTable.has_paused.Goals as goal

pub returns-clause-none : goal.returns-clause-none
returns-clause-none c =
    on_false c.self.inside.some_paused (λ is set.
    subst (λ (v : Ports). is_any_paused v set ≡ false) c.self.view_is
    (none_paused (λ p. has_number set p.number) c.self.inside.ports.items (sym c.self.invariant.paused ∙ is)))
