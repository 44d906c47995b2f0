use Rattle.std.proofs.Common.{ap, ◌∙◌, arith, false}
use Rattle.port_table.specs.Ports.{has_paused}
use Rattle.port_table.proofs.Tables.{marked_valid, marked_above}
use Rattle.port_table.proofs.table.PortTable.resume.Goals as goal

pub invariant_of-self : goal.invariant_of-self
invariant_of-self c = record {
  valid = marked_valid _ c.args.number false _ c.mark.ensures.items c.self.invariant.valid;
  room = omega (arith, c.mark.ensures.capacity, c.self.invariant.room);
  above = marked_above c.args.number false c.self.inside.ports.items _ c.mark.ensures.items c.self.invariant.above;
  paused = c.is_one_paused-self-inside.ensures ∙ ap has_paused c.deref.ensures.value;
}

pub returns-clause-valid : goal.returns-clause-valid
returns-clause-valid c = marked_valid _ c.args.number false _ c.mark.ensures.items c.self.invariant.valid
