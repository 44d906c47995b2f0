use Rattle.std.proofs.Common.{◌≡◌, not, cond, length, Option, Some, None, is_some, sym, ap, ◌∙◌, arith}
use Rattle.port_table.specs.Ports.{Ports, less_port}
use Rattle.port_table.specs.Refusals.{closing_refusal}
use Rattle.port_table.specs.Ports.{has_paused}
use Rattle.port_table.specs.declared.port.Port.{Port}
use Rattle.port_table.specs.declared.refused.Refused.{Refused}
use Rattle.port_table.specs.declared.refused.Refused.TheVariants.{NoSuchPort}
use Rattle.port_table.proofs.Tables.{less_port_valid, less_port_above, kept_all, one_goes, all_stay, as_many}
use Rattle.port_table.proofs.table.PortTable.close.Goals as goal

pub invariant_of-self : goal.invariant_of-self
invariant_of-self c = record {
  valid = less_port_valid _ c.args.number _ c.remove.ensures.items c.self.invariant.valid;
  room = omega (arith, c.remove.ensures.capacity, c.self.invariant.room);
  above = less_port_above c.args.number c.self.inside.ports.items _ c.remove.ensures.items c.self.invariant.above;
  paused =
      let same = all_stay c.self.inside.ports c.remove.new.ports c.args.number c.remove.ensures.items (sym c.len.ensures ∙ c.if-len-open.true ∙ c.len-open.ensures) in
      c.self.invariant.paused ∙ ap has_paused (sym (c.remove.ensures.items ∙ (kept_all c.args.number c.self.inside.ports.items same).0));
}

pub returns-then-len-open-clause-refused : goal.returns-then-len-open-clause-refused
returns-then-len-open-clause-refused c =
    let xs = c.self.inside.ports.items in
    let same : length (less_port c.args.number xs) ≡ length xs = all_stay c.self.inside.ports c.remove.new.ports c.args.number c.remove.ensures.items (sym c.len.ensures ∙ c.if-len-open.true ∙ c.len-open.ensures) in
    ap (λ (o : Option Port). cond {A = Option Refused} (not (is_some o)) (Some NoSuchPort) None) (sym (kept_all c.args.number xs same).1)
    ∙ ap (λ (v : Ports). closing_refusal v c.args.number) c.self.view_is

pub returns-then-len-open-clause-err : goal.returns-then-len-open-clause-err
returns-then-len-open-clause-err c =
    let s = c.self.inside in
    let xs = s.ports.items in
    let same : length (less_port c.args.number xs) ≡ length xs = all_stay c.self.inside.ports c.remove.new.ports c.args.number c.remove.ensures.items (sym c.len.ensures ∙ c.if-len-open.true ∙ c.len-open.ensures) in
    let kept = c.remove.ensures.items ∙ (kept_all c.args.number xs same).0 in
    (λ i. let left : Ports = record { station = s.station; open_ports = kept i; opened = s.opened } in left) ∙ c.self.view_is

pub returns-then-len-open-clause-valid : goal.returns-then-len-open-clause-valid
returns-then-len-open-clause-valid c = less_port_valid _ c.args.number _ c.remove.ensures.items c.self.invariant.valid

pub invariant_of-self-2 : goal.invariant_of-self-2
invariant_of-self-2 c = record {
  valid = less_port_valid _ c.args.number _ c.remove.ensures.items c.self.invariant.valid;
  room = omega (arith, c.remove.ensures.capacity, c.self.invariant.room);
  above = less_port_above c.args.number c.self.inside.ports.items _ c.remove.ensures.items c.self.invariant.above;
  paused = c.is_one_paused-self-inside.ensures ∙ ap has_paused c.deref.ensures.value;
}

pub returns-clause-refused : goal.returns-clause-refused
returns-clause-refused c =
    let xs = c.self.inside.ports.items in
    let goes = one_goes c.args.number xs (λ e. c.if-len-open.false (c.len.ensures ∙ as_many c.self.inside.ports c.remove.new.ports c.args.number c.remove.ensures.items e ∙ sym c.len-open.ensures)) in
    ap (λ b. cond {A = Option Refused} (not b) (Some NoSuchPort) None) (sym goes)
    ∙ ap (λ (v : Ports). closing_refusal v c.args.number) c.self.view_is

pub returns-clause-valid : goal.returns-clause-valid
returns-clause-valid c = less_port_valid _ c.args.number _ c.remove.ensures.items c.self.invariant.valid
