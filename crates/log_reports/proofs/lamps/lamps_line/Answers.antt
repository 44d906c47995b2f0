use Rattle.std.proofs.Common.{◌∙◌, ◌/◌, ◌%◌, codes}
use Rattle.log_reports.specs.Lamps.{lamp_state}
use Rattle.log_reports.proofs.LampSteps.{four_put}
use Rattle.log_reports.proofs.lamps.lamps_line.Goals as goal

pub returns : goal.returns
returns c =
    c.new.ensures
    ∙ four_put (codes "lamps: malfunction ") (lamp_state (c.args.lamps / 64)) (codes ", red stop ") (lamp_state (c.args.lamps / 16 % 4))
    (codes ", amber warning ") (lamp_state (c.args.lamps / 4 % 4)) (codes ", protect ") (lamp_state (c.args.lamps % 4))
    c.new-text.result.items c.put_two.new.out.items c.put_two-2.new.out.items c.put_two-3.new.out.items c.put_two-4.new.out.items c.new-text.ensures.items
    (rw c.lamp_state.ensures at c.in_ok-put_two.ensures)
    (rw c.lamp_state-2.ensures at c.in_ok-put_two-2.ensures)
    (rw c.lamp_state-3.ensures at c.in_ok-put_two-3.ensures)
    (rw c.lamp_state-4.ensures at c.in_ok-put_two-4.ensures)
