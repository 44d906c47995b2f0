use Rattle.std.proofs.Common.{◌∙◌, ◌/◌, ◌%◌, codes}
use Rattle.log_reports.specs.Lamps.{flash_state}
use Rattle.log_reports.proofs.LampSteps.{four_put}
use Rattle.log_reports.proofs.lamps.flash_line.Goals as goal

pub returns : goal.returns
returns c =
    c.new.ensures
    ∙ four_put (codes "flash: malfunction ") (flash_state (c.args.flash / 64)) (codes ", red stop ") (flash_state (c.args.flash / 16 % 4))
    (codes ", amber warning ") (flash_state (c.args.flash / 4 % 4)) (codes ", protect ") (flash_state (c.args.flash % 4))
    c.new-text.result.items c.put_two.new.out.items c.put_two-2.new.out.items c.put_two-3.new.out.items c.put_two-4.new.out.items c.new-text.ensures.items
    (rw c.flash_state.ensures at c.in_ok-put_two.ensures)
    (rw c.flash_state-2.ensures at c.in_ok-put_two-2.ensures)
    (rw c.flash_state-3.ensures at c.in_ok-put_two-3.ensures)
    (rw c.flash_state-4.ensures at c.in_ok-put_two-4.ensures)
