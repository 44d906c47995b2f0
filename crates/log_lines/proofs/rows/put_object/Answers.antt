use Rattle.std.proofs.Common.{codes}
use Rattle.json.specs.Print.{escape_byte}
use Rattle.log_lines.specs.Counts.{counts_object}
use Rattle.log_lines.specs.Objects.{key_text, member_text}
use Rattle.log_lines.specs.Rows.{later_members}
use Rattle.log_lines.proofs.Appends.{line_put}
use Rattle.log_lines.proofs.rows.put_object.Goals as goal

pub returns : goal.returns
unfolding member_text key_text escape_byte
returns c =
    line_put c.put_each.result c.args.out.now.items c.put_each.new.out.items (codes "aborts", counts_object c.args.aborts.now) (later_members c.args.row.now c.args.lost.now c.args.all)
    c.put_each.ensures
