use Rattle.json.specs.Print.{escape_byte}
use Rattle.log_lines.proofs.frames.put_plain.Goals as goal

pub returns : goal.returns
unfolding escape_byte
returns c = c.put_each.ensures
