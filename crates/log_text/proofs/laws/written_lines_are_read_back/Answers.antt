use Rattle.log_text.proofs.Written.{line_back}
use Rattle.log_text.proofs.laws.written_lines_are_read_back.Goals as goal

pub returns : goal.returns
returns c = line_back
