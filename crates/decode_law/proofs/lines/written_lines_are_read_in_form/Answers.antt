use Rattle.decode_law.proofs.InForm.{has_form, read_in_form}
use Rattle.decode_law.proofs.lines.written_lines_are_read_in_form.Goals as goal

pub returns-clause-form : goal.returns-clause-form
returns-clause-form c = has_form

pub returns-clause-read : goal.returns-clause-read
returns-clause-read c = read_in_form c.written_lines_are_read_back.ensures
