use Rattle.std.proofs.Common.{◌≡◌, length, rules}
use Rattle.log_reports.proofs.FieldSteps.{count_put}
use Rattle.log_reports.proofs.texts.software_identification.Goals as goal

pub returns : goal.returns
returns c =
    let lines = c.in_ok-lines.lines.items in
    let many : c.len.result ≡ length lines = search rules in
    count_put c.args.bytes.now c.in-Some.text.now c.in-Some.announced.now c.len.result c.in_ok-count_line.field-0 lines c.insert.new.self.items
    c.in-Some.ensures.cases.0 c.in_ok-lines.ensures many c.in_ok-count_line.ensures c.in_ok-insert.ensures.items
