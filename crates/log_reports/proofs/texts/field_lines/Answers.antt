use Rattle.std.proofs.Common.{◌<◌, ◌+◌, length, arith, ap, ◌∙◌, ◌++◌, rules}
use Rattle.log_reports.specs.Texts.{field_lines}
use Rattle.log_reports.proofs.FieldSteps.{at_end, at_other}
use Rattle.log_reports.proofs.texts.field_lines.Goals as goal
use Rattle.log_reports.proofs.texts.field_lines.Goals.{then-byte-eq42+in_ok-field_line+in_ok-push, else-byte-eq42}

pub loop-at-preserved : goal.loop-at-preserved
loop-at-preserved c =
    let h : c.loop-at.at < length c.args.text.now = omega arith in
    elim c.if-byte-eq42.branch [
      | then-byte-eq42+in_ok-field_line+in_ok-push w ↦ rw (w.lines-is, w.start-is, w.before-is) record {
        few = omega arith;
        within = omega arith;
        lines = at_end _ c.loop-at.before c.args.text.now c.loop-at.start c.loop-at.at _ _ _ _ h (search rules) w.in_ok-field_line.ensures w.in_ok-push.ensures.items c.loop-at.invariant.lines;
      }
      | else-byte-eq42 w ↦ rw (w.lines-is, w.start-is, w.before-is) record {
        few = c.loop-at.invariant.few;
        within = omega arith;
        lines = ap (λ fs. c.loop-at.lines.items ++ field_lines c.args.kind (c.loop-at.before + 1) fs) (at_other c.args.text.now c.loop-at.start c.loop-at.at c.loop-at.invariant.within h (search rules)) ∙ c.loop-at.invariant.lines;
      }
    ]
