use Rattle.std.proofs.Common.{◌<◌, length, arith, ap, ◌∙◌, ◌++◌, rules}
use Rattle.script_commands.specs.Words.{texts}
use Rattle.script_commands.proofs.WordSteps.{at_space, at_other}
use Rattle.script_commands.proofs.words.split_words.Goals as goal
use Rattle.script_commands.proofs.words.split_words.Goals.{then-byte-eq32+in_ok-push_word, else-byte-eq32}

pub loop-at-preserved : goal.loop-at-preserved
loop-at-preserved c =
    let h : c.loop-at.at < length c.args.line.now = omega arith in
    elim c.if-byte-eq32.branch [
      | then-byte-eq32+in_ok-push_word w ↦ rw (w.words-is, w.start-is) record {
        within = omega arith;
        words = at_space _ _ c.args.line.now c.loop-at.start c.loop-at.at w.in_ok-push_word.ensures h (search rules) ∙ c.loop-at.invariant.words;
      }
      | else-byte-eq32 w ↦ rw (w.words-is, w.start-is) record {
        within = omega arith;
        words = ap (λ ws. texts c.loop-at.words.items ++ ws) (at_other c.args.line.now c.loop-at.start c.loop-at.at c.loop-at.invariant.within h (search rules)) ∙ c.loop-at.invariant.words;
      }
    ]
