use Rattle.std.proofs.Common.{◌≡◌, ◌-◌, take, drop, length, length-drop, arith, rules}
use Rattle.std.proofs.lemmas.List.{take_all}
use Rattle.text_lines.proofs.Known.{appends_part, appends_keeps}
use Rattle.text_lines.proofs.writing.put_all.Goals as goal
use Rattle.text_lines.proofs.writing.put_all.Goals.{in-Ok, in-Err+else-ne}

pub loop-preserved : goal.loop-preserved
loop-preserved g c =
    let rest : take (length c.args.bytes.now - c.loop.put) (drop c.loop.put c.args.bytes.now) ≡ drop c.loop.put c.args.bytes.now =
    take_all _ _ (simp length-drop (omega arith)) in
    elim c.match-write.branch [
      | in-Ok w ↦ rw w.put-is record {
        within = search rules;
        put = appends_part _ _ _ c.loop.put _ c.args.bytes.now c.loop.invariant.put (rw rest at w.in-Ok.ensures.bytes);
      }
      | in-Err+else-ne w ↦ rw w.put-is record {
        within = c.loop.invariant.within;
        put = appends_keeps _ _ _ _ c.loop.invariant.put w.in-Err.ensures.bytes;
      }
    ]
