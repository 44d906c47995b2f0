use Rattle.std.proofs.Common.{refl}
use Rattle.bus_decode.proofs.Ends.{ends}
use Rattle.bus_decode.proofs.running.run_decode.Goals as goal

pub returns : goal.returns
returns g c =
    let run = c.run_lines-ran.new.obeyer in
    let new = c.new-run.ensures in
    ends _ c.args.options.now _ _ (run.options.now, ((run.listener, run.form), run.counts)) c.run_lines-ran.result _ _ _ _ c.of_log-limits.ensures (rw (new.options, new.listener, new.form, new.counts) refl)
    c.run_lines-ran.ensures.lacking c.run_lines-ran.ensures.in_text c.run_lines-ran.ensures.left c.run_lines-ran.ensures.kept c.end_run.ensures
