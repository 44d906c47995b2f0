use Rattle.log_lines.proofs.Joined.{counts_put}
use Rattle.log_lines.proofs.counts.put_counts.Goals as goal

pub returns : goal.returns
returns c = counts_put c.put_list.result c.args.out.now.items c.put_list.new.out.items c.args.counts.now c.put_list.ensures
