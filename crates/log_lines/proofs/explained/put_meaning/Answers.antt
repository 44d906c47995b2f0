use Rattle.std.proofs.Common.{◌≡◌, ◌==◌, length, false, rules}
use Rattle.log_lines.proofs.Joined.{explained_put}
use Rattle.log_lines.proofs.explained.put_meaning.Goals as goal

pub returns : goal.returns
returns c =
    let some : (length c.args.lines.now == 0) ≡ false = search rules in
    explained_put c.put_list.result c.args.out.now.items c.put_list.new.out.items c.args.lines.now some c.put_list.ensures
