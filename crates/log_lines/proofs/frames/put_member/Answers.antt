use Rattle.log_lines.proofs.Joined.{frames_put}
use Rattle.log_lines.proofs.frames.put_member.Goals as goal

pub returns : goal.returns
returns c = frames_put c.put_list.result c.args.out.now.items c.put_list.new.out.items c.args.marks.now c.put_list.ensures
