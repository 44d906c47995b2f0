use Rattle.reply_law.proofs.Following.{follows}
use Rattle.reply_law.proofs.laws.every_call_is_followed.Goals as goal

pub returns : goal.returns
returns c = follows
