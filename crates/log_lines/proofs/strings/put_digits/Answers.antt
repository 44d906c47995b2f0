use Rattle.log_lines.proofs.Digits.{digits_put}
use Rattle.log_lines.proofs.strings.put_digits.Goals as goal

pub returns : goal.returns
returns c = digits_put c.args.bytes.now c.args.out.now.items c.push.new.self.items c.put_bytes.new.out.items c.push-2.new.self.items c.in_ok-push.ensures.items c.in_ok-put_bytes.ensures c.in_ok-push-2.ensures.items
