use Rattle.std.proofs.Common.{codes}
use Rattle.json.specs.Print.{escape_byte}
use Rattle.serde_json.specs.Data.{string}
use Rattle.text_digits.specs.Digits.{unspaced}
use Rattle.log_lines.specs.Json.{frame_rest}
use Rattle.log_lines.specs.Objects.{key_text, member_text}
use Rattle.log_lines.proofs.Appends.{lines_put}
use Rattle.log_lines.proofs.objects.put_frame.Goals as goal

pub returns : goal.returns
unfolding member_text key_text escape_byte
returns c =
    lines_put c.put_each.result c.args.out.now.items c.put_each.new.out.items (codes "data", string (unspaced c.args.bytes.now)) c.args.explained.now
    (frame_rest c.args.now c.args.iface c.args.from c.args.to c.args.pgn c.args.bytes.now)
    c.put_each.ensures
