use Rattle.std.proofs.Common.{◌∷◌, [], codes}
use Rattle.json.specs.Print.{escape_byte}
use Rattle.serde_json.specs.Data.{string}
use Rattle.log_lines.specs.Json.{wrong_object}
use Rattle.log_lines.specs.Objects.{count_of, key_text, member_text}
use Rattle.log_lines.proofs.Appends.{line_put}
use Rattle.log_lines.proofs.objects.put_wrong_object.Goals as goal

pub returns : goal.returns
unfolding wrong_object member_text key_text escape_byte
returns c =
    line_put c.put_each.result c.args.out.now.items c.put_each.new.out.items (codes "kind", string (codes "wrong line")) ((codes "line", count_of c.args.number) ∷ [])
    c.put_each.ensures
