use Rattle.std.proofs.Common.{◌∷◌, length, codes}
use Rattle.json.specs.Print.{escape_byte}
use Rattle.serde_json.specs.Data.{string}
use Rattle.text_digits.specs.Digits.{unspaced}
use Rattle.log_lines.specs.Json.{place_object, given_members, measured_members}
use Rattle.log_lines.specs.Objects.{count_of, key_text, member_text}
use Rattle.log_lines.proofs.Appends.{both_put}
use Rattle.log_lines.proofs.objects.put_given.Goals as goal

pub returns : goal.returns
unfolding given_members member_text key_text escape_byte
returns c =
    let course = c.args.course.now in
    both_put c.put_each.result c.args.out.now.items c.put_each.new.out.items (codes "again", count_of course.again) (codes "data", string (unspaced c.args.bytes.now)) (codes "first", place_object course.first)
    c.args.explained.now c.args.detail course.marks
    ((codes "from", count_of c.args.key.now.from.0) ∷ measured_members c.args.now c.args.key.now.iface (codes "given") course (length c.args.bytes.now) c.args.pgn c.args.key.now.to)
    c.put_each.ensures
