use Rattle.std.proofs.Common.{◌∷◌, codes}
use Rattle.json.specs.Print.{escape_byte}
use Rattle.log_lines.specs.Json.{place_object, aborted_members, abort_members}
use Rattle.log_lines.specs.Objects.{count_of, key_text, member_text}
use Rattle.log_lines.proofs.Appends.{marks_put}
use Rattle.log_lines.proofs.objects.put_aborted.Goals as goal

pub returns : goal.returns
unfolding aborted_members member_text key_text escape_byte
returns c =
    let course = c.args.course.now in
    marks_put c.put_each.result c.args.out.now.items c.put_each.new.out.items (codes "again", count_of course.again) (codes "by", count_of c.args.who.0) (codes "first", place_object course.first)
    c.args.detail course.marks
    ((codes "from", count_of c.args.key.now.from.0) ∷ abort_members c.args.now course c.args.key.now c.args.pgn c.args.reason)
    c.put_each.ensures
