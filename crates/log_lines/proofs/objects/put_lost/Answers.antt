use Rattle.std.proofs.Common.{◌∷◌, codes}
use Rattle.json.specs.Print.{escape_byte}
use Rattle.serde_json.specs.Data.{string}
use Rattle.log_reports.specs.Causes.{cause_words}
use Rattle.log_lines.specs.Json.{place_object, lost_members, measured_members}
use Rattle.log_lines.specs.Objects.{count_of, key_text, member_text}
use Rattle.log_lines.proofs.Appends.{marks_put}
use Rattle.log_lines.proofs.objects.put_lost.Goals as goal

pub returns : goal.returns
unfolding lost_members member_text key_text escape_byte
returns c =
    let course = c.args.course.now in
    marks_put c.put_each.result c.args.out.now.items c.put_each.new.out.items (codes "again", count_of course.again) (codes "cause", string (cause_words c.args.cause)) (codes "first", place_object course.first)
    c.args.detail course.marks
    ((codes "from", count_of c.args.key.now.from.0) ∷ (codes "have", count_of c.args.have)
    ∷ measured_members c.args.now c.args.key.now.iface (codes "lost") course c.args.size c.args.pgn c.args.key.now.to)
    c.put_each.ensures
