-- Texts of the members of an object. Each begins with what stands before its value.
use Rattle.std.specs.Prelude.{ℕ, List, ◌++◌, length, codes}
use Rattle.std.specs.Fmt.{decimal}
use Rattle.json.specs.Print.{quoted}
use Rattle.log_lines.specs.Counts.{counts_object}
use Rattle.log_lines.specs.Json.{place_object}
use Rattle.log_lines.specs.Meanings.{explained_text}
use Rattle.log_lines.specs.Frames.{frames_text}
use Rattle.log_lines.specs.declared.members.Member.{Member}
use Rattle.log_lines.specs.declared.members.Member.TheVariants as members
use Rattle.log_fields.specs.Iface.{name_of}
use Rattle.log_reports.specs.Causes.{cause_words}
use Rattle.log_courses.specs.Rows.{mean_of, share_of}
use Rattle.serde_json.specs.Written.{compact_text}
use Rattle.text_digits.specs.Digits.{unspaced}

abbrev pub text_of : Member → List ℕ
text_of (members.Text text) = text.now
text_of (members.Number start n) = start.now ++ decimal n
text_of (members.Data start bytes) = start.now ++ quoted (unspaced bytes.now)
text_of (members.Length bytes) = codes ",\"length\":" ++ decimal (length bytes.now)
text_of (members.Place start place) = start.now ++ compact_text (place_object place)
text_of (members.Address start a) = start.now ++ decimal a.0
text_of (members.Pgn pgn) = codes ",\"pgn\":" ++ decimal pgn
text_of (members.Interface iface) = codes ",\"interface\":" ++ quoted (name_of iface)
text_of (members.Cause cause) = codes ",\"cause\":" ++ quoted (cause_words cause)
text_of (members.Explained lines) = explained_text lines.now
text_of (members.Frames detail marks) = frames_text detail marks.now
text_of (members.Counts start counts) = start.now ++ compact_text (counts_object counts.now)
text_of (members.Mean row) = codes ",\"mean\":" ++ decimal (mean_of row.now)
text_of (members.Share row all) = codes ",\"share\":" ++ decimal (share_of row.now.frames all)
