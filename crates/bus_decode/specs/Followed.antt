-- The courses of the messages under way, and the counts of those that were reported.
use Rattle.std.specs.Prelude.{List, [], ◌∷◌, if◌then◌else◌}
use Rattle.bus_frame.specs.Frames.{CanFrame}
use Rattle.log_fields.specs.declared.iface.Iface.{Iface}
use Rattle.log_courses.specs.Courses.{course_of, without_told, followed}
use Rattle.log_courses.specs.declared.course.Course.{Course}
use Rattle.log_reports.specs.declared.marks.Place.{Place}
use Rattle.log_reports.specs.declared.told.Told.{Told}
use Rattle.log_courses.specs.Rows.{Summary, no_summary, with_frame, with_message}
use Rattle.bus_decode.specs.Options.{sums_up, follows, detail_of}
use Rattle.bus_decode.specs.declared.followed.Followed.{Followed}
use Rattle.bus_decode.specs.declared.options.Options.{Options}

abbrev pub none_followed : Followed
none_followed = record { courses = []; summary = no_summary }

-- a message is reported, with its course
abbrev pub summed : Options → Course → Told → Summary → Summary
summed options c t s = if sums_up options t then with_message c t s else s

-- the courses of the others then
abbrev pub after_told : Options → Place → Told → Followed → Followed
after_told options place t f = record { courses = without_told t f.courses; summary = summed options (course_of (detail_of options) place t f.courses) t f.summary }

abbrev pub after_each : Options → Place → List Told → Followed → Followed
after_each options place [] f = f
after_each options place (t ∷ ts) f = after_each options place ts (after_told options place t f)

-- the reports at the end of the log, if courses are followed
unfoldable pub left_followed : Options → Place → List Told → Followed → Followed
left_followed options place told f = if follows options then after_each options place told f else f

-- a frame is seen, of a message or of none
abbrev pub frame_summed : Options → Iface → Summary → Summary
frame_summed options iface s = if options.summary then with_frame iface s else s

-- a frame is seen that has these reports, whose courses were taken out
abbrev pub with_frame_of : Options → Iface → CanFrame → Place → List Told → Followed → Followed
with_frame_of options iface frame place told f = record { courses = followed (detail_of options) iface frame place told f.courses; summary = frame_summed options iface f.summary }

-- the courses of the reports are taken out, and the frame is seen, if courses are followed
unfoldable pub heard_followed : Options → Iface → CanFrame → Place → List Told → Followed → Followed
heard_followed options iface frame place told f = if follows options then with_frame_of options iface frame place told (after_each options place told f) else f
