-- A course at its place in the map is that at its key.
use Rattle.std.proofs.Common.{◌≡◌, ℕ, Option, Some, None, sym, ◌∙◌, ap, position, slice_get}
use Rattle.std.specs.Map.{keys_of, values_of}
use Rattle.indexmap.specs.Layout.{set_value_at}
use Rattle.indexmap.proofs.MapLemmas.{Found-position, Missing-position, insert_entry-first}
use Rattle.log_reports.specs.Keys.{same_key}
use Rattle.log_reports.specs.declared.key.Key.{Key}
use Rattle.log_courses.specs.Courses.{Courses, course_at, put, changed_at}
use Rattle.log_courses.specs.declared.course.Course.{Course}

there : (key : Key) (es : Courses) (at : ℕ) (c : Course) → position (same_key key) (keys_of es) ≡ Some at → slice_get (values_of es) at ≡ Some c → course_at key es ≡ Some c
there key es at c p g = (Found-position (same_key key) es at p).value ∙ g

put_at : (key : Key) (at : ℕ) (es : Courses) (c : Course) → position (same_key key) (keys_of es) ≡ Some at → set_value_at es at c ≡ put key c es
put_at key at es c p = sym (insert_entry-first same_key key c es at (Found-position (same_key key) es at p).first)

abbrev by_course : (Course → Course) → Key → Courses → Option Course → Courses
by_course f key es o = elim o [ None ↦ es | Some c ↦ put key (f c) es ]

-- what is written at its place is put at the key
pub changed_there : (f : Course → Course) (key : Key) (at : ℕ) (es : Courses) (c d : Course) → position (same_key key) (keys_of es) ≡ Some at → slice_get (values_of es) at ≡ Some c → d ≡ f c → set_value_at es at d ≡ changed_at f key es
changed_there f key at es c d p g e = put_at key at es d p ∙ ap (λ x. put key x es) e ∙ sym (ap (by_course f key es) (there key es at c p g))

-- where there is none, nothing changes
pub changed_nowhere : (f : Course → Course) (key : Key) (es : Courses) → position (same_key key) (keys_of es) ≡ None → es ≡ changed_at f key es
changed_nowhere f key es p = sym (ap (by_course f key es) (Missing-position (same_key key) es p).value)
