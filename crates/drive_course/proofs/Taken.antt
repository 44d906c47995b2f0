-- One station more that takes a frame, and what is noted and counted then.
use Rattle.std.proofs.Common.{◌≡◌, ℕ, zero, suc, ◌+◌, ◌<◌, List, [], ◌∷◌, ◌++◌, length, set, get_or, refl, sym, ap, ◌∙◌, subst, arith, append-nil, append_assoc, length-set}
use Rattle.std.proofs.lemmas.Option.{slice_get_read}
use Rattle.bus_frame.specs.Frames.{CanFrame}
use Rattle.message_events.specs.declared.event.Event.{Event}
use Rattle.station_core.specs.Station.{Station}
use Rattle.segment_law.specs.Segment.{counted, counted_event}
use Rattle.segment_law.specs.declared.counts.Counts.{Counts}
use Rattle.drive_course.specs.Taken.{Takes, Notes, FirstTake, FirstTell}
use Rattle.drive_course.specs.declared.course.Course.{Course}
use Rattle.drive_course.specs.Joined.{joined}

pub first_length : (n : ℕ) (frame : CanFrame) (now : ℕ) (before after : List Station) (told : List Event) → FirstTake n frame now before after told → length after ≡ length before
first_length zero frame now before after told e = ap (λ (xs : List Station). length xs) e.0
first_length (suc n) frame now before after told m = ap (λ (xs : List Station). length xs) m.left ∙ length-set m.others n m.after ∙ first_length n frame now before m.others m.earlier m.before

pub first_more : (n : ℕ) (frame : CanFrame) (now : ℕ) (before others : List Station) (earlier : List Event) (station after : Station) (own : List Event) → FirstTake n frame now before others earlier → n < length before → station ≡ get_or others n station → Takes station frame now after own
    → FirstTake (n + 1) frame now before (set others n after) (earlier ++ own)
first_more n frame now before others earlier station after own steps within here takes =
    let many : length others ≡ length before = first_length n frame now before others earlier steps in
    let on : suc n ≡ n + 1 = omega arith in
    subst (λ (k : ℕ). FirstTake k frame now before (set others n after) (earlier ++ own)) on (record {
      others = others;
      earlier = earlier;
      before = steps;
      station = station;
      after = after;
      own = own;
      here = slice_get_read others (length others) n station refl (omega arith) here;
      takes = takes;
      left = refl;
      says = refl;
    })

-- what is noted and counted, once more
pub notes_more : (was course next : Course) (earlier own : List Event) → Notes was course earlier → Notes course next own → Notes was next (earlier ++ own)
notes_more was course next earlier own n m =
    (m.0 ∙ n.0, m.1 ∙ ap (λ (es : List Event). es ++ own) n.1 ∙ append_assoc (joined was.parts.items) earlier own)

pub counted_more : (counts : Counts) (earlier own : List Event) → counted (counted counts earlier) own ≡ counted counts (earlier ++ own)
counted_more counts [] own = refl
counted_more counts (e ∷ earlier) own = counted_more (counted_event counts e) earlier own

pub first_tell_more : (n : ℕ) (frame : CanFrame) (now : ℕ) (before others : List Station) (was course next : Course) (counts sum left : Counts) (station after : Station) (own : List Event) → FirstTell n frame now before others was course counts sum → n < length before → station ≡ get_or others n station → Takes station frame now after own
    → Notes course next own → left ≡ counted sum own → FirstTell (n + 1) frame now before (set others n after) was next counts left
first_tell_more n frame now before others was course next counts sum left station after own f within here takes notes sums = record {
  told = f.told ++ own;
  steps = first_more n frame now before others f.told station after own f.steps within here takes;
  notes = notes_more was course next f.told own f.notes notes;
  sums = sums ∙ ap (λ (c : Counts). counted c own) f.sums ∙ counted_more counts f.told own;
}

-- nothing that is told
pub nothing_noted : (course : Course) (told : List Event) → told ≡ [] → Notes course course told
nothing_noted course told none = subst (λ (es : List Event). Notes course course es) (sym none) (refl, sym (append-nil (joined course.parts.items)))

pub nothing_counted : (counts : Counts) (told : List Event) → told ≡ [] → counts ≡ counted counts told
nothing_counted counts told none = ap (λ (es : List Event). counted counts es) (sym none)
