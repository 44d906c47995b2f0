-- The first of the stations take the newest frame together: as many Takes in a turn.
use Rattle.std.proofs.Common.{◌≡◌, ℕ, zero, suc, ◌+◌, ◌<◌, ◌≤◌, true, List, [], ◌∷◌, ◌++◌, length, set, drop, get_or, Option, Some, None, Ok, refl, sym, ap, ◌∙◌, subst, arith, append-nil, append_assoc}
use Rattle.std.specs.Prelude.{slice_get}
use Rattle.std.proofs.lemmas.List.{get_or-map}
use Rattle.std.proofs.lemmas.Option.{get_or_from_slice_get, slice_get_within}
use Rattle.bus_frame.specs.Frames.{CanFrame}
use Rattle.pgn_ids.specs.declared.address.Address.{Address}
use Rattle.bus_order.specs.Bus.{bus_len, frame_at, next_frame, waiting, released, taken as moved}
use Rattle.bus_order.specs.Abreast.{are_abreast, passed_first}
use Rattle.bus_order.proofs.Abreast.{passed_cursors, passed_newest, passed_waits, passed_sound}
use Rattle.message_events.specs.declared.event.Event.{Event}
use Rattle.station_core.specs.Station.{Station}
use Rattle.segment_law.specs.Segment.{Segment, place_of, waiting_at, counted, counted_look}
use Rattle.segment_law.specs.Calls.{at_address, takes}
use Rattle.segment_law.specs.Drive.{Driven, takes_all, turn}
use Rattle.segment_law.specs.declared.reply.Reply.TheVariants.{Done}
use Rattle.segment_law.specs.declared.counts.Counts.{Counts}
use Rattle.drive_course.specs.Joined.{joined}
use Rattle.drive_course.specs.Taken.{Takes, FirstTake}
use Rattle.drive_course.specs.declared.course.Course.{Course}
use Rattle.drive_course.proofs.Joining.{joined_push}
use Rattle.drive_course.proofs.Taken.{counted_more, first_length}
use Rattle.segment_state.specs.Abreast.{FirstPass}
use Rattle.segment_state.specs.Followed.{IsFollowed, addresses_of}
use Rattle.segment_state.proofs.Kept.{said, takes_is}
use Rattle.segment_state.proofs.Stations.{StandInPlace, at_is}
use Rattle.segment_state.proofs.Together.{first_in_place}
use Rattle.segment_core.specs.Drives.{IsShown, HasTaken}
use Rattle.segment_core.proofs.Steps.{takes_made, has_taken}
use Rattle.segment_core.proofs.Sweeps.{Stands, Sweeping, Taking, each_takes}
use Rattle.segment_core.proofs.Turns.{sweeping_goes, taking_goes, taking_ends}

pub record Here (before : Segment) (n : ℕ) (frame : CanFrame) (others : List Station) : Type 0 where
  pub abreast : are_abreast before.bus ≡ true
  pub followed : IsFollowed before
  pub few : n < length before.stations
  pub newest : next_frame (passed_first n before.bus) n ≡ Some frame
  pub many : length others ≡ length before.stations

abbrev pub then_at : Segment → ℕ → List Station → List Event → Segment
then_at before n stations told = record before { stations = stations; bus = passed_first n before.bus; counts = counted before.counts told }

module _ (before : Segment) (n : ℕ) (frame : CanFrame) (others : List Station) (earlier : List Event) (station next : Station) (own : List Event) (h : Here before n frame others) (in_place : StandInPlace others) (here : slice_get others n ≡ Some station) (t : Takes station frame before.now next own) where
  abbrev pub seg : Segment
  seg = then_at before n others earlier

  abbrev pub left : Segment
  left = then_at before (suc n) (set others n next) (earlier ++ own)

  stands : place_of seg station.address ≡ Some n
  stands = in_place n station here

  follows : IsFollowed seg
  follows = record {
    sound = passed_sound n before.bus h.followed.sound h.abreast (omega (arith, h.few, h.followed.cursors));
    cursors = passed_cursors n before.bus ∙ h.followed.cursors ∙ sym h.many;
  }

  one : waiting_at seg station.address ≡ 1
  one =
      ap (λ (o : Option ℕ). elim o as (λ (_ : Option ℕ). ℕ) [ None ↦ 0 | Some i ↦ waiting seg.bus i ]) stands
      ∙ passed_waits n before.bus h.followed.sound h.abreast (omega (arith, h.few, h.followed.cursors))

  abbrev left_with : Counts → Segment
  left_with counts = record { now = before.now; stations = set others n next; bus = released (moved (passed_first n before.bus) n); counts = counts }

  takes_it : at_address seg station.address (takes seg true) ≡ Ok (left, Done own)
  takes_it =
      at_is seg station.address n station (takes seg true) stands here
      ∙ takes_is seg true n station frame (record { station = next; events = own }) (sym h.newest) t.free t.step
      ∙ (λ k. said (left_with (counted (counted_look (counted before.counts earlier) (t.well_formed k)) own)) (Done own))
      ∙ (λ k. said (left_with (counted_more before.counts earlier own k)) (Done own))

  has : HasTaken station.address seg left
  has = has_taken seg left station.address (Done own) follows takes_it

  all_taken : (put : List CanFrame) (parts noted : List (List Event)) → joined noted ≡ joined parts ++ own → (start : Segment) (d : Driven) → IsShown None start d seg put (joined parts) → IsShown None start (takes_all station.address d) left put (joined noted)
  all_taken put parts noted tells =
      let a : Address = station.address in
      let begun : Taking a seg put parts 1 0 seg put parts = record {
        waits = omega (arith, one);
        followed = follows;
        addresses = refl;
        steps = λ start d s. record { at = d; shown = s; on = refl };
      } in
      let gone : Taking a seg put parts 1 1 left put noted = taking_goes a seg put parts 1 0 seg left put put parts noted begun has
      (λ start d s. takes_made start d seg left put (joined parts) (joined noted) a (Done own) s takes_it tells) in
      taking_ends a seg put parts 1 1 left put noted gone (omega arith)

  pub one_swept : (from to : Address) (was : Segment) (put_then : List CanFrame) (told_then : List (List Event)) (count : ℕ) (put : List CanFrame) (parts noted : List (List Event)) → length before.stations ≡ count → joined noted ≡ joined parts ++ own → Sweeping from to was put_then told_then count n seg put parts → Sweeping from to was put_then told_then count (n + 1) left put noted
  one_swept from to was put_then told_then count put parts noted many tells w =
      let address : Station → Address = λ s. s.address in
      let there : n < length others = slice_get_within others n station here in
      let at : station.address ≡ get_or (addresses_of seg) n station.address =
      sym (get_or-map address others n station station.address there ∙ ap address (get_or_from_slice_get others n station station here)) in
      sweeping_goes from to was put_then told_then count n seg left put put parts noted station.address w (omega (arith, h.few)) at has.addresses (all_taken put parts noted tells)

-- As many as they are

-- a sweep that tells the same
told_alike : (from to : Address) (was : Segment) (put_then : List CanFrame) (told_then : List (List Event)) (count place : ℕ) (seg : Segment) (put : List CanFrame) (parts noted : List (List Event)) → joined noted ≡ joined parts → Sweeping from to was put_then told_then count place seg put parts → Sweeping from to was put_then told_then count place seg put noted
told_alike from to was put_then told_then count place seg put parts noted e w = record {
  stations = w.stations;
  steps = λ start d h. subst (λ (told : List Event). Stands start (each_takes (drop place (addresses_of seg))) (turn from to d) seg put told) (sym e) (w.steps start d h);
}

swept_steps : (n : ℕ) (before : Segment) (frame : CanFrame) (stations : List Station) (told : List Event) → FirstTake n frame before.now before.stations stations told → n ≤ length before.stations → are_abreast before.bus ≡ true → IsFollowed before → StandInPlace before.stations → frame_at before.bus (bus_len before.bus) ≡ Some frame
    → (from to : Address) (was : Segment) (put_then : List CanFrame) (told_then : List (List Event)) (count : ℕ) (put : List CanFrame) (parts noted : List (List Event)) → length before.stations ≡ count → joined noted ≡ joined parts ++ told → Sweeping from to was put_then told_then count 0 before put parts
    → Sweeping from to was put_then told_then count n (then_at before n stations told) put noted
swept_steps zero before frame stations told e le abreast followed in_place newest from to was put_then told_then count put parts noted many tells w =
    let nothing : joined noted ≡ joined parts = tells ∙ ap (λ (es : List Event). joined parts ++ es) e.1 ∙ append-nil (joined parts) in
    let same : Sweeping from to was put_then told_then count 0 (then_at before 0 before.stations []) put noted = told_alike from to was put_then told_then count 0 before put parts noted nothing w in
    subst (λ (xs : List Station). Sweeping from to was put_then told_then count 0 (then_at before 0 xs told) put noted) (sym e.0)
    (subst (λ (es : List Event). Sweeping from to was put_then told_then count 0 (then_at before 0 before.stations es) put noted) (sym e.1) same)
swept_steps (suc n) before frame stations told m le abreast followed in_place newest from to was put_then told_then count put parts noted many tells w =
    let between : List (List Event) = parts ++ m.earlier ∷ [] in
    let so_far : Sweeping from to was put_then told_then count n (then_at before n m.others m.earlier) put between =
    swept_steps n before frame m.others m.earlier m.before (omega arith) abreast followed in_place newest from to was put_then told_then count put parts between many (joined_push parts m.earlier) w in
    let within : n < length before.bus.cursors = omega (arith, followed.cursors) in
    let h : Here before n frame m.others = record {
      abreast = abreast;
      followed = followed;
      few = le;
      newest = passed_newest n before.bus followed.sound abreast within ∙ newest;
      many = first_length n frame before.now before.stations m.others m.earlier m.before;
    } in
    let on : n + 1 ≡ suc n = omega arith in
    let own : joined noted ≡ joined between ++ m.own =
    tells
    ∙ ap (λ (es : List Event). joined parts ++ es) m.says
    ∙ sym (append_assoc (joined parts) m.earlier m.own)
    ∙ ap (λ (es : List Event). es ++ m.own) (sym (joined_push parts m.earlier)) in
    let next : Sweeping from to was put_then told_then count (n + 1) (then_at before (suc n) (set m.others n m.after) (m.earlier ++ m.own)) put noted =
    one_swept before n frame m.others m.earlier m.station m.after m.own h (first_in_place n frame before.now before.stations m.others m.earlier m.before in_place) m.here m.takes from to was put_then told_then count put between noted many own so_far in
    subst (λ (xs : List Station). Sweeping from to was put_then told_then count (suc n) (then_at before (suc n) xs told) put noted) (sym m.left)
    (subst (λ (es : List Event). Sweeping from to was put_then told_then count (suc n) (then_at before (suc n) (set m.others n m.after) es) put noted) (sym m.says)
    (subst (λ (k : ℕ). Sweeping from to was put_then told_then count k (then_at before (suc n) (set m.others n m.after) (m.earlier ++ m.own)) put noted) on next))

-- a turn whose first stations took the newest frame together
pub swept : (n : ℕ) (before after : Segment) (shown course : Course) → FirstPass n before after shown course
    → (from to : Address) (was : Segment) (put_then : List CanFrame) (told_then : List (List Event)) (count : ℕ) → Sweeping from to was put_then told_then count 0 before shown.frames.items shown.parts.items → Sweeping from to was put_then told_then count n after course.frames.items course.parts.items
swept zero before after shown course h from to was put_then told_then count w =
    let nothing : joined course.parts.items ≡ joined shown.parts.items = h.1.1 ∙ append-nil (joined shown.parts.items) in
    subst (λ (s : Segment). Sweeping from to was put_then told_then count 0 s course.frames.items course.parts.items) (sym h.0)
    (subst (λ (put : List CanFrame). Sweeping from to was put_then told_then count 0 before put course.parts.items) (sym h.1.0)
    (told_alike from to was put_then told_then count 0 before shown.frames.items shown.parts.items course.parts.items nothing w))
swept (suc n) before after shown course h from to was put_then told_then count w =
    subst (λ (s : Segment). Sweeping from to was put_then told_then count (suc n) s course.frames.items course.parts.items) (sym h.left)
    (subst (λ (put : List CanFrame). Sweeping from to was put_then told_then count (suc n) (then_at before (suc n) after.stations h.told) put course.parts.items) (sym h.notes.0)
    (swept_steps (suc n) before h.frame after.stations h.told h.steps h.few h.abreast h.followed h.in_place h.newest from to was put_then told_then count shown.frames.items shown.parts.items course.parts.items w.stations h.notes.1 w))

pub pass_length : (n : ℕ) (before after : Segment) (shown course : Course) → FirstPass n before after shown course → length after.stations ≡ length before.stations
pass_length zero before after shown course h = ap (λ (s : Segment). length s.stations) h.0
pass_length (suc n) before after shown course h = first_length (suc n) h.frame before.now before.stations after.stations h.told h.steps
