use Rattle.std.proofs.Common.{◌≡◌, ◌+◌, ◌<◌, ◌^◌, List, ◌∷◌, ◌++◌, length, true, false, None, Result, Ok, Err, refl, sym, ap, ◌∙◌, subst, []}
use Rattle.std.specs.Prelude.{is_err, OnOk}
use Rattle.segment_law.specs.declared.call.Call.TheVariants.{Take}
use Rattle.segment_law.specs.Segment.{Segment, waiting_at}
use Rattle.segment_state.specs.Passing.{IsPassing as IsPassingOn, PassesBy}
use Rattle.segment_state.specs.declared.passing.Passing.TheVariants.{Passed, Rests}
use Rattle.stored_calls.specs.declared.stored.Stored.{Stored}
use Rattle.live_record.specs.declared.calls.TheConstants.{MOST_CALLS}
use Rattle.live_segment.specs.Facts.{Holds}
use Rattle.live_segment.specs.LiveView.{LiveView, keep, live_view, stored_calls}
use Rattle.live_record.specs.Record.{stored, trail}
use Rattle.live_segment.specs.Passing.{IsPassing}
use Rattle.live_segment.proofs.PassedOn.{holds-passed, passed_as, passes_at}
use Rattle.live_segment.proofs.Viewed.{holds_at, unchanged, viewed, few_kept}
use Rattle.live_segment.proofs.live.Live.pass_by.Goals as goal

ok_unless : {A E : Type 0} (r : Result A E) (P : Type 0) → is_err r ≡ false → OnOk r P → P
ok_unless (Ok x) P e h = h
ok_unless (Err x) P e h = absurd cc

pub invariant_of-self : goal.invariant_of-self
invariant_of-self c = holds_at _ _ _ _ _ _ _ _ _ _ _ _ _ _ _ refl c.reserve.ensures.items c.reserve.ensures.pieces refl refl refl refl c.self.invariant.0 c.self.invariant.1

pub returns-then-is_err : goal.returns-then-is_err
returns-then-is_err c =
    let i = c.self.inside in
    unchanged _ i.stopped i.addresses.items i.calls.pieces c.reserve.new.self.pieces i.calls.items c.reserve.new.self.items i.seats.items i.doors.items i.doors.items c.self.view_is c.reserve.ensures.items c.reserve.ensures.pieces refl

pub invariant_of-self-in-Busy : goal.invariant_of-self-in-Busy
invariant_of-self-in-Busy c =
    let same = subst (IsPassingOn c.self.inside.segment c.args.station c.pass_by.new.self) c.in-Busy.is c.pass_by.ensures.made in
    holds_at _ _ _ _ _ _ _ _ _ _ _ _ _ _ _ same c.reserve.ensures.items c.reserve.ensures.pieces refl refl refl refl c.self.invariant.0 c.self.invariant.1

pub returns-in-Busy : goal.returns-in-Busy
returns-in-Busy c =
    let i = c.self.inside in
    unchanged _ i.stopped i.addresses.items i.calls.pieces c.reserve.new.self.pieces i.calls.items c.reserve.new.self.items i.seats.items i.doors.items i.doors.items c.self.view_is c.reserve.ensures.items c.reserve.ensures.pieces refl

pub invariant_of-self-in-Rests : goal.invariant_of-self-in-Rests
invariant_of-self-in-Rests c =
    let rests = subst (IsPassingOn c.self.inside.segment c.args.station c.pass_by.new.self) c.in-Rests.is c.pass_by.ensures.made in
    holds_at _ _ _ _ _ _ _ _ _ _ _ _ _ _ _ rests.1 c.reserve.ensures.items c.reserve.ensures.pieces refl refl refl refl c.self.invariant.0 c.self.invariant.1

pub returns-in-Rests : goal.returns-in-Rests
returns-in-Rests c =
    let i = c.self.inside in
    let keeps = keep i.stopped i.calls.pieces in
    let here : LiveView = live_view keeps i.addresses.items i.calls.items i.seats.items i.doors.items in
    let rests = subst (IsPassingOn i.segment c.args.station c.pass_by.new.self) c.in-Rests.is c.pass_by.ensures.made in
    viewed (λ (u v : LiveView). IsPassing u c.args.station v Rests) _ i.stopped i.addresses.items i.calls.pieces c.reserve.new.self.pieces i.calls.items i.calls.items c.reserve.new.self.items i.seats.items i.seats.items i.seats.items i.doors.items i.doors.items c.self.view_is c.reserve.ensures.items c.reserve.ensures.pieces refl (
      ap (λ (s : Segment). waiting_at s c.args.station) (sym c.self.invariant.0.at) ∙ rests.0,
      refl,
    )

pub push_reserved-requires-clause-room : goal.push_reserved-requires-clause-room
push_reserved-requires-clause-room c = ok_unless c.reserve.result _ (sym c.is_err.ensures.value ∙ c.if-is_err.false) c.reserve.ensures.room

pub push_reserved-requires-clause-few : goal.push_reserved-requires-clause-few
push_reserved-requires-clause-few c =
    let i = c.self.inside in
    few_kept i.calls.pieces c.reserve.new.self.pieces i.calls.items c.reserve.new.self.items c.reserve.ensures.pieces c.reserve.ensures.items (c.is_full.ensures.few c.if-is_full.false)

pub invariant_of-self-in-Passed : goal.invariant_of-self-in-Passed
invariant_of-self-in-Passed c =
    let i = c.self.inside in
    let p : PassesBy i.segment c.args.station c.pass_by.new.self = subst (IsPassingOn i.segment c.args.station c.pass_by.new.self) c.in-Passed.is c.pass_by.ensures.made in
    let few : length i.calls.items + 1 < 2 ^ 64 = c.reserve.ensures.few (c.is_full.ensures.few c.if-is_full.false) in
    let x : Stored = stored None (Take c.args.station true) in
    let calls : c.push_reserved.new.self.items ≡ i.calls.items ++ x ∷ [] = c.push_reserved.ensures.items ∙ ap (λ (u : List Stored). u ++ x ∷ []) c.reserve.ensures.items in
    holds_at _ _ _ _ _ _ _ _ _ _ _ _ _ _ _ refl calls (c.push_reserved.ensures.pieces ∙ c.reserve.ensures.pieces) refl refl refl refl
    (holds-passed i.addresses.items i.segment c.pass_by.new.self i.calls.items i.owed.items i.seats.items i.doors.items c.args.station c.self.invariant.0 few p) c.self.invariant.1

pub returns-in-Passed : goal.returns-in-Passed
returns-in-Passed c =
    let i = c.self.inside in
    let xs = i.calls.items in
    let keeps = keep i.stopped i.calls.pieces in
    let station = c.args.station in
    let x : Stored = stored None (Take station true) in
    let p : PassesBy i.segment station c.pass_by.new.self = subst (IsPassingOn i.segment station c.pass_by.new.self) c.in-Passed.is c.pass_by.ensures.made in
    let room : stored_calls (live_view keeps i.addresses.items xs i.seats.items i.doors.items) < MOST_CALLS = c.is_full.ensures.few c.if-is_full.false in
    let few : length xs + 1 < 2 ^ 64 = c.reserve.ensures.few room in
    let calls : c.push_reserved.new.self.items ≡ xs ++ x ∷ [] = c.push_reserved.ensures.items ∙ ap (λ (u : List Stored). u ++ x ∷ []) c.reserve.ensures.items in
    let h : Holds i.addresses.items c.pass_by.new.self (xs ++ x ∷ []) i.owed.items i.seats.items i.doors.items = holds-passed i.addresses.items i.segment c.pass_by.new.self xs i.owed.items i.seats.items i.doors.items station c.self.invariant.0 few p in
    viewed (λ (u v : LiveView). IsPassing u station v Passed) _ i.stopped i.addresses.items i.calls.pieces c.push_reserved.new.self.pieces xs (xs ++ x ∷ []) c.push_reserved.new.self.items i.seats.items i.seats.items i.seats.items i.doors.items i.doors.items c.self.view_is calls (c.push_reserved.ensures.pieces ∙ c.reserve.ensures.pieces) refl (
      room,
      passed_as keeps i.addresses.items i.segment c.pass_by.new.self xs i.seats.items i.doors.items station c.self.invariant.0.at p,
      passes_at i.segment c.pass_by.new.self (trail i.addresses.items xs).state (trail i.addresses.items (xs ++ x ∷ [])).state station c.self.invariant.0.at h.at p,
    )
