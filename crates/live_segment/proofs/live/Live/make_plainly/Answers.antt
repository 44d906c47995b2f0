use Rattle.std.proofs.Common.{◌≡◌, ◌+◌, ◌<◌, ◌^◌, Bool, List, ◌∷◌, ◌++◌, length, true, false, None, Result, Ok, Err, refl, sym, ap, ◌∙◌, subst, []}
use Rattle.std.specs.Prelude.{is_err, OnOk}
use Rattle.std.specs.Bool.{OnTrue, OnFalse}
use Rattle.std.proofs.lemmas.Bool.{false≢true}
use Rattle.segment_law.specs.declared.call.Call.{Call}
use Rattle.segment_law.specs.declared.reply.Reply.TheVariants.{Done}
use Rattle.segment_law.specs.Record.{StandsAt}
use Rattle.live_record.specs.Replies.{reply_of, left_by, Follows}
use Rattle.segment_rings.specs.Views.{SeatView}
use Rattle.stored_calls.specs.declared.stored.Stored.{Stored}
use Rattle.live_record.specs.declared.owed.Owed.{Owed}
use Rattle.live_record.specs.declared.calls.TheConstants.{MOST_CALLS}
use Rattle.live_calls.specs.Words.{call_of, wanted_by}
use Rattle.live_record.specs.Record.{settle_notes, settle_owed, trail, stored}
use Rattle.live_ends.specs.Ends.{IdsFrom, HaveRoom, OwedWithin, note_all}
use Rattle.live_calls.specs.Places.{IsFound}
use Rattle.live_segment.specs.LiveView.{LiveView, keep, live_view, stored_calls}
use Rattle.live_segment.specs.Passing.{IsMadePlainly}
use Rattle.live_segment.proofs.Applying.{applied_as, told_as, given_as}
use Rattle.live_segment.proofs.Ready.{found_ready}
use Rattle.live_calls.proofs.Nothing.{found_nothing}
use Rattle.live_segment.proofs.Holding.{holds-tell}
use Rattle.live_segment.proofs.Keeping.{cut_with, notes_kept-all, given_kept-all}
use Rattle.live_segment.proofs.Viewed.{holds_at, unchanged, viewed, few_kept}
use Rattle.live_segment.proofs.live.Live.make_plainly.Goals as goal

ok_unless : {A E : Type 0} (r : Result A E) (P : Type 0) → is_err r ≡ false → OnOk r P → P
ok_unless (Ok x) P e h = h
ok_unless (Err x) P e h = absurd cc

on_true : (b : Bool) (P : Type 0) → b ≡ true → OnTrue b P → P
on_true true P e h = h
on_true false P e h = absurd cc

on_false : (b : Bool) (P : Type 0) → b ≡ false → OnFalse b P → P
on_false false P e h = h
on_false true P e h = absurd cc

pub invariant_of-self : goal.invariant_of-self
invariant_of-self c = holds_at _ _ _ _ _ _ _ _ _ _ _ _ _ _ _ refl c.reserve.ensures.items c.reserve.ensures.pieces refl refl refl refl c.self.invariant.0 c.self.invariant.1

pub returns-then-is_err : goal.returns-then-is_err
returns-then-is_err c =
    let i = c.self.inside in
    unchanged _ i.stopped i.addresses.items i.calls.pieces c.reserve.new.self.pieces i.calls.items c.reserve.new.self.items i.seats.items i.doors.items i.doors.items c.self.view_is c.reserve.ensures.items c.reserve.ensures.pieces refl

pub tell-requires-clause-apart : goal.tell-requires-clause-apart
tell-requires-clause-apart c = c.self.invariant.0.apart

pub tell-requires-clause-takes : goal.tell-requires-clause-takes
tell-requires-clause-takes c =
    let i = c.self.inside in
    let st = i.segment in
    let ds = i.doors.items in
    let es = c.try_plainly.new.told in
    let found : IsFound (wanted_by st c.args.call.now) ds true [] = found_nothing (wanted_by st c.args.call.now) ds (on_true _ _ c.if-try_plainly.true c.try_plainly.ensures.none) in
    let f : Follows st (call_of c.args.call.now true) c.try_plainly.new.segment (Done es) = on_true _ _ c.if-try_plainly.true (c.try_plainly.ensures.follows i.addresses.items (trail i.addresses.items i.calls.items).steps c.self.invariant.0.stands) in
    (found_ready st c.args.call.now true es ds [] found f.ports f.fits).0

pub tell-requires-clause-enough : goal.tell-requires-clause-enough
tell-requires-clause-enough c =
    let i = c.self.inside in
    let st = i.segment in
    let ds = i.doors.items in
    let es = c.try_plainly.new.told in
    let found : IsFound (wanted_by st c.args.call.now) ds true [] = found_nothing (wanted_by st c.args.call.now) ds (on_true _ _ c.if-try_plainly.true c.try_plainly.ensures.none) in
    let f : Follows st (call_of c.args.call.now true) c.try_plainly.new.segment (Done es) = on_true _ _ c.if-try_plainly.true (c.try_plainly.ensures.follows i.addresses.items (trail i.addresses.items i.calls.items).steps c.self.invariant.0.stands) in
    rw c.new.ensures.items (found_ready st c.args.call.now true es ds [] found f.ports f.fits).1

pub tell-requires-clause-ids : goal.tell-requires-clause-ids
tell-requires-clause-ids c = c.self.invariant.0.ids

pub tell-requires-clause-room : goal.tell-requires-clause-room
tell-requires-clause-room c = c.self.invariant.0.room

pub tell-requires-clause-within : goal.tell-requires-clause-within
tell-requires-clause-within c = c.self.invariant.0.within

pub push_reserved-requires-clause-room : goal.push_reserved-requires-clause-room
push_reserved-requires-clause-room c = ok_unless c.reserve.result _ (sym c.is_err.ensures.value ∙ c.if-is_err.false) c.reserve.ensures.room

pub push_reserved-requires-clause-few : goal.push_reserved-requires-clause-few
push_reserved-requires-clause-few c =
    let i = c.self.inside in
    few_kept i.calls.pieces c.reserve.new.self.pieces i.calls.items c.reserve.new.self.items c.reserve.ensures.pieces c.reserve.ensures.items (c.is_full.ensures.few c.if-is_full.false)

pub invariant_of-self-then-try_plainly : goal.invariant_of-self-then-try_plainly
invariant_of-self-then-try_plainly c =
    let i = c.self.inside in
    let addrs = i.addresses.items in
    let st = i.segment in
    let xs = i.calls.items in
    let ws = i.owed.items in
    let ss = i.seats.items in
    let ds = i.doors.items in
    let es = c.try_plainly.new.told in
    let call = call_of c.args.call.now true in
    let next = c.try_plainly.new.segment in
    let steps = (trail addrs xs).steps in
    let h = c.self.invariant.0 in
    let few : length xs + 1 < 2 ^ 64 = c.reserve.ensures.few (c.is_full.ensures.few c.if-is_full.false) in
    let rep : Done es ≡ reply_of st call = on_true _ _ c.if-try_plainly.true c.try_plainly.ensures.reply in
    let left : next ≡ left_by st call = on_true _ _ c.if-try_plainly.true c.try_plainly.ensures.after in
    let stands : StandsAt addrs (steps ++ (call, Done es) ∷ []) next = on_true _ _ c.if-try_plainly.true (c.try_plainly.ensures.stands addrs steps h.stands) in
    let f : Follows st call next (Done es) = on_true _ _ c.if-try_plainly.true (c.try_plainly.ensures.follows addrs steps h.stands) in
    let seats : c.tell.new.seats.items ≡ note_all (settle_notes ws es) ss = c.tell.ensures.seats in
    let owed : c.tell.new.owed.items ≡ settle_owed ws es = c.tell.ensures.owed in
    let x : Stored = stored None call in
    let calls : c.push_reserved.new.self.items ≡ xs ++ x ∷ [] = c.push_reserved.ensures.items ∙ ap (λ (u : List Stored). u ++ stored None c.with_room.result ∷ []) c.reserve.ensures.items ∙ ap (λ (u : Call). xs ++ stored None u ∷ []) c.with_room.ensures in
    let ids = subst (IdsFrom 0) seats c.tell.ensures.ids in
    let rm = subst (λ (u : List SeatView). HaveRoom (settle_owed ws es) u) seats (subst (λ (u : List Owed). HaveRoom u c.tell.new.seats.items) owed c.tell.ensures.room) in
    let within = subst (λ (u : List SeatView). OwedWithin (length u) (settle_owed ws es)) seats (subst (λ (u : List Owed). OwedWithin (length c.tell.new.seats.items) u) owed c.tell.ensures.within) in
    holds_at _ _ _ _ _ _ _ _ _ _ _ _ _ _ _ refl calls (c.push_reserved.ensures.pieces ∙ c.reserve.ensures.pieces) refl owed seats c.tell.ensures.doors
    (holds-tell addrs st next xs ws ss ds call es h few (sym rep) left stands f ids rm within) (cut_with _ _ _ _ _ _ _ (notes_kept-all (settle_notes ws es) ss) (given_kept-all es ds) c.self.invariant.1)

pub returns-then-try_plainly : goal.returns-then-try_plainly
returns-then-try_plainly c =
    let i = c.self.inside in
    let addrs = i.addresses.items in
    let st = i.segment in
    let xs = i.calls.items in
    let ws = i.owed.items in
    let ss = i.seats.items in
    let ds = i.doors.items in
    let es = c.try_plainly.new.told in
    let call = call_of c.args.call.now true in
    let next = c.try_plainly.new.segment in
    let keeps = keep i.stopped i.calls.pieces in
    let rep : Done es ≡ reply_of st call = on_true _ _ c.if-try_plainly.true c.try_plainly.ensures.reply in
    let found : IsFound (wanted_by st c.args.call.now) ds true [] = found_nothing (wanted_by st c.args.call.now) ds (on_true _ _ c.if-try_plainly.true c.try_plainly.ensures.none) in
    let f : Follows st call next (Done es) = on_true _ _ c.if-try_plainly.true (c.try_plainly.ensures.follows addrs (trail addrs xs).steps c.self.invariant.0.stands) in
    let x : Stored = stored None call in
    let calls : c.push_reserved.new.self.items ≡ xs ++ x ∷ [] = c.push_reserved.ensures.items ∙ ap (λ (u : List Stored). u ++ stored None c.with_room.result ∷ []) c.reserve.ensures.items ∙ ap (λ (u : Call). xs ++ stored None u ∷ []) c.with_room.ensures in
    let room : stored_calls (live_view keeps addrs xs ss ds) < MOST_CALLS = c.is_full.ensures.few c.if-is_full.false in
    let clients = told_as keeps addrs xs ws ss c.tell.new.seats.items ds es c.self.invariant.0.ids c.self.invariant.0.owes c.tell.ensures.seats in
    let ports = given_as es ds ds c.tell.new.doors.items refl c.tell.ensures.doors in
    let closed = (found_ready st c.args.call.now true es ds [] found f.ports f.fits).2 in
    let gs = c.tell.new.doors.items in
    let ts = c.tell.new.seats.items in
    let ys = xs ++ x ∷ [] in
    viewed (λ (u v : LiveView). IsMadePlainly u c.args.call.now v true) _ i.stopped addrs i.calls.pieces c.push_reserved.new.self.pieces xs ys c.push_reserved.new.self.items ss ts ts ds gs c.self.view_is calls (c.push_reserved.ensures.pieces ∙ c.reserve.ensures.pieces) refl
    (room, (es, applied_as keeps addrs st xs ys ss ts ds ds gs c.args.call.now (Done es) true [] c.self.invariant.0.at rep refl found (λ e. absurd (false≢true (sym e))) clients ports closed))

pub invariant_of-self-else-try_plainly : goal.invariant_of-self-else-try_plainly
invariant_of-self-else-try_plainly c = holds_at _ _ _ _ _ _ _ _ _ _ _ _ _ _ _ (on_false _ _ c.if-try_plainly.false (c.try_plainly.ensures.same c.self.inside.addresses.items (trail c.self.inside.addresses.items c.self.inside.calls.items).steps c.self.invariant.0.stands)) c.reserve.ensures.items c.reserve.ensures.pieces refl refl refl refl c.self.invariant.0 c.self.invariant.1

pub returns : goal.returns
returns c =
    let i = c.self.inside in
    unchanged _ i.stopped i.addresses.items i.calls.pieces c.reserve.new.self.pieces i.calls.items c.reserve.new.self.items i.seats.items i.doors.items i.doors.items c.self.view_is c.reserve.ensures.items c.reserve.ensures.pieces refl
