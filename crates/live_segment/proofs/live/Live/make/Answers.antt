use Rattle.live_record.specs.Past.{count_since}
use Rattle.std.proofs.Common.{◌≡◌, Bool, ◌<◌, List, ◌∷◌, ◌++◌, length, map, true, false, None, refl, sym, ap, ◌∙◌, subst, ◌^◌, ◌+◌, []}
use Rattle.std.proofs.lemmas.Bool.{false≢true}
use Rattle.segment_law.specs.Segment.{Segment}
use Rattle.segment_law.specs.Calls.{called, is_send}
use Rattle.segment_law.specs.Record.{StandsAt}
use Rattle.segment_law.specs.declared.call.Call.{Call}
use Rattle.segment_law.specs.declared.reply.Reply.{Reply}
use Rattle.segment_law.specs.declared.reply.Reply.TheVariants.{Done, Refused}
use Rattle.segment_state.specs.Answers.{refusal_of, reply_with}
use Rattle.segment_state.specs.declared.made.Made.{Made}
use Rattle.live_record.specs.Replies.{reply_of, left_by, opens, IsRefusal, IsAnsweredBy, Follows}
use Rattle.segment_rings.specs.Views.{SeatView}
use Rattle.stored_calls.specs.declared.stored.Stored.{Stored}
use Rattle.live_record.specs.declared.owed.Owed.{Owed}
use Rattle.live_record.specs.declared.calls.TheConstants.{MOST_CALLS}
use Rattle.live_calls.specs.Words.{call_of, wanted_by}
use Rattle.live_record.specs.Record.{settle_notes, settle_owed, trail, stored}
use Rattle.live_ends.specs.Ends.{IdsFrom, HaveRoom, OwedWithin, note_all, give_all}
use Rattle.live_segment.specs.Facts.{Holds}
use Rattle.live_calls.specs.Places.{IsFound}
use Rattle.live_segment.specs.LiveView.{LiveView, Applied, LacksMemory, port_of, SparesClosed, keep, stored_calls}
use Rattle.live_segment.proofs.Applying.{applied_as, refused_as, told_as, given_as, found_false}
use Rattle.live_calls.proofs.Applying.{never_opens, never_sends}
use Rattle.live_ends.proofs.Giving.{apart-same, give_all_unplaced}
use Rattle.live_segment.proofs.Openings.{refused_reply}
use Rattle.live_segment.proofs.Ready.{found_ready, none_given}
use Rattle.live_segment.proofs.Refusing.{lacks_memory}
use Rattle.live_segment.proofs.Holding.{holds-same, holds-tell}
use Rattle.live_segment.proofs.Keeping.{cut_with, notes_kept-all, given_kept-all, given_kept-same}
use Rattle.live_segment.proofs.Viewed.{holds_at, stays, viewed, still, few_kept}
use Rattle.live_ends.proofs.SeatsSame.{same_seats-refl}
use Rattle.live_segment.proofs.SeatsSame.{ports-same}
use Rattle.live_segment.proofs.live.Live.make.Goals as goal

pub tell-requires-clause-apart : goal.tell-requires-clause-apart
tell-requires-clause-apart c = apart-same _ _ c.make_found.ensures.same c.self.invariant.0.apart

pub tell-requires-clause-takes : goal.tell-requires-clause-takes
tell-requires-clause-takes c =
    let addrs = c.self.inside.addresses.items in
    let st = c.self.inside.segment in
    let steps = (trail addrs c.self.inside.calls.items).steps in
    let room = c.in-Ok.found.room in
    let call = c.args.call in
    let ds = c.make_found.new.doors.items in
    let bs = c.in-Ok.found.buffers.items in
    let es = c.make_found.new.told in
    let found : IsFound (wanted_by st call) ds room bs = c.in-Ok.ensures.found in
    let f0 = c.in-Ok.ensures.follows addrs steps c.self.invariant.0.stands in
    let f : Follows st (call_of call room) c.make_found.new.segment (Done es) = subst (λ (u : Reply). Follows st (call_of call room) c.make_found.new.segment u) (ap (λ (m : Made). reply_with m es) c.in-Done.is) f0 in
    (found_ready st call room es ds bs found f.ports f.fits).0

pub tell-requires-clause-enough : goal.tell-requires-clause-enough
tell-requires-clause-enough c =
    let addrs = c.self.inside.addresses.items in
    let st = c.self.inside.segment in
    let steps = (trail addrs c.self.inside.calls.items).steps in
    let room = c.in-Ok.found.room in
    let call = c.args.call in
    let ds = c.make_found.new.doors.items in
    let bs = c.in-Ok.found.buffers.items in
    let es = c.make_found.new.told in
    let found : IsFound (wanted_by st call) ds room bs = c.in-Ok.ensures.found in
    let f0 = c.in-Ok.ensures.follows addrs steps c.self.invariant.0.stands in
    let f : Follows st (call_of call room) c.make_found.new.segment (Done es) = subst (λ (u : Reply). Follows st (call_of call room) c.make_found.new.segment u) (ap (λ (m : Made). reply_with m es) c.in-Done.is) f0 in
    (found_ready st call room es ds bs found f.ports f.fits).1

pub invariant_of-self-in-Done : goal.invariant_of-self-in-Done
invariant_of-self-in-Done c =
    let addrs = c.self.inside.addresses.items in
    let st = c.self.inside.segment in
    let xs = c.self.inside.calls.items in
    let ws = c.self.inside.owed.items in
    let ss = c.self.inside.seats.items in
    let ds = c.make_found.new.doors.items in
    let es = c.make_found.new.told in
    let room = c.in-Ok.found.room in
    let call = call_of c.args.call room in
    let next = c.make_found.new.segment in
    let steps = (trail addrs xs).steps in
    let h : Holds addrs st xs ws ss ds = holds-same _ _ _ _ _ _ _ _ (same_seats-refl ss) c.make_found.ensures.same c.self.invariant.0 in
    let few : length xs + 1 < 2 ^ 64 = c.make_found.ensures.few (subst (λ (v : LiveView). stored_calls v < MOST_CALLS) (sym c.self.view_is) c.requires.few) in
    let pieces : c.push_reserved.new.self.pieces ≡ c.self.inside.calls.pieces = c.push_reserved.ensures.pieces ∙ c.make_found.ensures.pieces in
    let rep : reply_of st call ≡ Done es = sym c.in-Ok.ensures.reply ∙ (ap (λ (m : Made). reply_with m es) c.in-Done.is) in
    let left : next ≡ left_by st call = c.in-Ok.ensures.after in
    let stands0 = c.in-Ok.ensures.stands addrs steps c.self.invariant.0.stands in
    let stands : StandsAt addrs (steps ++ (call, Done es) ∷ []) next = subst (λ (u : Reply). StandsAt addrs (steps ++ (call, u) ∷ []) next) (ap (λ (m : Made). reply_with m es) c.in-Done.is) stands0 in
    let f0 = c.in-Ok.ensures.follows addrs steps c.self.invariant.0.stands in
    let f : Follows st call next (Done es) = subst (λ (u : Reply). Follows st call next u) (ap (λ (m : Made). reply_with m es) c.in-Done.is) f0 in
    let seats : c.tell.new.seats.items ≡ note_all (settle_notes ws es) ss = c.tell.ensures.seats in
    let owed : c.tell.new.owed.items ≡ settle_owed ws es = c.tell.ensures.owed in
    let doors : c.tell.new.doors.items ≡ give_all es ds = c.tell.ensures.doors in
    let calls : c.push_reserved.new.self.items ≡ xs ++ stored None call ∷ [] = c.push_reserved.ensures.items ∙ ap (λ (u : List Stored). u ++ stored None c.with_room.result ∷ []) c.make_found.ensures.items ∙ ap (λ (u : Call). xs ++ stored None u ∷ []) c.with_room.ensures in
    let ids = subst (IdsFrom 0) seats c.tell.ensures.ids in
    let rm = subst (λ (u : List SeatView). HaveRoom (settle_owed ws es) u) seats (subst (λ (u : List Owed). HaveRoom u c.tell.new.seats.items) owed c.tell.ensures.room) in
    let within = subst (λ (u : List SeatView). OwedWithin (length u) (settle_owed ws es)) seats (subst (λ (u : List Owed). OwedWithin (length c.tell.new.seats.items) u) owed c.tell.ensures.within) in
    holds_at _ _ _ _ _ _ _ _ _ _ _ _ _ _ _ refl calls pieces refl owed seats doors (holds-tell addrs st next xs ws ss ds call es h few rep left stands f ids rm within) (cut_with _ _ _ _ _ _ _ (notes_kept-all (settle_notes ws es) ss) (λ k0. given_kept-all es ds (given_kept-same c.self.inside.doors.items ds c.make_found.ensures.same k0)) c.self.invariant.1)

pub invariant_of-self-in-Refused-1 : goal.invariant_of-self-in-Refused-1
invariant_of-self-in-Refused-1 c =
    let addrs = c.self.inside.addresses.items in
    let f0 = c.in-Ok.ensures.follows addrs (trail addrs c.self.inside.calls.items).steps c.self.invariant.0.stands in
    let same = f0.refused (subst IsRefusal (sym (ap (λ (m : Made). reply_with m c.make_found.new.told) c.in-Refused.is)) tt) in
    stays _ _ _ _ _ _ _ _ _ _ _ _ _ _ _ same c.make_found.ensures.items c.make_found.ensures.pieces refl refl (same_seats-refl _) c.make_found.ensures.same c.self.invariant

pub returns-in-Done-clause-applied : goal.returns-in-Done-clause-applied
returns-in-Done-clause-applied c =
    let addrs = c.self.inside.addresses.items in
    let st = c.self.inside.segment in
    let xs = c.self.inside.calls.items in
    let ws = c.self.inside.owed.items in
    let ss = c.self.inside.seats.items in
    let bs = c.in-Ok.found.buffers.items in
    let ds0 = c.self.inside.doors.items in
    let ds = c.make_found.new.doors.items in
    let es = c.make_found.new.told in
    let room = c.in-Ok.found.room in
    let call = call_of c.args.call room in
    let next = c.make_found.new.segment in
    let keeps = keep c.self.inside.stopped c.self.inside.calls.pieces in
    let rep : Done es ≡ reply_of st call = sym (ap (λ (m : Made). reply_with m es) c.in-Done.is) ∙ c.in-Ok.ensures.reply in
    let calls : c.push_reserved.new.self.items ≡ xs ++ stored None call ∷ [] = c.push_reserved.ensures.items ∙ ap (λ (u : List Stored). u ++ stored None c.with_room.result ∷ []) c.make_found.ensures.items ∙ ap (λ (u : Call). xs ++ stored None u ∷ []) c.with_room.ensures in
    let found : IsFound (wanted_by st c.args.call) ds room bs = c.in-Ok.ensures.found in
    let f0 = c.in-Ok.ensures.follows addrs (trail addrs xs).steps c.self.invariant.0.stands in
    let f : Follows st call next (Done es) = subst (λ (u : Reply). Follows st call next u) (ap (λ (m : Made). reply_with m es) c.in-Done.is) f0 in
    let same : room ≡ false → c.tell.new.doors.items ≡ ds = λ none. c.tell.ensures.doors ∙ give_all_unplaced es ds (none_given st c.args.call room es none f.ports) in
    let kept : map port_of ds ≡ map port_of ds0 = ports-same ds0 ds c.make_found.ensures.same in
    let clients = told_as (keep c.self.inside.stopped c.self.inside.calls.pieces) addrs xs ws ss c.tell.new.seats.items ds0 es c.self.invariant.0.ids c.self.invariant.0.owes c.tell.ensures.seats in
    let ports = given_as es ds0 ds c.tell.new.doors.items kept c.tell.ensures.doors in
    let closed = subst (SparesClosed es) kept (found_ready st c.args.call room es ds bs found f.ports f.fits).2 in
    let gs = c.tell.new.doors.items in
    let ts = c.tell.new.seats.items in
    let ys = xs ++ stored None call ∷ [] in
    viewed (λ (u v : LiveView). (b : Bool) × Applied u v c.args.call (Done es) b) _ c.self.inside.stopped addrs c.self.inside.calls.pieces c.push_reserved.new.self.pieces xs ys c.push_reserved.new.self.items ss ts ts ds0 gs c.self.view_is calls (c.push_reserved.ensures.pieces ∙ c.make_found.ensures.pieces) refl
    (room, applied_as keeps addrs st xs ys ss ts ds0 ds gs c.args.call (Done es) room bs c.self.invariant.0.at rep refl found same clients ports closed)

pub returns-in-Refused-clause-applied : goal.returns-in-Refused-clause-applied
returns-in-Refused-clause-applied c =
    let addrs = c.self.inside.addresses.items in
    let st = c.self.inside.segment in
    let xs = c.self.inside.calls.items in
    let ss = c.self.inside.seats.items in
    let ds0 = c.self.inside.doors.items in
    let ds = c.make_found.new.doors.items in
    let room = c.in-Ok.found.room in
    let bs = c.in-Ok.found.buffers.items in
    let rep : Refused c.in-Refused.refusal ≡ reply_of st (call_of c.args.call room) = sym (ap (λ (m : Made). reply_with m c.make_found.new.told) c.in-Refused.is) ∙ c.in-Ok.ensures.reply in
    let found : IsFound (wanted_by st c.args.call) ds room bs = c.in-Ok.ensures.found in
    let keeps = keep c.self.inside.stopped c.self.inside.calls.pieces in
    viewed (λ (u v : LiveView). (b : Bool) × Applied u v c.args.call (Refused c.in-Refused.refusal) b) _ c.self.inside.stopped addrs c.self.inside.calls.pieces c.make_found.new.calls.pieces xs xs c.make_found.new.calls.items ss ss ss ds0 ds c.self.view_is c.make_found.ensures.items c.make_found.ensures.pieces refl
    (room, refused_as keeps addrs st xs ss ss ds0 ds c.args.call c.in-Refused.refusal room c.self.invariant.0.at rep refl (ports-same ds0 ds c.make_found.ensures.same) (found_false keeps addrs st xs xs ss ss ds0 ds c.args.call room bs c.self.invariant.0.at found))

pub unreachable-requires : goal.unreachable-requires
unreachable-requires c =
    let addrs = c.self.inside.addresses.items in
    let call = call_of c.args.call c.in-Ok.found.room in
    let f = c.in-Ok.ensures.follows addrs (trail addrs c.self.inside.calls.items).steps c.self.invariant.0.stands in
    let kind : opens call ≡ true = (subst (IsAnsweredBy call) (ap (λ (m : Made). reply_with m c.make_found.new.told) c.in-Opened.is) f.kind) in
    absurd (false≢true (sym (never_opens c.args.call c.in-Ok.found.room) ∙ kind))

pub unreachable-requires-in-Sent : goal.unreachable-requires-in-Sent
unreachable-requires-in-Sent c =
    let addrs = c.self.inside.addresses.items in
    let call = call_of c.args.call c.in-Ok.found.room in
    let f = c.in-Ok.ensures.follows addrs (trail addrs c.self.inside.calls.items).steps c.self.invariant.0.stands in
    let kind : is_send call ≡ true = (subst (IsAnsweredBy call) (ap (λ (m : Made). reply_with m c.make_found.new.told) c.in-Sent.is) f.kind) in
    absurd (false≢true (sym (never_sends c.args.call c.in-Ok.found.room) ∙ kind))

pub tell-requires-clause-ids : goal.tell-requires-clause-ids
tell-requires-clause-ids c = c.self.invariant.0.ids

pub tell-requires-clause-room : goal.tell-requires-clause-room
tell-requires-clause-room c = c.self.invariant.0.room

pub tell-requires-clause-within : goal.tell-requires-clause-within
tell-requires-clause-within c = c.self.invariant.0.within

pub push_reserved-requires-clause-room : goal.push_reserved-requires-clause-room
push_reserved-requires-clause-room c = c.in-Ok.ensures.place

pub push_reserved-requires-clause-few : goal.push_reserved-requires-clause-few
push_reserved-requires-clause-few c = few_kept c.self.inside.calls.pieces c.make_found.new.calls.pieces c.self.inside.calls.items c.make_found.new.calls.items c.make_found.ensures.pieces c.make_found.ensures.items (subst (λ (u : LiveView). stored_calls u < MOST_CALLS) (sym c.self.view_is) c.requires.few)

pub make_found-requires-clause-apart : goal.make_found-requires-clause-apart
make_found-requires-clause-apart c = c.self.invariant.0.apart

pub invariant_of-self : goal.invariant_of-self
invariant_of-self c = stays _ _ _ _ _ _ _ _ _ _ _ _ _ _ _ c.in_default.ensures.err c.make_found.ensures.items c.make_found.ensures.pieces refl refl (same_seats-refl _) c.make_found.ensures.same c.self.invariant

pub invariant_of-self-in_default : goal.invariant_of-self-in_default
invariant_of-self-in_default c = stays _ _ _ _ _ _ _ _ _ _ _ _ _ _ _ c.in_default.ensures.err c.make_found.ensures.items c.make_found.ensures.pieces refl refl (same_seats-refl _) c.make_found.ensures.same c.self.invariant

pub returns-in-Some-clause-applied : goal.returns-in-Some-clause-applied
returns-in-Some-clause-applied c =
    let addrs = c.self.inside.addresses.items in
    let st = c.self.inside.segment in
    let xs = c.self.inside.calls.items in
    let ss = c.self.inside.seats.items in
    let ds0 = c.self.inside.doors.items in
    let ds = c.make_found.new.doors.items in
    let rep : Refused c.in-Some.refusal ≡ reply_of st (call_of c.args.call true) = refused_reply st c.in-Some.refusal (called st (call_of c.args.call true)) (sym c.in-Some.is ∙ c.refusal_for.ensures true ∙ ap (λ (x : Segment). refusal_of (called x (call_of c.args.call true))) c.in_default.ensures.err) in
    let keeps = keep c.self.inside.stopped c.self.inside.calls.pieces in
    viewed (λ (u v : LiveView). (b : Bool) × Applied u v c.args.call (Refused c.in-Some.refusal) b) _ c.self.inside.stopped addrs c.self.inside.calls.pieces c.make_found.new.calls.pieces xs xs c.make_found.new.calls.items ss ss ss ds0 ds c.self.view_is c.make_found.ensures.items c.make_found.ensures.pieces refl
    (true, refused_as keeps addrs st xs ss ss ds0 ds c.args.call c.in-Some.refusal true c.self.invariant.0.at rep refl (ports-same ds0 ds c.make_found.ensures.same) (λ none. absurd (false≢true (sym none))))

pub returns-in_default-clause-err : goal.returns-in_default-clause-err
returns-in_default-clause-err c =
    let i = c.self.inside in
    still _ i.stopped i.addresses.items i.calls.pieces c.make_found.new.calls.pieces i.calls.items c.make_found.new.calls.items i.seats.items i.seats.items i.doors.items c.make_found.new.doors.items c.self.view_is c.make_found.ensures.items c.make_found.ensures.pieces (same_seats-refl _) c.make_found.ensures.same

pub returns-in_default-clause-not_refused : goal.returns-in_default-clause-not_refused
returns-in_default-clause-not_refused c =
    let i = c.self.inside in
    let few : count_since i.calls.pieces i.calls.items < MOST_CALLS = subst (λ (v : LiveView). stored_calls v < MOST_CALLS) (sym c.self.view_is) c.requires.few in
    subst (λ (v : LiveView). LacksMemory v c.args.call) c.self.view_is (lacks_memory (keep i.stopped i.calls.pieces) i.addresses.items i.segment i.calls.items i.seats.items i.doors.items c.args.call c.refusal_for.result c.self.invariant.0.at few c.in_default-refusal_for.is (λ room. c.refusal_for.ensures room ∙ ap (λ (x : Segment). refusal_of (called x (call_of c.args.call room))) c.in_default.ensures.err))
