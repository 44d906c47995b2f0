use Rattle.std.proofs.Common.{◌≡◌, ◌<◌, List, ◌∷◌, ◌++◌, length, map, None, refl, sym, ap, ◌∙◌, subst, ◌^◌, ◌+◌, []}
use Rattle.std.proofs.lemmas.Bool.{false≢true}
use Rattle.segment_law.specs.Record.{StandsAt}
use Rattle.segment_law.specs.declared.call.Call.TheVariants.{Close}
use Rattle.segment_law.specs.declared.reply.Reply.{Reply}
use Rattle.segment_law.specs.declared.reply.Reply.TheVariants.{Done, Refused}
use Rattle.live_record.specs.Replies.{reply_of, IsRefusal, IsAnsweredBy, Follows}
use Rattle.segment_rings.specs.Views.{SeatView}
use Rattle.stored_calls.specs.declared.stored.Stored.{Stored}
use Rattle.live_record.specs.declared.owed.Owed.{Owed}
use Rattle.live_record.specs.declared.calls.TheConstants.{MOST_CALLS}
use Rattle.live_record.specs.Record.{settle_notes, settle_owed, trail, stored}
use Rattle.live_ends.specs.Ends.{IdsFrom, HaveRoom, OwedWithin, note_all}
use Rattle.live_segment.specs.LiveView.{LiveView, client_of, port_of, keep, stored_calls}
use Rattle.live_segment.specs.Reports.{CloseMade}
use Rattle.live_segment.proofs.Applying.{told_as}
use Rattle.live_segment.proofs.Closings.{close_made}
use Rattle.live_ends.proofs.Giving.{give_all_unplaced}
use Rattle.live_segment.proofs.Telling.{clients_untold}
use Rattle.live_segment.proofs.Holding.{holds-tell}
use Rattle.live_segment.proofs.Ready.{none_ready}
use Rattle.live_segment.proofs.Keeping.{cut_with, notes_kept-all, given_kept-all}
use Rattle.live_segment.proofs.Viewed.{holds_at, viewed, few_kept}
use Rattle.live_segment.proofs.live.Live.make_close.Goals as goal

pub tell-requires-clause-takes : goal.tell-requires-clause-takes
tell-requires-clause-takes c =
    let addrs = c.self.inside.addresses.items in
    let st = c.self.inside.segment in
    let xs = c.self.inside.calls.items in
    let ds = c.self.inside.doors.items in
    let p = c.args.port in
    let next = c.make.new.segment in
    let es = c.in-Done.events in
    let f : Follows st (Close p) next (Done es) = subst (λ (u : Reply). Follows st (Close p) next u) c.in-Done.is (c.in_ok-events.ensures.follows addrs (trail addrs xs).steps c.self.invariant.0.stands) in
    (none_ready _ _ es ds c.new.result.items f.ports f.fits).0

pub tell-requires-clause-enough : goal.tell-requires-clause-enough
tell-requires-clause-enough c =
    let addrs = c.self.inside.addresses.items in
    let st = c.self.inside.segment in
    let xs = c.self.inside.calls.items in
    let ds = c.self.inside.doors.items in
    let p = c.args.port in
    let next = c.make.new.segment in
    let es = c.in-Done.events in
    let f : Follows st (Close p) next (Done es) = subst (λ (u : Reply). Follows st (Close p) next u) c.in-Done.is (c.in_ok-events.ensures.follows addrs (trail addrs xs).steps c.self.invariant.0.stands) in
    (none_ready _ _ es ds c.new.result.items f.ports f.fits).1

pub invariant_of-self-in-Done : goal.invariant_of-self-in-Done
invariant_of-self-in-Done c =
    let addrs = c.self.inside.addresses.items in
    let st = c.self.inside.segment in
    let xs = c.self.inside.calls.items in
    let ds = c.self.inside.doors.items in
    let p = c.args.port in
    let next = c.make.new.segment in
    let es = c.in-Done.events in
    let f : Follows st (Close p) next (Done es) = subst (λ (u : Reply). Follows st (Close p) next u) c.in-Done.is (c.in_ok-events.ensures.follows addrs (trail addrs xs).steps c.self.invariant.0.stands) in
    let ws = c.self.inside.owed.items in
    let ss = c.self.inside.seats.items in
    let steps = (trail addrs xs).steps in
    let rep : reply_of st (Close p) ≡ Done es = sym c.in_ok-events.ensures.reply ∙ c.in-Done.is in
    let stands : StandsAt addrs (steps ++ (Close p, Done es) ∷ []) next = subst (λ (u : Reply). StandsAt addrs (steps ++ (Close p, u) ∷ []) next) c.in-Done.is (c.in_ok-events.ensures.stands addrs steps c.self.invariant.0.stands) in
    let calls : c.push_reserved.new.self.items ≡ xs ++ stored None (Close p) ∷ [] = c.push_reserved.ensures.items ∙ ap (λ (u : List Stored). u ++ stored None (Close p) ∷ []) c.reserve.ensures.items in
    let few : length xs + 1 < 2 ^ 64 = c.reserve.ensures.few (subst (λ (u : LiveView). stored_calls u < MOST_CALLS) (sym c.self.view_is) c.requires) in
    let seats : c.tell.new.seats.items ≡ note_all (settle_notes ws es) ss = c.tell.ensures.seats in
    let owed : c.tell.new.owed.items ≡ settle_owed ws es = c.tell.ensures.owed in
    let ids = subst (IdsFrom 0) seats c.tell.ensures.ids in
    let rm = subst (λ (u : List SeatView). HaveRoom (settle_owed ws es) u) seats (subst (λ (u : List Owed). HaveRoom u c.tell.new.seats.items) owed c.tell.ensures.room) in
    let inside = subst (λ (u : List SeatView). OwedWithin (length u) (settle_owed ws es)) seats (subst (λ (u : List Owed). OwedWithin (length c.tell.new.seats.items) u) owed c.tell.ensures.within) in
    holds_at _ _ _ _ _ _ _ _ _ _ _ _ _ _ _ refl calls (c.push_reserved.ensures.pieces ∙ c.reserve.ensures.pieces) refl owed seats c.tell.ensures.doors
    (holds-tell addrs st next xs ws ss ds (Close p) es c.self.invariant.0 few rep c.in_ok-events.ensures.after stands f ids rm inside) (cut_with _ _ _ _ _ _ _ (notes_kept-all (settle_notes ws es) ss) (given_kept-all es ds) c.self.invariant.1)

pub invariant_of-self-in-Refused : goal.invariant_of-self-in-Refused
invariant_of-self-in-Refused c =
    let addrs = c.self.inside.addresses.items in
    let f = c.in_ok-events.ensures.follows addrs (trail addrs c.self.inside.calls.items).steps c.self.invariant.0.stands in
    let same = f.refused (subst IsRefusal (sym c.in-Refused.is) tt) in
    holds_at _ _ _ _ _ _ _ _ _ _ _ _ _ _ _ same c.reserve.ensures.items c.reserve.ensures.pieces refl refl refl refl c.self.invariant.0 c.self.invariant.1

pub returns-in-Done-clause-made : goal.returns-in-Done-clause-made
returns-in-Done-clause-made c =
    let addrs = c.self.inside.addresses.items in
    let st = c.self.inside.segment in
    let xs = c.self.inside.calls.items in
    let ds = c.self.inside.doors.items in
    let p = c.args.port in
    let next = c.make.new.segment in
    let es = c.in-Done.events in
    let f : Follows st (Close p) next (Done es) = subst (λ (u : Reply). Follows st (Close p) next u) c.in-Done.is (c.in_ok-events.ensures.follows addrs (trail addrs xs).steps c.self.invariant.0.stands) in
    let ws = c.self.inside.owed.items in
    let ss = c.self.inside.seats.items in
    let ts = c.tell.new.seats.items in
    let gs = c.tell.new.doors.items in
    let keeps = keep c.self.inside.stopped c.self.inside.calls.pieces in
    let ys = xs ++ stored None (Close p) ∷ [] in
    let rep : Done es ≡ reply_of st (Close p) = sym c.in-Done.is ∙ c.in_ok-events.ensures.reply in
    let calls : c.push_reserved.new.self.items ≡ ys = c.push_reserved.ensures.items ∙ ap (λ (u : List Stored). u ++ stored None (Close p) ∷ []) c.reserve.ensures.items in
    let told = told_as keeps addrs xs ws ss ts ds es c.self.invariant.0.ids c.self.invariant.0.owes c.tell.ensures.seats in
    let same : gs ≡ ds = c.tell.ensures.doors ∙ give_all_unplaced es ds f.ports in
    viewed (λ (u v : LiveView). CloseMade u v p) _ c.self.inside.stopped addrs c.self.inside.calls.pieces c.push_reserved.new.self.pieces xs ys c.push_reserved.new.self.items ss ts ts ds gs c.self.view_is calls (c.push_reserved.ensures.pieces ∙ c.reserve.ensures.pieces) refl
    (close_made keeps addrs st xs ys ss ts ds gs p (Done es) c.self.invariant.0.at rep refl told (ap (map port_of) same))

pub returns-in-Refused-clause-made : goal.returns-in-Refused-clause-made
returns-in-Refused-clause-made c =
    let addrs = c.self.inside.addresses.items in
    let st = c.self.inside.segment in
    let xs = c.self.inside.calls.items in
    let ss = c.self.inside.seats.items in
    let ds = c.self.inside.doors.items in
    let p = c.args.port in
    let rep : Refused c.in-Refused.field-0 ≡ reply_of st (Close p) = sym c.in-Refused.is ∙ c.in_ok-events.ensures.reply in
    viewed (λ (u v : LiveView). CloseMade u v p) _ c.self.inside.stopped addrs c.self.inside.calls.pieces c.reserve.new.self.pieces xs xs c.reserve.new.self.items ss ss ss ds ds c.self.view_is c.reserve.ensures.items c.reserve.ensures.pieces refl
    (close_made (keep c.self.inside.stopped c.self.inside.calls.pieces) addrs st xs xs ss ss ds ds p (Refused c.in-Refused.field-0) c.self.invariant.0.at rep refl (sym (clients_untold 0 (map client_of ss))) refl)

pub unreachable-requires : goal.unreachable-requires
unreachable-requires c =
    let addrs = c.self.inside.addresses.items in
    let f = c.in_ok-events.ensures.follows addrs (trail addrs c.self.inside.calls.items).steps c.self.invariant.0.stands in
    absurd (false≢true (subst (IsAnsweredBy (Close c.args.port)) c.in-Opened.is f.kind))

pub unreachable-requires-in-Sent : goal.unreachable-requires-in-Sent
unreachable-requires-in-Sent c =
    let addrs = c.self.inside.addresses.items in
    let f = c.in_ok-events.ensures.follows addrs (trail addrs c.self.inside.calls.items).steps c.self.invariant.0.stands in
    absurd (false≢true (subst (IsAnsweredBy (Close c.args.port)) c.in-Sent.is f.kind))

pub invariant_of-self : goal.invariant_of-self
invariant_of-self c = holds_at c.self.inside.addresses.items c.self.inside.segment c.self.inside.segment c.self.inside.calls.items c.reserve.new.self.items c.self.inside.calls.pieces c.reserve.new.self.pieces c.self.inside.image c.self.inside.image c.self.inside.owed.items c.self.inside.owed.items c.self.inside.seats.items c.self.inside.seats.items c.self.inside.doors.items c.self.inside.doors.items refl c.reserve.ensures.items c.reserve.ensures.pieces refl refl refl refl c.self.invariant.0 c.self.invariant.1

pub invariant_of-self-in_err-events : goal.invariant_of-self-in_err-events
invariant_of-self-in_err-events c = holds_at c.self.inside.addresses.items c.self.inside.segment c.make.new.segment c.self.inside.calls.items c.reserve.new.self.items c.self.inside.calls.pieces c.reserve.new.self.pieces c.self.inside.image c.self.inside.image c.self.inside.owed.items c.self.inside.owed.items c.self.inside.seats.items c.self.inside.seats.items c.self.inside.doors.items c.self.inside.doors.items c.in_err-events.ensures.err c.reserve.ensures.items c.reserve.ensures.pieces refl refl refl refl c.self.invariant.0 c.self.invariant.1

pub tell-requires-clause-apart : goal.tell-requires-clause-apart
tell-requires-clause-apart c = c.self.invariant.0.apart

pub tell-requires-clause-ids : goal.tell-requires-clause-ids
tell-requires-clause-ids c = c.self.invariant.0.ids

pub tell-requires-clause-room : goal.tell-requires-clause-room
tell-requires-clause-room c = c.self.invariant.0.room

pub tell-requires-clause-within : goal.tell-requires-clause-within
tell-requires-clause-within c = c.self.invariant.0.within

pub push_reserved-requires-clause-room : goal.push_reserved-requires-clause-room
push_reserved-requires-clause-room c = c.in_ok-reserve.ensures.room

pub push_reserved-requires-clause-few : goal.push_reserved-requires-clause-few
push_reserved-requires-clause-few c = few_kept c.self.inside.calls.pieces c.reserve.new.self.pieces c.self.inside.calls.items c.reserve.new.self.items c.reserve.ensures.pieces c.reserve.ensures.items (subst (λ (u : LiveView). stored_calls u < MOST_CALLS) (sym c.self.view_is) c.requires)
