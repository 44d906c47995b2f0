use Rattle.std.proofs.Common.{◌≡◌, ℕ, ◌<◌, ◌++◌, List, ◌∷◌, length, None, refl, inr, sym, ap, ◌∙◌, subst, ◌^◌, ◌+◌, []}
use Rattle.std.proofs.lemmas.Bool.{false≢true}
use Rattle.segment_law.specs.Record.{StandsAt}
use Rattle.segment_law.specs.declared.call.Call.TheVariants.{Open}
use Rattle.segment_law.specs.declared.reply.Reply.{Reply}
use Rattle.segment_law.specs.Calls.{called}
use Rattle.segment_law.specs.declared.refusal.Refusal.TheVariants.{TraceFull}
use Rattle.segment_law.specs.declared.reply.Reply.TheVariants.{Opened}
use Rattle.segment_state.specs.Answers.{refusal_of}
use Rattle.live_record.specs.Replies.{reply_of, IsRefusal, IsAnsweredBy, Follows}
use Rattle.segment_rings.specs.Views.{DoorView, new_door}
use Rattle.stored_calls.specs.declared.stored.Stored.{Stored}
use Rattle.live_record.specs.Record.{trail, stored}
use Rattle.live_segment.specs.declared.refused.NotMade.{NotMade}
use Rattle.live_segment.specs.declared.refused.NotMade.TheVariants as not_made
use Rattle.live_segment.specs.LiveView.{LiveView, keep, IsOpenCause, OpenedWith}
use Rattle.live_segment.proofs.Holding.{holds-open}
use Rattle.live_ends.proofs.Results.{on_err}
use Rattle.live_segment.proofs.Openings.{refused_reply, open_free, open_lacks, open_cause, opened_for, out_of_memory}
use Rattle.live_segment.proofs.Keeping.{cut_with, given_kept-push}
use Rattle.live_segment.proofs.Viewed.{holds_at, unchanged, viewed, few_kept}
use Rattle.live_segment.proofs.live.Live.open_port_with.Goals as goal

pub invariant_of-self-in-Opened : goal.invariant_of-self-in-Opened
invariant_of-self-in-Opened c =
    let addrs = c.self.inside.addresses.items in
    let st = c.self.inside.segment in
    let xs = c.self.inside.calls.items in
    let ds = c.self.inside.doors.items in
    let p = c.in-Opened.port in
    let d = c.open-door.result.0 in
    let next = c.make.new.segment in
    let call = Open c.args.station c.args.pgn c.args.max_len in
    let steps = (trail addrs xs).steps in
    let few : length xs + 1 < 2 ^ 64 = c.reserve.ensures.few (c.is_full.ensures.few c.if-is_full.false) in
    let pieces : c.push_reserved-in-Opened.new.self.pieces ≡ c.self.inside.calls.pieces = c.push_reserved-in-Opened.ensures.pieces ∙ c.reserve.ensures.pieces in
    let rep : reply_of st call ≡ Opened p = sym c.in_ok-port.ensures.reply ∙ c.in-Opened.is in
    let stands : StandsAt addrs (steps ++ (call, Opened p) ∷ []) next = subst (λ (u : Reply). StandsAt addrs (steps ++ (call, u) ∷ []) next) c.in-Opened.is (c.in_ok-port.ensures.stands addrs steps c.self.invariant.0.stands) in
    let f : Follows st call next (Opened p) = subst (Follows st call next) c.in-Opened.is (c.in_ok-port.ensures.follows addrs steps c.self.invariant.0.stands) in
    let doors : c.push_reserved.new.self.items ≡ ds ++ new_door p c.args.places d.free d.spare ∷ [] = c.push_reserved.ensures.items ∙ ap (λ (u : List DoorView). u ++ d ∷ []) c.reserve-2.ensures.items ∙ ap (λ (u : DoorView). ds ++ u ∷ []) (c.open-door.ensures.door ∙ ap (λ (n : ℕ). new_door p n d.free d.spare) c.in_ok-doorway.ensures) in
    let calls : c.push_reserved-in-Opened.new.self.items ≡ xs ++ stored None call ∷ [] = c.push_reserved-in-Opened.ensures.items ∙ ap (λ (u : List Stored). u ++ stored None call ∷ []) c.reserve.ensures.items in
    holds_at _ _ _ _ _ _ _ _ _ _ _ _ _ _ _ refl calls pieces refl refl refl doors (holds-open addrs st next xs c.self.inside.owed.items c.self.inside.seats.items ds c.args.station c.args.pgn c.args.max_len c.args.places d.free d.spare p c.self.invariant.0 few rep c.in_ok-port.ensures.after stands f) (cut_with _ _ _ _ _ _ _ (λ k0. k0) (given_kept-push ds (new_door p c.args.places d.free d.spare) refl) c.self.invariant.1)

pub invariant_of-self : goal.invariant_of-self
invariant_of-self c =
    let i = c.self.inside in
    holds_at c.self.inside.addresses.items c.self.inside.segment c.self.inside.segment c.self.inside.calls.items c.reserve.new.self.items c.self.inside.calls.pieces c.reserve.new.self.pieces c.self.inside.image c.self.inside.image c.self.inside.owed.items c.self.inside.owed.items c.self.inside.seats.items c.self.inside.seats.items c.self.inside.doors.items c.self.inside.doors.items refl c.reserve.ensures.items c.reserve.ensures.pieces refl refl refl refl c.self.invariant.0 c.self.invariant.1

pub invariant_of-self-in_err-reserve-2 : goal.invariant_of-self-in_err-reserve-2
invariant_of-self-in_err-reserve-2 c =
    let i = c.self.inside in
    holds_at c.self.inside.addresses.items c.self.inside.segment c.self.inside.segment c.self.inside.calls.items c.reserve.new.self.items c.self.inside.calls.pieces c.reserve.new.self.pieces c.self.inside.image c.self.inside.image c.self.inside.owed.items c.self.inside.owed.items c.self.inside.seats.items c.self.inside.seats.items c.self.inside.doors.items c.reserve-2.new.self.items refl c.reserve.ensures.items c.reserve.ensures.pieces refl refl refl c.reserve-2.ensures.items c.self.invariant.0 c.self.invariant.1

pub invariant_of-self-in_err-port : goal.invariant_of-self-in_err-port
invariant_of-self-in_err-port c =
    let i = c.self.inside in
    holds_at c.self.inside.addresses.items c.self.inside.segment c.make.new.segment c.self.inside.calls.items c.reserve.new.self.items c.self.inside.calls.pieces c.reserve.new.self.pieces c.self.inside.image c.self.inside.image c.self.inside.owed.items c.self.inside.owed.items c.self.inside.seats.items c.self.inside.seats.items c.self.inside.doors.items c.reserve-2.new.self.items c.in_err-port.ensures.err c.reserve.ensures.items c.reserve.ensures.pieces refl refl refl c.reserve-2.ensures.items c.self.invariant.0 c.self.invariant.1

pub invariant_of-self-in-Refused-1 : goal.invariant_of-self-in-Refused-1
invariant_of-self-in-Refused-1 c =
    let addrs = c.self.inside.addresses.items in
    let f = c.in_ok-port.ensures.follows addrs (trail addrs c.self.inside.calls.items).steps c.self.invariant.0.stands in
    let same = f.refused (subst IsRefusal (sym c.in-Refused.is) tt) in
    holds_at c.self.inside.addresses.items c.self.inside.segment c.make.new.segment c.self.inside.calls.items c.reserve.new.self.items c.self.inside.calls.pieces c.reserve.new.self.pieces c.self.inside.image c.self.inside.image c.self.inside.owed.items c.self.inside.owed.items c.self.inside.seats.items c.self.inside.seats.items c.self.inside.doors.items c.reserve-2.new.self.items same c.reserve.ensures.items c.reserve.ensures.pieces refl refl refl c.reserve-2.ensures.items c.self.invariant.0 c.self.invariant.1

pub returns-in-Some-clause-refused : goal.returns-in-Some-clause-refused
returns-in-Some-clause-refused c =
    let i = c.self.inside in
    open_cause (keep i.stopped i.calls.pieces) i.addresses.items i.segment i.calls.items i.seats.items i.doors.items c.args.station c.args.pgn c.args.max_len c.in-Some.refusal _ c.self.view_is c.self.invariant.0.at (refused_reply i.segment c.in-Some.refusal (called i.segment (Open c.args.station c.args.pgn c.args.max_len)) (sym c.in-Some.is ∙ c.open_refusal.ensures c.args.pgn c.args.max_len))

pub returns-then-is_full-clause-refused : goal.returns-then-is_full-clause-refused
returns-then-is_full-clause-refused c =
    let i = c.self.inside in
    let call = Open c.args.station c.args.pgn c.args.max_len in
    let free : refusal_of (called (trail i.addresses.items i.calls.items).state call) ≡ None = open_free i.segment _ call c.open_refusal.result c.self.invariant.0.at c.in-None.is (c.open_refusal.ensures c.args.pgn c.args.max_len) in
    subst (λ (v : LiveView). IsOpenCause v c.args.station c.args.pgn c.args.max_len (not_made.Refused TraceFull)) c.self.view_is (inr (refl, free, c.is_full.ensures.full c.if-is_full.true))

pub returns-in_err-doorway-clause-refused : goal.returns-in_err-doorway-clause-refused
returns-in_err-doorway-clause-refused c =
    let i = c.self.inside in
    out_of_memory (λ (e : NotMade). IsOpenCause c.args.self.now c.args.station c.args.pgn c.args.max_len e) _ c.from_residual.ensures (open_lacks (keep i.stopped i.calls.pieces) i.addresses.items i.segment i.calls.items i.seats.items i.doors.items c.args.station c.args.pgn c.args.max_len c.open_refusal.result _ c.self.view_is c.self.invariant.0.at c.in-None.is (c.open_refusal.ensures c.args.pgn c.args.max_len) (c.is_full.ensures.few c.if-is_full.false))

pub returns-in_err-reserve-clause-refused : goal.returns-in_err-reserve-clause-refused
returns-in_err-reserve-clause-refused c =
    let i = c.self.inside in
    out_of_memory (λ (e : NotMade). IsOpenCause c.args.self.now c.args.station c.args.pgn c.args.max_len e) _ c.from_residual-in_err-reserve.ensures (open_lacks (keep i.stopped i.calls.pieces) i.addresses.items i.segment i.calls.items i.seats.items i.doors.items c.args.station c.args.pgn c.args.max_len c.open_refusal.result _ c.self.view_is c.self.invariant.0.at c.in-None.is (c.open_refusal.ensures c.args.pgn c.args.max_len) (c.is_full.ensures.few c.if-is_full.false))

pub returns-in_err-reserve-2-clause-refused : goal.returns-in_err-reserve-2-clause-refused
returns-in_err-reserve-2-clause-refused c =
    let i = c.self.inside in
    out_of_memory (λ (e : NotMade). IsOpenCause c.args.self.now c.args.station c.args.pgn c.args.max_len e) _ c.from_residual-in_err-reserve-2.ensures (open_lacks (keep i.stopped i.calls.pieces) i.addresses.items i.segment i.calls.items i.seats.items i.doors.items c.args.station c.args.pgn c.args.max_len c.open_refusal.result _ c.self.view_is c.self.invariant.0.at c.in-None.is (c.open_refusal.ensures c.args.pgn c.args.max_len) (c.is_full.ensures.few c.if-is_full.false))

pub returns-in_err-port-clause-refused : goal.returns-in_err-port-clause-refused
returns-in_err-port-clause-refused c =
    let i = c.self.inside in
    out_of_memory (λ (e : NotMade). IsOpenCause c.args.self.now c.args.station c.args.pgn c.args.max_len e) _ c.from_residual-in_err-port.ensures (open_lacks (keep i.stopped i.calls.pieces) i.addresses.items i.segment i.calls.items i.seats.items i.doors.items c.args.station c.args.pgn c.args.max_len c.open_refusal.result _ c.self.view_is c.self.invariant.0.at c.in-None.is (c.open_refusal.ensures c.args.pgn c.args.max_len) (c.is_full.ensures.few c.if-is_full.false))

pub returns-in-Refused-clause-refused : goal.returns-in-Refused-clause-refused
returns-in-Refused-clause-refused c =
    let i = c.self.inside in
    open_cause (keep i.stopped i.calls.pieces) i.addresses.items i.segment i.calls.items i.seats.items i.doors.items c.args.station c.args.pgn c.args.max_len c.in-Refused.refusal _ c.self.view_is c.self.invariant.0.at (sym c.in-Refused.is ∙ c.in_ok-port.ensures.reply)

pub returns-in_err-reserve-clause-err : goal.returns-in_err-reserve-clause-err
returns-in_err-reserve-clause-err c =
    let i = c.self.inside in
    on_err _ (unchanged _ i.stopped i.addresses.items i.calls.pieces c.reserve.new.self.pieces i.calls.items c.reserve.new.self.items i.seats.items i.doors.items i.doors.items c.self.view_is c.reserve.ensures.items c.reserve.ensures.pieces refl)

pub returns-in_err-reserve-2-clause-err : goal.returns-in_err-reserve-2-clause-err
returns-in_err-reserve-2-clause-err c =
    let i = c.self.inside in
    on_err _ (unchanged _ i.stopped i.addresses.items i.calls.pieces c.reserve.new.self.pieces i.calls.items c.reserve.new.self.items i.seats.items i.doors.items c.reserve-2.new.self.items c.self.view_is c.reserve.ensures.items c.reserve.ensures.pieces c.reserve-2.ensures.items)

pub returns-in_err-port-clause-err : goal.returns-in_err-port-clause-err
returns-in_err-port-clause-err c =
    let i = c.self.inside in
    on_err _ (unchanged _ i.stopped i.addresses.items i.calls.pieces c.reserve.new.self.pieces i.calls.items c.reserve.new.self.items i.seats.items i.doors.items c.reserve-2.new.self.items c.self.view_is c.reserve.ensures.items c.reserve.ensures.pieces c.reserve-2.ensures.items)

pub returns-in-Refused-clause-err : goal.returns-in-Refused-clause-err
returns-in-Refused-clause-err c =
    let i = c.self.inside in
    unchanged _ i.stopped i.addresses.items i.calls.pieces c.reserve.new.self.pieces i.calls.items c.reserve.new.self.items i.seats.items i.doors.items c.reserve-2.new.self.items c.self.view_is c.reserve.ensures.items c.reserve.ensures.pieces c.reserve-2.ensures.items

pub returns-in-Opened-clause-opened : goal.returns-in-Opened-clause-opened
returns-in-Opened-clause-opened c =
    let i = c.self.inside in
    let ds = i.doors.items in
    let p = c.in-Opened.port in
    let d = c.open-door.result.0 in
    let call = Open c.args.station c.args.pgn c.args.max_len in
    let ys = i.calls.items ++ stored None call ∷ [] in
    let es = c.push_reserved.new.self.items in
    let doors : es ≡ ds ++ new_door p c.args.places d.free d.spare ∷ [] = c.push_reserved.ensures.items ∙ ap (λ (u : List DoorView). u ++ d ∷ []) c.reserve-2.ensures.items ∙ ap (λ (u : DoorView). ds ++ u ∷ []) (c.open-door.ensures.door ∙ ap (λ (n : ℕ). new_door p n d.free d.spare) c.in_ok-doorway.ensures) in
    let calls : c.push_reserved-in-Opened.new.self.items ≡ ys = c.push_reserved-in-Opened.ensures.items ∙ ap (λ (u : List Stored). u ++ stored None call ∷ []) c.reserve.ensures.items in
    let is : Opened p ≡ reply_of i.segment call = sym c.in-Opened.is ∙ c.in_ok-port.ensures.reply in
    viewed (λ (u v : LiveView). OpenedWith u v c.args.station c.args.pgn c.args.max_len c.args.places c.open-door.result.1) _ i.stopped i.addresses.items i.calls.pieces c.push_reserved-in-Opened.new.self.pieces i.calls.items ys c.push_reserved-in-Opened.new.self.items i.seats.items i.seats.items i.seats.items ds es c.self.view_is calls (c.push_reserved-in-Opened.ensures.pieces ∙ c.reserve.ensures.pieces) refl
    (opened_for (keep i.stopped i.calls.pieces) i.addresses.items i.segment i.calls.items ys i.seats.items ds es c.args.station c.args.pgn c.args.max_len c.args.places d.free d.spare p c.open-door.result.1 c.self.invariant.0.at c.open-door.ensures.inbox is refl doors)

pub unreachable-requires : goal.unreachable-requires
unreachable-requires c =
    let addrs = c.self.inside.addresses.items in
    let f = c.in_ok-port.ensures.follows addrs (trail addrs c.self.inside.calls.items).steps c.self.invariant.0.stands in
    absurd (false≢true (subst (IsAnsweredBy (Open c.args.station c.args.pgn c.args.max_len)) c.in-Sent.is f.kind))

pub unreachable-requires-in-Done : goal.unreachable-requires-in-Done
unreachable-requires-in-Done c =
    let addrs = c.self.inside.addresses.items in
    let f = c.in_ok-port.ensures.follows addrs (trail addrs c.self.inside.calls.items).steps c.self.invariant.0.stands in
    absurd (false≢true (sym (subst (IsAnsweredBy (Open c.args.station c.args.pgn c.args.max_len)) c.in-Done.is f.kind).0))

pub push_reserved-requires-in-Opened-clause-room : goal.push_reserved-requires-in-Opened-clause-room
push_reserved-requires-in-Opened-clause-room c = c.in_ok-reserve.ensures.room

pub push_reserved-requires-in-Opened-clause-few : goal.push_reserved-requires-in-Opened-clause-few
push_reserved-requires-in-Opened-clause-few c = few_kept c.self.inside.calls.pieces c.reserve.new.self.pieces c.self.inside.calls.items c.reserve.new.self.items c.reserve.ensures.pieces c.reserve.ensures.items (c.is_full.ensures.few c.if-is_full.false)
