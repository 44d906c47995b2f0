use Rattle.std.proofs.Common.{◌≡◌, ℕ, ◌+◌, ◌<◌, ◌≤◌, List, ◌∷◌, ◌++◌, length, map, get_or, set, refl, sym, ap, ◌∙◌, arith, subst, inl, inr, Some, None, IsOk, ◌^◌, []}
use Rattle.std.proofs.lemmas.Bool.{false≢true}
use Rattle.std.specs.Prelude.{vec_len, vec_capacity}
use Rattle.std.proofs.lemmas.List.{get_or_default}
use Rattle.segment_law.specs.Record.{StandsAt}
use Rattle.segment_law.specs.Calls.{called}
use Rattle.segment_law.specs.declared.call.Call.{Call}
use Rattle.segment_law.specs.declared.reply.Reply.{Reply}
use Rattle.segment_law.specs.declared.reply.Reply.TheVariants.{Opened, Sent, Refused, Done}
use Rattle.live_record.specs.Replies.{reply_of, left_by, IsRefusal, IsAnsweredBy, Follows}
use Rattle.segment_law.specs.declared.refusal.Refusal.TheVariants.{TraceFull}
use Rattle.segment_rings.specs.Views.{SeatView, new_seat, popped_one}
use Rattle.stored_calls.specs.declared.stored.Stored.{Stored}
use Rattle.live_record.specs.declared.owed.Owed.{Owed}
use Rattle.live_record.specs.declared.calls.Piece.{Piece}
use Rattle.live_record.specs.declared.calls.TheConstants.{MOST_CALLS}
use Rattle.live_calls.specs.declared.offer.Ready.{Ready}
use Rattle.live_segment.specs.declared.refused.Accepted.TheVariants as accepted
use Rattle.live_record.specs.Record.{owed_by, trail, stored}
use Rattle.live_record.specs.Past.{count_since}
use Rattle.live_segment.specs.Facts.{Holds}
use Rattle.live_segment.specs.LiveView.{LiveView, seat_free, keep}
use Rattle.live_calls.specs.Offers.{IsReadyToSend, IsCauseFor, LacksRoomToSend, HasSpace}
use Rattle.live_segment.specs.Offers.{AcceptedAs, LacksMemoryFor}
use Rattle.live_ends.specs.Offers.{send_call, owed_for}
use Rattle.live_record.proofs.Trails.{accepted_le}
use Rattle.live_ends.proofs.Giving.{same_doors-refl}
use Rattle.live_segment.proofs.Fronts.{none_at, empty_at, waits_at, free_is}
use Rattle.live_segment.proofs.Holding.{holds-same, same_live}
use Rattle.live_ends.proofs.Results.{on_err}
use Rattle.live_segment.proofs.Viewed.{holds_at, stays, viewed, still}
use Rattle.live_segment.proofs.Keeping.{cut_with, notes_kept-same, notes_kept-set}
use Rattle.live_ends.proofs.SeatsSame.{same_seats-refl}
use Rattle.live_segment.proofs.SeatsSame.{clients-same}
use Rattle.live_segment.proofs.Sending.{holds-send, sent_for, refused_send, popped_at, same_front, lacks_memory_for}
use Rattle.live_segment.proofs.Openings.{refused_reply}
use Rattle.live_segment.proofs.Refusing.{no_cause}
use Rattle.live_segment.proofs.live.Live.accept.Goals as goal

abbrev nobody : SeatView
nobody = new_seat 0 (record { 0 = 0 }) 0 0

within : (k n m o p : ℕ) → k < n → n ≡ m → m ≡ o → p ≡ o → k < p
within k n m o p l e f g = omega arith

at_most : (a b m n : ℕ) → a ≡ m → b ≡ n → m ≤ b → a ≤ n
at_most a b m n e f l = omega arith

below : (a b m n : ℕ) → a ≡ m → b ≡ n → b < m → n < a
below a b m n e f l = omega arith

pub invariant_of-self : goal.invariant_of-self
invariant_of-self c = stays _ _ _ _ _ _ _ _ _ _ _ _ _ _ _ refl c.find_ready.ensures.calls c.find_ready.ensures.pieces refl c.find_ready.ensures.owed c.find_ready.ensures.seats (same_doors-refl _) c.self.invariant

pub returns-in_err-find_ready-clause-err : goal.returns-in_err-find_ready-clause-err
returns-in_err-find_ready-clause-err c =
    let i = c.self.inside in
    on_err _ (still _ i.stopped i.addresses.items i.calls.pieces c.find_ready.new.calls.pieces i.calls.items c.find_ready.new.calls.items i.seats.items c.find_ready.new.seats.items i.doors.items i.doors.items c.self.view_is c.find_ready.ensures.calls c.find_ready.ensures.pieces c.find_ready.ensures.seats (same_doors-refl _))

pub returns-in_err-find_ready-clause-not_refused : goal.returns-in_err-find_ready-clause-not_refused
returns-in_err-find_ready-clause-not_refused c =
    let addrs = c.self.inside.addresses.items in
    let st = c.self.inside.segment in
    let xs = c.self.inside.calls.items in
    let ws = c.self.inside.owed.items in
    let ss = c.self.inside.seats.items in
    let ts = c.find_ready.new.seats.items in
    let ds = c.self.inside.doors.items in
    let k = c.args.client in
    let l' : k < length ts = within k c.len.result _ _ (length ts) c.if-client-len.false c.len.ensures refl c.find_ready.ensures.count in
    let lacks : LacksRoomToSend st (count_since c.self.inside.calls.pieces xs) ws ts k = c.in_err-find_ready.ensures.err in
    on_err _ (viewed (λ (u v : LiveView). LacksMemoryFor u v k) _ c.self.inside.stopped addrs c.self.inside.calls.pieces c.find_ready.new.calls.pieces xs xs c.find_ready.new.calls.items ss ts ts ds ds c.self.view_is c.find_ready.ensures.calls c.find_ready.ensures.pieces refl (lacks_memory_for (keep c.self.inside.stopped c.self.inside.calls.pieces) addrs st xs ws ss ts ds ds k nobody c.self.invariant.0.at c.self.invariant.0.owes l' (clients-same ss ts c.find_ready.ensures.seats) lacks))

pub returns-in_err-number-in-Send-clause-not_refused : goal.returns-in_err-number-in-Send-clause-not_refused
returns-in_err-number-in-Send-clause-not_refused c =
    let addrs = c.self.inside.addresses.items in
    let st = c.self.inside.segment in
    let xs = c.self.inside.calls.items in
    let ws = c.self.inside.owed.items in
    let ss = c.self.inside.seats.items in
    let ts = c.find_ready.new.seats.items in
    let ds = c.self.inside.doors.items in
    let k = c.args.client in
    let d = nobody in
    let l' : k < length ts = within k c.len.result _ _ (length ts) c.if-client-len.false c.len.ensures refl c.find_ready.ensures.count in
    let r = subst (λ (u : Ready). IsReadyToSend st (count_since c.self.inside.calls.pieces xs) ws ts k u) c.in-Send.is c.in_ok-find_ready.ensures.ready in
    let passes : IsOk (called st c.in-Send.call) = c.in_err-number-in-Send.ensures.not_refused in
    let cause : (s : SeatView) → IsCauseFor st (get_or ts k s) None = λ s. let q = r.1 s in (q.0, q.1, no_cause (called st (send_call (get_or ts k s).station q.0)) (subst (λ (u : Call). IsOk (called st u)) q.2 passes)) in
    let lacks : LacksRoomToSend st (count_since c.self.inside.calls.pieces xs) ws ts k = ((r.0.0, λ s. ((r.0.1 s).0, (r.0.1 s).1)), cause) in
    on_err _ (viewed (λ (u v : LiveView). LacksMemoryFor u v k) _ c.self.inside.stopped addrs c.self.inside.calls.pieces c.find_ready.new.calls.pieces xs xs c.find_ready.new.calls.items ss ts ts ds ds c.self.view_is c.find_ready.ensures.calls c.find_ready.ensures.pieces refl (lacks_memory_for (keep c.self.inside.stopped c.self.inside.calls.pieces) addrs st xs ws ss ts ds ds k nobody c.self.invariant.0.at c.self.invariant.0.owes l' (clients-same ss ts c.find_ready.ensures.seats) lacks))

pub invariant_of-self-in-Empty : goal.invariant_of-self-in-Empty
invariant_of-self-in-Empty c = stays _ _ _ _ _ _ _ _ _ _ _ _ _ _ _ refl c.find_ready.ensures.calls c.find_ready.ensures.pieces refl c.find_ready.ensures.owed c.find_ready.ensures.seats (same_doors-refl _) c.self.invariant

pub invariant_of-self-in-Owed : goal.invariant_of-self-in-Owed
invariant_of-self-in-Owed c = stays _ _ _ _ _ _ _ _ _ _ _ _ _ _ _ refl c.find_ready.ensures.calls c.find_ready.ensures.pieces refl c.find_ready.ensures.owed c.find_ready.ensures.seats (same_doors-refl _) c.self.invariant

pub invariant_of-self-in-Full : goal.invariant_of-self-in-Full
invariant_of-self-in-Full c = stays _ _ _ _ _ _ _ _ _ _ _ _ _ _ _ refl c.find_ready.ensures.calls c.find_ready.ensures.pieces refl c.find_ready.ensures.owed c.find_ready.ensures.seats (same_doors-refl _) c.self.invariant

pub invariant_of-self-in_err-number-in-Send : goal.invariant_of-self-in_err-number-in-Send
invariant_of-self-in_err-number-in-Send c = stays _ _ _ _ _ _ _ _ _ _ _ _ _ _ _ c.in_err-number-in-Send.ensures.err c.find_ready.ensures.calls c.find_ready.ensures.pieces refl c.find_ready.ensures.owed c.find_ready.ensures.seats (same_doors-refl _) c.self.invariant

pub returns-in_err-number-in-Send-clause-err : goal.returns-in_err-number-in-Send-clause-err
returns-in_err-number-in-Send-clause-err c =
    let i = c.self.inside in
    on_err _ (still _ i.stopped i.addresses.items i.calls.pieces c.find_ready.new.calls.pieces i.calls.items c.find_ready.new.calls.items i.seats.items c.find_ready.new.seats.items i.doors.items i.doors.items c.self.view_is c.find_ready.ensures.calls c.find_ready.ensures.pieces c.find_ready.ensures.seats (same_doors-refl _))

pub invariant_of-self-in-Refused : goal.invariant_of-self-in-Refused
invariant_of-self-in-Refused c =
    let f = c.in_ok-number-in-Send.ensures.follows c.self.inside.addresses.items (trail c.self.inside.addresses.items c.self.inside.calls.items).steps c.self.invariant.0.stands in
    let same = f.refused (subst IsRefusal (sym c.in-Refused.is) tt) in
    stays _ _ _ _ _ _ _ _ _ _ _ _ _ _ _ same c.find_ready.ensures.calls c.find_ready.ensures.pieces refl c.find_ready.ensures.owed c.find_ready.ensures.seats (same_doors-refl _) c.self.invariant

pub returns-in-Empty-clause-accepted : goal.returns-in-Empty-clause-accepted
returns-in-Empty-clause-accepted c =
    let k = c.args.client in
    let addrs = c.self.inside.addresses.items in
    let xs = c.self.inside.calls.items in
    let ws = c.self.inside.owed.items in
    let ss = c.self.inside.seats.items in
    let ts = c.find_ready.new.seats.items in
    let ds = c.self.inside.doors.items in
    let d = nobody in
    let l' : k < length ts = within k c.len.result _ _ (length ts) c.if-client-len.false c.len.ensures refl c.find_ready.ensures.count in
    let r = subst (λ (u : Ready). IsReadyToSend c.self.inside.segment (count_since c.self.inside.calls.pieces xs) ws ts k u) c.in-Empty.is c.in_ok-find_ready.ensures.ready in
    viewed (λ (u v : LiveView). AcceptedAs u v k accepted.Empty) _ c.self.inside.stopped addrs c.self.inside.calls.pieces c.find_ready.new.calls.pieces xs xs c.find_ready.new.calls.items ss ts ts ds ds c.self.view_is c.find_ready.ensures.calls c.find_ready.ensures.pieces refl (same_live _ _ _ _ _ _ _ c.find_ready.ensures.seats (same_doors-refl _), empty_at (keep c.self.inside.stopped c.self.inside.calls.pieces) addrs xs ts ds k d l' (r d))

pub returns-in-Owed-clause-accepted : goal.returns-in-Owed-clause-accepted
returns-in-Owed-clause-accepted c =
    let k = c.args.client in
    let addrs = c.self.inside.addresses.items in
    let xs = c.self.inside.calls.items in
    let ws = c.self.inside.owed.items in
    let ss = c.self.inside.seats.items in
    let ts = c.find_ready.new.seats.items in
    let ds = c.self.inside.doors.items in
    let d = nobody in
    let l' : k < length ts = within k c.len.result _ _ (length ts) c.if-client-len.false c.len.ensures refl c.find_ready.ensures.count in
    let r = subst (λ (u : Ready). IsReadyToSend c.self.inside.segment (count_since c.self.inside.calls.pieces xs) ws ts k u) c.in-Owed.is c.in_ok-find_ready.ensures.ready in
    let f : get_or (map seat_free ts) k 0 ≡ (get_or ts k d).free = free_is (keep c.self.inside.stopped c.self.inside.calls.pieces) addrs xs ts ds k d l' in
    let o : owed_by k ws ≡ owed_by k (trail addrs xs).owed = ap (owed_by k) c.self.invariant.0.owes in
    viewed (λ (u v : LiveView). AcceptedAs u v k accepted.Owed) _ c.self.inside.stopped addrs c.self.inside.calls.pieces c.find_ready.new.calls.pieces xs xs c.find_ready.new.calls.items ss ts ts ds ds c.self.view_is c.find_ready.ensures.calls c.find_ready.ensures.pieces refl (same_live _ _ _ _ _ _ _ c.find_ready.ensures.seats (same_doors-refl _), waits_at (keep c.self.inside.stopped c.self.inside.calls.pieces) addrs xs ts ds k d l' (r d).0, at_most _ _ _ _ f o (r d).1)

pub returns-in-Full-clause-accepted : goal.returns-in-Full-clause-accepted
returns-in-Full-clause-accepted c =
    let k = c.args.client in
    let addrs = c.self.inside.addresses.items in
    let xs = c.self.inside.calls.items in
    let ws = c.self.inside.owed.items in
    let ss = c.self.inside.seats.items in
    let ts = c.find_ready.new.seats.items in
    let ds = c.self.inside.doors.items in
    let d = nobody in
    let l' : k < length ts = within k c.len.result _ _ (length ts) c.if-client-len.false c.len.ensures refl c.find_ready.ensures.count in
    let r = subst (λ (u : Ready). IsReadyToSend c.self.inside.segment (count_since c.self.inside.calls.pieces xs) ws ts k u) c.in-Full.is c.in_ok-find_ready.ensures.ready in
    let f : get_or (map seat_free ts) k 0 ≡ (get_or ts k d).free = free_is (keep c.self.inside.stopped c.self.inside.calls.pieces) addrs xs ts ds k d l' in
    let o : owed_by k ws ≡ owed_by k (trail addrs xs).owed = ap (owed_by k) c.self.invariant.0.owes in
    viewed (λ (u v : LiveView). AcceptedAs u v k (accepted.Refused TraceFull)) _ c.self.inside.stopped addrs c.self.inside.calls.pieces c.find_ready.new.calls.pieces xs xs c.find_ready.new.calls.items ss ts ts ds ds c.self.view_is c.find_ready.ensures.calls c.find_ready.ensures.pieces refl (same_live _ _ _ _ _ _ _ c.find_ready.ensures.seats (same_doors-refl _), waits_at (keep c.self.inside.stopped c.self.inside.calls.pieces) addrs xs ts ds k d l' (r.1 d).0, below _ _ _ _ f o (r.1 d).1, inl (refl, r.0))

pub returns-in-Refused-clause-accepted : goal.returns-in-Refused-clause-accepted
returns-in-Refused-clause-accepted c =
    let k = c.args.client in
    let addrs = c.self.inside.addresses.items in
    let xs = c.self.inside.calls.items in
    let ws = c.self.inside.owed.items in
    let ss = c.self.inside.seats.items in
    let ts = c.find_ready.new.seats.items in
    let ds = c.self.inside.doors.items in
    let d = nobody in
    let l' : k < length ts = within k c.len.result _ _ (length ts) c.if-client-len.false c.len.ensures refl c.find_ready.ensures.count in
    let r = subst (λ (u : Ready). IsReadyToSend c.self.inside.segment (count_since c.self.inside.calls.pieces xs) ws ts k u) c.in-Send.is c.in_ok-find_ready.ensures.ready in
    let f : get_or (map seat_free ts) k 0 ≡ (get_or ts k d).free = free_is (keep c.self.inside.stopped c.self.inside.calls.pieces) addrs xs ts ds k d l' in
    let o : owed_by k ws ≡ owed_by k (trail addrs xs).owed = ap (owed_by k) c.self.invariant.0.owes in
    let st = c.self.inside.segment in
    let s = get_or ts k d in
    let q = r.1 d in
    let e = sym c.in-Refused.is ∙ c.in_ok-number-in-Send.ensures.reply ∙ ap (reply_of st) q.2 in
    let at : s ≡ get_or ts k s = get_or_default ts k d s l' in
    viewed (λ (u v : LiveView). AcceptedAs u v k (accepted.Refused c.in-Refused.refusal)) _ c.self.inside.stopped addrs c.self.inside.calls.pieces c.find_ready.new.calls.pieces xs xs c.find_ready.new.calls.items ss ts ts ds ds c.self.view_is c.find_ready.ensures.calls c.find_ready.ensures.pieces refl (
      same_live _ _ _ _ _ _ _ c.find_ready.ensures.seats (same_doors-refl _),
      waits_at (keep c.self.inside.stopped c.self.inside.calls.pieces) addrs xs ts ds k d l' (r.0.1 d).0,
      below _ _ _ _ f o (r.0.1 d).1,
      inr (refused_send (keep c.self.inside.stopped c.self.inside.calls.pieces) addrs st xs ss ts ds ds k q.0 s _ c.self.invariant.0.at l' at (clients-same ss ts c.find_ready.ensures.seats) r.0.0 q.1 e),
    )

pub store-requires-clause-few : goal.store-requires-clause-few
store-requires-clause-few c s =
    let k = c.args.client in
    let xs = c.self.inside.calls.items in
    let ts = c.find_ready.new.seats.items in
    let h : Holds _ _ xs _ ts _ = holds-same _ _ _ _ _ _ _ _ c.find_ready.ensures.seats (same_doors-refl _) c.self.invariant.0 in
    let l' : k < length ts = within k c.len.result _ _ (length ts) c.if-client-len.false c.len.ensures refl c.find_ready.ensures.count in
    let e = ap length (popped_at 0 k xs ts s l' h.ids h.pops) in
    let fits : length xs + 1 < 2 ^ 64 = subst (λ (u : Ready). HasSpace (length xs + 1) (2 ^ 64) u) c.in-Send.is c.in_ok-find_ready.ensures.few in
    omega (arith, e, accepted_le (0 + k) xs, fits)

pub unreachable-requires : goal.unreachable-requires
unreachable-requires c =
    let r = subst (λ (u : Ready). IsReadyToSend c.self.inside.segment (count_since c.self.inside.calls.pieces c.self.inside.calls.items) c.self.inside.owed.items c.find_ready.new.seats.items c.args.client u) c.in-Send.is c.in_ok-find_ready.ensures.ready in
    let q = r.1 nobody in
    let f = c.in_ok-number-in-Send.ensures.follows c.self.inside.addresses.items (trail c.self.inside.addresses.items c.self.inside.calls.items).steps c.self.invariant.0.stands in
    let k = subst (λ (x : Call). IsAnsweredBy x (Opened c.in-Opened.field-0)) q.2 (subst (IsAnsweredBy c.in-Send.call) c.in-Opened.is f.kind) in
    absurd (false≢true k)

pub invariant_of-self-in-Sent : goal.invariant_of-self-in-Sent
invariant_of-self-in-Sent c =
    let k = c.args.client in
    let addrs = c.self.inside.addresses.items in
    let st = c.self.inside.segment in
    let xs = c.self.inside.calls.items in
    let ws = c.self.inside.owed.items in
    let ts = c.find_ready.new.seats.items in
    let ds = c.self.inside.doors.items in
    let d = nobody in
    let s = get_or ts k d in
    let h : Holds addrs st xs ws ts ds = holds-same _ _ _ _ _ _ _ _ c.find_ready.ensures.seats (same_doors-refl _) c.self.invariant.0 in
    let l' : k < length ts = within k c.len.result _ _ (length ts) c.if-client-len.false c.len.ensures refl c.find_ready.ensures.count in
    let r = subst (λ (u : Ready). IsReadyToSend c.self.inside.segment (count_since c.self.inside.calls.pieces xs) ws ts k u) c.in-Send.is c.in_ok-find_ready.ensures.ready in
    let q = r.1 d in
    let e = c.store.ensures.stored d in
    let x = e.0 in
    let same : q.0 ≡ x = same_front q.0 x s.ahead e.1.rest q.1 e.1.front in
    let call : c.in-Send.call ≡ send_call s.station x = q.2 ∙ ap (send_call s.station) same in
    let rep : reply_of st (send_call s.station x) ≡ Sent c.in-Sent.number = ap (reply_of st) (sym call) ∙ sym c.in_ok-number-in-Send.ensures.reply ∙ c.in-Sent.is in
    let aft : c.make.new.segment ≡ left_by st (send_call s.station x) = c.in_ok-number-in-Send.ensures.after ∙ ap (left_by st) call in
    let steps = (trail addrs xs).steps in
    let stands0 = c.in_ok-number-in-Send.ensures.stands addrs steps h.stands in
    let stands : StandsAt addrs (steps ++ (send_call s.station x, Sent c.in-Sent.number) ∷ []) c.make.new.segment =
    subst (λ (u : Reply). StandsAt addrs (steps ++ (send_call s.station x, u) ∷ []) c.make.new.segment) c.in-Sent.is (subst (λ (u : Call). StandsAt addrs (steps ++ (u, c.in_ok-number-in-Send.field-0) ∷ []) c.make.new.segment) call stands0) in
    let f0 = c.in_ok-number-in-Send.ensures.follows addrs steps h.stands in
    let f : Follows st (send_call s.station x) c.make.new.segment (Sent c.in-Sent.number) =
    subst (λ (u : Reply). Follows st (send_call s.station x) c.make.new.segment u) c.in-Sent.is (subst (λ (u : Call). Follows st u c.make.new.segment c.in_ok-number-in-Send.field-0) call f0) in
    let at : s ≡ get_or ts k s = get_or_default ts k d s l' in
    let fits : length xs + 1 < 2 ^ 64 = subst (λ (u : Ready). HasSpace (length xs + 1) (2 ^ 64) u) c.in-Send.is c.in_ok-find_ready.ensures.few in
    let more : List Stored = stored (Some k) (send_call s.station x) ∷ [] in
    let calls : c.store.new.calls.items ≡ xs ++ more = e.1.calls ∙ ap (λ (u : List Stored). u ++ more) c.find_ready.ensures.calls in
    let owed : c.store.new.owed.items ≡ ws ++ owed_for k s x c.in-Sent.number ∷ [] = e.1.owed ∙ ap (λ (u : List Owed). u ++ owed_for k s x c.in-Sent.number ∷ []) c.find_ready.ensures.owed in
    holds_at _ _ _ _ _ _ _ _ _ _ _ _ _ _ _ refl calls (c.store.ensures.pieces ∙ c.find_ready.ensures.pieces) refl owed e.1.seats refl (holds-send addrs st c.make.new.segment xs ws ts ds k c.in-Sent.number x e.1.rest s h l' fits at (r.0.1 d).1 (r.0.1 d).2 rep aft stands f) (cut_with _ _ _ _ _ _ _ (λ k0. notes_kept-set k ts s (popped_one s x e.1.rest) (ap (λ (u : SeatView). u.gone) at) (notes_kept-same c.self.inside.seats.items ts c.find_ready.ensures.seats k0)) (λ k0. k0) c.self.invariant.1)

pub returns-in-Sent-clause-accepted : goal.returns-in-Sent-clause-accepted
returns-in-Sent-clause-accepted c =
    let k = c.args.client in
    let addrs = c.self.inside.addresses.items in
    let st = c.self.inside.segment in
    let xs = c.self.inside.calls.items in
    let ws = c.self.inside.owed.items in
    let ss = c.self.inside.seats.items in
    let ts = c.find_ready.new.seats.items in
    let ds = c.self.inside.doors.items in
    let d = nobody in
    let s = get_or ts k d in
    let l' : k < length ts = within k c.len.result _ _ (length ts) c.if-client-len.false c.len.ensures refl c.find_ready.ensures.count in
    let r = subst (λ (u : Ready). IsReadyToSend c.self.inside.segment (count_since c.self.inside.calls.pieces xs) ws ts k u) c.in-Send.is c.in_ok-find_ready.ensures.ready in
    let q = r.1 d in
    let e = c.store.ensures.stored d in
    let x = e.0 in
    let same : q.0 ≡ x = same_front q.0 x s.ahead e.1.rest q.1 e.1.front in
    let call : c.in-Send.call ≡ send_call s.station x = q.2 ∙ ap (send_call s.station) same in
    let rep : reply_of st (send_call s.station x) ≡ Sent c.in-Sent.number = ap (reply_of st) (sym call) ∙ sym c.in_ok-number-in-Send.ensures.reply ∙ c.in-Sent.is in
    let at : s ≡ get_or ts k s = get_or_default ts k d s l' in
    let more : List Stored = stored (Some k) (send_call s.station x) ∷ [] in
    viewed (λ (u v : LiveView). AcceptedAs u v k (accepted.Sent c.in-Sent.number)) _ c.self.inside.stopped addrs c.self.inside.calls.pieces c.store.new.calls.pieces xs (xs ++ more) c.store.new.calls.items ss (set ts k (popped_one s x e.1.rest)) c.store.new.self.items ds ds c.self.view_is (e.1.calls ∙ ap (λ (u : List Stored). u ++ more) c.find_ready.ensures.calls) (c.store.ensures.pieces ∙ c.find_ready.ensures.pieces) e.1.seats (x, sent_for (keep c.self.inside.stopped c.self.inside.calls.pieces) addrs st xs ss ts ds ds k c.in-Sent.number x e.1.rest s c.self.invariant.0.at l' at (clients-same ss ts c.find_ready.ensures.seats) refl (r.0.1 d).0.0 rep)

pub unreachable-requires-in-Done : goal.unreachable-requires-in-Done
unreachable-requires-in-Done c =
    let r = subst (λ (u : Ready). IsReadyToSend c.self.inside.segment (count_since c.self.inside.calls.pieces c.self.inside.calls.items) c.self.inside.owed.items c.find_ready.new.seats.items c.args.client u) c.in-Send.is c.in_ok-find_ready.ensures.ready in
    let q = r.1 nobody in
    let f = c.in_ok-number-in-Send.ensures.follows c.self.inside.addresses.items (trail c.self.inside.addresses.items c.self.inside.calls.items).steps c.self.invariant.0.stands in
    let k = subst (λ (x : Call). IsAnsweredBy x (Done c.in-Done.field-0)) q.2 (subst (IsAnsweredBy c.in-Send.call) c.in-Done.is f.kind) in
    absurd (false≢true (sym k.1))

pub invariant_of-self-in-NotSent : goal.invariant_of-self-in-NotSent
invariant_of-self-in-NotSent c = stays _ _ _ _ _ _ _ _ _ _ _ _ _ _ _ refl c.find_ready.ensures.calls c.find_ready.ensures.pieces refl c.find_ready.ensures.owed c.find_ready.ensures.seats (same_doors-refl _) c.self.invariant

pub returns-in-NotSent-clause-accepted : goal.returns-in-NotSent-clause-accepted
returns-in-NotSent-clause-accepted c =
    let k = c.args.client in
    let addrs = c.self.inside.addresses.items in
    let st = c.self.inside.segment in
    let xs = c.self.inside.calls.items in
    let ws = c.self.inside.owed.items in
    let ss = c.self.inside.seats.items in
    let ts = c.find_ready.new.seats.items in
    let ds = c.self.inside.doors.items in
    let d = nobody in
    let l' : k < length ts = within k c.len.result _ _ (length ts) c.if-client-len.false c.len.ensures refl c.find_ready.ensures.count in
    let r = subst (λ (u : Ready). IsReadyToSend st (count_since c.self.inside.calls.pieces xs) ws ts k u) c.in-NotSent.is c.in_ok-find_ready.ensures.ready in
    let f : get_or (map seat_free ts) k 0 ≡ (get_or ts k d).free = free_is (keep c.self.inside.stopped c.self.inside.calls.pieces) addrs xs ts ds k d l' in
    let o : owed_by k ws ≡ owed_by k (trail addrs xs).owed = ap (owed_by k) c.self.invariant.0.owes in
    let s = get_or ts k d in
    let q : IsCauseFor st s (Some c.in-NotSent.refusal) = r.1 d in
    let e : Refused c.in-NotSent.refusal ≡ reply_of st (send_call s.station q.0) = refused_reply st c.in-NotSent.refusal (called st (send_call s.station q.0)) q.2 in
    let at : s ≡ get_or ts k s = get_or_default ts k d s l' in
    viewed (λ (u v : LiveView). AcceptedAs u v k (accepted.Refused c.in-NotSent.refusal)) _ c.self.inside.stopped addrs c.self.inside.calls.pieces c.find_ready.new.calls.pieces xs xs c.find_ready.new.calls.items ss ts ts ds ds c.self.view_is c.find_ready.ensures.calls c.find_ready.ensures.pieces refl (
      same_live _ _ _ _ _ _ _ c.find_ready.ensures.seats (same_doors-refl _),
      waits_at (keep c.self.inside.stopped c.self.inside.calls.pieces) addrs xs ts ds k d l' (r.0.1 d).0,
      below _ _ _ _ f o (r.0.1 d).1,
      inr (refused_send (keep c.self.inside.stopped c.self.inside.calls.pieces) addrs st xs ss ts ds ds k q.0 s _ c.self.invariant.0.at l' at (clients-same ss ts c.find_ready.ensures.seats) r.0.0 q.1 e),
    )

pub store-requires-clause-within : goal.store-requires-clause-within
store-requires-clause-within c = within c.args.client c.len.result _ _ (length c.find_ready.new.seats.items) c.if-client-len.false c.len.ensures refl c.find_ready.ensures.count

pub store-requires-clause-waits : goal.store-requires-clause-waits
store-requires-clause-waits c s =
    let r = subst (λ (u : Ready). IsReadyToSend c.self.inside.segment (count_since c.self.inside.calls.pieces c.self.inside.calls.items) c.self.inside.owed.items c.find_ready.new.seats.items c.args.client u) c.in-Send.is c.in_ok-find_ready.ensures.ready in
    (r.0.1 s).0.1

pub store-requires-clause-calls : goal.store-requires-clause-calls
store-requires-clause-calls c = subst (λ (u : Ready). HasSpace 0 c.find_ready.new.calls.spare u) c.in-Send.is c.in_ok-find_ready.ensures.space.0

pub store-requires-clause-owed : goal.store-requires-clause-owed
store-requires-clause-owed c = subst (λ (u : Ready). HasSpace (vec_len c.find_ready.new.owed) (vec_capacity c.find_ready.new.owed) u) c.in-Send.is c.in_ok-find_ready.ensures.space.1

pub store-requires-clause-stored : goal.store-requires-clause-stored
store-requires-clause-stored c =
    let i = c.self.inside in
    let n = c.find_ready.new.calls in
    let r = subst (λ (u : Ready). IsReadyToSend i.segment (count_since i.calls.pieces i.calls.items) i.owed.items c.find_ready.new.seats.items c.args.client u) c.in-Send.is c.in_ok-find_ready.ensures.ready in
    let few : count_since n.pieces i.calls.items < MOST_CALLS = subst (λ (u : List Piece). count_since u i.calls.items < MOST_CALLS) (sym c.find_ready.ensures.pieces) r.0.0 in
    subst (λ (u : List Stored). count_since n.pieces u < MOST_CALLS) (sym c.find_ready.ensures.calls) few

pub returns-then-client-len-clause-accepted : goal.returns-then-client-len-clause-accepted
returns-then-client-len-clause-accepted c =
    let i = c.self.inside in
    let keeps = keep i.stopped i.calls.pieces in
    let none : length i.seats.items ≤ c.args.client = subst (λ (m : ℕ). m ≤ c.args.client) c.len.ensures c.if-client-len.true in
    subst (λ (v : LiveView). AcceptedAs v v c.args.client accepted.Empty) c.self.view_is (same_live keeps i.addresses.items i.calls.items i.seats.items i.seats.items i.doors.items i.doors.items (same_seats-refl _) (same_doors-refl _), none_at keeps i.addresses.items i.calls.items i.seats.items i.doors.items c.args.client none)
