use Rattle.std.proofs.Common.{◌≡◌, ◌+◌, List, ◌∷◌, ◌<◌, length, drop, refl, sym, ap, ◌∙◌, arith, subst, []}
use Rattle.std.proofs.lemmas.List.{at_drop_more, at_drop_all}
use Rattle.message_events.specs.declared.event.Event.{Event}
use Rattle.live_ends.specs.Ends.{PortsApart, give_all}
use Rattle.live_ends.specs.Places.{TakesAll, EnoughFor}
use Rattle.live_ends.proofs.Giving.{give_all-append, give_all_none, takes-front, takes-rest, apart-give_all}
use Rattle.live_ends.proofs.Buffers.{enough-front}
use Rattle.live_ends.proofs.hand.hand_all.Goals as goal

pub hand_one-requires-clause-takes : goal.hand_one-requires-clause-takes
hand_one-requires-clause-takes c =
    let es = c.args.events.now in
    let i = c.loop-event.event-index in
    let e = c.event-item.result in
    let l : i < length es = omega arith in
    let at : drop i es ≡ e ∷ drop (i + 1) es = at_drop_more (λ (x : List Event). x) es i e l ∙ ap (λ (x : Event). x ∷ drop (i + 1) es) (sym c.event-item.is) in
    takes-front (e ∷ []) (drop (i + 1) es) c.loop-event.doors.items (subst (λ (x : List Event). TakesAll x c.loop-event.doors.items) at c.loop-event.invariant.takes)

pub hand_one-requires-clause-enough : goal.hand_one-requires-clause-enough
hand_one-requires-clause-enough c =
    let es = c.args.events.now in
    let i = c.loop-event.event-index in
    let e = c.event-item.result in
    let l : i < length es = omega arith in
    let at : drop i es ≡ e ∷ drop (i + 1) es = at_drop_more (λ (x : List Event). x) es i e l ∙ ap (λ (x : Event). x ∷ drop (i + 1) es) (sym c.event-item.is) in
    let h = c.loop-event.invariant.enough in
    (h.0, enough-front h.0 e (drop (i + 1) es) c.loop-event.buffers.items (subst (λ (x : List Event). EnoughFor h.0 x c.loop-event.buffers.items) at h.1))

pub loop-event-preserved : goal.loop-event-preserved
loop-event-preserved c =
    let es = c.args.events.now in
    let i = c.loop-event.event-index in
    let e = c.event-item.result in
    let ds = c.loop-event.doors.items in
    let rest = drop (i + 1) es in
    let l : i < length es = omega arith in
    let at : drop i es ≡ e ∷ rest = at_drop_more (λ (x : List Event). x) es i e l ∙ ap (λ (x : Event). x ∷ rest) (sym c.event-item.is) in
    let v = c.loop-event.invariant in
    let new : c.hand_one.new.self.items ≡ give_all (e ∷ []) ds = c.hand_one.ensures.doors in
    let takes = subst (λ (x : List Event). TakesAll x ds) at v.takes in
    record {
      apart = subst PortsApart (sym new) (apart-give_all (e ∷ []) ds v.apart);
      takes = subst (TakesAll rest) (sym new) (takes-rest (e ∷ []) rest ds takes);
      enough = (v.enough.0, c.hand_one.ensures.enough v.enough.0 rest (subst (λ (x : List Event). EnoughFor v.enough.0 x c.loop-event.buffers.items) at v.enough.1));
      doors = ap (give_all rest) new ∙ sym (give_all-append (e ∷ []) rest ds) ∙ ap (λ (x : List Event). give_all x ds) (sym at) ∙ v.doors;
    }

pub returns : goal.returns
returns c =
    let ds = c.loop-event.doors.items in
    let es = c.args.events.now in
    let i = c.loop-event.event-index in
    let at = at_drop_all (λ (x : List Event). give_all x ds) es i (omega arith) in
    sym (give_all_none [] ds (λ q. refl)) ∙ sym at ∙ c.loop-event.invariant.doors
