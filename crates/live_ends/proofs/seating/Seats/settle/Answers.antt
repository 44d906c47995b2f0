use Rattle.std.proofs.Common.{◌≡◌, ◌+◌, ◌<◌, length, drop, List, ◌∷◌, ◌++◌, sym, ap, ◌∙◌, arith, subst}
use Rattle.std.proofs.lemmas.List.{at_drop_more, at_drop_all}
use Rattle.message_events.specs.declared.event.Event.{Event}
use Rattle.live_record.specs.Record.{settle_notes, settle_owed, notes_at, owed_after}
use Rattle.live_ends.specs.Ends.{IdsFrom, note_all}
use Rattle.live_ends.proofs.Noting.{note_all-append, note_all_none, ids-note_all, room-note_all, length-note_all, owed_after_event, within_after_event}
use Rattle.live_ends.proofs.seating.Seats.settle.Goals as goal

pub loop-event-preserved : goal.loop-event-preserved
loop-event-preserved c =
    let v = c.loop-event.invariant in
    let ws = c.loop-event.owed.items in
    let ss = c.loop-event.self.items in
    let es = c.args.events.now in
    let i = c.loop-event.event-index in
    let e = c.event-item.result in
    let rest = drop (i + 1) es in
    let l : i < length es = omega arith in
    let at : drop i es ≡ e ∷ rest = at_drop_more (λ (x : List Event). x) es i e l ∙ ap (λ (x : Event). x ∷ rest) (sym c.event-item.is) in
    let o = c.settle_event.ensures.owed in
    let s = c.settle_event.ensures.seats in
    let ns = notes_at ws e in
    let more : settle_notes ws (drop i es) ≡ ns ++ settle_notes (owed_after ws e) rest = ap (settle_notes ws) at in
    record {
      ids = subst (IdsFrom 0) (sym s) (ids-note_all 0 ns ss v.ids);
      count = ap length s ∙ length-note_all ns ss ∙ v.count;
      room = rw (o, s) (room-note_all ns ws (owed_after ws e) ss (λ c'. owed_after_event c' ws e) v.room);
      within = rw (o, s, length-note_all) (within_after_event (length ss) ws e v.within);
      owed = ap (λ x. settle_owed x rest) o ∙ sym (ap (settle_owed ws) at) ∙ v.owed;
      seats = rw (o, s) (sym (note_all-append ns (settle_notes (owed_after ws e) rest) ss) ∙ ap (λ x. note_all x ss) (sym more) ∙ v.seats);
    }

pub returns-clause-seats : goal.returns-clause-seats
returns-clause-seats c =
    let v = c.loop-event.invariant in
    let ws = c.loop-event.owed.items in
    let ss = c.loop-event.self.items in
    let es = c.args.events.now in
    let i = c.loop-event.event-index in
    let at = at_drop_all (λ (x : List Event). note_all (settle_notes ws x) ss) es i (omega arith) in
    sym (note_all_none ss) ∙ sym at ∙ v.seats
