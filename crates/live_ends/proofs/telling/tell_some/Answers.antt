use Rattle.std.proofs.Common.{◌≡◌, List, ◌∷◌, length, drop, refl, sym, ap, ◌∙◌, subst, []}
use Rattle.std.specs.Option.{option_copied}
use Rattle.message_events.specs.declared.event.Event.{Event}
use Rattle.live_record.specs.declared.owed.Owed.{Owed}
use Rattle.live_record.specs.Record.{settle_notes, settle_owed, notes_at, owed_after}
use Rattle.live_ends.specs.Ends.{IdsFrom, PortsApart, give_all, note_all}
use Rattle.live_ends.specs.Places.{TakesAll, EnoughFor}
use Rattle.live_ends.proofs.Buffers.{enough-front}
use Rattle.live_ends.proofs.Giving.{give_all-append, give_all_none, takes-front, takes-rest, apart-give_all}
use Rattle.live_ends.proofs.Noting.{note_all-append, note_all_none, ids-note_all, room-note_all, length-note_all, owed_after_event, within_after_event}
use Rattle.live_ends.proofs.Lists.{first_of, untold}
use Rattle.live_ends.proofs.telling.tell_some.Goals as goal

pub returns-in_default-clause-doors : goal.returns-in_default-clause-doors
returns-in_default-clause-doors c =
    let none : c.args.events.now ≡ [] = untold c.args.events.now (sym c.get.ensures ∙ ap (λ o. option_copied o) c.in_default.is) in
    sym (ap (λ (es : List Event). give_all es c.args.doors.now.items) none ∙ give_all_none [] c.args.doors.now.items (λ q. refl))

pub returns-in_default-clause-seats : goal.returns-in_default-clause-seats
returns-in_default-clause-seats c =
    let none : c.args.events.now ≡ [] = untold c.args.events.now (sym c.get.ensures ∙ ap (λ o. option_copied o) c.in_default.is) in
    sym (ap (λ (es : List Event). note_all (settle_notes c.args.owed.now.items es) c.args.seats.now.items) none ∙ note_all_none c.args.seats.now.items)

pub hand_one-requires-clause-takes : goal.hand_one-requires-clause-takes
hand_one-requires-clause-takes c =
    let rest = drop 1 c.args.events.now in
    let at : c.args.events.now ≡ c.in-Some.first.now ∷ rest = first_of c.args.events.now c.in-Some.first.now (sym c.get.ensures ∙ ap (λ o. option_copied o) c.in-Some.is) in
    takes-front (c.in-Some.first.now ∷ []) rest c.args.doors.now.items (subst (λ (es : List Event). TakesAll es c.args.doors.now.items) at c.requires.takes)

pub hand_all-requires-clause-apart : goal.hand_all-requires-clause-apart
hand_all-requires-clause-apart c = subst PortsApart (sym c.hand_one.ensures.doors) (apart-give_all (c.in-Some.first.now ∷ []) c.args.doors.now.items c.requires.apart)

pub hand_all-requires-clause-takes : goal.hand_all-requires-clause-takes
hand_all-requires-clause-takes c =
    let rest = drop 1 c.args.events.now in
    let ds = c.args.doors.now.items in
    let at : c.args.events.now ≡ c.in-Some.first.now ∷ rest = first_of c.args.events.now c.in-Some.first.now (sym c.get.ensures ∙ ap (λ o. option_copied o) c.in-Some.is) in
    let h : TakesAll rest (give_all (c.in-Some.first.now ∷ []) ds) = takes-rest (c.in-Some.first.now ∷ []) rest ds (subst (λ (es : List Event). TakesAll es ds) at c.requires.takes) in
    subst (λ (es : List Event). TakesAll es c.hand_one.new.self.items) (sym c.rest.ensures) (subst (TakesAll rest) (sym c.hand_one.ensures.doors) h)

pub settle-requires-clause-ids : goal.settle-requires-clause-ids
settle-requires-clause-ids c = subst (IdsFrom 0) (sym c.settle_event.ensures.seats) (ids-note_all 0 (notes_at c.args.owed.now.items c.in-Some.first.now) c.args.seats.now.items c.requires.ids)

pub settle-requires-clause-room : goal.settle-requires-clause-room
settle-requires-clause-room c =
    let ws = c.args.owed.now.items in
    let e = c.in-Some.first.now in
    rw (c.settle_event.ensures.owed, c.settle_event.ensures.seats) (room-note_all (notes_at ws e) ws (owed_after ws e) c.args.seats.now.items (λ k. owed_after_event k ws e) c.requires.room)

pub settle-requires-clause-within : goal.settle-requires-clause-within
settle-requires-clause-within c =
    let ws = c.args.owed.now.items in
    let e = c.in-Some.first.now in
    rw (c.settle_event.ensures.owed, c.settle_event.ensures.seats, length-note_all) (within_after_event (length c.args.seats.now.items) ws e c.requires.within)

pub returns-clause-doors : goal.returns-clause-doors
returns-clause-doors c =
    let rest = drop 1 c.args.events.now in
    let ds = c.args.doors.now.items in
    let at : c.args.events.now ≡ c.in-Some.first.now ∷ rest = first_of c.args.events.now c.in-Some.first.now (sym c.get.ensures ∙ ap (λ o. option_copied o) c.in-Some.is) in
    c.hand_all.ensures ∙ ap (λ (es : List Event). give_all es c.hand_one.new.self.items) c.rest.ensures ∙ ap (give_all rest) c.hand_one.ensures.doors
    ∙ sym (give_all-append (c.in-Some.first.now ∷ []) rest ds) ∙ ap (λ (es : List Event). give_all es ds) (sym at)

pub returns-clause-seats : goal.returns-clause-seats
returns-clause-seats c =
    let rest = drop 1 c.args.events.now in
    let ws = c.args.owed.now.items in
    let ss = c.args.seats.now.items in
    let e = c.in-Some.first.now in
    let at : c.args.events.now ≡ e ∷ rest = first_of c.args.events.now e (sym c.get.ensures ∙ ap (λ o. option_copied o) c.in-Some.is) in
    c.settle.ensures.seats ∙ ap (λ (es : List Event). note_all (settle_notes c.settle_event.new.owed.items es) c.settle_event.new.self.items) c.rest-2.ensures
    ∙ ap (λ (vs : List Owed). note_all (settle_notes vs rest) c.settle_event.new.self.items) c.settle_event.ensures.owed
    ∙ ap (note_all (settle_notes (owed_after ws e) rest)) c.settle_event.ensures.seats
    ∙ sym (note_all-append (notes_at ws e) (settle_notes (owed_after ws e) rest) ss)
    ∙ ap (λ (es : List Event). note_all (settle_notes ws es) ss) (sym at)

pub returns-in_default-clause-owed : goal.returns-in_default-clause-owed
returns-in_default-clause-owed c =
    let none : c.args.events.now ≡ [] = untold c.args.events.now (sym c.get.ensures ∙ ap (λ o. option_copied o) c.in_default.is) in
    sym (ap (settle_owed c.args.owed.now.items) none)

pub hand_one-requires-clause-enough : goal.hand_one-requires-clause-enough
hand_one-requires-clause-enough c =
    let rest = drop 1 c.args.events.now in
    let e = c.in-Some.first.now in
    let at : c.args.events.now ≡ e ∷ rest = first_of c.args.events.now e (sym c.get.ensures ∙ ap (λ o. option_copied o) c.in-Some.is) in
    let h = c.requires.enough in
    (h.0, enough-front h.0 e rest c.args.buffers.items (subst (λ (es : List Event). EnoughFor h.0 es c.args.buffers.items) at h.1))
