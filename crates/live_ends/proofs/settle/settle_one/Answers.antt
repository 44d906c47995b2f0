use Rattle.std.proofs.Common.{◌≡◌, ◌≤◌, get_or, set, ◌∷◌, Option, sym, ap, ◌∙◌, arith, []}
use Rattle.segment_rings.specs.declared.words.Note.{Note}
use Rattle.live_record.specs.declared.owed.Owed.{Owed}
use Rattle.segment_rings.specs.Views.{SeatView, with_note, has_noted_news}
use Rattle.live_record.specs.Record.{note_found, owed_by}
use Rattle.live_ends.specs.Ends.{note_all}
use Rattle.live_ends.proofs.Noting.{find_within, id_at, free_at, spare_at, note_at, note_all_none, has_owed}
use Rattle.live_ends.proofs.Waiting.{marks_in}
use Rattle.live_ends.proofs.settle.settle_one.Goals as goal

pub index_mut-seat-requires : goal.index_mut-seat-requires
index_mut-seat-requires c =
    let w = find_within _ _ _ _ _ _ c.requires.within (sym c.in-Some.ensures.found) in
    omega (arith, w, c.args.seats.now.ok.0)

pub note-is_first-requires-clause-free : goal.note-is_first-requires-clause-free
note-is_first-requires-clause-free c =
    let k = c.in-Some.w.client in
    let ss = c.args.seats.now.items in
    let s = c.index_mut-seat.result.now in
    let at : s ≡ get_or ss k s = c.index_mut-seat.ensures.value in
    let l = find_within _ _ _ _ _ _ c.requires.within (sym c.in-Some.ensures.found) in
    let i = id_at 0 k ss s c.requires.ids l in
    let f = free_at c.args.owed.now.items k ss s c.requires.room l in
    let one = has_owed c.args.owed.now.items c.args.from c.args.to c.args.number c.in-Some.w (sym c.in-Some.ensures.found) in
    let same : (get_or ss k s).id ≡ k = omega (arith, i) in
    let f' : owed_by k c.args.owed.now.items ≤ (get_or ss k s).free = rw same at f in
    let f'' : (get_or ss k s).free ≡ s.free = ap (λ (x : SeatView). x.free) (sym at) in
    omega (arith, f', f'', one)

pub note-is_first-requires-clause-spare : goal.note-is_first-requires-clause-spare
note-is_first-requires-clause-spare c =
    let k = c.in-Some.w.client in
    let ss = c.args.seats.now.items in
    let s = c.index_mut-seat.result.now in
    let at : s ≡ get_or ss k s = c.index_mut-seat.ensures.value in
    let l = find_within _ _ _ _ _ _ c.requires.within (sym c.in-Some.ensures.found) in
    let i = id_at 0 k ss s c.requires.ids l in
    let f = spare_at c.args.owed.now.items k ss s c.requires.room l in
    let one = has_owed c.args.owed.now.items c.args.from c.args.to c.args.number c.in-Some.w (sym c.in-Some.ensures.found) in
    let same : (get_or ss k s).id ≡ k = omega (arith, i) in
    let f' : owed_by k c.args.owed.now.items ≤ (get_or ss k s).spare = rw same at f in
    let f'' : (get_or ss k s).spare ≡ s.spare = ap (λ (x : SeatView). x.spare) (sym at) in
    omega (arith, f', f'', one)

pub returns-in-Some-clause-seats : goal.returns-in-Some-clause-seats
returns-in-Some-clause-seats c =
    let w = c.in-Some.w in
    let k = w.client in
    let ss = c.args.seats.now.items in
    let s = c.index_mut-seat.result.now in
    let at : s ≡ get_or ss k s = c.index_mut-seat.ensures.value in
    let l = find_within _ _ _ _ _ _ c.requires.within (sym c.in-Some.ensures.found) in
    let note : Note = record { ticket = w.ticket; to = w.to; number = w.number; outcome = c.args.outcome } in
    let new : c.note-is_first.new.self ≡ with_note (get_or ss k s) note = c.note-is_first.ensures.noted ∙ ap (λ (x : SeatView). with_note x note) at in
    let all : set ss k (with_note (get_or ss k s) note) ≡ note_all ((k, note) ∷ []) ss = note_at 0 k k note ss s (omega arith) c.requires.ids l in
    ap (λ (x : SeatView). set ss k x) new ∙ all ∙ ap (λ (r : Option Owed). note_all (note_found r c.args.outcome) ss) c.in-Some.ensures.found

pub returns-clause-seats : goal.returns-clause-seats
returns-clause-seats c =
    let ss = c.args.seats.now.items in
    sym (note_all_none ss) ∙ ap (λ (r : Option Owed). note_all (note_found r c.args.outcome) ss) c.in_default.ensures.found

pub returns-in-Some-clause-news : goal.returns-in-Some-clause-news
returns-in-Some-clause-news c =
    let ss = c.args.seats.now.items in
    let s = c.index_mut-seat.result.now in
    let l = find_within _ _ _ _ _ _ c.requires.within (sym c.in-Some.ensures.found) in
    marks_in has_noted_news c.note-is_first.result ss c.in-Some.w.client s c.note-is_first.new.self c.told_of.result c.told_of.ensures l c.index_mut-seat.ensures.value c.note-is_first.ensures.first c.note-is_first.ensures.again
