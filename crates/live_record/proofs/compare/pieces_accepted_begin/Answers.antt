use Rattle.std.proofs.Common.{◌≡◌, ◌<◌, length, drop, true, false, refl, sym, ◌∙◌, ap, arith}
use mathlib.Core.List.{IsPrefix}
use Rattle.live_record.specs.declared.calls.Piece.{Piece}
use Rattle.live_record.specs.Record.{accepted}
use Rattle.live_record.specs.Past.{joined}
use Rattle.live_record.proofs.Held.{next_begins, held_on, held_all, as_read, from_read}
use Rattle.live_record.proofs.compare.pieces_accepted_begin.Goals as goal

pub returns-then-not-accepted_begin : goal.returns-then-not-accepted_begin
returns-then-not-accepted_begin c =
    let k = c.args.client in
    let ps = c.args.pieces.now in
    let ys = c.args.submitted.now in
    let i = c.loop-at.at in
    let p = c.index-pieces-at.result in
    let l : i < length ps = omega arith in
    let no : IsPrefix (accepted k (joined ps)) ys → ⊥ = λ h.
    let t = c.accepted_begin.ensures.1 (as_read k ps i c.loop-at.n p ys c.index-pieces-at.is (next_begins k ps i c.loop-at.n p ys l c.index-pieces-at.is c.loop-at.invariant.within c.loop-at.invariant.same h)) in
    let f = c.if-not-accepted_begin.true in
    absurd cc in
    (λ (t : false ≡ true). absurd cc, λ h. absurd (no h))

pub loop-at-preserved : goal.loop-at-preserved
loop-at-preserved c =
    let k = c.args.client in
    let ps = c.args.pieces.now in
    let ys = c.args.submitted.now in
    let i = c.loop-at.at in
    let p = c.index-pieces-at.result in
    let l : i < length ps = omega arith in
    let count : c.count_accepted-n.result ≡ length (accepted k p.calls.items) = c.count_accepted-n.ensures ∙ ap (λ (q : Piece). length (accepted k q.calls.items)) (sym c.index-pieces-at.is) in
    let begins : IsPrefix (accepted k p.calls.items) (drop c.loop-at.n ys) = from_read k ps i c.loop-at.n p ys c.index-pieces-at.is (c.accepted_begin.ensures.0 c.if-not-accepted_begin.false) in
    let h = held_on k ps i c.loop-at.n c.count_accepted-n.result p ys l c.index-pieces-at.is c.loop-at.invariant.within c.loop-at.invariant.same count begins in
    record { within = h.0; same = h.1 }

pub returns : goal.returns
returns c = (λ _. held_all c.args.client c.args.pieces.now c.loop-at.at c.loop-at.n c.args.submitted.now (omega arith) c.loop-at.invariant.same, λ _. refl)
