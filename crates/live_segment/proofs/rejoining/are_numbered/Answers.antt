use Rattle.std.proofs.Common.{◌≡◌, ◌+◌, ◌<◌, ◌∷◌, ◌++◌, length, take, true, false, sym, ap, ◌∙◌, subst, arith, []}
use Rattle.std.proofs.lemmas.List.{take_more, length-take-le}
use Rattle.live_record.specs.declared.calls.Piece.{Piece}
use Rattle.live_record.specs.Past.{NumberedAfter}
use Rattle.live_record.proofs.Pieces.{numbered_at, numbered_push}
use Rattle.live_segment.proofs.rejoining.are_numbered.Goals as goal

pub returns-then-piece-i : goal.returns-then-piece-i
returns-then-piece-i c =
    let ps = c.args.pieces.now in
    let i = c.loop-i.i in
    let p = c.index-pieces-i.result in
    let l : i < length ps = omega arith in (
      λ (t : false ≡ true). absurd cc,
      λ all.
          let e : p.number ≡ 0 + i + 1 = ap (λ (q : Piece). q.number) c.index-pieces-i.is ∙ numbered_at 0 i ps p l all in
          let f = c.if-piece-i.true in
          absurd (omega (arith, e, f)),
    )

pub loop-i-preserved : goal.loop-i-preserved
loop-i-preserved c =
    let ps = c.args.pieces.now in
    let i = c.loop-i.i in
    let p = c.index-pieces-i.result in
    let l : i < length ps = omega arith in
    let more : take (i + 1) ps ≡ take i ps ++ p ∷ [] = take_more ps i p l ∙ ap (λ (q : Piece). take i ps ++ q ∷ []) (sym c.index-pieces-i.is) in
    let f = c.if-piece-i.false in
    let n : length (take i ps) ≡ i = length-take-le i ps (omega arith) in
    let number : p.number ≡ 0 + length (take i ps) + 1 = omega (arith, f, n) in
    subst (NumberedAfter 0) (sym more) (numbered_push 0 (take i ps) p c.loop-i.invariant number)
