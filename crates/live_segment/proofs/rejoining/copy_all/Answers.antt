use Rattle.std.proofs.Common.{◌≡◌, ◌+◌, ◌<◌, List, ◌∷◌, ◌++◌, length, take, map, sym, ap, ◌∙◌, arith, []}
use Rattle.std.proofs.lemmas.List.{take_more, map-append}
use Rattle.segment_law.specs.declared.call.Call.{Call}
use Rattle.stored_calls.specs.declared.stored.Stored.{Stored}
use Rattle.live_record.specs.declared.calls.Piece.{Piece}
use Rattle.live_record.specs.Past.{joined}
use Rattle.live_segment.specs.Rejoining.{call_in}
use Rattle.live_record.proofs.Pieces.{joined_push}
use Rattle.live_segment.proofs.rejoining.copy_all.Goals as goal

pub loop-piece-preserved : goal.loop-piece-preserved
loop-piece-preserved c =
    let ps = c.args.pieces.now in
    let i = c.loop-piece.piece-index in
    let p = c.piece-item.result in
    let l : i < length ps = omega arith in
    let more : take (i + 1) ps ≡ take i ps ++ p ∷ [] = take_more ps i p l ∙ ap (λ (q : Piece). take i ps ++ q ∷ []) (sym c.piece-item.is) in
    let all : joined (take i ps) ++ p.calls.items ≡ joined (take (i + 1) ps) = sym (joined_push (take i ps) p) ∙ ap joined (sym more) in
    c.in_ok-copy_behind.ensures
    ∙ ap (λ (ks : List Call). ks ++ map call_in p.calls.items) c.loop-piece.invariant
    ∙ sym (map-append call_in (joined (take i ps)) p.calls.items)
    ∙ ap (λ (xs : List Stored). map call_in xs) all
