use Rattle.std.proofs.Common.{◌≡◌, ◌+◌, ◌<◌, List, ◌∷◌, ◌++◌, length, take, sym, ap, ◌∙◌, subst, arith, []}
use Rattle.std.proofs.lemmas.List.{take_more}
use Rattle.segment_law.specs.Record.{StandsAt}
use Rattle.stored_calls.specs.declared.stored.Stored.{Stored}
use Rattle.live_record.specs.declared.calls.Piece.{Piece}
use Rattle.live_record.specs.Record.{Trail}
use Rattle.live_record.specs.Past.{joined}
use Rattle.live_segment.specs.Rejoining.{StandsAfter}
use Rattle.live_record.proofs.Trails.{trail-nil}
use Rattle.live_record.proofs.Pieces.{joined_push}
use Rattle.live_segment.proofs.rejoining.replay.Goals as goal

pub loop-piece-init : goal.loop-piece-init
loop-piece-init c =
    let addresses = c.args.addresses.now in
    let none = trail-nil addresses in (
      subst (λ (t : Trail). StandsAt addresses t.steps c.in-Ok.segment) (sym none) c.in-Ok.ensures.stands,
      c.in-Ok.ensures.ok ∙ sym (ap (λ (t : Trail). t.state) none),
    )

pub loop-piece-preserved : goal.loop-piece-preserved
loop-piece-preserved c =
    let addresses = c.args.addresses.now in
    let ps = c.args.pieces.now in
    let i = c.loop-piece.piece-index in
    let p = c.piece-item.result in
    let next = c.make_all.new.segment in
    let l : i < length ps = omega arith in
    let done : StandsAfter addresses (joined (take i ps) ++ p.calls.items) next = c.in_ok-make_all.ensures addresses (joined (take i ps)) c.loop-piece.invariant in
    let more : take (i + 1) ps ≡ take i ps ++ p ∷ [] = take_more ps i p l ∙ ap (λ (q : Piece). take i ps ++ q ∷ []) (sym c.piece-item.is) in
    let all : joined (take i ps) ++ p.calls.items ≡ joined (take (i + 1) ps) = sym (joined_push (take i ps) p) ∙ ap joined (sym more) in
    subst (λ (xs : List Stored). StandsAfter addresses xs next) all done
