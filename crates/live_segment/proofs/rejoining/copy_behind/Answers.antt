use Rattle.std.proofs.Common.{◌≡◌, ◌+◌, ◌<◌, List, ◌∷◌, ◌++◌, length, take, get_or, map, sym, ap, ◌∙◌, arith, append_assoc, []}
use Rattle.std.proofs.lemmas.List.{map_more}
use Rattle.segment_law.specs.declared.call.Call.{Call}
use Rattle.stored_calls.specs.declared.stored.Stored.{Stored}
use Rattle.live_segment.specs.Rejoining.{call_in}
use Rattle.live_segment.proofs.rejoining.copy_behind.Goals as goal

pub loop-at-preserved : goal.loop-at-preserved
loop-at-preserved c =
    let before = c.args.calls.now.items in
    let xs = c.args.stored.now.items in
    let i = c.loop-at.at in
    let x = c.in_ok-call.field-0 in
    let l : i < length xs = omega arith in
    let is : x ≡ get_or xs i x = c.in_ok-call.ensures x in
    let more : map call_in (take i xs) ++ x.call ∷ [] ≡ map call_in (take (i + 1) xs) = ap (λ (y : Stored). map call_in (take i xs) ++ y.call ∷ []) is ∙ sym (map_more call_in xs i x l) in
    c.in_ok-push.ensures.items
    ∙ ap (λ (ks : List Call). ks ++ x.call ∷ []) c.loop-at.invariant
    ∙ append_assoc before (map call_in (take i xs)) (x.call ∷ [])
    ∙ ap (λ (ks : List Call). before ++ ks) more
