use Rattle.std.proofs.Common.{◌≡◌, ℕ, ◌+◌, ◌-◌, ◌++◌, [], ◌∷◌, ap, ◌∙◌, vec_len, arith}
use Rattle.std.specs.Prelude.{replicate}
use Rattle.std.proofs.lemmas.List.{append_assoc, replicate-append-replicate}
use Rattle.seg_cut.proofs.join.written.Goals as goal

pub loop-preserved : goal.loop-preserved
loop-preserved c =
    let bytes = c.args.bytes in
    let n : ℕ = c.loop.counter - vec_len bytes in
    let more : replicate {A = ℕ} n 0 ++ 0 ∷ [] ≡ replicate (n + 1) 0 = replicate-append-replicate n 1 0 in
    let one : n + 1 ≡ c.loop.counter + 1 - vec_len bytes = omega arith in (
      c.push_reserved.ensures.items
          ∙ ap (λ xs. xs ++ 0 ∷ []) c.loop.invariant.0
          ∙ append_assoc bytes.items (replicate n 0) (0 ∷ [])
          ∙ ap (λ xs. bytes.items ++ xs) (more ∙ ap (λ m. replicate m 0) one),
      cc,
      cc,
    )
