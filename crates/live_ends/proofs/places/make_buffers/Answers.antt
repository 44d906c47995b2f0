use Rattle.std.proofs.Common.{◌≡◌, ◌+◌, ◌++◌, ◌∷◌, length, ℕ, sym, ap, ◌∙◌, subst, []}
use Rattle.std.proofs.lemmas.List.{length_push}
use Rattle.live_ends.specs.Places.{AtLeast}
use Rattle.live_ends.proofs.Buffers.{at_least_push}
use Rattle.live_ends.proofs.places.make_buffers.Goals as goal

pub loop-preserved : goal.loop-preserved
loop-preserved c =
    let made = c.loop.made.items in
    let x = c.in_ok-new.field-0 in
    let e : c.push_reserved.new.self.items ≡ made ++ x ∷ [] = c.push_reserved.ensures.items in
    record {
      count = ap length e ∙ length_push made x ∙ ap (λ (k : ℕ). k + 1) c.loop.invariant.count;
      capacity = c.push_reserved.ensures.capacity ∙ c.loop.invariant.capacity;
      long = subst (AtLeast c.args.len) (sym e) (at_least_push c.args.len made x c.loop.invariant.long c.in_ok-new.ensures);
    }
