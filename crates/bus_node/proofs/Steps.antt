-- One step of so many.
use Rattle.std.proofs.Common.{◌≡◌, ℕ, zero, suc, ◌-◌, ◌<◌, Bool, true, false, Option, Some, None, sym, ◌∙◌, ap, subst, arith}
use Rattle.bus_node.specs.Node.{Node}
use Rattle.bus_node.specs.Time.{step, go_on, Stepped}

-- where there was one, the rest is what follows
pub went_on : (left target : ℕ) (n m whole : Node) → 0 < left → Stepped true n m (step target n) → go_on left target n ≡ whole → go_on (left - 1) target m ≡ whole
unfolding go_on
went_on zero target n m whole some e so_far = absurd (omega arith)
went_on (suc left) target n m whole some e so_far =
    let less : suc left - 1 ≡ left = omega arith in
    subst (λ k. go_on k target m ≡ whole) (sym less) (sym (ap (λ (o : Option Node). elim o [ None ↦ n | Some x ↦ go_on left target x ]) e) ∙ so_far)

-- where there was none, nothing follows
pub rested : (left target : ℕ) (n m whole : Node) → 0 < left → Stepped false n m (step target n) → go_on left target n ≡ whole → m ≡ whole
unfolding go_on
rested zero target n m whole some e so_far = absurd (omega arith)
rested (suc left) target n m whole some e so_far = e.1 ∙ sym (ap (λ (o : Option Node). elim o [ None ↦ n | Some x ↦ go_on left target x ]) e.0) ∙ so_far

-- no step is left
pub spent : (target : ℕ) (n whole : Node) (left : ℕ) → left ≡ 0 → go_on left target n ≡ whole → n ≡ whole
unfolding go_on
spent target n whole zero e so_far = so_far
spent target n whole (suc left) e so_far = absurd (omega (arith, e))

pub went : (b : Bool) (left target : ℕ) (n m whole : Node) → b ≡ true → 0 < left → Stepped b n m (step target n) → go_on left target n ≡ whole → go_on (left - 1) target m ≡ whole
went true left target n m whole is some e so_far = went_on left target n m whole some e so_far
went false left target n m whole is some e so_far = cc

pub stood : (b : Bool) (left target : ℕ) (n m whole : Node) → b ≡ false → 0 < left → Stepped b n m (step target n) → go_on left target n ≡ whole → m ≡ whole
stood true left target n m whole is some e so_far = cc
stood false left target n m whole is some e so_far = rested left target n m whole some e so_far
