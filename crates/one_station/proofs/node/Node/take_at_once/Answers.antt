use Rattle.std.proofs.Common.{Bool, refl, subst}
use Rattle.std.specs.Bool.{OnTrue}
use Rattle.segment_law.specs.declared.call.Call.TheVariants.{Inject}
use Rattle.segment_state.specs.PutTaken.{PutTaken}
use Rattle.one_station.proofs.AtOnce.{looked_at_once}
use Rattle.one_station.proofs.node.Node.take_at_once.Goals as goal

pub invariant_of-self-then-not-is_empty : goal.invariant_of-self-then-not-is_empty
invariant_of-self-then-not-is_empty c =
    let P : Type 0 = PutTaken c.self.inside.segment (Inject c.args.frame.now) c.self.inside.address c.inject_and_take.new.self c.inject_and_take.new.told in
    let made : P = subst (λ (b : Bool). OnTrue b P) c.in-Ok-true.field-0-test c.in-Ok-true.ensures.made in
    let l = looked_at_once c.self.inside.segment c.inject_and_take.new.self c.self.inside.address (Inject c.args.frame.now) c.inject_and_take.new.told made refl c.self.invariant.stood c.self.invariant.looked in
    record { stood = l.0; looked = l.1 }

pub invariant_of-self-else-not-is_empty : goal.invariant_of-self-else-not-is_empty
invariant_of-self-else-not-is_empty c =
    let P : Type 0 = PutTaken c.self.inside.segment (Inject c.args.frame.now) c.self.inside.address c.inject_and_take.new.self c.inject_and_take.new.told in
    let made : P = subst (λ (b : Bool). OnTrue b P) c.in-Ok-true.field-0-test c.in-Ok-true.ensures.made in
    let l = looked_at_once c.self.inside.segment c.inject_and_take.new.self c.self.inside.address (Inject c.args.frame.now) c.inject_and_take.new.told made refl c.self.invariant.stood c.self.invariant.looked in
    record { stood = l.0; looked = l.1 }
