use Rattle.std.proofs.Common.{◌++◌, ◌∷◌, [], ap, ◌∙◌, arith}
use Rattle.std.proofs.lemmas.List.{length-set}
use Rattle.port_table.proofs.Sets.{ports_long, padded_push, value_push}
use Rattle.port_table.proofs.set.PortSet.push.Goals as goal

pub invariant_of-self : goal.invariant_of-self
invariant_of-self c =
    let kept = c.self.inside.kept in
    let is = ports_long kept c.args.self.now c.len-len.result c.self.view_is c.len-len.ensures.value in
    record {
      whole = length-set kept c.len-len.result c.args.number ∙ c.self.invariant.whole;
      padded = padded_push kept c.len-len.result c.args.number is c.self.invariant.whole c.self.invariant.padded (omega (arith, c.len-len.ensures.value, c.requires.few)) c.requires.above;
    }

pub returns : goal.returns
returns c =
    let kept = c.self.inside.kept in
    let is = ports_long kept c.args.self.now c.len-len.result c.self.view_is c.len-len.ensures.value in
    value_push kept c.len-len.result c.args.number is c.self.invariant.whole c.self.invariant.padded (omega (arith, c.len-len.ensures.value, c.requires.few)) c.requires.above
    ∙ ap (λ xs. xs ++ c.args.number ∷ []) c.self.view_is
