use Rattle.std.proofs.Common.{rules, ◌≡◌, ◌≤◌, ◌∙◌, ap, sym, arith, true, false, is_some, length, option_map}
use Rattle.std.specs.Map.Iter.{deref_pair}
use Rattle.indexmap.proofs.MapLemmas.{some_index}
use Rattle.log_decode.proofs.Compared.{found, later, absent}
use Rattle.log_decode.proofs.places.place_of.Goals as goal

pub returns-then-eq-clause-place : goal.returns-then-eq-clause-place
returns-then-eq-clause-place g c =
    let there = sym c.get_index.ensures.entry ∙ ap (option_map deref_pair) c.in-Some.is in
    let same : g.K.PartialEq.eq c.args.key.now c.in-Some.kept.now ≡ true = search rules in
    sym (found (g.K.PartialEq.eq c.args.key.now) c.args.map.now.entries c.loop-at.at _ there c.loop-at.invariant same)

pub loop-at-preserved : goal.loop-at-preserved
loop-at-preserved g c =
    let there = sym c.get_index.ensures.entry ∙ ap (option_map deref_pair) c.in-Some.is in
    let other : g.K.PartialEq.eq c.args.key.now c.in-Some.kept.now ≡ false = search rules in
    later (g.K.PartialEq.eq c.args.key.now) c.args.map.now.entries c.loop-at.at _ there c.loop-at.invariant other

pub returns-then-eq-clause-found : goal.returns-then-eq-clause-found
returns-then-eq-clause-found g c =
    let there = sym c.get_index.ensures.entry ∙ ap (option_map deref_pair) c.in-Some.is in
    let same : g.K.PartialEq.eq c.args.key.now c.in-Some.kept.now ≡ true = search rules in
    let t = g.K.PartialEq.eq c.args.key.now in
    ap is_some (sym (found t c.args.map.now.entries c.loop-at.at _ there c.loop-at.invariant same)) ∙ some_index t c.args.map.now.entries

pub returns-clause-found : goal.returns-clause-found
returns-clause-found g c =
    let t = g.K.PartialEq.eq c.args.key.now in
    let es = c.args.map.now.entries in
    let all : length es ≤ c.loop-at.at = omega (arith, c.loop-at-test.false, c.loop-at.auto.at-end, c.len-at-end.ensures.len) in
    ap is_some (sym (absent t es c.loop-at.at all c.loop-at.invariant)) ∙ some_index t es
