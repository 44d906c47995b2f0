use Rattle.std.proofs.Common.{◌≡◌, length, map, get_or, ap, ◌∙◌, arith}
use Rattle.std.proofs.lemmas.Result.{IfOk-weaker}
use Rattle.stored_calls.specs.declared.stored.Stored.{Stored}
use Rattle.stored_calls.specs.Lists.{made_of}
use Rattle.stored_calls.proofs.Places.{place_within, within_shorts, whole_at}
use Rattle.stored_calls.proofs.list.StoredCalls.copy.Goals as goal

pub index-requires-in-Err : goal.index-requires-in-Err
index-requires-in-Err c =
    let i = c.self.inside in
    let ws = i.wholes.items in
    let ss = i.shorts.items in
    let there = within_shorts ws c.args.self.now.items ss c.args.at (ap (λ v. v.items) c.self.view_is) c.requires in
    let within = place_within (length ws) ss c.args.at c.in-Err.place c.index.result.now c.self.invariant.0 there c.index.ensures c.in-Err.ensures.place in
    omega (arith, within, i.wholes.ok.0)

pub returns-in-Err : goal.returns-in-Err
returns-in-Err c =
    let ws = c.self.inside.wholes.items in
    let ss = c.self.inside.shorts.items in
    let items = c.args.self.now.items in
    let w = c.index-in-Err.result.now in
    let all : map (made_of ws) ss ≡ items = ap (λ v. v.items) c.self.view_is in
    let there = within_shorts ws items ss c.args.at all c.requires in
    let whole : (x : Stored) → w ≡ get_or items c.args.at x = whole_at ws items ss c.args.at c.in-Err.place c.index.result.now w all there c.self.invariant.0 c.index.ensures c.in-Err.ensures.place c.index-in-Err.ensures in
    IfOk-weaker c.copy.result (λ r. r ≡ w) (λ r. (x : Stored) → r ≡ get_or items c.args.at x) (λ r e x. e ∙ whole x) c.copy.ensures
