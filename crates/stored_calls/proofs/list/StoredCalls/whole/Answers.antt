use Rattle.std.proofs.Common.{◌≡◌, length, map, ap, arith}
use Rattle.stored_calls.specs.Lists.{made_of}
use Rattle.stored_calls.proofs.Places.{place_within, within_shorts, whole_at}
use Rattle.stored_calls.proofs.list.StoredCalls.whole.Goals as goal
use Rattle.stored_calls.proofs.list.StoredCalls.whole.Goals.{in-Ok, in-Err}

pub index-requires-in-Err : goal.index-requires-in-Err
index-requires-in-Err c =
    let i = c.self.inside in
    let ws = i.wholes.items in
    let ss = i.shorts.items in
    let there = within_shorts ws c.args.self.now.items ss c.args.at (ap (λ v. v.items) c.self.view_is) c.requires in
    let within = place_within (length ws) ss c.args.at c.in-Err.place c.index.result.now c.self.invariant.0 there c.index.ensures c.in-Err.ensures.place in
    omega (arith, within, i.wholes.ok.0)

pub returns-clause-whole : goal.returns-clause-whole
returns-clause-whole c = elim c.match-call.branch [
  | in-Ok w ↦ rw w.result-is tt
  | in-Err w ↦
      let ws = c.self.inside.wholes.items in
      let ss = c.self.inside.shorts.items in
      let items = c.args.self.now.items in
      let all : map (made_of ws) ss ≡ items = ap (λ v. v.items) c.self.view_is in
      let there = within_shorts ws items ss c.args.at all c.requires in
      rw w.result-is (whole_at ws items ss c.args.at w.in-Err.place c.index.result.now w.index-in-Err.result.now all there c.self.invariant.0 c.index.ensures w.in-Err.ensures.place w.index-in-Err.ensures)
]
