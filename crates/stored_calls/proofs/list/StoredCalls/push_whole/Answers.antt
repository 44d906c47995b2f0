use Rattle.std.proofs.Common.{ap, arith}
use Rattle.stored_calls.proofs.Places.{made_whole}
use Rattle.stored_calls.proofs.list.StoredCalls.push_whole.Goals as goal

pub returns : goal.returns
returns c =
    let i = c.self.inside in
    let all = ap (λ v. v.items) c.self.view_is in
    made_whole i.wholes.items c.push_reserved-2.new.self.items c.args.self.now.items c.args.call i.shorts.items c.push_reserved.new.self.items _ c.push_reserved-2.ensures.items c.push_reserved.ensures.items (omega (arith, c.len-at.ensures, i.wholes.ok.0)) c.self.invariant.0 all
