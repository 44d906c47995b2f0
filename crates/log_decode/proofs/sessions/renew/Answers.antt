use Rattle.std.proofs.Common.{sym, ◌∙◌}
use Rattle.log_decode.proofs.AtKey.{there, renewed_there}
use Rattle.log_decode.proofs.sessions.renew.Goals as goal

pub returns-in-Some : goal.returns-in-Some
returns-in-Some c =
    let p = sym c.place_of.ensures.place ∙ c.in-Some.is in
    renewed_there c.args.key c.args.now c.in-Some.at c.args.sessions.now.entries c.index_mut.result.now c.go_on.new.self p (there c.args.key c.args.sessions.now.entries c.in-Some.at _ p c.index_mut.ensures.value) c.go_on.ensures.renewed
