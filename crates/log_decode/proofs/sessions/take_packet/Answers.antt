use Rattle.std.proofs.Common.{sym, ◌∙◌}
use Rattle.log_decode.specs.Session.{sequence_heard}
use Rattle.log_decode.proofs.AtKey.{there, heard_there, packet_there}
use Rattle.log_decode.proofs.sessions.take_packet.Goals as goal

pub returns-clause-told : goal.returns-clause-told
returns-clause-told c =
    let p = sym c.place_of.ensures.place ∙ c.in-Some.is in
    let v = there c.args.key c.args.sessions.now.entries c.in-Some.at _ p c.index_mut.ensures.value in
    c.in_ok-settle.ensures ∙ heard_there (λ s. sequence_heard c.args.key.to s c.args.sequence c.args.bytes c.args.now) c.args.key c.in-Some.at c.args.sessions.now.entries c.args.told.now.items c.index_mut.result.now c.hear_packet.new.self c.in_ok-fate.fate p v c.in_ok-fate.ensures

pub returns-clause-stray : goal.returns-clause-stray
returns-clause-stray c =
    packet_there c.args.key c.args.sessions.now.entries _ (there c.args.key c.args.sessions.now.entries c.in-Some.at _ (sym c.place_of.ensures.place ∙ c.in-Some.is) c.index_mut.ensures.value)
