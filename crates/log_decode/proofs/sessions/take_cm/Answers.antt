use Rattle.std.proofs.Common.{sym, ◌∙◌}
use Rattle.tp_wire.specs.Rows.{cm_pgn}
use Rattle.log_decode.specs.Session.{heard}
use Rattle.log_decode.proofs.AtKey.{there, heard_there, cm_there}
use Rattle.log_decode.proofs.sessions.take_cm.Goals as goal

pub returns-clause-told : goal.returns-clause-told
returns-clause-told c =
    let p = sym c.place_of.ensures.place ∙ c.in-Some.is in
    let v = there c.args.key c.args.sessions.now.entries c.in-Some.at _ p c.index_mut-session.ensures.value in
    c.in_ok-settle.ensures ∙ heard_there (λ s. heard s c.args.frame.now c.args.now) c.args.key c.in-Some.at c.args.sessions.now.entries c.args.told.now.items c.index_mut-session.result.now c.hear-fate.new.self c.hear-fate.result p v c.hear-fate.ensures

pub returns-clause-stray : goal.returns-clause-stray
returns-clause-stray c =
    let p = sym c.place_of.ensures.place ∙ c.in-Some.is in
    let v = there c.args.key c.args.sessions.now.entries c.in-Some.at _ p c.index_mut-session.ensures.value in
    rw (c.stray_unless.ensures, c.is_of-is_of.ensures, c.pgn.ensures) (sym (cm_there c.args.kind c.args.key (cm_pgn c.args.frame.now) c.args.sessions.now.entries _ v))
