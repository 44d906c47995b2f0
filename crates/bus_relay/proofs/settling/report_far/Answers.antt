use Rattle.std.proofs.Common.{◌≡◌, [], arith}
use Rattle.std.proofs.lemmas.List.{nil_from_length}
use Rattle.bus_relay.proofs.Accounts.{at_client, at_all_accepted}
use Rattle.bus_relay.proofs.settling.report_far.Goals as goal

pub returns-clause-begins : goal.returns-clause-begins
returns-clause-begins c =
    let uncut : c.args.live.now.pieces ≡ [] = nil_from_length c.args.live.now.pieces (omega (arith, c.in_ok-told.ensures.cuts, c.if-told-gt0.false)) in
    at_client _ _ _ _ _ _ uncut c.in_ok-told.ensures.calls c.in_ok-told.ensures.clients c.in_ok-clients.ensures

pub returns-clause-all : goal.returns-clause-all
returns-clause-all c =
    let uncut : c.args.live.now.pieces ≡ [] = nil_from_length c.args.live.now.pieces (omega (arith, c.in_ok-told.ensures.cuts, c.if-told-gt0.false)) in
    at_all_accepted _ _ _ _ _ _ _ _ uncut c.in_ok-told.ensures.calls c.in_ok-told.ensures.clients c.in_ok-clients.ensures c.is_none_left-is_all.ensures c.as_slice.ensures.value
