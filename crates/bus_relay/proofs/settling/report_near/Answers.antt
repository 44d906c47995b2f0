use Rattle.std.proofs.Common.{◌≡◌, [], arith}
use Rattle.std.proofs.lemmas.List.{nil_from_length}
use Rattle.bus_relay.proofs.Accounts.{at_inbox}
use Rattle.bus_relay.proofs.settling.report_near.Goals as goal

pub returns : goal.returns
returns c =
    let uncut : c.args.live.now.pieces ≡ [] = nil_from_length c.args.live.now.pieces (omega (arith, c.in_ok-told.ensures.cuts, c.if-told-gt0.false)) in
    at_inbox _ _ _ _ _ _ _ c.laws.ensures.laws uncut c.in_ok-told.ensures.addresses c.in_ok-told.ensures.calls c.in_ok-told.ensures.inboxes c.in_ok-inboxes.ensures
