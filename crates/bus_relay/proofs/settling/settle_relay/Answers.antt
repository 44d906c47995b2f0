use Rattle.bus_relay.proofs.Accounts.{at_relay, at_whole}
use Rattle.bus_relay.proofs.settling.settle_relay.Goals as goal

pub returns-clause-carries : goal.returns-clause-carries
returns-clause-carries c = at_relay c.args.carried _ _ _ _ _ c.requires c.place_of-number.ensures c.in_ok-check_passage.ensures c.in_ok-report_near.ensures c.in_ok-is_accepted.ensures.begins

pub returns-clause-whole : goal.returns-clause-whole
returns-clause-whole c = λ done.
    at_whole c.args.carried _ _ _ _ _ c.requires c.place_of-number.ensures c.in_ok-check_passage.ensures c.in_ok-report_near.ensures
    (c.in_ok-is_accepted.ensures.all (c.is_done-is_done.ensures.accepted done)) (c.is_done-is_done.ensures.left done) (c.is_done-is_done.ensures.pulled done) (c.is_done-is_done.ensures.noted done)
