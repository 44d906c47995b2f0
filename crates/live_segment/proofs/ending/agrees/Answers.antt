use Rattle.live_segment.proofs.ending.agrees.Goals as goal

pub returns-then-clients_agree : goal.returns-then-clients_agree
returns-then-clients_agree c = (λ t. (c.clients_agree.ensures.0 c.if-clients_agree.true, c.inboxes_agree.ensures.0 t), λ all. c.inboxes_agree.ensures.1 all.1)
