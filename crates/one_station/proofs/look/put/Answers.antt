use Rattle.std.proofs.Common.{ap, ◌∙◌, subst}
use Rattle.record_law.proofs.Replies.{refused_for}
use Rattle.one_station.proofs.Resting.{done_ok, put_silently, fits_bus, IsOfBus}
use Rattle.one_station.proofs.look.put.Goals as goal

pub returns-in-Ok-Done : goal.returns-in-Ok-Done
returns-in-Ok-Done c =
    let ok = done_ok c.args.segment.now c.apply.new.self c.args.call c.in-Ok-Done.field-0-0 (c.in-Ok-Done.ensures.ok ∙ ap (λ r. (c.apply.new.self, r)) c.in-Ok-Done.field-0-is) in
    (ok, put_silently c.args.segment.now c.apply.new.self c.args.call c.in-Ok-Done.field-0 c.requires.comes ok c.in-Ok-Done.ensures.ok c.in-Ok-Done.ensures.stands)

pub returns-in-Ok-Refused : goal.returns-in-Ok-Refused
returns-in-Ok-Refused c =
    refused_for c.args.segment.now c.args.call c.apply.new.self c.in-Ok-Refused.cause (c.in-Ok-Refused.ensures.ok ∙ ap (λ r. (c.apply.new.self, r)) c.in-Ok-Refused.field-0-is)

pub unreachable-requires : goal.unreachable-requires
unreachable-requires c = subst IsOfBus c.in-Ok-Opened.field-0-is (fits_bus c.args.segment.now c.apply.new.self c.args.call c.in-Ok-Opened.field-0 c.requires.comes c.in-Ok-Opened.ensures.ok)

pub unreachable-requires-in-Ok-Sent : goal.unreachable-requires-in-Ok-Sent
unreachable-requires-in-Ok-Sent c = subst IsOfBus c.in-Ok-Sent.field-0-is (fits_bus c.args.segment.now c.apply.new.self c.args.call c.in-Ok-Sent.field-0 c.requires.comes c.in-Ok-Sent.ensures.ok)
