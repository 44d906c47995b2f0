use Rattle.std.proofs.Common.{ap}
use Rattle.segment_state.specs.Answers.{reply_with}
use Rattle.segment_state.specs.declared.made.Made.{Made}
use Rattle.one_station.proofs.Made.{make_refused, stood_on}
use Rattle.one_station.proofs.Resting.{rested}
use Rattle.one_station.proofs.node.Node.make.Goals as goal

pub returns-in-Ok-Refused : goal.returns-in-Ok-Refused
returns-in-Ok-Refused c =
    make_refused c.args.self.now c.self.inside.segment c.apply_telling.new.self c.self.inside.address c.self.inside.told.events c.make_room.new.told.events c.self.inside.has_missed c.self.inside.quiet_until
    (λ _. c.args.call) (reply_with c.in-Ok-Refused.field-0 c.apply_telling.new.told) c.in-Ok-Refused.cause c.self.view_is c.make_room.ensures.events c.in-Ok-Refused.ensures.ok (ap (λ (m : Made). reply_with m c.apply_telling.new.told) c.in-Ok-Refused.field-0-is)

pub invariant_of-self-in-Refused-1 : goal.invariant_of-self-in-Refused-1
invariant_of-self-in-Refused-1 c = record {
  stood = stood_on c.self.inside.address c.self.inside.segment c.apply_telling.new.self c.args.call (reply_with c.in-Ok-Refused.field-0 c.apply_telling.new.told) c.in-Ok-Refused.ensures.stands c.self.invariant.stood;
  looked = rested c.self.inside.address c.self.inside.segment c.apply_telling.new.self c.args.call (reply_with c.in-Ok-Refused.field-0 c.apply_telling.new.told) c.self.invariant.stood c.self.invariant.looked c.requires c.in-Ok-Refused.ensures.ok;
}

pub invariant_of-self-in-Ok-Done : goal.invariant_of-self-in-Ok-Done
invariant_of-self-in-Ok-Done c = record {
  stood = stood_on c.self.inside.address c.self.inside.segment c.apply_telling.new.self c.args.call (reply_with c.in-Ok-Done.field-0 c.apply_telling.new.told) c.in-Ok-Done.ensures.stands c.self.invariant.stood;
  looked = rested c.self.inside.address c.self.inside.segment c.apply_telling.new.self c.args.call (reply_with c.in-Ok-Done.field-0 c.apply_telling.new.told) c.self.invariant.stood c.self.invariant.looked c.requires c.in-Ok-Done.ensures.ok;
}

pub invariant_of-self-in-Opened-1 : goal.invariant_of-self-in-Opened-1
invariant_of-self-in-Opened-1 c = record {
  stood = stood_on c.self.inside.address c.self.inside.segment c.apply_telling.new.self c.args.call (reply_with c.in-Ok.field-0 c.apply_telling.new.told) c.in-Ok.ensures.stands c.self.invariant.stood;
  looked = rested c.self.inside.address c.self.inside.segment c.apply_telling.new.self c.args.call (reply_with c.in-Ok.field-0 c.apply_telling.new.told) c.self.invariant.stood c.self.invariant.looked c.requires c.in-Ok.ensures.ok;
}
