use Rattle.std.proofs.Common.{refl, ap, ◌∙◌}
use Rattle.segment_law.specs.declared.call.Call.TheVariants.{Send}
use Rattle.segment_law.specs.declared.reply.Reply.TheVariants.{Opened, Done}
use Rattle.record_law.proofs.Replies.{fits}
use Rattle.one_station.proofs.Made.{make_refused, stood_on}
use Rattle.one_station.proofs.Resting.{rested}
use Rattle.one_station.proofs.node.Node.send_owned.Goals as goal

pub returns-in-Ok-Refused-clause-answered : goal.returns-in-Ok-Refused-clause-answered
returns-in-Ok-Refused-clause-answered c =
    make_refused c.args.self.now c.self.inside.segment c.apply.new.self c.self.inside.address c.self.inside.told.events c.reserve.new.self.events c.self.inside.has_missed c.self.inside.quiet_until
    (λ a. Send a c.args.to c.args.pgn c.args.bytes) c.in-Ok-Refused.field-0 c.in-Ok-Refused.cause c.self.view_is c.reserve.ensures.events
    c.in-Ok-Refused.ensures.ok c.in-Ok-Refused.field-0-is

pub unreachable-requires : goal.unreachable-requires
unreachable-requires c =
    fits c.self.inside.segment (Send c.self.inside.address c.args.to c.args.pgn c.args.bytes) c.apply.new.self (Opened c.in-Ok-Opened.field-0-0)
    (c.in-Ok-Opened.ensures.ok ∙ ap (λ r. (c.apply.new.self, r)) c.in-Ok-Opened.field-0-is) tt

pub unreachable-requires-in-Ok-Done : goal.unreachable-requires-in-Ok-Done
unreachable-requires-in-Ok-Done c =
    fits c.self.inside.segment (Send c.self.inside.address c.args.to c.args.pgn c.args.bytes) c.apply.new.self (Done c.in-Ok-Done.field-0-0)
    (c.in-Ok-Done.ensures.ok ∙ ap (λ r. (c.apply.new.self, r)) c.in-Ok-Done.field-0-is) tt

pub invariant_of-self-in-Ok-Sent : goal.invariant_of-self-in-Ok-Sent
invariant_of-self-in-Ok-Sent c = record {
  stood = stood_on c.self.inside.address c.self.inside.segment c.apply.new.self (Send c.self.inside.address c.args.to c.args.pgn c.args.bytes) c.in-Ok-Sent.field-0 c.in-Ok-Sent.ensures.stands c.self.invariant.stood;
  looked = rested c.self.inside.address c.self.inside.segment c.apply.new.self (Send c.self.inside.address c.args.to c.args.pgn c.args.bytes) c.in-Ok-Sent.field-0 c.self.invariant.stood c.self.invariant.looked refl c.in-Ok-Sent.ensures.ok;
}

pub invariant_of-self-in-Ok-Refused : goal.invariant_of-self-in-Ok-Refused
invariant_of-self-in-Ok-Refused c = record {
  stood = stood_on c.self.inside.address c.self.inside.segment c.apply.new.self (Send c.self.inside.address c.args.to c.args.pgn c.args.bytes) c.in-Ok-Refused.field-0 c.in-Ok-Refused.ensures.stands c.self.invariant.stood;
  looked = rested c.self.inside.address c.self.inside.segment c.apply.new.self (Send c.self.inside.address c.args.to c.args.pgn c.args.bytes) c.in-Ok-Refused.field-0 c.self.invariant.stood c.self.invariant.looked refl c.in-Ok-Refused.ensures.ok;
}
