use Rattle.std.proofs.Common.{refl, ap, ◌∙◌}
use Rattle.segment_law.specs.declared.call.Call.TheVariants.{Open}
use Rattle.segment_law.specs.declared.reply.Reply.TheVariants.{Sent, Done}
use Rattle.record_law.proofs.Replies.{fits}
use Rattle.one_station.proofs.Made.{make_refused, stood_on}
use Rattle.one_station.proofs.Resting.{rested}
use Rattle.one_station.proofs.node.Node.open_port.Goals as goal

pub returns-in-Ok-Refused-clause-answered : goal.returns-in-Ok-Refused-clause-answered
returns-in-Ok-Refused-clause-answered c =
    make_refused c.args.self.now c.self.inside.segment c.apply.new.self c.self.inside.address c.self.inside.told.events c.self.inside.told.events c.self.inside.has_missed c.self.inside.quiet_until
    (λ a. Open a c.args.pgn c.args.max_len) c.in-Ok-Refused.field-0 c.in-Ok-Refused.cause c.self.view_is refl c.in-Ok-Refused.ensures.ok c.in-Ok-Refused.field-0-is

pub unreachable-requires : goal.unreachable-requires
unreachable-requires c =
    fits c.self.inside.segment (Open c.self.inside.address c.args.pgn c.args.max_len) c.apply.new.self (Sent c.in-Ok-Sent.field-0-0)
    (c.in-Ok-Sent.ensures.ok ∙ ap (λ r. (c.apply.new.self, r)) c.in-Ok-Sent.field-0-is) tt

pub unreachable-requires-in-Ok-Done : goal.unreachable-requires-in-Ok-Done
unreachable-requires-in-Ok-Done c =
    fits c.self.inside.segment (Open c.self.inside.address c.args.pgn c.args.max_len) c.apply.new.self (Done c.in-Ok-Done.field-0-0)
    (c.in-Ok-Done.ensures.ok ∙ ap (λ r. (c.apply.new.self, r)) c.in-Ok-Done.field-0-is) tt

pub invariant_of-self : goal.invariant_of-self
invariant_of-self c = record {
  stood = stood_on c.self.inside.address c.self.inside.segment c.apply.new.self (Open c.self.inside.address c.args.pgn c.args.max_len) c.in-Ok-Opened.field-0 c.in-Ok-Opened.ensures.stands c.self.invariant.stood;
  looked = rested c.self.inside.address c.self.inside.segment c.apply.new.self (Open c.self.inside.address c.args.pgn c.args.max_len) c.in-Ok-Opened.field-0 c.self.invariant.stood c.self.invariant.looked refl c.in-Ok-Opened.ensures.ok;
}

pub invariant_of-self-in-Ok-Refused : goal.invariant_of-self-in-Ok-Refused
invariant_of-self-in-Ok-Refused c = record {
  stood = stood_on c.self.inside.address c.self.inside.segment c.apply.new.self (Open c.self.inside.address c.args.pgn c.args.max_len) c.in-Ok-Refused.field-0 c.in-Ok-Refused.ensures.stands c.self.invariant.stood;
  looked = rested c.self.inside.address c.self.inside.segment c.apply.new.self (Open c.self.inside.address c.args.pgn c.args.max_len) c.in-Ok-Refused.field-0 c.self.invariant.stood c.self.invariant.looked refl c.in-Ok-Refused.ensures.ok;
}
