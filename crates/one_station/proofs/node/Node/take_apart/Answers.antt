use Rattle.std.proofs.Common.{refl, ap, ◌∙◌}
use Rattle.segment_law.specs.Calls.{called}
use Rattle.segment_law.specs.declared.call.Call.TheVariants.{Inject}
use Rattle.one_station.specs.Answers.{as_error}
use Rattle.one_station.proofs.Made.{took_in}
use Rattle.one_station.proofs.Resting.{may_feed, none_of, room_on_bus, comes_to_take, looked_in}
use Rattle.one_station.proofs.node.Node.take_apart.Goals as goal

pub put-requires-clause-room : goal.put-requires-clause-room
put-requires-clause-room c = room_on_bus c.self.inside.address c.self.inside.segment (Inject c.args.frame) refl c.self.invariant.stood c.self.invariant.looked

pub look-requires-clause-passes : goal.look-requires-clause-passes
look-requires-clause-passes c =
    let free = may_feed c.args.self.now c.self.inside.segment c.self.inside.address c.self.inside.told.events c.self.inside.has_missed c.self.inside.quiet_until c.args.frame c.self.view_is c.requires in
    comes_to_take c.self.inside.address c.self.inside.segment c.put.new.segment c.args.frame c.self.invariant.stood c.self.invariant.looked (free.0, c.in_default.ensures.0) c.in_default.ensures.1

pub returns : goal.returns
returns c =
    let free = may_feed c.args.self.now c.self.inside.segment c.self.inside.address c.self.inside.told.events c.self.inside.has_missed c.self.inside.quiet_until c.args.frame c.self.view_is c.requires in (
      free.1 ∙ ap as_error (none_of (called c.self.inside.segment (Inject c.args.frame)) c.in_default.ensures.0),
      took_in c.args.self.now c.self.inside.segment c.put.new.segment c.look.new.segment c.self.inside.address c.self.inside.told.events c.make_one.new.told.events c.look.new.told.events c.self.inside.has_missed c.self.inside.quiet_until (Inject c.args.frame) c.look.result
          c.self.view_is c.make_one.ensures.events c.in_default.ensures.1 c.look.ensures,
    )

pub invariant_of-self-2 : goal.invariant_of-self-2
invariant_of-self-2 c =
    let free = may_feed c.args.self.now c.self.inside.segment c.self.inside.address c.self.inside.told.events c.self.inside.has_missed c.self.inside.quiet_until c.args.frame c.self.view_is c.requires in
    let l = looked_in c.self.inside.address c.self.inside.segment c.put.new.segment c.look.new.segment (Inject c.args.frame) c.look.result c.make_one.new.told.events c.look.new.told.events refl c.self.invariant.stood c.self.invariant.looked c.in_default.ensures.0 c.in_default.ensures.1
    (comes_to_take c.self.inside.address c.self.inside.segment c.put.new.segment c.args.frame c.self.invariant.stood c.self.invariant.looked (free.0, c.in_default.ensures.0) c.in_default.ensures.1) c.look.ensures in
    record { stood = l.0; looked = l.1 }
