use Rattle.tp_wire.specs.declared.wire.Wire.TheVariants.{Cm}
use Rattle.tp_wire.specs.declared.reason.AbortReason.TheVariants.{Other}
use Rattle.responder.proofs.Receivers.{goes_on, is_ended}
use Rattle.responder.proofs.in_state.InState.step_cm.Goals as goal

-- src/in_state.rt:125:13
pub returns-then-take_cm : goal.returns-then-take_cm
returns-then-take_cm c =
    goes_on c.args.self c.into_receiver-receiver.result c.take_cm.new.self c.into_state.result (Cm c.args.frame.now) c.args.room c.args.flow c.args.now
    c.into_receiver-receiver.ensures c.into_state.ensures c.requires (c.if-take_cm.ensures.step c.args.room c.args.flow c.args.now)

-- src/in_state.rt:118:5
pub returns : goal.returns
returns c =
    is_ended c.args.self c.into_receiver-receiver.result c.take_cm.new.self Other c.end.result (Cm c.args.frame.now) c.args.room c.args.flow c.args.now
    c.into_receiver-receiver.ensures c.if-take_cm.ensures.kept c.end.ensures c.requires (c.if-take_cm.ensures.wrong c.args.room c.args.flow c.args.now)
