use Rattle.tp_wire.specs.declared.wire.Wire.TheVariants.{Packet}
use Rattle.responder.proofs.Receivers.{goes_on}
use Rattle.responder.proofs.in_state.InState.step_packet.Goals as goal

-- src/in_state.rt:146:13
pub returns-then-accept : goal.returns-then-accept
returns-then-accept c =
    goes_on c.args.self c.into_receiver-receiver.result c.accept.new.self c.into_state.result (Packet c.args.kind c.args.sequence c.args.bytes.now) c.args.room c.args.flow c.args.now
    c.into_receiver-receiver.ensures c.into_state.ensures c.requires (c.if-accept.ensures.step c.args.room c.args.flow)
