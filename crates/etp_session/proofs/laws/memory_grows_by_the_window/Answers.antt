use Rattle.responder.specs.declared.in_state.InState.TheVariants.{AwaitPacket, Holding}
use Rattle.etp_session.proofs.Memory.{wait_steps, hold_steps}
use Rattle.etp_session.proofs.laws.memory_grows_by_the_window.Goals as goal

pub returns-clause-steps : goal.returns-clause-steps
returns-clause-steps c (AwaitPacket s) wire room flow now h =
    wait_steps s.message.peer s.message.join s.message.most s.message.offset room now s.granted s.until s.timer s.message.kind h.spare.etp wire flow h
returns-clause-steps c (Holding s) wire room flow now h =
    hold_steps s.message.peer s.message.join s.message.most s.message.offset room now s.timer s.message.kind h.etp wire flow h
