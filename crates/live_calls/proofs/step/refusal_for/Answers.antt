use Rattle.std.proofs.Common.{true, ap, ◌∙◌}
use Rattle.segment_law.specs.Calls.{called}
use Rattle.segment_law.specs.declared.call.Call.{Call}
use Rattle.segment_state.specs.Answers.{refusal_of}
use Rattle.live_calls.proofs.Refusing.{room_no_cause}
use Rattle.live_calls.proofs.step.refusal_for.Goals as goal

pub returns : goal.returns
returns c room = c.refusal.ensures ∙ ap (λ (x : Call). refusal_of (called c.args.segment.now x)) c.with_room.ensures ∙ room_no_cause c.args.segment.now c.args.call true room
