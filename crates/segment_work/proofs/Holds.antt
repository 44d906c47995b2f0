-- The work of an incoming connection, by whether it is on hold.
use Rattle.std.proofs.Common.{◌≡◌, ◌+◌, if◌then◌else◌, refl}
use Rattle.responder.specs.Readers.{is_holding}
use Rattle.responder.specs.declared.in_state.InState.{InState}
use Rattle.responder.specs.declared.in_state.InState.TheVariants.{AwaitPacket, Holding}
use Rattle.work_law.specs.Work.{Terms, open_work, hold_work, receiver_work}

pub receiver_work_is : (c : Terms) (s : InState) → receiver_work c s ≡ (if is_holding s then open_work c + hold_work c else open_work c)
receiver_work_is c (AwaitPacket s) = refl
receiver_work_is c (Holding s) = refl
