-- No call of a thread opens a port or sends a message.
use Rattle.std.proofs.Common.{◌≡◌, Bool, false, refl}
use Rattle.segment_law.specs.Calls.{is_send}
use Rattle.live_record.specs.Replies.{opens}
use Rattle.live_calls.specs.declared.call.WorkerCall.{WorkerCall}
use Rattle.live_calls.specs.declared.call.WorkerCall.TheVariants.{Pump, Transmit, Take, TakeAgain, Overrun, Tick, Fire, Cancel, Inject, Pause, Resume}
use Rattle.live_calls.specs.Words.{call_of}

-- a worker's call opens nothing and sends nothing
pub never_opens : (call : WorkerCall) (room : Bool) → opens (call_of call room) ≡ false
never_opens (Pump a to) room = refl
never_opens (Transmit a) room = refl
never_opens (Take a) room = refl
never_opens (TakeAgain a) room = refl
never_opens (Overrun a n) room = refl
never_opens (Tick n) room = refl
never_opens (Fire a) room = refl
never_opens (Cancel a to n) room = refl
never_opens (Inject frame) room = refl
never_opens (Pause q) room = refl
never_opens (Resume q) room = refl

pub never_sends : (call : WorkerCall) (room : Bool) → is_send (call_of call room) ≡ false
never_sends (Pump a to) room = refl
never_sends (Transmit a) room = refl
never_sends (Take a) room = refl
never_sends (TakeAgain a) room = refl
never_sends (Overrun a n) room = refl
never_sends (Tick n) room = refl
never_sends (Fire a) room = refl
never_sends (Cancel a to n) room = refl
never_sends (Inject frame) room = refl
never_sends (Pause q) room = refl
never_sends (Resume q) room = refl
