-- How a message ends for its sender (SAE J1939-21, connection mode data transfer, connection abort reasons).
use Rattle.std.specs.Prelude.{ℕ, Some, None}
use Rattle.tp_wire.specs.Reason.{reason_byte}
use Rattle.tp_wire.specs.declared.outcome.Outcome.{Outcome}
use Rattle.tp_wire.specs.declared.outcome.Outcome.TheVariants.{Acknowledged, Aborted, TimedOut, Overrun, Cancelled}
use Rattle.tp_wire.specs.declared.reason.AbortReason.{AbortReason}
use Rattle.tp_wire.specs.declared.reason.AbortReason.TheVariants.{Timeout, Other}
use Rattle.originator.specs.Link.{Link, abort_frame}
use Rattle.originator.specs.declared.states.OutOver.{OutOver}
use Rattle.originator.specs.declared.endings.Ending.{Ending}
use Rattle.originator.specs.declared.endings.Ending.TheVariants as ending

-- the message ends without a frame
abbrev pub ends : Outcome → OutOver
ends outcome = record { outcome = outcome; frame = None }

-- the sender gives it up: an abort with this reason is queued
abbrev pub gives_up : Link → AbortReason → Outcome → OutOver
gives_up link reason outcome = record { outcome = outcome; frame = Some (abort_frame link reason) }

-- the sender aborts it
abbrev pub aborts : Link → AbortReason → OutOver
aborts link reason = gives_up link reason (Aborted (reason_byte reason))

-- the timer fired
abbrev pub expired : Link → OutOver
expired link = gives_up link Timeout TimedOut

-- the message is cancelled
abbrev pub cancelled : Link → OutOver
cancelled link = gives_up link Other Cancelled

-- an abort with this reason was taken
abbrev pub aborted : ℕ → OutOver
aborted reason = ends (Aborted reason)

-- the sender's station missed frames
abbrev pub overrun : OutOver
overrun = ends Overrun

-- the end acknowledgement of the whole message was taken
abbrev pub acknowledged : OutOver
acknowledged = ends Acknowledged

-- a frame ends it
abbrev pub ended : Link → Ending → OutOver
ended link ending.Acknowledged = acknowledged
ended link (ending.Aborted reason) = aborted reason
ended link (ending.Abort reason) = aborts link reason
