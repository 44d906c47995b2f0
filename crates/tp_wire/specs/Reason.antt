-- Reasons of a connection abort (SAE J1939-21, connection abort reasons).
use Rattle.std.specs.Prelude.{ℕ}
use Rattle.tp_wire.specs.declared.reason.AbortReason.{AbortReason}
use Rattle.tp_wire.specs.declared.reason.AbortReason.TheVariants.{NoFurtherSession, Resources, Timeout, CtsDuringTransfer, RetransmitLimit, Other}

-- the byte of each reason
abbrev pub reason_byte : AbortReason → ℕ
reason_byte NoFurtherSession = 1
reason_byte Resources = 2
reason_byte Timeout = 3
reason_byte CtsDuringTransfer = 4
reason_byte RetransmitLimit = 5
reason_byte Other = 250
