-- A sender takes a frame: a CTS or an end acknowledgement of its transport and PGN. Every other frame leaves it as it is.
use Rattle.std.specs.Prelude.{ℕ, ◌&&◌, ◌==◌, if◌then◌else◌}
use Rattle.tp_wire.specs.declared.wire.Kind.TheVariants.{Tp, Etp}
use Rattle.tp_wire.specs.declared.wire.CmFrame.{CmFrame}
use Rattle.tp_wire.specs.declared.wire.CmFrame.TheVariants.{Cts, EndOfMsgAck, EtpCts, EtpEoma}
use Rattle.tp_wire.specs.declared.wire.Wire.{Wire}
use Rattle.tp_wire.specs.declared.wire.Wire.TheVariants.{Cm}
use Rattle.originator.specs.Link.{packets_of}
use Rattle.originator.specs.Readers.{link_of, is_all_queued, is_of}
use Rattle.originator.specs.Endings.{acknowledged}
use Rattle.originator.specs.Cts.{on_cts}
use Rattle.originator.specs.declared.states.OutState.{OutState}
use Rattle.originator.specs.declared.states.Stepped.{Stepped}
use Rattle.originator.specs.declared.states.Stepped.TheVariants.{On, Over}

-- an end acknowledgement of so many bytes: it counts if the message has them and each packet was queued
abbrev pub on_end : OutState → ℕ → Stepped
on_end state size =
    if size == (link_of state).len && is_all_queued state then Over acknowledged
    else On state

-- a connection management frame (SAE J1939-21, TP.CM; ISO 11783-3, ETP.CM)
abbrev pub on_cm : OutState → CmFrame → ℕ → Stepped
on_cm state (Cts granted next pgn) now =
    if is_of state Tp pgn then on_cts state granted next now else On state
on_cm state (EtpCts granted next pgn) now =
    if is_of state Etp pgn then on_cts state granted next now else On state
on_cm state (EndOfMsgAck size packets pgn) now =
    if is_of state Tp pgn && packets == packets_of (link_of state) then on_end state size else On state
on_cm state (EtpEoma size pgn) now =
    if is_of state Etp pgn then on_end state size else On state
on_cm state _ now = On state

-- a frame of any kind
abbrev pub stepped : OutState → Wire → ℕ → Stepped
stepped state (Cm frame) now = on_cm state frame now
stepped state _ now = On state
