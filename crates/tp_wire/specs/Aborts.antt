-- The connection abort of each transport (SAE J1939-21, TP.Conn_Abort; ISO 11783-3).
use Rattle.std.specs.Prelude.{ℕ}
use Rattle.tp_wire.specs.declared.wire.CmFrame.{CmFrame}
use Rattle.tp_wire.specs.declared.wire.CmFrame.TheVariants.{Abort, EtpAbort}
use Rattle.tp_wire.specs.declared.wire.Kind.{Kind}
use Rattle.tp_wire.specs.declared.wire.Kind.TheVariants.{Tp, Etp}

-- the connection of this PGN is aborted, for this reason
abbrev pub connection_abort : Kind → (reason pgn : ℕ) → CmFrame
connection_abort Tp reason pgn = Abort reason pgn
connection_abort Etp reason pgn = EtpAbort reason pgn
