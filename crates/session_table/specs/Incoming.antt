-- The readers of an incoming session, whatever its kind.
use Rattle.std.specs.Prelude.{ℕ, Option, Some, None}
use Rattle.bus_frame.specs.Frames.{CanFrame}
use Rattle.tp_wire.specs.Reason.{reason_byte}
use Rattle.tp_wire.specs.declared.reason.AbortReason.{AbortReason}
use Rattle.responder.specs.Answers.{abort_frame}
use Rattle.tick_timers.specs.Timers.{Timer}
use Rattle.responder.specs.Readers as responder
use Rattle.session_table.specs.Key.{session_for}
use Rattle.session_table.specs.declared.key.SessionKind.{SessionKind}
use Rattle.session_table.specs.declared.incoming.Incoming.{Incoming}
use Rattle.session_table.specs.declared.incoming.Incoming.TheVariants.{Broadcast, Connection}

-- the kind of a session
abbrev pub kind_of : Incoming → SessionKind
kind_of (Broadcast s) = SessionKind.Broadcast
kind_of (Connection s) = session_for (responder.unfinished_of s).kind

-- the PGN field of its BAM or RTS, as received
abbrev pub pgn_of : Incoming → ℕ
pgn_of (Broadcast s) = s.pgn
pgn_of (Connection s) = (responder.unfinished_of s).peer.pgn

-- the timer of a session
abbrev pub timer_of : Incoming → Timer
timer_of (Broadcast s) = s.timer
timer_of (Connection s) = responder.timer_of s

-- the frame that is sent if it ends before its message is whole: the abort of a connection
abbrev pub ending_frame : Incoming → AbortReason → Option CanFrame
ending_frame (Broadcast s) reason = None
ending_frame (Connection s) reason = Some (abort_frame (responder.unfinished_of s).kind (responder.unfinished_of s).peer (reason_byte reason))
