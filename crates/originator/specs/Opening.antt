-- How a message begins (SAE J1939-21, TP.CM_RTS; ISO 11783-3, ETP.CM_RTS).
use Rattle.std.specs.Prelude.{ℕ}
use Rattle.bus_frame.specs.Frames.{CanFrame}
use Rattle.tick_timers.specs.declared.durations.TheConstants.{T3}
use Rattle.originator.specs.Link.{Link, rts_frame}
use Rattle.originator.specs.States.{AwaitCts}
use Rattle.originator.specs.Readers.{started}

-- no packet was queued, and the request to send is
abbrev pub begun : Link → (now : ℕ) → AwaitCts × CanFrame
begun link now = (record { link = link; unsent = 1; resends = 0; timer = started now T3 }, rts_frame link)
