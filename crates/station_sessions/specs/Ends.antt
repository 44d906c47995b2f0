-- The ends of the session of a key, and its readers.
use Rattle.std.specs.Prelude.{ℕ, ◌≡◌, ◌<◌, Bool, true, false, List, length, Option, Some, None, ⊤}
use Rattle.bus_frame.specs.Frames.{CanFrame}
use Rattle.tp_wire.specs.declared.reason.AbortReason.{AbortReason}
use Rattle.tp_wire.specs.declared.wire.Wire.{Wire}
use Rattle.seg_cut.specs.Join.{wants_last}
use Rattle.responder.specs.Receiver.{awaits_last}
use Rattle.responder.specs.declared.flow.Flow.{Flow}
use Rattle.port_table.specs.Ports.{Ports}
use Rattle.session_table.specs.Incoming.{ending_frame}
use Rattle.session_table.specs.declared.incoming.Incoming.{Incoming}
use Rattle.session_table.specs.declared.incoming.Incoming.TheVariants.{Broadcast, Connection}
use Rattle.station_sessions.specs.Steps.{completes}
use Rattle.station_sessions.specs.Receiving.{flow_at}

-- the last packet of the session is awaited
abbrev pub IsLastOf : Incoming → Type 0
IsLastOf (Broadcast s) = wants_last s.join ≡ true
IsLastOf (Connection s) = awaits_last s ≡ true

-- a session is there, whose last packet is awaited
abbrev pub IsLastAt : Option (List ℕ × Incoming) → Type 0
IsLastAt None = ⊥
IsLastAt (Some v) = IsLastOf v.1

-- a session is there, which gives at two ports or more
abbrev pub IsGivenAtSeveral : Option (List ℕ × Incoming) → Type 0
IsGivenAtSeveral None = ⊥
IsGivenAtSeveral (Some v) = 1 < length v.0

-- whether the session that is there, if there is one, may grant packets
abbrev pub IsFlowOf : Option (List ℕ × Incoming) → Ports → Flow → Type 0
IsFlowOf None ports flow = ⊤
IsFlowOf (Some v) ports flow = flow ≡ flow_at ports v.0

-- the frame completes the message of the session at the key
abbrev pub completes_by : Option (List ℕ × Incoming) → Wire → Bool
completes_by None wire = false
completes_by (Some v) wire = completes v.1 wire

-- what goes out if that ends before its message is whole
abbrev pub ended_by : Option (List ℕ × Incoming) → AbortReason → Option CanFrame
ended_by None reason = None
ended_by (Some v) reason = ending_frame v.1 reason
