-- Segments that ask no sender to wait: no port is paused, and no session is on hold.
use Rattle.std.specs.Prelude.{◌≡◌, ℕ, Bool, true, false, not, List, Some, slice_get}
use Rattle.std.specs.List.{list_all}
use Rattle.port_table.specs.Ports.{has_paused}
use Rattle.responder.specs.declared.in_state.InState.TheVariants.{Holding}
use Rattle.session_table.specs.Sessions.{state_at}
use Rattle.session_table.specs.declared.key.Key.{Key}
use Rattle.session_table.specs.declared.incoming.Incoming.{Incoming}
use Rattle.session_table.specs.declared.incoming.Incoming.TheVariants.{Connection}
use Rattle.station_core.specs.Station.{Station}
use Rattle.segment_law.specs.Segment.{Segment}
use Rattle.segment_law.specs.Record.{Record}
use Rattle.segment_law.specs.declared.call.Call.{Call}
use Rattle.segment_law.specs.declared.call.Call.TheVariants.{Pause}

-- its sender was asked to wait
abbrev pub is_on_hold : Incoming → Bool
is_on_hold (Connection (Holding s)) = true
is_on_hold s = false

-- no port of a station is paused, and none of its sessions is on hold
pub record IsCalm (st : Station) : Type 0 where
  pub unpaused : has_paused st.ports.open_ports ≡ false
  pub sessions : (key : Key) (v : List ℕ × Incoming) → state_at st.sessions key ≡ Some v → is_on_hold v.1 ≡ false

abbrev pub AreCalm : Segment → Type 0
AreCalm seg = (i : ℕ) (st : Station) → slice_get seg.stations i ≡ Some st → IsCalm st

-- the call pauses a port
abbrev pub is_pause : Call → Bool
is_pause (Pause port) = true
is_pause _ = false

-- no call of a record paused one
abbrev pub never_paused : Record → Bool
never_paused steps = list_all (λ step. not (is_pause step.0)) steps

-- no port is paused now
abbrev pub AreUnpaused : Segment → Type 0
AreUnpaused seg = (i : ℕ) (st : Station) → slice_get seg.stations i ≡ Some st → has_paused st.ports.open_ports ≡ false
