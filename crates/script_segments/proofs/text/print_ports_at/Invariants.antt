use Rattle.std.proofs.Common.{◌≡◌, ◌<◌, ◌++◌, ℕ, take}
use Rattle.std.specs.Prelude.{slice_index_or}
use Rattle.port_table.specs.declared.port.PortId.{PortId}
use Rattle.live_record.specs.Record.{trail}
use Rattle.script_segments.specs.Reports.{HasPort}
use Rattle.script_segments.specs.Texts.{ports_at}
use Rattle.script_segments.proofs.text.print_ports_at.Given as goal

abbrev pub invariant-loop-port : goal.invariant-loop-port
invariant-loop-port l = record {
  text : l.out.items ≡ l.fn.out.items ++ ports_at l.station (take l.port-index l.ports) (trail l.live.addresses l.live.calls);
  known : (k : ℕ) → k < l.port-index → (p : PortId) → (slice_index_or l.ports k p).station.0 ≡ l.station → HasPort l.live.ports (slice_index_or l.ports k p);
  small : (k : ℕ) → k < l.port-index → (p : PortId) → (slice_index_or l.ports k p).station.0 < 256;
}
