use Rattle.std.proofs.Common.{◌≡◌, ◌<◌, ◌++◌, ℕ}
use Rattle.std.specs.Prelude.{All}
use Rattle.live_record.specs.Record.{trail}
use Rattle.script_segments.specs.Texts.{below, ports_at}
use Rattle.script_segments.specs.Known.{ArePortsAt}
use Rattle.script_segments.proofs.text.print_ports.Given as goal

abbrev pub invariant-loop-station : goal.invariant-loop-station
invariant-loop-station l = record {
  text : l.out.items ≡ l.fn.out.items ++ below l.station (λ station. ports_at station l.ports (trail l.live.addresses l.live.calls));
  known : (k : ℕ) → k < l.station → ArePortsAt k l.live.ports l.ports;
  small : 0 < l.station → All (λ port. port.station.0 < 256) l.ports;
}
