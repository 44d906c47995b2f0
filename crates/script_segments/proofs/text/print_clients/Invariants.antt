use Rattle.std.proofs.Common.{◌≡◌, ◌<◌, ◌++◌, ℕ}
use Rattle.std.specs.Prelude.{All}
use Rattle.live_record.specs.Record.{trail}
use Rattle.script_segments.specs.Texts.{below, clients_at}
use Rattle.script_segments.specs.Known.{HaveClientsAt}
use Rattle.script_segments.proofs.text.print_clients.Given as goal

abbrev pub invariant-loop-station : goal.invariant-loop-station
invariant-loop-station l = record {
  text : l.out.items ≡ l.fn.out.items ++ below l.station (λ station. clients_at station 0 l.stations (trail l.live.addresses l.live.calls));
  known : (k : ℕ) → k < l.station → HaveClientsAt k l.live.clients l.stations;
  small : 0 < l.station → All (λ address. address.0 < 256) l.stations;
}
