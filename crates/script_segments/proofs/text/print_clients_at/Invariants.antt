use Rattle.std.proofs.Common.{◌≡◌, ◌<◌, ◌++◌, ℕ, length, drop}
use Rattle.std.specs.Prelude.{slice_index_or}
use Rattle.pgn_ids.specs.declared.address.Address.{Address}
use Rattle.live_record.specs.Record.{trail}
use Rattle.script_segments.specs.Texts.{clients_at}
use Rattle.script_segments.proofs.text.print_clients_at.Given as goal

abbrev pub invariant-loop-client : goal.invariant-loop-client
invariant-loop-client l = record {
  text : l.out.items ++ clients_at l.station l.client (drop l.client l.stations) (trail l.live.addresses l.live.calls) ≡ l.fn.out.items ++ clients_at l.station 0 l.stations (trail l.live.addresses l.live.calls);
  known : (k : ℕ) → k < l.client → (a : Address) → (slice_index_or l.stations k a).0 ≡ l.station → k < length l.live.clients;
  small : (k : ℕ) → k < l.client → (a : Address) → (slice_index_or l.stations k a).0 < 256;
}
