use Rattle.std.proofs.Common.{refl, arith}
use Rattle.std.specs.Prelude.{slice_index_or}
use Rattle.pgn_ids.specs.declared.address.Address.{Address}
use Rattle.script_segments.specs.Known.{HaveClientsAt}
use Rattle.script_segments.proofs.Belows.{none_put, more_put}
use Rattle.script_segments.proofs.Knowns.{up_to, as_many}
use Rattle.script_segments.proofs.text.print_clients.Goals as goal

pub loop-station-init : goal.loop-station-init
loop-station-init c = record {
  text = none_put _ _;
  known = λ k l. absurd (omega (arith, l));
  small = λ l. absurd (omega (arith, l));
}

pub loop-station-preserved : goal.loop-station-preserved
loop-station-preserved c = record {
  text = more_put _ _ _ _ _ c.loop-station.invariant.text c.in_ok-print_clients_at.ensures.text;
  known = up_to (λ station. HaveClientsAt station c.args.live.now.clients c.args.stations.now) c.loop-station.station c.loop-station.invariant.known c.in_ok-print_clients_at.ensures.known;
  small = λ _. c.in_ok-print_clients_at.ensures.small;
}

pub returns-clause-known : goal.returns-clause-known
returns-clause-known c =
    let any : Address = record { 0 = 0 } in
    as_many _ _ (λ k l. let small = c.loop-station.invariant.small (omega arith) k any l in
    c.loop-station.invariant.known (slice_index_or c.args.stations.now k any).0 (omega (arith, small)) k any l refl)
