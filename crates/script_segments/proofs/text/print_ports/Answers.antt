use Rattle.std.proofs.Common.{refl, arith}
use Rattle.std.specs.Prelude.{slice_index_or}
use Rattle.script_segments.specs.Known.{ArePortsAt}
use Rattle.script_segments.proofs.Belows.{none_put, more_put}
use Rattle.script_segments.proofs.Knowns.{up_to}
use Rattle.script_segments.proofs.text.print_ports.Goals as goal

pub loop-station-init : goal.loop-station-init
loop-station-init c = record {
  text = none_put _ _;
  known = λ k l. absurd (omega (arith, l));
  small = λ l. absurd (omega (arith, l));
}

pub loop-station-preserved : goal.loop-station-preserved
loop-station-preserved c = record {
  text = more_put _ _ _ _ _ c.loop-station.invariant.text c.in_ok-print_ports_at.ensures.text;
  known = up_to (λ station. ArePortsAt station c.args.live.now.ports c.args.ports.now) c.loop-station.station c.loop-station.invariant.known c.in_ok-print_ports_at.ensures.known;
  small = λ _. c.in_ok-print_ports_at.ensures.small;
}

pub returns-clause-known : goal.returns-clause-known
returns-clause-known c = λ k p l.
    let small = c.loop-station.invariant.small (omega arith) k p l in
    c.loop-station.invariant.known (slice_index_or c.args.ports.now k p).station.0 (omega (arith, small)) k p l refl
