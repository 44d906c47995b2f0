use Rattle.std.proofs.Common.{◌<◌, length, arith}
use Rattle.script_segments.proofs.Knowns.{handed_up}
use Rattle.script_segments.proofs.text.print_clients_at.Goals as goal

pub returns-in_err-print_client-clause-unknown : goal.returns-in_err-print_client-clause-unknown
returns-in_err-print_client-clause-unknown c =
    let within : c.loop-client.client < length c.args.stations.now = omega arith in
    handed_up _ _ _ c.from_residual.ensures.1 (λ is all. c.in_err-print_client.ensures.unknown is (omega (arith, within, all)))
