use Rattle.bus_script.proofs.Logs.{was_turn}
use Rattle.bus_script.proofs.driving.log_turn.Goals as goal

pub returns-clause-drove : goal.returns-clause-drove
returns-clause-drove c = λ found. was_turn _ _ _ _ _ _ _ (c.drive-driven.ensures.done found) c.now.ensures c.as_slice.ensures c.in_ok-print_logged.ensures c.in_ok-print_told.ensures
