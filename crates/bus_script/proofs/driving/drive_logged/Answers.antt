use Rattle.std.proofs.Common.{refl}
use Rattle.bus_script.proofs.Logs.{text_driven, log_driven}
use Rattle.bus_script.proofs.driving.drive_logged.Goals as goal

pub returns-clause-text : goal.returns-clause-text
returns-clause-text c =
    text_driven _ _ _ _ _ _ _ _ _ _ _ _ _ _ refl c.clear.ensures.items c.log_turns.ensures.text c.in_ok-made.ensures.drove c.in_ok-print_drove.ensures c.as_slice.ensures.value c.in_ok-put_bytes.ensures c.told_at.ensures

pub returns-clause-log : goal.returns-clause-log
returns-clause-log c = log_driven _ _ _ _ _ _ _ _ _ _ _ _ refl c.in_ok-made.ensures.drove refl c.told_at.ensures
