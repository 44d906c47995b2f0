use Rattle.std.proofs.Common.{◌≡◌, drop}
use Rattle.log_reports.specs.Padding.{is_filled}
use Rattle.log_reports.proofs.padding.is_filled.Given as goal

abbrev pub invariant-loop-byte : goal.invariant-loop-byte
invariant-loop-byte l = is_filled (drop l.byte-index l.bytes) ≡ is_filled l.bytes
